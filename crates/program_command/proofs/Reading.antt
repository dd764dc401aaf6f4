-- What is read of a source, byte by byte.
use Rattle.std.proofs.Common.{◌≡◌, ℕ, List, [], ◌∷◌, ◌++◌, append_assoc, append-nil, Option, None, Some, Ok, refl, sym, subst, ap, ◌∙◌}
use Rattle.nr_units.specs.Source.{Supply, Gives}
use Rattle.nr_units.specs.declared.source.Fault.{Fault}

-- so much is left of it, and what came was added
pub record Adds (first now : List ℕ) (q : Supply) (supply : Option Supply) : Type 0 where
  pub left : Supply
  pub is : supply ≡ Some left
  pub added : first ++ q.bytes ≡ now ++ left.bytes

pub Adds-first : (first : List ℕ) (q : Supply) (supply : Option Supply) → supply ≡ Some q → Adds first first q supply
Adds-first first q supply known = record { left = q; is = known; added = refl }

came : (q : Supply) (byte : ℕ) (new : Option Supply) → Gives {E = Fault} (Some q) (Ok (Some byte)) new
    → (t : Supply) × (new ≡ Some t) × (q.bytes ≡ byte ∷ t.bytes)
came q byte None gives = absurd gives
came q byte (Some t) gives = (t, refl, gives.0)

pub Adds-byte : (first now next : List ℕ) (q : Supply) (supply new : Option Supply) (byte : ℕ) → Adds first now q supply
    → Gives {E = Fault} supply (Ok (Some byte)) new → next ≡ now ++ byte ∷ [] → Adds first next q new
Adds-byte first now next q supply new byte adds gives is =
    let given : Gives {E = Fault} (Some adds.left) (Ok (Some byte)) new = subst (λ (s : Option Supply). Gives {E = Fault} s (Ok (Some byte)) new) adds.is gives in
    let all = came adds.left byte new given in
    record {
      left = all.0;
      is = all.1;
      added = adds.added ∙ ap (λ (bs : List ℕ). now ++ bs) all.2 ∙ sym (append_assoc now (byte ∷ []) all.0.bytes)
          ∙ ap (λ (bs : List ℕ). bs ++ all.0.bytes) (sym is);
    }

none_left : (q : Supply) (new : Option Supply) → Gives {E = Fault} (Some q) (Ok None) new → q.bytes ≡ []
none_left q None gives = absurd gives
none_left q (Some t) gives = gives.0

pub Adds-end : (first now : List ℕ) (q : Supply) (supply new : Option Supply) → Adds first now q supply
    → Gives {E = Fault} supply (Ok None) new → now ≡ first ++ q.bytes
Adds-end first now q supply new adds gives =
    let given : Gives {E = Fault} (Some adds.left) (Ok None) new = subst (λ (s : Option Supply). Gives {E = Fault} s (Ok None) new) adds.is gives in
    sym (adds.added ∙ ap (λ (bs : List ℕ). now ++ bs) (none_left adds.left new given) ∙ append-nil now)

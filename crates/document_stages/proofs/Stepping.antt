-- What a step leaves as it was.
use Rattle.std.proofs.Common.{◌≡◌, ℕ, ◌<◌, ◌≤◌, List, [], ◌∷◌, ◌++◌, length, take, Bool, Option, None, Some, Result, Ok, Err, true, refl, sym, ◌∙◌, subst, arith}
use Rattle.std.proofs.lemmas.List.{take-take, length-take}
use Rattle.nr_units.specs.Source.{Supply, Gives, Offers, Skips}
use Rattle.nr_units.specs.declared.source.Fault.{Fault}
use Rattle.document_stages.specs.Pulling.{Ended, Failed, Took}
use Rattle.document_stages.specs.Stepping.{Meaning, Turned, TurnedEnd, after}
use Rattle.document_stages.proofs.Steps.{Came-next, Came-skip}

pub Turned-window : (a b : Option Supply) (window : List ℕ) (len n : ℕ) (m m' : Meaning) (waits items : List ℕ)
    → n ≤ len → len ≤ length window → Offers a window → Skips a n b
    → ((ends : Bool) → (rest : List ℕ) → waits ++ m.says ends (take n (take len window) ++ rest) ≡ items ++ m'.says ends rest)
    → ((rest : List ℕ) → m.fits (take n (take len window) ++ rest) ≡ m'.fits rest)
    → ((ends : Bool) → (rest : List ℕ) → m.counts ends (take n (take len window) ++ rest) ≡ m'.counts ends rest)
    → Turned a b m m' waits items n
Turned-window a b window len n m m' waits items few within offers skips said fitted counted =
    let all : n ≤ length window = omega (arith, few, within) in
    let same : take n (take len window) ≡ take n window = take-take n len window few in
    record {
      bytes = take n window;
      came = Came-skip a b window n all offers skips;
      count = (let cut = length-take n window in omega (arith, cut, all));
      said = λ ends rest. subst (λ x. waits ++ m.says ends (x ++ rest) ≡ items ++ m'.says ends rest) same (said ends rest);
      fitted = λ rest. subst (λ x. m.fits (x ++ rest) ≡ m'.fits rest) same (fitted rest);
      counted = λ ends rest. subst (λ x. m.counts ends (x ++ rest) ≡ m'.counts ends rest) same (counted ends rest);
    }

pub Turned-byte : (a b : Option Supply) (byte n : ℕ) (m m' : Meaning) (waits items : List ℕ)
    → 0 < n → n ≤ 1 → Gives {E = Fault} a (Ok (Some byte)) b
    → ((ends : Bool) → (rest : List ℕ) → waits ++ m.says ends (take n (byte ∷ []) ++ rest) ≡ items ++ m'.says ends rest)
    → ((rest : List ℕ) → m.fits (take n (byte ∷ []) ++ rest) ≡ m'.fits rest)
    → ((ends : Bool) → (rest : List ℕ) → m.counts ends (take n (byte ∷ []) ++ rest) ≡ m'.counts ends rest)
    → Turned a b m m' waits items n
Turned-byte a b byte n m m' waits items some few gives said fitted counted =
    let one : n ≡ 1 = omega (arith, some, few) in
    subst (λ k. Turned a b m m' waits items k) (sym one) (record {
      bytes = byte ∷ [];
      came = Came-next a b byte gives;
      count = refl;
      said = λ ends rest. subst (λ k. waits ++ m.says ends (take k (byte ∷ []) ++ rest) ≡ items ++ m'.says ends rest) one (said ends rest);
      fitted = λ rest. subst (λ k. m.fits (take k (byte ∷ []) ++ rest) ≡ m'.fits rest) one (fitted rest);
      counted = λ ends rest. subst (λ k. m.counts ends (take k (byte ∷ []) ++ rest) ≡ m'.counts ends rest) one (counted ends rest);
    })

-- ---- where nothing waited

pub took-of : (a b : Option Supply) (m m' : Meaning) (waits items : List ℕ) (n : ℕ) → waits ≡ [] → Turned a b m m' waits items n
    → Took a b m.says m'.says m.fits m'.fits items n
took-of a b m m' waits items n none w = record {
  bytes = w.bytes;
  came = w.came;
  count = w.count;
  said = λ ends rest. subst (λ x. x ++ m.says ends (w.bytes ++ rest) ≡ items ++ m'.says ends rest) none (w.said ends rest);
  fitted = w.fitted;
}

pub ended-of : (a b : Option Supply) (m m' : Meaning) (waits items : List ℕ) (fit : Bool) → waits ≡ [] → TurnedEnd a b m m' waits items fit
    → Ended a b m.says m.fits items fit
ended-of a b m m' waits items fit none w = record {
  gives = w.gives;
  said = subst (λ x. x ++ m.says true [] ≡ items) none w.said;
  fitted = w.fitted;
}

pub failed-of : (a b : Option Supply) (m m' : Meaning) (waits items : List ℕ) (e : Fault) → waits ≡ [] → Gives a (Err e) b × (m' ≡ m) × (items ≡ waits)
    → Failed a b m.says m'.says m.fits m'.fits items e
failed-of a b m m' waits items e none w = record {
  gives = w.0;
  said = λ ends rest. subst (λ (x : Meaning). m.says ends rest ≡ x.says ends rest) (sym w.1) refl;
  fitted = λ rest. subst (λ (x : Meaning). m.fits rest ≡ x.fits rest) (sym w.1) refl;
  items_none = w.2 ∙ none;
}

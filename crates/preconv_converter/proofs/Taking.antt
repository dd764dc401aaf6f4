-- Bytes are taken one after another.
use Prim.Native.Char.{code}
use Rattle.std.proofs.Common.{◌≡◌, ℕ, ◌+◌, ◌<◌, ◌≤◌, List, [], ◌∷◌, ◌++◌, length, take, drop, get_or, refl, sym, ◌∙◌, ap, subst, append_assoc, append-nil, arith}
use Rattle.std.proofs.Math.Seq.{take-add}
use Rattle.std.proofs.lemmas.List.{take-take}
use Rattle.preconv_converter.specs.declared.reader.Reader.{Reader}
use Rattle.preconv_converter.specs.Reading.{Emitted, emitted, read, fed, Takes}
use Rattle.preconv_converter.specs.Passing.{Passes}
use Rattle.preconv_converter.proofs.Reading.{fed-append_reader, fed-append_bytes, fed-append_steps}

none_added : (n : ℕ) → n + 0 ≡ n
none_added n = omega arith

pub Takes-none : (bs : List ℕ) (r : Reader) (p : List ℕ) → Takes 0 bs r r p p 0
Takes-none bs r p = record { reader = refl; out = sym (append-nil p); made = refl }

-- a run that passes
pub Takes-run : (n : ℕ) (bs : List ℕ) (r s : Reader) (p left : List ℕ) → Passes n bs r s → left ≡ p ++ take n bs → Takes n bs r s p left n
Takes-run n bs r s p left passes out = record {
  reader = sym (ap (λ (t : Emitted). t.reader) passes);
  out = out ∙ ap (λ (xs : List ℕ). p ++ xs) (sym (ap (λ (t : Emitted). t.bytes) passes));
  made = sym (ap (λ (t : Emitted). t.steps) passes);
}

-- those that go out as they are, in so many steps
pub Takes-fed : (n : ℕ) (bs : List ℕ) (r s : Reader) (p left : List ℕ) (m : ℕ) → fed r (take n bs) ≡ emitted s (take n bs) m → left ≡ p ++ take n bs → Takes n bs r s p left m
Takes-fed n bs r s p left m goes out = record {
  reader = sym (ap (λ (t : Emitted). t.reader) goes);
  out = out ∙ ap (λ (xs : List ℕ). p ++ xs) (sym (ap (λ (t : Emitted). t.bytes) goes));
  made = sym (ap (λ (t : Emitted). t.steps) goes);
}

-- where none passed, nothing changed
pub none-passed : (n : ℕ) (bs : List ℕ) (r s : Reader) → Passes n bs r s → n ≡ 0 → s ≡ r
none-passed n bs r s passes none =
    let P : ℕ → Type 0 = λ k. fed r (take k bs) ≡ emitted s (take k bs) k in
    let same : emitted r [] 0 ≡ emitted s [] 0 = subst P none passes in
    sym (ap (λ (t : Emitted). t.reader) same)

-- a dot and a name
pub Takes-name : (n : ℕ) (bs : List ℕ) (r s : Reader) (p left : List ℕ) → fed r (take (n + 1) bs) ≡ emitted s (code "." ∷ []) (n + 1)
    → left ≡ p ++ code "." ∷ [] → Takes (n + 1) bs r s p left (n + 1)
Takes-name n bs r s p left named out = record {
  reader = sym (ap (λ (t : Emitted). t.reader) named);
  out = out ∙ ap (λ (xs : List ℕ). p ++ xs) (sym (ap (λ (t : Emitted). t.bytes) named));
  made = sym (ap (λ (t : Emitted). t.steps) named);
}

first-taken : (bs : List ℕ) → 0 < length bs → take 1 bs ≡ get_or bs 0 0 ∷ []
first-taken [] l = absurd (omega arith)
first-taken (b ∷ bs) l = refl

-- one that is read
pub Takes-byte : (bs : List ℕ) (r s : Reader) (p left : List ℕ) (steps : ℕ) → 0 < length bs
    → s ≡ (read (get_or bs 0 0) r).reader → left ≡ p ++ (read (get_or bs 0 0) r).bytes → steps ≡ (read (get_or bs 0 0) r).steps
    → Takes 1 bs r s p left steps
Takes-byte bs r s p left steps some reader out made =
    let t = read (get_or bs 0 0) r in
    let one : fed r (take 1 bs) ≡ emitted t.reader (t.bytes ++ []) (t.steps + 0) = ap (fed r) (first-taken bs some) in
    record {
      reader = reader ∙ sym (ap (λ (u : Emitted). u.reader) one);
      out = out ∙ ap (λ (xs : List ℕ). p ++ xs) (sym (append-nil t.bytes) ∙ sym (ap (λ (u : Emitted). u.bytes) one));
      made = made ∙ sym (none_added t.steps) ∙ sym (ap (λ (u : Emitted). u.steps) one);
    }

both_made : {a b c d : ℕ} → a ≡ c → b ≡ d → a + b ≡ c + d
both_made p q = cc

-- first some, then more
pub Takes-trans : (n m : ℕ) (bs : List ℕ) (r s u : Reader) (p q left : List ℕ) (i j : ℕ)
    → Takes n bs r s p q i → Takes m (drop n bs) s u q left j → Takes (n + m) bs r u p left (i + j)
Takes-trans n m bs r s u p q left i j f g =
    let xs = take n bs in
    let ys = take m (drop n bs) in
    let whole : take (n + m) bs ≡ xs ++ ys = take-add n m bs in
    let here : fed (fed r xs).reader ys ≡ fed s ys = ap (λ (x : Reader). fed x ys) (sym f.reader) in
    let all : fed r (take (n + m) bs) ≡ fed r (xs ++ ys) = ap (fed r) whole in
    let bytes : (fed r (xs ++ ys)).bytes ≡ (fed r xs).bytes ++ (fed s ys).bytes =
    fed-append_bytes r xs ys ∙ ap (λ (x : Emitted). (fed r xs).bytes ++ x.bytes) here in
    record {
      reader = g.reader ∙ ap (λ (x : Emitted). x.reader) (sym here) ∙ sym (fed-append_reader r xs ys) ∙ sym (ap (λ (x : Emitted). x.reader) all);
      out = g.out ∙ ap (λ (zs : List ℕ). zs ++ (fed s ys).bytes) f.out
          ∙ append_assoc p (fed r xs).bytes (fed s ys).bytes ∙ ap (λ (zs : List ℕ). p ++ zs) (sym bytes)
          ∙ ap (λ (zs : List ℕ). p ++ zs) (sym (ap (λ (x : Emitted). x.bytes) all));
      made = both_made f.made (g.made ∙ ap (λ (x : Emitted). x.steps) (sym here)) ∙ sym (fed-append_steps r xs ys) ∙ sym (ap (λ (x : Emitted). x.steps) all);
    }

-- of the first k that are left
pub Takes-cut : (m k : ℕ) (ys : List ℕ) (s u : Reader) (q left : List ℕ) (j : ℕ) → m ≤ k → Takes m (take k ys) s u q left j → Takes m ys s u q left j
Takes-cut m k ys s u q left j l t =
    let same : fed s (take m (take k ys)) ≡ fed s (take m ys) = ap (fed s) (take-take m k ys l) in
    record {
      reader = t.reader ∙ ap (λ (x : Emitted). x.reader) same;
      out = t.out ∙ ap (λ (x : Emitted). q ++ x.bytes) same;
      made = t.made ∙ ap (λ (x : Emitted). x.steps) same;
    }

-- What came of a source stands at the beginning of an output, and what is to come follows it.
use Rattle.std.proofs.Common.{◌≡◌, ℕ, ◌+◌, ◌<◌, ◌≤◌, List, [], ◌∷◌, ◌++◌, length, take, drop, Option, None, Some, Ok, refl, sym, ◌∙◌, ap, subst, slice_set, arith}
use Rattle.std.proofs.Math.Seq.{drop-append-add, take-append-add}
use Rattle.std.proofs.lemmas.List.{drop-append-le, drop-drop, length-take-le, take-append-drop, take-take}
use Rattle.std.proofs.lemmas.Slice.{take-put_mid}
use borrow.Rule.Slice.PartMut.{put_mid}
use Rattle.nr_units.specs.Source.{Faults, Never, After, Anytime, MayGive, Supply, Gives, one_later}
use Rattle.nr_units.specs.declared.source.Fault.{Fault}
use Rattle.document_stages.specs.Joined.{after_more, joined}
use Rattle.document_stages.specs.Pulling.{Stays}

-- ---- a byte came

abbrev supplied : List ℕ → Faults → Option Supply
supplied bytes faults = Some (record { bytes = bytes; faults = faults })

same_faults : (f : Faults) → MayGive f → after_more 1 (one_later f) ≡ f
same_faults Never may = refl
same_faults (After n) may = ap After (omega (arith, may))
same_faults Anytime may = refl

set_first : (room : List ℕ) (byte : ℕ) → 0 < length room → take 1 (slice_set room 0 byte) ≡ byte ∷ []
set_first [] byte some = absurd (omega (arith, some))
set_first (x ∷ xs) byte some = refl

pub one-came : (known new : Option Supply) (room : List ℕ) (byte : ℕ) → 0 < length room → Gives {E = Fault} known (Ok (Some byte)) new
    → Stays known (joined (take 1 (slice_set room 0 byte)) new)
one-came None new room byte some gives = tt
one-came (Some q) None room byte some gives = absurd gives
one-came (Some q) (Some t) room byte some gives =
    ap (λ (first : List ℕ). joined first (Some t)) (set_first room byte some)
    ∙ ap (λ (f : Faults). supplied (byte ∷ t.bytes) (after_more 1 f)) gives.1
    ∙ ap (λ (f : Faults). supplied (byte ∷ t.bytes) f) (same_faults q.faults gives.2)
    ∙ ap (λ (bytes : List ℕ). supplied bytes q.faults) (sym gives.0)

-- the bytes that came were put after those that were there
pub taken-more : (a n k : ℕ) (xs ys : List ℕ) → a ≤ length xs → n ≤ length ys → take (a + n) (put_mid a k xs ys) ≡ take a xs ++ take n ys
taken-more a n k xs ys within few =
    let near : take (a + n) (put_mid a k xs ys) ≡ take (a + n) (take (a + length ys) (put_mid a k xs ys)) = sym (take-take (a + n) (a + length ys) (put_mid a k xs ys) (omega (arith, few))) in
    let first : length (take a xs) ≡ a = length-take-le a xs within in
    near
    ∙ ap (take (a + n)) (take-put_mid a k xs ys (a + length ys) refl within)
    ∙ ap (λ (m : ℕ). take (m + n) (take a xs ++ ys)) (sym first)
    ∙ take-append-add (take a xs) ys n

-- ---- what stands after them

pub rest-more : (a n k : ℕ) (xs ys zs : List ℕ) → a ≤ length xs → n ≤ length ys → length ys ≡ length (take k (drop a xs))
    → drop n ys ≡ drop n (take k (drop a xs)) → drop a xs ≡ drop a zs → drop (a + n) (put_mid a k xs ys) ≡ drop (a + n) zs
rest-more a n k xs ys zs within few same kept rest =
    let d : List ℕ = drop a xs in
    let first : length (take a xs) ≡ a = length-take-le a xs within in
    ap (λ (m : ℕ). drop (m + n) (put_mid a k xs ys)) (sym first)
    ∙ drop-append-add (take a xs) (ys ++ drop k d) n
    ∙ drop-append-le n ys (drop k d) few
    ∙ ap (λ (z : List ℕ). z ++ drop k d) kept
    ∙ sym (drop-append-le n (take k d) (drop k d) (subst (λ (m : ℕ). n ≤ m) same few))
    ∙ ap (λ (z : List ℕ). drop n z) (take-append-drop k d)
    ∙ ap (λ (z : List ℕ). drop n z) rest
    ∙ drop-drop n a zs

-- What stands in a slice once a part of it was written.
use Rattle.std.proofs.Common.{◌≡◌, ℕ, ◌+◌, ◌-◌, ◌≤◌, List, ◌++◌, length, take, drop, refl, ap, sym, zero-add, ◌∙◌, subst, length-drop, arith}
use Rattle.std.proofs.Math.Seq.{paste, take-append-add}
use Rattle.std.proofs.lemmas.List.{take-take, length-take-le}
use Rattle.std.proofs.lemmas.List.Edits.{take-paste}
use Rattle.std.proofs.lemmas.Slice.{between_is, take-put_mid}
use borrow.Rule.Slice.PartMut.{put_mid}

-- a prefix of what was copied after the first a items
pub prefix_put : {X : Type 0} (a k n : ℕ) (xs ys : List X) → a ≤ length xs → n ≤ length ys → take (a + n) (put_mid a k xs ys) ≡ take a xs ++ take n ys
prefix_put a k n xs ys h i =
    let near : a + n ≤ a + length ys = omega arith in
    sym (take-take (a + n) (a + length ys) (put_mid a k xs ys) near)
    ∙ ap (take (a + n)) (take-put_mid a k xs ys (a + length ys) refl h)
    ∙ subst (λ j. take (j + n) (take a xs ++ ys) ≡ take a xs ++ take n ys) (length-take-le a xs h) (take-append-add (take a xs) ys n)

-- what stands at the beginning after the rest was copied there
pub moved_prefix : {X : Type 0} (xs : List X) (n u : ℕ) → n ≤ u → u ≤ length xs → take (u - n) (paste xs 0 (drop n xs) (u - n)) ≡ drop n (take u xs)
moved_prefix xs n u h k =
    let long : u - n ≤ length (drop n xs) = omega (arith, length-drop n xs) in
    subst (λ m. take m (paste xs 0 (drop n xs) (u - n)) ≡ take (u - n) (drop n xs)) (zero-add (u - n)) (take-paste xs 0 (drop n xs) (u - n) (omega arith) long)
    ∙ between_is xs n u

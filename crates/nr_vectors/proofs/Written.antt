-- What stands at the beginning of a vector where something was written after it.
use Rattle.std.proofs.Common.{◌≡◌, ℕ, ◌+◌, ◌<◌, ◌≤◌, List, [], ◌∷◌, ◌++◌, length, take, drop, replicate, set, get_or, ap, ap₂, sym, ◌∙◌, append_assoc, arith, length-append, length-drop}
use Rattle.std.proofs.lemmas.List.{take-append-le, take-take, take-replicate, take_more, set_at, length-take-le, length-replicate}
use Rattle.nr_vectors.proofs.Copying.{prefix_put}
use Rattle.nr_vectors.proofs.Edits.{take_set}
use borrow.Rule.Slice.PartMut.{put_mid}

-- an item was written
pub take_pushed : {X : Type 0} (xs : List X) (n : ℕ) (y : X) → n < length xs → take (n + 1) (set xs n y) ≡ take n xs ++ y ∷ []
take_pushed xs n y within =
    take_set xs (n + 1) n y ∙ ap (λ zs. set zs n y) (take_more xs n y within) ∙ set_at (take n xs) (get_or xs n y) [] y n (length-take-le n xs (omega arith))

-- copies of an item were written over the vector's slots, and then items after the first m of them, `size` of each
pub take_written_after : {X : Type 0} (xs cs rest ys more : List X) (x : X) (a j k m n size : ℕ) → a + j ≤ length xs → j ≡ size + size → k ≡ size
    → cs ≡ replicate size x → length rest ≡ size → ys ≡ take size more → m ≤ size → n ≤ size → size ≤ length more
    → take (a + m + n) (put_mid a j xs (put_mid m k (cs ++ rest) ys)) ≡ take a xs ++ replicate m x ++ take n more
take_written_after xs cs rest ys more x a j k m n size within double whole copies tail items few small long =
    let part = cs ++ rest in
    let near = put_mid m k part ys in
    let end : a + m + n ≡ a + (m + n) = omega arith in
    let long_cs : length cs ≡ size = ap length copies ∙ length-replicate size x in
    let long_ys : length ys ≡ size = ap length items ∙ length-take-le size more long in
    let long_part : length part ≡ j = omega (arith, length-append cs rest) in
    let long_near : length near ≡ j = omega (arith, length-append (take m part) (ys ++ drop k (drop m part)), length-append ys (drop k (drop m part)), length-take-le m part (omega arith), length-drop k (drop m part), length-drop m part) in
    let prefix : take m part ≡ replicate m x = ap (λ ds. take m (ds ++ rest)) copies ∙ take-append-le m (replicate size x) rest (omega (arith, length-replicate size x)) ∙ take-replicate m size x few in
    let back : take n ys ≡ take n more = ap (take n) items ∙ take-take n size more small in
    ap (λ i. take i (put_mid a j xs near)) end
    ∙ prefix_put a j (m + n) xs near (omega arith) (omega arith)
    ∙ ap (λ bs. take a xs ++ bs) (prefix_put m k n part ys (omega arith) (omega arith) ∙ ap₂ (λ fs bs. fs ++ bs) prefix back)
    ∙ sym (append_assoc (take a xs) (replicate m x) (take n more))

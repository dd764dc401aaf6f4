-- Items of a slice between two places.
use Rattle.std.proofs.Common.{◌≡◌, ℕ, ◌+◌, ◌-◌, ◌≤◌, List, ◌++◌, length, take, drop, replicate, ap, ap₂, sym, ◌∙◌, arith, length-drop, length-append, append_assoc}
use Rattle.std.proofs.Math.Seq.{paste, take-append-add}
use Rattle.std.proofs.lemmas.List.{take-take, take-append-le, take_at, drop_at, length-take-le, drop-drop, drop-append-le, drop-take, length-replicate}
use Rattle.std.proofs.lemmas.List.Edits.{take-paste}
use Rattle.std.proofs.lemmas.Slice.{between_is}
use borrow.Rule.Slice.PartMut.{put_mid}

-- the first items after a place
pub take_after : {X : Type 0} (xs : List X) (start n end : ℕ) → start + n ≤ end → take n (drop start (take end xs)) ≡ drop start (take (start + n) xs)
take_after xs start n end within =
    let more : end ≡ start + (end - start) = omega arith in
    let fewer : n ≤ end - start = omega arith in
    ap (λ m. take n (drop start (take m xs))) more ∙ ap (take n) (drop-take start (end - start) xs) ∙ take-take n (end - start) (drop start xs) fewer ∙ sym (drop-take start n xs)

-- items moved to the beginning of their slice
pub moved_to_start : {X : Type 0} (xs : List X) (start end : ℕ) → start ≤ end → end ≤ length xs → take (end - start) (paste xs 0 (drop start xs) (end - start)) ≡ drop start (take end xs)
moved_to_start xs start end h k =
    let long : end - start ≤ length (drop start xs) = omega (arith, length-drop start xs) in
    let here : 0 + (end - start) ≡ end - start = omega arith in
    ap (λ m. take m (paste xs 0 (drop start xs) (end - start))) (sym here) ∙ take-paste xs 0 (drop start xs) (end - start) (omega arith) long ∙ between_is xs start end

-- as many items as there are places between
pub length_between : {X : Type 0} (xs : List X) (start end : ℕ) → end ≤ length xs → length (drop start (take end xs)) ≡ end - start
length_between xs start end h = omega (arith, length-drop start (take end xs), length-take-le end xs h)

-- items stand after the others
pub extended : {X : Type 0} (xs ys : List X) (start end n : ℕ) → start ≤ end → end + n ≤ length xs → length ys ≡ n
    → drop start (take (end + n) (put_mid end n xs ys)) ≡ drop start (take end xs) ++ ys
extended xs ys start end n h k long =
    let prefix = length-take-le end xs (omega arith) in
    ap (λ zs. drop start (take (end + n) zs)) (sym (append_assoc (take end xs) ys (drop n (drop end xs))))
    ∙ ap (drop start) (take_at (take end xs ++ ys) (drop n (drop end xs)) (end + n) (omega (arith, length-append (take end xs) ys)))
    ∙ drop-append-le start (take end xs) ys (omega arith)

-- a prefix of them stands after the others
pub extended_prefix : {X : Type 0} (xs ys : List X) (start end n k : ℕ) → start ≤ end → end + n ≤ length xs → length ys ≡ n → k ≤ n
    → drop start (take (end + k) (put_mid end n xs ys)) ≡ drop start (take end xs) ++ take k ys
extended_prefix xs ys start end n k ordered free long fewer =
    let items = drop start (take end xs) in
    let size : length items ≡ end - start = length_between xs start end (omega arith) in
    let at : start + (length items + k) ≡ end + k = omega arith in
    ap (λ m. drop start (take m (put_mid end n xs ys))) (sym at)
    ∙ sym (take_after (put_mid end n xs ys) start (length items + k) (end + n) (omega arith))
    ∙ ap (take (length items + k)) (extended xs ys start end n ordered free long)
    ∙ take-append-add items ys k

-- n items stand at a place, and what stood there after them
pub inserted : {X : Type 0} (xs ys : List X) (start place end n : ℕ) (y : X) → start + place ≤ end → end + n ≤ length xs
    → ys ≡ paste xs (start + place + n) (drop (start + place) xs) (end - (start + place))
    → drop start (take (end + n) (put_mid (start + place) n ys (replicate n y)))
    ≡ take place (drop start (take end xs)) ++ replicate n y ++ drop place (drop start (take end xs))
inserted xs ys start place end n y h k moved =
    let at = start + place in
    let m = end - at in
    let moving = drop at xs in
    let R = replicate n y in
    let long : m ≤ length moving = omega (arith, length-drop at xs) in
    let head_len : length (take (at + n) xs) ≡ at + n = length-take-le (at + n) xs (omega arith) in
    let part_len : length (take m moving) ≡ m = length-take-le m moving long in
    let prefix_is : take at ys ≡ take at xs =
    ap (take at) moved ∙ ap (take at) (append_assoc (take (at + n) xs) (take m moving) (drop (at + n + m) xs))
    ∙ take-append-le at (take (at + n) xs) (take m moving ++ drop (at + n + m) xs) (omega arith) ∙ take-take at (at + n) xs (omega arith) in
    let prefix_length : length (take at xs) ≡ at = length-take-le at xs (omega arith) in
    let rest_is : drop n (drop at ys) ≡ take m moving ++ drop (at + n + m) xs =
    drop-drop n at ys ∙ ap (drop (at + n)) (moved ∙ append_assoc (take (at + n) xs) (take m moving) (drop (at + n + m) xs))
    ∙ drop_at (take (at + n) xs) (take m moving ++ drop (at + n + m) xs) (at + n) head_len in
    let whole : put_mid at n ys R ≡ (take at xs ++ R ++ take m moving) ++ drop (at + n + m) xs =
    ap₂ (λ a b. a ++ (R ++ b)) prefix_is rest_is
    ∙ sym (append_assoc (take at xs) R (take m moving ++ drop (at + n + m) xs)) ∙ sym (append_assoc (take at xs ++ R) (take m moving) (drop (at + n + m) xs)) in
    let all_len : length (take at xs ++ R ++ take m moving) ≡ end + n =
    omega (arith, length-append (take at xs ++ R) (take m moving), length-append (take at xs) R, length-replicate n y) in
    let taken : take (end + n) (put_mid at n ys R) ≡ take at xs ++ R ++ take m moving =
    ap (take (end + n)) whole ∙ take_at (take at xs ++ R ++ take m moving) (drop (at + n + m) xs) (end + n) all_len in
    ap (drop start) (taken ∙ append_assoc (take at xs) R (take m moving))
    ∙ drop-append-le start (take at xs) (R ++ take m moving) (omega arith)
    ∙ ap₂ (λ a b. a ++ (R ++ b)) (sym (take_after xs start place end h)) (between_is xs at end ∙ sym (drop-drop place start (take end xs)))
    ∙ sym (append_assoc (take place (drop start (take end xs))) R (drop place (drop start (take end xs))))

-- a vector of which a part was written
pub written_back : {X : Type 0} (xs zs ys : List X) (a k size : ℕ) → zs ≡ xs → size ≡ length xs → a + k ≤ length xs → length ys ≡ k
    → take size (put_mid a k zs ys ++ drop (length (put_mid a k zs ys)) xs) ≡ put_mid a k xs ys
written_back xs zs ys a k size same all within long = rw same
    (let whole : length (put_mid a k xs ys) ≡ size = omega (arith, length-append (take a xs) (ys ++ drop k (drop a xs)), length-append ys (drop k (drop a xs)), length-take-le a xs (omega arith), length-drop k (drop a xs), length-drop a xs) in
    take_at (put_mid a k xs ys) (drop (length (put_mid a k xs ys)) xs) size whole)

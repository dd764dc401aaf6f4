-- Cells of pieces, one after another.
use Rattle.std.proofs.Common.{◌≡◌, ℕ, ◌+◌, ◌-◌, ◌<◌, ◌≤◌, List, [], ◌++◌, length, take, drop, get_or, Bool, true, false, ◌==◌, ◌||◌, nat_lt, if◌then◌else◌, None, Some, slice_get, refl, sym, subst, ap, ◌∙◌, append_assoc, length-drop, arith}
use Rattle.std.proofs.lemmas.List.{get_or-drop, get_or-take, length-take-le, take_all}
use Rattle.std.proofs.Math.Seq.{take-add}
use borrow.Rule.Slice.PartMut.{put_mid}
use Rattle.nr_vectors.proofs.Copying.{prefix_put}
use Rattle.utf8_characters.specs.declared.table.FixedTable.{FixedTable}
use Rattle.utf8_characters.specs.Tables.{character_of, characters, if_any}
use Rattle.utf8_converter.specs.Cells.{if_spelled, is_shown, text}
use Rattle.utf8_converter.specs.Spelling.{AllSpelled, AreLow, Puts, Spells, bytes_of, byte_of, count_of}
use Rattle.utf8_converter.proofs.Spelled.{byte-text, bytes-as-are, bytes_append}

-- a byte of ASCII of which something goes out goes out as it is
low_text : (t : FixedTable) (b : ℕ) (x : Bool) → is_shown b ≡ x → nat_lt b 128 ≡ true → 0 < length (text t b) → is_shown b ≡ true
low_text t b true e low some = e
low_text t b false e low some = absurd (let none : length (text t b) ≡ 0 =
    ap (λ (y : Bool). length (if_spelled (if y then Some b else character_of t b))) e
    ∙ ap (λ (x : Bool). length (if_spelled (if x then None else if_any (slice_get (characters t) (b - 128))))) low in omega (arith, none, some))

or_right : (x y : Bool) → y ≡ true → (x || y) ≡ true
or_right true y p = refl
or_right false y p = p

or_left : (x y : Bool) → x ≡ true → (x || y) ≡ true
or_left true y p = refl
or_left false y p = absurd (let never : false ≡ true = p in cc)

low_by : (t : FixedTable) (b : ℕ) (x : Bool) → (b == 8) ≡ x → nat_lt b 128 ≡ true → 0 < length (byte_of t b) → (is_shown b || (b == 8)) ≡ true
low_by t b true e low some = or_right (is_shown b) (b == 8) e
low_by t b false e low some =
    let P : List ℕ → Type 0 = λ xs. 0 < length xs in
    or_left (is_shown b) (b == 8) (low_text t b (is_shown b) refl low (subst P (byte-text t b e) some))

-- a piece of ASCII goes out as it is
pub Puts-low : (t : FixedTable) (all : List (List ℕ)) (whole : Bool) (bs room ys : List ℕ) (end k n : ℕ) → Spells t 256 all whole → ((j : ℕ) → j < length bs → get_or bs j 0 < 256)
    → AllSpelled all bs → AreLow n bs → length bs ≡ n → ys ≡ bs → end ≤ length room → Puts room end (put_mid end k room ys) (end + n) (bytes_of t bs)
Puts-low t all whole bs room ys end k n s small some low long copied h =
    let same : length ys ≡ n = ap length copied ∙ long in
    let shown : (j : ℕ) → j < length bs → (is_shown (get_or bs j 0) || (get_or bs j 0 == 8)) ≡ true = λ j below.
    (let b = get_or bs j 0 in
    let here = some j below in
    let count = (s.each b (small j below)).count in
    low_by t b (b == 8) refl (low j (omega (arith, below, long))) (omega (arith, here, count))) in
    prefix_put end k n room ys h (omega (arith, same))
    ∙ ap (λ (xs : List ℕ). take end room ++ xs) (take_all n ys (omega (arith, same)) ∙ copied ∙ sym (bytes-as-are t bs shown))

-- something goes out of each byte of a piece
pub piece-spelled : (all : List (List ℕ)) (bs : List ℕ) (at : ℕ) → AllSpelled all bs → at + 8 ≤ length bs → AllSpelled all (take (at + 8 - at) (drop at bs))
piece-spelled all bs at some l k below =
    let eight : at + 8 - at ≡ 8 = omega arith in
    let rest = length-drop at bs in
    let cut = length-take-le (at + 8 - at) (drop at bs) (omega (arith, rest, l)) in
    let same : get_or (take (at + 8 - at) (drop at bs)) k 0 ≡ get_or bs (at + k) 0 = get_or-take (at + 8 - at) (drop at bs) k 0 (omega (arith, below, cut)) ∙ get_or-drop at bs k 0 in
    let P : ℕ → Type 0 = λ b. 0 < count_of (get_or all b []) in
    subst P (sym same) (some (at + k) (omega (arith, below, cut, l)))

-- one piece more
pub Puts-piece : (t : FixedTable) (bs : List ℕ) (i n : ℕ) (old mid new : List ℕ) (from to end : ℕ) → Puts old from mid to (bytes_of t (take i bs))
    → Puts mid to new end (bytes_of t (take n (drop i bs))) → Puts old from new end (bytes_of t (take (i + n) bs))
Puts-piece t bs i n old mid new from to end p q =
    q ∙ ap (λ (xs : List ℕ). xs ++ bytes_of t (take n (drop i bs))) p
    ∙ append_assoc (take from old) (bytes_of t (take i bs)) (bytes_of t (take n (drop i bs)))
    ∙ ap (λ (xs : List ℕ). take from old ++ xs) (sym (bytes_append t (take i bs) (take n (drop i bs))) ∙ ap (λ (xs : List ℕ). bytes_of t xs) (sym (take-add i n bs)))

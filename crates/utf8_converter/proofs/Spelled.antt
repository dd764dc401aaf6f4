-- What goes out of bytes, and what stands in a room.
use Rattle.std.specs.Prelude.{is_some}
use Rattle.std.proofs.Common.{◌≡◌, ℕ, zero, suc, ◌+◌, ◌*◌, ◌-◌, ◌<◌, ◌≤◌, List, [], ◌∷◌, ◌++◌, length, take, drop, get_or, set, Bool, true, false, ◌==◌, ◌&&◌, ◌||◌, ◌⊎◌, inl, inr, nat_le, nat_lt, if◌then◌else◌, Option, None, Some, refl, sym, subst, ap, ◌∙◌, add-one, append_assoc, append-nil, length-drop, arith}
use Rattle.std.proofs.lemmas.List.{get_or-append-add, get_or-drop, get_or-set_other, length-append, length-take-le, take-append-le, take-take, take_all}
use Rattle.std.proofs.lemmas.Grind.{get_or-set_at}
use borrow.Rule.Slice.PartMut.{put_mid}
use Rattle.nr_vectors.proofs.Copying.{prefix_put}
use Rattle.std.proofs.Math.Seq.{take-suc}
use Rattle.std.proofs.lemmas.Bool.Decides.{nat_tests}
use Rattle.std.proofs.lemmas.Str.{length-encode}
use Rattle.std.specs.Char.{encode_utf8, len_utf8}
use Rattle.utf8_characters.specs.declared.table.FixedTable.{FixedTable}
use Rattle.utf8_characters.specs.Tables.{character_of}
use Rattle.utf8_converter.specs.Cells.{character_for, goes_out, if_spelled, is_shown, text}
use Rattle.utf8_converter.specs.Shapes.{may_stand}
use Rattle.utf8_converter.specs.Spelling.{byte_of, bytes_of, AllSpelled, IsSpelled, Spells, Puts, count_of}
use Rattle.utf8_converter.proofs.Makes.{text-shown}

-- ---- a byte

bytes-if : (x : Bool) (xs ys : List ℕ) → x ≡ true → (if x then xs else ys) ≡ xs
bytes-if true xs ys p = refl
bytes-if false xs ys p = absurd (let never : false ≡ true = p in cc)

bytes-not : (x : Bool) (xs ys : List ℕ) → x ≡ false → (if x then xs else ys) ≡ ys
bytes-not true xs ys p = absurd (let never : true ≡ false = p in cc)
bytes-not false xs ys p = refl

is_back : (b : ℕ) → (b == 8) ≡ true → b ≡ 8
is_back b p = grind (arith, nat_tests)

-- what is no backspace goes out as its text
pub byte-text : (t : FixedTable) (b : ℕ) → (b == 8) ≡ false → byte_of t b ≡ text t b
byte-text t b isnt = bytes-not (b == 8) (8 ∷ []) (text t b) isnt

or_false : (x y : Bool) → x || y ≡ true → y ≡ false → x ≡ true
or_false true y p q = refl
or_false false y p q = absurd (let never : true ≡ false = sym p ∙ q in cc)

as_is_by : (x : Bool) (t : FixedTable) (b : ℕ) → (b == 8) ≡ x → (is_shown b || (b == 8)) ≡ true → byte_of t b ≡ b ∷ []
as_is_by true t b e p = bytes-if (b == 8) (8 ∷ []) (text t b) e ∙ ap (λ (x : ℕ). x ∷ []) (sym (is_back b e))
as_is_by false t b e p = byte-text t b e ∙ text-shown t b (or_false (is_shown b) (b == 8) p e)

pub byte-as-is : (t : FixedTable) (b : ℕ) → (is_shown b || (b == 8)) ≡ true → byte_of t b ≡ b ∷ []
byte-as-is t b p = as_is_by (b == 8) t b refl p

-- something goes out of each byte that has a character
one_or_more : (x y z : Bool) → 0 < (if x then 1 else if y then 2 else if z then 3 else 4)
one_or_more true y z = omega arith
one_or_more false true z = omega arith
one_or_more false false true = omega arith
one_or_more false false false = omega arith

some_spelled : (c : ℕ) → 0 < length (encode_utf8 c)
some_spelled c =
    let some : 0 < len_utf8 c = one_or_more (nat_lt c 0x80) (nat_lt c 0x800) (nat_lt c 0x10000) in
    let long = length-encode c in
    omega (arith, long, some)

is_more : (n : ℕ) → 0 < n → nat_lt 0 n ≡ true
is_more n l = grind (arith, nat_tests)

count_by : (o : Option ℕ) → nat_lt 0 (length (if_spelled o)) ≡ is_some o
count_by None = refl
count_by (Some c) = is_more (length (encode_utf8 c)) (some_spelled c)

pub count-goes : (t : FixedTable) (b : ℕ) → (b == 8) ≡ false → nat_lt 0 (length (byte_of t b)) ≡ goes_out t b
count-goes t b isnt = ap (λ (xs : List ℕ). nat_lt 0 (length xs)) (byte-text t b isnt) ∙ count_by (character_for t b)

goes_true : (x : Bool) (n : ℕ) → nat_lt 0 n ≡ x → 0 < n → x ≡ true
goes_true x n e l = sym e ∙ is_more n l

pub some-goes : (t : FixedTable) (b : ℕ) → (b == 8) ≡ false → 0 < length (byte_of t b) → goes_out t b ≡ true
some-goes t b isnt some = goes_true (goes_out t b) (length (byte_of t b)) (count-goes t b isnt) some

-- ---- many

pub bytes_append : (t : FixedTable) (xs ys : List ℕ) → bytes_of t (xs ++ ys) ≡ bytes_of t xs ++ bytes_of t ys
bytes_append t [] ys = refl
bytes_append t (x ∷ xs) ys =
    ap (λ (zs : List ℕ). byte_of t x ++ zs) (bytes_append t xs ys) ∙ sym (append_assoc (byte_of t x) (bytes_of t xs) (bytes_of t ys))

bytes_next : (t : FixedTable) (bs : List ℕ) (i : ℕ) → i < length bs → bytes_of t (take (i + 1) bs) ≡ bytes_of t (take i bs) ++ byte_of t (get_or bs i 0)
bytes_next t bs i l =
    let b = get_or bs i 0 in
    let prefix : take (i + 1) bs ≡ take i bs ++ b ∷ [] = rw add-one (take-suc bs i 0 l) in
    ap (λ (xs : List ℕ). bytes_of t xs) prefix ∙ bytes_append t (take i bs) (b ∷ [])
    ∙ ap (λ (xs : List ℕ). bytes_of t (take i bs) ++ xs) (append-nil (byte_of t b))

pub Puts-next : (t : FixedTable) (bs : List ℕ) (i : ℕ) (old mid new : List ℕ) (from to end : ℕ) → i < length bs
    → Puts old from mid to (bytes_of t (take i bs)) → Puts mid to new end (byte_of t (get_or bs i 0)) → Puts old from new end (bytes_of t (take (i + 1) bs))
Puts-next t bs i old mid new from to end l p q =
    q ∙ ap (λ (xs : List ℕ). xs ++ byte_of t (get_or bs i 0)) p
    ∙ append_assoc (take from old) (bytes_of t (take i bs)) (byte_of t (get_or bs i 0))
    ∙ ap (λ (xs : List ℕ). take from old ++ xs) (sym (bytes_next t bs i l))

pub bytes-as-are : (t : FixedTable) (bs : List ℕ) → ((k : ℕ) → k < length bs → (is_shown (get_or bs k 0) || (get_or bs k 0 == 8)) ≡ true) → bytes_of t bs ≡ bs
bytes-as-are t [] all = refl
bytes-as-are t (b ∷ bs) all =
    let one = byte-as-is t b (all zero (omega arith)) in
    ap (λ (xs : List ℕ). xs ++ bytes_of t bs) one ∙ ap (λ (xs : List ℕ). b ∷ xs) (bytes-as-are t bs (λ k below. all (suc k) (omega arith)))

-- ---- what is kept of a table

long_as_is : (t : FixedTable) (b : ℕ) → (is_shown b || (b == 8)) ≡ true → 0 < length (byte_of t b)
long_as_is t b e = let one : length (byte_of t b) ≡ 1 = ap length (byte-as-is t b e) in omega (arith, one)

as_is_low : (b : ℕ) → nat_le 128 b ≡ false → (may_stand b || (b == 8)) ≡ true → (is_shown b || (b == 8)) ≡ true
as_is_low b low may = grind (arith, nat_tests)

some_by : (t : FixedTable) (all : List (List ℕ)) (b : ℕ) (high : Bool) → nat_le 128 b ≡ high → b < 256 → Spells t 256 all true → (may_stand b || (b == 8)) ≡ true → 0 < count_of (get_or all b [])
some_by t all b true e small s may =
    let far : 128 ≤ b = grind (arith, nat_tests) in
    s.beyond refl b small far
some_by t all b false e small s may =
    let count = (s.each b small).count in
    let long = long_as_is t b (as_is_low b e may) in
    omega (arith, count, long)

-- something goes out of all these
pub all-spelled : (t : FixedTable) (all : List (List ℕ)) (whole : Bool) (bs : List ℕ) → ((k : ℕ) → k < length bs → get_or bs k 0 < 256) → Spells t 256 all whole → whole ≡ true
    → ((k : ℕ) → k < length bs → (may_stand (get_or bs k 0) || (get_or bs k 0 == 8)) ≡ true) → AllSpelled all bs
all-spelled t all whole bs small s is may k below =
    let P : Bool → Type 0 = λ w. Spells t 256 all w in
    some_by t all (get_or bs k 0) (nat_le 128 (get_or bs k 0)) refl (small k below) (subst P is s) (may k below)

below_or_last : (b n : ℕ) → b < n + 1 → (b < n) ⊎ (b ≡ n)
below_or_last b n l = grind (arith, nat_tests)

both_true : (x y : Bool) → x && y ≡ true → (x ≡ true) × (y ≡ true)
both_true true y p = (refl, p)
both_true false y p = absurd (let never : false ≡ true = p in cc)

next_each : (t : FixedTable) (n : ℕ) (all : List (List ℕ)) (whole : Bool) (s : List ℕ) (b : ℕ) → Spells t n all whole → n < length all → IsSpelled t n s → (b < n) ⊎ (b ≡ n)
    → IsSpelled t b (get_or (set all n s) b [])
next_each t n all whole s b before l one (inl low) =
    let other : ¬ (b ≡ n) = λ e. omega (arith, e, low) in
    let P : List ℕ → Type 0 = λ x. IsSpelled t b x in
    subst P (sym (get_or-set_other all n b s [] other)) (before.each b low)
next_each t n all whole s b before l one (inr same) =
    let put : get_or (set all n s) b [] ≡ s = get_or-set_at all n b s [] same l in
    let P : List ℕ → Type 0 = λ x. IsSpelled t b x in
    let Q : ℕ → Type 0 = λ x. IsSpelled t x s in
    subst P (sym put) (subst Q (sym same) one)

next_beyond : (t : FixedTable) (n : ℕ) (all : List (List ℕ)) (whole : Bool) (s : List ℕ) (b : ℕ) → Spells t n all whole → n < length all → whole ≡ true → (128 ≤ n → 0 < count_of s)
    → 128 ≤ b → (b < n) ⊎ (b ≡ n) → 0 < count_of (get_or (set all n s) b [])
next_beyond t n all whole s b before l is covered far (inl low) =
    let other : ¬ (b ≡ n) = λ e. omega (arith, e, low) in
    let P : List ℕ → Type 0 = λ x. 0 < count_of x in
    subst P (sym (get_or-set_other all n b s [] other)) (before.beyond is b low far)
next_beyond t n all whole s b before l is covered far (inr same) =
    let put : get_or (set all n s) b [] ≡ s = get_or-set_at all n b s [] same l in
    let P : List ℕ → Type 0 = λ x. 0 < count_of x in
    subst P (sym put) (covered (omega (arith, same, far)))

-- one byte more
pub Spells-next : (t : FixedTable) (n : ℕ) (all : List (List ℕ)) (whole w : Bool) (s : List ℕ) → Spells t n all whole → n < length all → IsSpelled t n s
    → (w ≡ true → 128 ≤ n → 0 < count_of s) → Spells t (n + 1) (set all n s) (whole && w)
Spells-next t n all whole w s before l one covered = record {
  each = λ b below. next_each t n all whole s b before l one (below_or_last b n below);
  beyond = λ is b below far. let both = both_true whole w is in next_beyond t n all whole s b before l both.0 (covered both.1) far (below_or_last b n below);
}

text_beyond : (t : FixedTable) (b c : ℕ) → is_shown b ≡ false → character_of t b ≡ Some c → text t b ≡ encode_utf8 c
text_beyond t b c isnt is = ap (λ (x : Bool). if_spelled (if x then Some b else character_of t b)) isnt ∙ ap if_spelled is

-- a character, and 64 times the number of its bytes
pub Spelled-character : (t : FixedTable) (b c : ℕ) (xs bytes : List ℕ) → is_shown b ≡ false → (b == 8) ≡ false → character_of t b ≡ Some c → bytes ≡ encode_utf8 c → xs ≡ bytes
    → length bytes ≤ 3 → IsSpelled t b (xs ++ drop (length bytes) (0 ∷ 0 ∷ 0 ∷ 64 * length bytes ∷ []))
Spelled-character t b c xs bytes unshown other is means same few =
    let n = length bytes in
    let ys : List ℕ = 0 ∷ 0 ∷ 0 ∷ 64 * n ∷ [] in
    let long : length xs ≡ n = ap length same in
    let rest = length-drop n ys in
    let both = length-append xs (drop n ys) in
    let goes : byte_of t b ≡ xs = byte-text t b other ∙ text_beyond t b c unshown is ∙ sym means ∙ sym same in
    let there : length xs + (3 - n) ≡ 3 = omega (arith, long, few) in
    let here : n + (3 - n) ≡ 3 = omega (arith, few) in
    let last : get_or (xs ++ drop n ys) 3 0 ≡ 64 * n =
    ap (λ (k : ℕ). get_or (xs ++ drop n ys) k 0) (sym there) ∙ get_or-append-add xs (drop n ys) (3 - n) 0 ∙ get_or-drop n ys (3 - n) 0 ∙ ap (λ (k : ℕ). get_or ys k 0) here in
    let counts : count_of (xs ++ drop n ys) ≡ n = omega (arith, last) in
    record {
      prefix = ap (λ (k : ℕ). take k (xs ++ drop n ys)) counts ∙ take-append-le n xs (drop n ys) (omega (arith, long)) ∙ take_all n xs (omega (arith, long)) ∙ sym goes;
      count = ap length goes ∙ long ∙ sym counts;
      four = omega (arith, both, rest, long, few);
      few = omega (arith, counts, few);
    }

-- one that is put as it is
pub Spelled-as-is : (t : FixedTable) (b : ℕ) → (is_shown b || (b == 8)) ≡ true → IsSpelled t b (b ∷ 0 ∷ 0 ∷ 64 ∷ [])
Spelled-as-is t b e =
    let same = byte-as-is t b e in
    record { prefix = sym same; count = ap length same; four = refl; few = omega arith }

text_none : (t : FixedTable) (b : ℕ) → is_shown b ≡ false → character_of t b ≡ None → text t b ≡ []
text_none t b isnt is = ap (λ (x : Bool). if_spelled (if x then Some b else character_of t b)) isnt ∙ ap if_spelled is

pub Spelled-none : (t : FixedTable) (b : ℕ) → is_shown b ≡ false → (b == 8) ≡ false → character_of t b ≡ None → IsSpelled t b (0 ∷ 0 ∷ 0 ∷ 0 ∷ [])
Spelled-none t b unshown other is =
    let same = byte-text t b other ∙ text_none t b unshown is in
    record { prefix = sym same; count = ap length same; four = refl; few = omega arith }

-- ---- what stands in a room

pub Puts-spelled : (t : FixedTable) (b byte : ℕ) (s : List ℕ) (room ys : List ℕ) (end k : ℕ) → IsSpelled t b s → b ≡ byte → ys ≡ s → end ≤ length room
    → Puts room end (put_mid end k room ys) (end + count_of s) (byte_of t byte)
Puts-spelled t b byte s room ys end k one same copied h =
    let four : length ys ≡ 4 = ap length copied ∙ one.four in
    let few : count_of s ≤ 3 = one.few in
    prefix_put end k (count_of s) room ys h (omega (arith, four, few))
    ∙ ap (λ (xs : List ℕ). take end room ++ xs) (ap (λ (xs : List ℕ). take (count_of s) xs) copied ∙ one.prefix ∙ ap (λ (x : ℕ). byte_of t x) same)

-- all of these
pub Puts-whole : (room xs ys : List ℕ) (end k : ℕ) → ys ≡ xs → end ≤ length room → Puts room end (put_mid end k room ys) (end + length xs) xs
Puts-whole room xs ys end k copied h =
    let long : length ys ≡ length xs = ap length copied in
    prefix_put end k (length xs) room ys h (omega (arith, long))
    ∙ ap (λ (zs : List ℕ). take end room ++ zs) (take_all (length xs) ys (omega (arith, long)) ∙ copied)

pub Puts-prefix : (bs room ys : List ℕ) (end k n : ℕ) → ys ≡ take n bs → n ≤ length bs → end ≤ length room → Puts room end (put_mid end k room ys) (end + n) (take n bs)
Puts-prefix bs room ys end k n copied l h =
    let long : length ys ≡ n = ap length copied ∙ length-take-le n bs l in
    prefix_put end k n room ys h (omega (arith, long))
    ∙ ap (λ (xs : List ℕ). take end room ++ xs) (ap (λ (xs : List ℕ). take n xs) copied ∙ take-take n n bs (omega arith))

pub Puts-then : (old mid new xs ys : List ℕ) (from to end : ℕ) → Puts old from mid to xs → Puts mid to new end ys → Puts old from new end (xs ++ ys)
Puts-then old mid new xs ys from to end p q = q ∙ ap (λ (zs : List ℕ). zs ++ ys) p ∙ append_assoc (take from old) xs ys

pub Puts-none : (room : List ℕ) (end : ℕ) → Puts room end room end []
Puts-none room end = sym (append-nil (take end room))

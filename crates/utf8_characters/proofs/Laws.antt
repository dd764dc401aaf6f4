-- Each table is one to one, and all of its characters take one cell.
use Rattle.std.proofs.Common.{◌≡◌, ℕ, zero, suc, ◌+◌, ◌-◌, List, [], ◌∷◌, Bool, true, false, not, ◌==◌, ◌&&◌, ◌||◌, nat_lt, if◌then◌else◌, Option, None, Some, IfSome, slice_get, refl, sym, ◌∙◌, ap, subst, arith}
use Rattle.std.proofs.lemmas.Bool.Decides.{nat_tests}
use Rattle.std.proofs.Math.Utf8.{scalar}
use Rattle.utf8_characters.specs.declared.table.FixedTable.{FixedTable}
use Rattle.utf8_characters.specs.declared.table.FixedTable.TheVariants.{English, Latin, Cyrillic, Greek, Latin1}
use Rattle.utf8_characters.specs.OneCell.{is_one_cell}
use Rattle.utf8_characters.specs.Tables.{characters, if_any, character_of, byte_in, byte_of}

-- ---- what is computed of a table

abbrev is_among : ℕ → List ℕ → Bool
is_among x [] = false
is_among x (y ∷ ys) = (y == x) || is_among x ys

abbrev all_differ : List ℕ → Bool
all_differ [] = true
all_differ (x ∷ xs) = ((x == 0) || not (is_among x xs)) && all_differ xs

abbrev all_fit : List ℕ → Bool
all_fit [] = true
all_fit (x ∷ xs) = ((x == 0) || is_one_cell x) && all_fit xs

abbrev all_scalar : List ℕ → Bool
all_scalar [] = true
all_scalar (x ∷ xs) = scalar x && all_scalar xs

tables_differ : (t : FixedTable) → all_differ (characters t) ≡ true
unfolding characters
tables_differ English = refl
tables_differ Latin = refl
tables_differ Cyrillic = refl
tables_differ Greek = refl
tables_differ Latin1 = refl

tables_fit : (t : FixedTable) → all_fit (characters t) ≡ true
unfolding characters
tables_fit English = refl
tables_fit Latin = refl
tables_fit Cyrillic = refl
tables_fit Greek = refl
tables_fit Latin1 = refl

tables_scalar : (t : FixedTable) → all_scalar (characters t) ≡ true
unfolding characters
tables_scalar English = refl
tables_scalar Latin = refl
tables_scalar Cyrillic = refl
tables_scalar Greek = refl
tables_scalar Latin1 = refl

-- ---- tests

same_is : (x c : ℕ) → x ≡ c → (x == c) ≡ true
same_is x c e = grind (arith, nat_tests)

is_same : (x c : ℕ) → (x == c) ≡ true → x ≡ c
is_same x c e = grind (arith, nat_tests)

not_below : (i : ℕ) → nat_lt (128 + i) 128 ≡ false
not_below i = grind (arith, nat_tests)

not_low : (b : ℕ) → nat_lt b 128 ≡ false → 128 + (b - 128) ≡ b
not_low b e = grind (arith, nat_tests)

and_first : (x y : Bool) → x && y ≡ true → x ≡ true
and_first true y p = refl
and_first false y p = p

and_second : (x y : Bool) → x && y ≡ true → y ≡ true
and_second true y p = p
and_second false y p = absurd (let no : false ≡ true = p in cc)

or_second : (x y : Bool) → x ≡ false → x || y ≡ true → y ≡ true
or_second true y p q = absurd (let no : true ≡ false = p in cc)
or_second false y p q = q

or_true : (x y : Bool) → y ≡ true → x || y ≡ true
or_true true y p = refl
or_true false y p = p

or_left : (x y : Bool) → x ≡ true → x || y ≡ true
or_left true y p = refl
or_left false y p = absurd (let no : false ≡ true = p in cc)

not_both : (x : Bool) → x ≡ true → not x ≡ true → ⊥
not_both true p q = let no : false ≡ true = q in cc
not_both false p q = let no : false ≡ true = p in cc

if_not : (x : Bool) (o u : Option ℕ) → x ≡ false → (if x then o else u) ≡ u
if_not true o u p = absurd (let no : true ≡ false = p in cc)
if_not false o u p = refl

if_so : (x : Bool) (o u : Option ℕ) → x ≡ true → (if x then o else u) ≡ o
if_so true o u p = refl
if_so false o u p = absurd (let no : false ≡ true = p in cc)

one_of : (x y : ℕ) → Some x ≡ Some y → x ≡ y
one_of x y p = cc

-- ---- the byte of a character is that of its first place

record Found (k : ℕ) (xs : List ℕ) (c b : ℕ) : Type 0 where
  at : ℕ
  is : b ≡ k + at
  there : slice_get xs at ≡ Some c

found_by : (t : Bool) (k x : ℕ) (xs : List ℕ) (c b : ℕ) → (x == c) ≡ t → (if t then Some k else byte_in (k + 1) xs c) ≡ Some b
    → (byte_in (k + 1) xs c ≡ Some b → Found (k + 1) xs c b) → Found k (x ∷ xs) c b
found_by true k x xs c b e p later =
    let q : k ≡ b = one_of k b p in record { at = zero; is = omega arith; there = ap Some (is_same x c e) }
found_by false k x xs c b e p later =
    let f = later p in let q : b ≡ k + 1 + f.at = f.is in record { at = suc f.at; is = omega arith; there = f.there }

found : (k : ℕ) (xs : List ℕ) (c b : ℕ) → byte_in k xs c ≡ Some b → Found k xs c b
found k [] c b p = absurd (let no : None ≡ Some b = p in cc)
found k (x ∷ xs) c b p = found_by (x == c) k x xs c b refl p (found (k + 1) xs c b)

char_at : (t : FixedTable) (i c : ℕ) → slice_get (characters t) i ≡ Some c → (c == 0) ≡ false → character_of t (128 + i) ≡ Some c
char_at t i c p e =
    let sub : 128 + i - 128 ≡ i = omega arith in
    if_not (nat_lt (128 + i) 128) None (if_any (slice_get (characters t) (128 + i - 128))) (not_below i)
    ∙ ap (λ (n : ℕ). if_any (slice_get (characters t) n)) sub ∙ ap if_any p ∙ if_not (c == 0) None (Some c) e

character_by : (z : Bool) (t : FixedTable) (c b : ℕ) → (c == 0) ≡ z → (if z then None else byte_in 128 (characters t) c) ≡ Some b → character_of t b ≡ Some c
character_by true t c b e p = absurd (let no : None ≡ Some b = p in cc)
character_by false t c b e p =
    let f = found 128 (characters t) c b p in
    let P : ℕ → Type 0 = λ n. character_of t n ≡ Some c in
    subst P (sym f.is) (char_at t f.at c f.there e)

pub character_back : (t : FixedTable) (c b : ℕ) → byte_of t c ≡ Some b → character_of t b ≡ Some c
character_back t c b p = character_by (c == 0) t c b refl p

-- ---- a character has one place

among : (xs : List ℕ) (i c : ℕ) → slice_get xs i ≡ Some c → is_among c xs ≡ true
among [] i c p = absurd (let no : None ≡ Some c = p in cc)
among (x ∷ xs) zero c p = or_left (x == c) (is_among c xs) (same_is x c (one_of x c p))
among (x ∷ xs) (suc i) c p = or_true (x == c) (is_among c xs) (among xs i c p)

unlike_by : (t : Bool) (x : ℕ) (xs : List ℕ) (i c : ℕ) → (x == c) ≡ t → (c == 0) ≡ false → (x == 0) || not (is_among x xs) ≡ true
    → slice_get xs i ≡ Some c → t ≡ false
unlike_by false x xs i c e some differs p = refl
unlike_by true x xs i c e some differs p =
    let P : ℕ → Type 0 = λ n. (n == 0) || not (is_among n xs) ≡ true in
    absurd (not_both (is_among c xs) (among xs i c p) (or_second (c == 0) (not (is_among c xs)) some (subst P (is_same x c e) differs)))

first_at : (k : ℕ) (xs : List ℕ) (i c : ℕ) → all_differ xs ≡ true → (c == 0) ≡ false → slice_get xs i ≡ Some c → byte_in k xs c ≡ Some (k + i)
first_at k [] i c differ some p = absurd (let no : None ≡ Some c = p in cc)
first_at k (x ∷ xs) zero c differ some p =
    let same : k ≡ k + zero = omega arith in
    if_so (x == c) (Some k) (byte_in (k + 1) xs c) (same_is x c (one_of x c p)) ∙ ap Some same
first_at k (x ∷ xs) (suc i) c differ some p =
    let here = and_first ((x == 0) || not (is_among x xs)) (all_differ xs) differ in
    let rest = and_second ((x == 0) || not (is_among x xs)) (all_differ xs) differ in
    let same : k + 1 + i ≡ k + suc i = omega arith in
    if_not (x == c) (Some k) (byte_in (k + 1) xs c) (unlike_by (x == c) x xs i c refl some here p)
    ∙ first_at (k + 1) xs i c rest some p ∙ ap Some same

fits_at : (xs : List ℕ) (i c : ℕ) → all_fit xs ≡ true → (c == 0) ≡ false → slice_get xs i ≡ Some c → is_one_cell c ≡ true
fits_at [] i c fit some p = absurd (let no : None ≡ Some c = p in cc)
fits_at (x ∷ xs) zero c fit some p =
    let P : ℕ → Type 0 = λ n. (n == 0) || is_one_cell n ≡ true in
    or_second (c == 0) (is_one_cell c) some (subst P (one_of x c p) (and_first ((x == 0) || is_one_cell x) (all_fit xs) fit))
fits_at (x ∷ xs) (suc i) c fit some p = fits_at xs i c (and_second ((x == 0) || is_one_cell x) (all_fit xs) fit) some p

record IsAt (t : FixedTable) (b c : ℕ) : Type 0 where
  high : nat_lt b 128 ≡ false
  there : slice_get (characters t) (b - 128) ≡ Some c
  some : (c == 0) ≡ false

nul_by : (z : Bool) (y c : ℕ) → (y == 0) ≡ z → (if z then None else Some y) ≡ Some c → (y ≡ c) × ((c == 0) ≡ false)
nul_by true y c e p = absurd (let no : None ≡ Some c = p in cc)
nul_by false y c e p =
    let q : y ≡ c = one_of y c p in let P : ℕ → Type 0 = λ n. (n == 0) ≡ false in (q, subst P q e)

at_by : (t : FixedTable) (b c : ℕ) (x : Bool) (o : Option ℕ) → nat_lt b 128 ≡ x → slice_get (characters t) (b - 128) ≡ o
    → (if x then None else if_any o) ≡ Some c → IsAt t b c
at_by t b c true o h e p = absurd (let no : None ≡ Some c = p in cc)
at_by t b c false None h e p = absurd (let no : None ≡ Some c = p in cc)
at_by t b c false (Some y) h e p =
    let q = nul_by (y == 0) y c refl p in record { high = h; there = e ∙ ap Some q.0; some = q.1 }

is_at : (t : FixedTable) (b c : ℕ) → character_of t b ≡ Some c → IsAt t b c
is_at t b c p = at_by t b c (nat_lt b 128) (slice_get (characters t) (b - 128)) refl refl p

pub byte_back : (t : FixedTable) (b c : ℕ) → character_of t b ≡ Some c → byte_of t c ≡ Some b
byte_back t b c p =
    let f = is_at t b c p in
    if_not (c == 0) None (byte_in 128 (characters t) c) f.some
    ∙ first_at 128 (characters t) (b - 128) c (tables_differ t) f.some f.there ∙ ap Some (not_low b f.high)

pub character_fits : (t : FixedTable) (b c : ℕ) → character_of t b ≡ Some c → is_one_cell c ≡ true
character_fits t b c p = let f = is_at t b c p in fits_at (characters t) (b - 128) c (tables_fit t) f.some f.there

scalar_at : (xs : List ℕ) (i c : ℕ) → all_scalar xs ≡ true → slice_get xs i ≡ Some c → scalar c ≡ true
scalar_at [] i c are p = absurd (let no : None ≡ Some c = p in cc)
scalar_at (x ∷ xs) zero c are p =
    let P : ℕ → Type 0 = λ n. scalar n ≡ true in subst P (one_of x c p) (and_first (scalar x) (all_scalar xs) are)
scalar_at (x ∷ xs) (suc i) c are p = scalar_at xs i c (and_second (scalar x) (all_scalar xs) are) p

pub character_scalar : (t : FixedTable) (b c : ℕ) → character_of t b ≡ Some c → scalar c ≡ true
character_scalar t b c p = scalar_at (characters t) (b - 128) c (tables_scalar t) (is_at t b c p).there

-- ---- of what a call answers

pub answer_back : (t : FixedTable) (b : ℕ) (r : Option ℕ) → r ≡ character_of t b → IfSome r (λ c. byte_of t c ≡ Some b)
answer_back t b None e = tt
answer_back t b (Some c) e = byte_back t b c (sym e)

pub answer_fits : (t : FixedTable) (b : ℕ) (r : Option ℕ) → r ≡ character_of t b → IfSome r (λ c. is_one_cell c ≡ true)
answer_fits t b None e = tt
answer_fits t b (Some c) e = character_fits t b c (sym e)

pub byte_answer_back : (t : FixedTable) (c : ℕ) (r : Option ℕ) → r ≡ byte_of t c → IfSome r (λ b. character_of t b ≡ Some c)
byte_answer_back t c None e = tt
byte_answer_back t c (Some b) e = character_back t c b (sym e)

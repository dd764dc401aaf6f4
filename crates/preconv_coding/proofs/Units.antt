-- Text in UTF-16 is read as its characters.
use Rattle.std.proofs.Common.{◌≡◌, ℕ, ◌+◌, ◌-◌, ◌*◌, ◌/◌, ◌%◌, ◌<◌, ◌≤◌, List, [], ◌∷◌, ◌++◌, Bool, true, false, ◌&&◌, nat_lt, if◌then◌else◌, Option, None, Some, inl, inr, refl, ◌∙◌, ap, append_assoc, arith}
use Rattle.std.proofs.lemmas.Bool.Decides.{nat_tests}
use Rattle.std.proofs.Math.Utf8.{scalar, scalars, scalar_cases}
use Rattle.std.specs.Prelude.{encode_utf8_all}
use Rattle.std.specs.Char.{encode_utf8}
use Rattle.preconv_coding.specs.declared.wide.Order.{Order}
use Rattle.preconv_coding.specs.declared.wide.Order.TheVariants.{Big, Little}
use Rattle.preconv_coding.specs.declared.wide.Units.{Units}
use Rattle.preconv_coding.specs.declared.wide.Wide.{Wide as Wides}
use Rattle.preconv_coding.specs.declared.part.Part.TheVariants.{Wide}
use Rattle.preconv_coding.specs.Wide.{character_of, replacement, is_high, is_low, pair_code, fresh, units, first_wide, unit_taken}
use Rattle.preconv_coding.specs.UnderCoding.{text_from}
use Rattle.preconv_coding.specs.Laws.{unit_bytes, utf16_all, WideIsRead}

abbrev at : Order → Option ℕ → Wides
at order high = record { order = order; high = high; first = None }

abbrev came : Units → List ℕ → List ℕ
came u rest = u.text ++ text_from (Wide u.wide) rest

whole : (u : ℕ) → u / 256 * 256 + u % 256 ≡ u
whole u = omega arith

-- a unit comes
unit_came : (order : Order) (high : Option ℕ) (u : ℕ) (rest : List ℕ) → text_from (Wide (at order high)) (unit_bytes order u ++ rest) ≡ came (unit_taken u (at order high)) rest
unit_came Big None u rest = ap (λ (v : ℕ). came (unit_taken v (at Big None)) rest) (whole u)
unit_came Big (Some high) u rest = ap (λ (v : ℕ). came (unit_taken v (at Big (Some high))) rest) (whole u)
unit_came Little None u rest = ap (λ (v : ℕ). came (unit_taken v (at Little None)) rest) (whole u)
unit_came Little (Some high) u rest = ap (λ (v : ℕ). came (unit_taken v (at Little (Some high))) rest) (whole u)

if_first : {T : Type 0} (x : Bool) (a b : T) → x ≡ true → (if x then a else b) ≡ a
if_first true a b is = refl
if_first false a b is = absurd (let no : false ≡ true = is in cc)

high_no : (c : ℕ) → scalar c ≡ true → c < 0x10000 → is_high c ≡ false
high_no c is small = grind (arith, nat_tests)

high_yes : (d : ℕ) → d < 0x400 → is_high (0xD800 + d) ≡ true
high_yes d few = grind (arith, nat_tests)

low_yes : (d : ℕ) → d < 0x400 → is_low (0xDC00 + d) ≡ true
low_yes d few = grind (arith, nat_tests)

code_is : (c : ℕ) → 0x10000 ≤ c → c < 0x110000 → pair_code (0xD800 + (c - 0x10000) / 0x400) (0xDC00 + (c - 0x10000) % 0x400) ≡ c
code_is c low high = omega arith

scalar_is : (c : ℕ) → scalar c ≡ true → character_of c ≡ c
scalar_is c is = if_first (scalar c) c replacement is

below_all : (c : ℕ) → scalar c ≡ true → c < 0x110000
below_all c is = elim (scalar_cases c is) [ inl l ↦ omega (arith, l) | inr l ↦ l.1 ]

-- a character of one unit
single : (order : Order) (c : ℕ) (rest : List ℕ) → scalar c ≡ true → c < 0x10000
    → text_from (Wide (first_wide order)) (unit_bytes order c ++ rest) ≡ encode_utf8 c ++ text_from (Wide (first_wide order)) rest
single order c rest is small =
    unit_came order None c rest
    ∙ ap (λ (x : Bool). came (units (record { order = order; high = if x then Some c else None; first = None }) (if x then [] else encode_utf8 (character_of c))) rest) (high_no c is small)
    ∙ ap (λ (d : ℕ). encode_utf8 d ++ text_from (Wide (first_wide order)) rest) (scalar_is c is)

high_came : (order : Order) (u : ℕ) (rest : List ℕ) → is_high u ≡ true
    → text_from (Wide (first_wide order)) (unit_bytes order u ++ rest) ≡ text_from (Wide (at order (Some u))) rest
high_came order u rest is =
    unit_came order None u rest
    ∙ ap (λ (x : Bool). came (units (record { order = order; high = if x then Some u else None; first = None }) (if x then [] else encode_utf8 (character_of u))) rest) is

low_came : (order : Order) (u v : ℕ) (rest : List ℕ) → is_low v ≡ true
    → text_from (Wide (at order (Some u))) (unit_bytes order v ++ rest) ≡ encode_utf8 (character_of (pair_code u v)) ++ text_from (Wide (first_wide order)) rest
low_came order u v rest is =
    unit_came order (Some u) v rest
    ∙ ap (λ (t : Units). came t rest)
    (if_first (is_low v) (units (first_wide order) (encode_utf8 (character_of (pair_code u v))))
    (units (fresh v (at order (Some u))).wide (encode_utf8 replacement ++ (fresh v (at order (Some u))).text)) is)

-- a pair
paired : (order : Order) (c : ℕ) (rest : List ℕ) → scalar c ≡ true → 0x10000 ≤ c
    → text_from (Wide (first_wide order)) ((unit_bytes order (0xD800 + (c - 0x10000) / 0x400) ++ unit_bytes order (0xDC00 + (c - 0x10000) % 0x400)) ++ rest)
    ≡ encode_utf8 c ++ text_from (Wide (first_wide order)) rest
paired order c rest is big =
    let most = below_all c is in
    let h : (c - 0x10000) / 0x400 < 0x400 = omega (arith, most) in
    let l : (c - 0x10000) % 0x400 < 0x400 = omega arith in
    let u = 0xD800 + (c - 0x10000) / 0x400 in
    let v = 0xDC00 + (c - 0x10000) % 0x400 in
    ap (text_from (Wide (first_wide order))) (append_assoc (unit_bytes order u) (unit_bytes order v) rest)
    ∙ high_came order u (unit_bytes order v ++ rest) (high_yes ((c - 0x10000) / 0x400) h)
    ∙ low_came order u v rest (low_yes ((c - 0x10000) % 0x400) l)
    ∙ ap (λ (d : ℕ). encode_utf8 (character_of d) ++ text_from (Wide (first_wide order)) rest) (code_is c big most)
    ∙ ap (λ (d : ℕ). encode_utf8 d ++ text_from (Wide (first_wide order)) rest) (scalar_is c is)

small_is : (c : ℕ) → nat_lt c 0x10000 ≡ true → c < 0x10000
small_is c is = grind (arith, nat_tests)

big_is : (c : ℕ) → nat_lt c 0x10000 ≡ false → 0x10000 ≤ c
big_is c is = grind (arith, nat_tests)

character_by : (x : Bool) (order : Order) (c : ℕ) (rest : List ℕ) → nat_lt c 0x10000 ≡ x → scalar c ≡ true
    → text_from (Wide (first_wide order)) ((if x then unit_bytes order c else unit_bytes order (0xD800 + (c - 0x10000) / 0x400) ++ unit_bytes order (0xDC00 + (c - 0x10000) % 0x400)) ++ rest)
    ≡ encode_utf8 c ++ text_from (Wide (first_wide order)) rest
character_by true order c rest e is = single order c rest is (small_is c e)
character_by false order c rest e is = paired order c rest is (big_is c e)

and-first : (x y : Bool) → (x && y) ≡ true → x ≡ true
and-first true y h = refl
and-first false y h = h

and-second : (x y : Bool) → (x && y) ≡ true → y ≡ true
and-second true y h = h
and-second false y h = absurd (let no : false ≡ true = h in cc)

all_came : (order : Order) (cs : List ℕ) → scalars cs ≡ true → text_from (Wide (first_wide order)) (utf16_all order cs) ≡ encode_utf8_all cs
all_came order [] is = refl
all_came order (c ∷ cs) is =
    character_by (nat_lt c 0x10000) order c (utf16_all order cs) refl (and-first (scalar c) (scalars cs) is)
    ∙ ap (λ (xs : List ℕ). encode_utf8 c ++ xs) (all_came order cs (and-second (scalar c) (scalars cs) is))

pub wide_is_read : WideIsRead
wide_is_read Big cs is = all_came Big cs is
wide_is_read Little cs is = all_came Little cs is

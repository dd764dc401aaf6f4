-- Digits, and a scale's letter after them, are the longest prefix that is an expression, and their value is its.
use Prim.Native.Char.{code}
use Rattle.std.specs.Prelude.{Bool, IfSome, nat_eq, nat_lt, unwrap_or}
use Rattle.std.specs.Ordering.{int_eq}
use Rattle.std.proofs.Common.{◌≡◌, ℕ, zero, suc, ◌+◌, ◌-◌, ◌*◌, ◌/◌, ◌<◌, ◌≤◌, true, false, Option, None, Some, List, [], ◌∷◌, length, drop, get_or, ℤ, pos, unsigned_abs, arith, refl, ap, sym, subst, ◌∙◌}
use Rattle.std.proofs.Math.Seq.{drop-cons}
use Rattle.std.proofs.lemmas.Bool.{le-leb}
use Rattle.std.proofs.lemmas.Int.{ints}
use Rattle.std.proofs.lemmas.List.{drop_all}
use Rattle.std.proofs.lemmas.Nat.{div-mul-add, mul-le}
use Rattle.nr_units.specs.Expression.{truth}
use Rattle.nr_units.specs.Grammar.{letter}
use Rattle.nr_units.specs.LongestPrefix.{nothing_read, read_of, read_on}
use Rattle.nr_units.specs.Prefix.{no_prefix, prefixed}
use Rattle.nr_units.specs.Scan.{Scan, after_byte, capped, in_mode, more_whole, nothing_waits, number_value, outermost, start}
use Rattle.nr_units.specs.Units.{denominator, in_range, nearest, numerator, scaled, with_sign_of}
use Rattle.nr_units.specs.declared.expression.Ctx.{Ctx}
use Rattle.nr_units.specs.declared.expression.Read.{Read}
use Rattle.nr_units.specs.declared.units.Scale.{Scale}
use Rattle.nr_units.specs.declared.units.Scale.TheVariants.{Inch, Centimetre, Pica, VerticalSpace, Em, En, Point, Unit as OneUnit}
use Rattle.nr_units.proofs.Values.{in_range-near, prefixed-none}
use Rattle.nr_settings.specs.Numbers.{context, is_above_zero, is_true_number}
use Rattle.nr_settings.specs.PlainNumbers.{BeginsOperand, IsWhole, ReadsDigits, after_digits, whole}

pub reads_first : (text : List ℕ) → ReadsDigits text 0 0
reads_first text = record {
  first = λ e. refl;
  most = omega arith;
  known = λ c s begins k l longest at. let same : k ≡ l = omega (arith, at) in ap (λ m. read_on c s m longest text) same;
}

-- ---- a digit

whole_same : (w d v e : ℕ) → capped (capped (w * 10) + d) ≡ capped (capped (v * 10) + e) → more_whole w d ≡ more_whole v e
whole_same w d v e same = rw same refl

digit_on : (c : Ctx) (s : Scan) (k : ℕ) (longest : Read) (i n b : ℕ) (bs : List ℕ) → BeginsOperand s → (i ≡ 0 → n ≡ 0) → n ≤ 999 → code "0" ≤ b → b ≤ code "9"
    → read_on c (after_digits s i n) k longest (b ∷ bs) ≡ read_on c (after_digits s (suc i) (10 * n + (b - code "0"))) (k + 1) longest bs
digit_on c s k longest zero n b bs begins first small low high =
    let none : n ≡ 0 = first refl in
    let same : b - code "0" ≡ 10 * n + (b - code "0") = omega (arith, none) in
    begins.takes c k longest b bs low high ∙ ap (λ m. read_on c (whole s m) (k + 1) longest bs) same
digit_on c s k longest (suc i) n b bs begins first small low high =
    let m : ℕ = capped (capped (0 * 10) + n) in
    let same : capped (capped (m * 10) + (b - code "0")) ≡ capped (capped (0 * 10) + (10 * n + (b - code "0"))) = omega (arith, small, high) in
    let step : read_on c (whole s n) k longest (b ∷ bs) ≡ read_on c (outermost (in_mode s.level (more_whole m (b - code "0")))) (k + 1) longest bs = rw (le-leb (code "0") b low, le-leb b (code "9") high) refl in
    step ∙ ap (λ x. read_on c (outermost (in_mode s.level x)) (k + 1) longest bs) (whole_same m (b - code "0") 0 (10 * n + (b - code "0")) same)

pub digit_more : (text : List ℕ) (i n : ℕ) → i < length text → code "0" ≤ get_or text i 0 → get_or text i 0 ≤ code "9" → n ≤ 999 → ReadsDigits text i n
    → ReadsDigits text (i + 1) (10 * n + (get_or text i 0 - code "0"))
digit_more text i n inside low high small reads =
    let b : ℕ = get_or text i 0 in
    let next : suc i ≡ i + 1 = omega arith in
    record {
      first = λ e. absurd (omega (arith, e));
      most = omega (arith, small, high);
      known = λ c s begins k l longest at.
          let place : k + i + 1 ≡ l = omega (arith, at) in
          subst (λ m. read_on c s k longest text ≡ read_on c (after_digits s m (10 * n + (b - code "0"))) l longest (drop m text)) next
          (reads.known c s begins k (k + i) longest refl ∙ ap (read_on c (after_digits s i n) (k + i) longest) (drop-cons text i 0 inside)
          ∙ digit_on c s (k + i) longest i n b (drop (suc i) text) begins reads.first small low high
          ∙ ap (λ m. read_on c (after_digits s (suc i) (10 * n + (b - code "0"))) m longest (drop (suc i) text)) place);
    }

-- at the beginning of a text
begins_text : BeginsOperand start
begins_text = record {
  takes = λ c k longest b bs low high.
      let same : capped (capped (0 * 10) + (b - code "0")) ≡ b - code "0" = omega (arith, high) in
      rw (le-leb (code "0") b low, le-leb b (code "9") high, same) refl;
}

-- of a whole text
from_start : (c : Ctx) (text : List ℕ) (i n : ℕ) → ReadsDigits text i n → read_of c text ≡ read_on c (after_digits start i n) i nothing_read (drop i text)
unfolding read_of
from_start c text i n reads = reads.known c start begins_text 0 i nothing_read (omega arith)

-- no bytes have no value
pub no_bytes : (c : Ctx) (text : List ℕ) → length text ≡ 0 → (read_of c text).value ≡ None
unfolding read_of
no_bytes c [] none = refl
no_bytes c (b ∷ bs) none = absurd (omega (arith, none))

-- ---- the value

-- the nearest unit is exact
nearest_whole : (m : ℕ) → nearest (10000 * m) 10000 ≡ m
nearest_whole m =
    let both : 2 * (10000 * m) + 10000 ≡ m * 20000 + 10000 = omega arith in
    ap (λ k. k / 20000) both ∙ div-mul-add m 20000 10000 (omega arith)

whole_in_range : (n units : ℕ) → n ≤ 9999 → units ≤ 32760 → n * units ≤ 2147483647
whole_in_range n units small most = let product = mul-le n units 9999 32760 small most in omega (arith, product)

scaled_by : (f : ℤ) (d n units : ℕ) → f ≡ pos units → d ≡ 1 → n * units ≤ 2147483647
    → in_range (with_sign_of f (nearest (10000 * n * unsigned_abs f) (10000 * d))) ≡ Some (pos (n * units))
scaled_by f d n units factor divisor near =
    let product : 10000 * n * units ≡ 10000 * (n * units) = grind arith in
    ap (λ x. in_range (with_sign_of x (nearest (10000 * n * unsigned_abs x) (10000 * d)))) factor
    ∙ ap (λ k. in_range (pos (nearest (10000 * n * units) (10000 * k)))) divisor
    ∙ ap (λ k. in_range (pos (nearest k 10000))) product
    ∙ ap (λ k. in_range (pos k)) (nearest_whole (n * units))
    ∙ in_range-near (pos (n * units)) near

-- so many of a scale
pub scaled_whole : (scale : Scale) (v units n : ℕ) → IsWhole scale v units → n ≤ 9999 → scaled (pos v) scale (10000 * n) ≡ Some (pos (n * units))
unfolding scaled
scaled_whole scale v units n whole small =
    scaled_by (numerator (pos v) scale) (denominator scale) n units whole.factor whole.divisor (whole_in_range n units small whole.most)

-- no sign stands in front of them
unsigned_is : (c : Ctx) (scale : Scale) (n : ℕ) (x : ℤ) → scaled c.v scale n ≡ Some x → unsigned_abs x ≤ 2147483647 → number_value c scale nothing_waits n ≡ Some x
unsigned_is c scale n x is near = ap (prefixed no_prefix) is ∙ prefixed-none (Some x) near

-- what was read of them is no more than the number
whole_is : (n : ℕ) → n ≤ 9999 → capped (capped (0 * 10) + n) ≡ n
whole_is n small = omega (arith, small)

-- they end the text
pub digits_value : (c : Ctx) (text : List ℕ) (i n : ℕ) (x : ℤ) → 0 < i → i ≡ length text → ReadsDigits text i n → scaled c.v c.default (10000 * n) ≡ Some x → unsigned_abs x ≤ 2147483647
    → (read_of c text).value ≡ Some x
digits_value c text zero n x some ends reads is near = absurd (omega (arith, some))
digits_value c text (suc i) n x some ends reads is near =
    let none : drop (suc i) text ≡ [] = drop_all (suc i) text (omega (arith, ends)) in
    ap (λ r. r.value) (from_start c text (suc i) n reads ∙ ap (read_on c (whole start n) (suc i) nothing_read) none)
    ∙ ap (λ k. number_value c c.default nothing_waits (10000 * k)) (whole_is n reads.most)
    ∙ unsigned_is c c.default (10000 * n) x is near

-- a letter after them
letter_on : (c : Ctx) (scale : Scale) (i n : ℕ) → (read_on c (whole start n) i nothing_read (letter scale ∷ [])).value ≡ number_value c scale nothing_waits (10000 * capped (capped (0 * 10) + n))
letter_on c Inch i n = refl
letter_on c Centimetre i n = refl
letter_on c Pica i n = refl
letter_on c VerticalSpace i n = refl
letter_on c Em i n = refl
letter_on c En i n = refl
letter_on c Point i n = refl
letter_on c OneUnit i n = refl

-- ends it
pub letter_value : (c : Ctx) (text : List ℕ) (i n : ℕ) (scale : Scale) (x : ℤ) → 0 < i → i + 1 ≡ length text → letter scale ≡ get_or text i 0 → ReadsDigits text i n
    → scaled c.v scale (10000 * n) ≡ Some x → unsigned_abs x ≤ 2147483647 → (read_of c text).value ≡ Some x
letter_value c text zero n scale x some ends is_letter reads is near = absurd (omega (arith, some))
letter_value c text (suc i) n scale x some ends is_letter reads is near =
    let none : drop (suc (suc i)) text ≡ [] = drop_all (suc (suc i)) text (omega (arith, ends)) in
    ap (λ r. r.value) (from_start c text (suc i) n reads ∙ ap (read_on c (whole start n) (suc i) nothing_read) (drop-cons text (suc i) 0 (omega (arith, ends))))
    ∙ ap (λ bs. (read_on c (whole start n) (suc i) nothing_read (get_or text (suc i) 0 ∷ bs)).value) none
    ∙ ap (λ b. (read_on c (whole start n) (suc i) nothing_read (b ∷ [])).value) (sym is_letter)
    ∙ letter_on c scale (suc i) n
    ∙ ap (λ k. number_value c scale nothing_waits (10000 * k)) (whole_is n reads.most)
    ∙ unsigned_is c scale (10000 * n) x is near

-- ---- where that value is there

-- a value that is in range
abbrev pub IsNear : Option ℤ → Type 0
IsNear r = IfSome r (λ x. unsigned_abs x ≤ 2147483647)

pub digits_given : (c : Ctx) (text : List ℕ) (i n : ℕ) → 0 < i → i ≡ length text → ReadsDigits text i n → (r : Option ℤ) → IfSome r (λ x. scaled c.v c.default (10000 * n) ≡ Some x) → IsNear r
    → IfSome r (λ x. (read_of c text).value ≡ Some x)
digits_given c text i n some ends reads None is near = tt
digits_given c text i n some ends reads (Some x) is near = digits_value c text i n x some ends reads is near

pub letter_given : (c : Ctx) (text : List ℕ) (i n : ℕ) (scale : Scale) → 0 < i → i + 1 ≡ length text → letter scale ≡ get_or text i 0 → ReadsDigits text i n
    → (r : Option ℤ) → IfSome r (λ x. scaled c.v scale (10000 * n) ≡ Some x) → IsNear r → IfSome r (λ x. (read_of c text).value ≡ Some x)
letter_given c text i n scale some ends is_letter reads None is near = tt
letter_given c text i n scale some ends is_letter reads (Some x) is near = letter_value c text i n scale x some ends is_letter reads is near

-- ---- two of them compared

-- the signs, and their bytes
pub data Sign : Type 0 where
  ByLess : Sign
  ByGreater : Sign
  ByEqual : Sign

abbrev pub byte_of : Sign → ℕ
byte_of ByLess = code "<"
byte_of ByGreater = code ">"
byte_of ByEqual = code "="

-- whether the comparison holds
abbrev pub compared : Sign → ℕ → ℕ → Bool
compared ByLess n m = nat_lt n m
compared ByGreater n m = nat_lt m n
compared ByEqual n m = nat_eq n m

-- the scan after a sign, where its left side was read
abbrev after_sign : Ctx → ℕ → Sign → Scan
after_sign c n sign = unwrap_or (after_byte c (whole start n) (byte_of sign)) start

-- the value of its left side
abbrev left_value : Ctx → ℕ → Option ℤ
left_value c n = number_value c c.default nothing_waits (10000 * capped (capped (0 * 10) + n))

sign_on : (c : Ctx) (sign : Sign) (i n : ℕ) (bs : List ℕ)
    → read_on c (whole start n) i nothing_read (byte_of sign ∷ bs) ≡ read_on c (after_sign c n sign) (i + 1) (record { value = left_value c n; used = i }) bs
sign_on c ByLess i n bs = refl
sign_on c ByGreater i n bs = refl
sign_on c ByEqual i n bs = refl

begins_right : (c : Ctx) (sign : Sign) (n : ℕ) → BeginsOperand (after_sign c n sign)
begins_right c ByLess n = record {
  takes = λ d k longest b bs low high. let same : capped (capped (0 * 10) + (b - code "0")) ≡ b - code "0" = omega (arith, high) in rw (le-leb (code "0") b low, le-leb b (code "9") high, same) refl;
}
begins_right c ByGreater n = record {
  takes = λ d k longest b bs low high. let same : capped (capped (0 * 10) + (b - code "0")) ≡ b - code "0" = omega (arith, high) in rw (le-leb (code "0") b low, le-leb b (code "9") high, same) refl;
}
begins_right c ByEqual n = record {
  takes = λ d k longest b bs low high. let same : capped (capped (0 * 10) + (b - code "0")) ≡ b - code "0" = omega (arith, high) in rw (le-leb (code "0") b low, le-leb b (code "9") high, same) refl;
}

-- so many units
units_are : (v : ℤ) (n : ℕ) → n ≤ 9999 → scaled v OneUnit (10000 * n) ≡ Some (pos n)
unfolding scaled
units_are v n small = let one : n * 1 ≡ n = omega arith in scaled_by (pos 1) 1 n 1 refl refl (omega (arith, small)) ∙ ap (λ k. Some (pos k)) one

side_is : (c : Ctx) (n : ℕ) → n ≤ 9999 → c.default ≡ OneUnit → left_value c n ≡ Some (pos n)
side_is c n small units =
    ap (λ k. number_value c c.default nothing_waits (10000 * k)) (whole_is n small)
    ∙ ap (λ u. number_value c u nothing_waits (10000 * n)) units
    ∙ unsigned_is c OneUnit (10000 * n) (pos n) (units_are c.v n small) (omega (arith, small))

above_zero_true : (b : Bool) → is_above_zero (truth b) ≡ b
above_zero_true true = refl
above_zero_true false = refl

same_number : (n m : ℕ) → int_eq (pos n) (pos m) ≡ nat_eq n m
same_number n m = grind (arith, ints)

-- what they come to
joined_true : (c : Ctx) (sign : Sign) (n m k : ℕ) (longest : Read) → left_value c n ≡ Some (pos n) → left_value c m ≡ Some (pos m)
    → is_above_zero (read_on c (whole (after_sign c n sign) m) k longest []).value ≡ compared sign n m
joined_true c ByLess n m k longest left right = rw (left, right) (above_zero_true (nat_lt n m))
joined_true c ByGreater n m k longest left right = rw (left, right) (above_zero_true (nat_lt m n))
joined_true c ByEqual n m k longest left right = rw (left, right) (above_zero_true (int_eq (pos n) (pos m)) ∙ same_number n m)

comparison_on : (v : ℕ) (text : List ℕ) (sign : Sign) (i n j m : ℕ) → 0 < i → i < length text → get_or text i 0 ≡ byte_of sign → 0 < j → j ≡ length (drop (suc i) text)
    → ReadsDigits text i n → ReadsDigits (drop (suc i) text) j m → is_true_number v text ≡ compared sign n m
comparison_on v text sign zero n j m some inside is more ends left right = absurd (omega (arith, some))
comparison_on v text sign (suc i) n zero m some inside is more ends left right = absurd (omega (arith, more))
comparison_on v text sign (suc i) n (suc j) m some inside is more ends left right =
    let c : Ctx = context OneUnit v (pos 0) in
    let rest : List ℕ = drop (suc (suc i)) text in
    let none : drop (suc j) rest ≡ [] = drop_all (suc j) rest (omega (arith, ends)) in
    let l : Read = record { value = left_value c n; used = suc i } in
    ap (λ r. is_above_zero r.value)
    (from_start c text (suc i) n left
    ∙ ap (read_on c (whole start n) (suc i) nothing_read) (drop-cons text (suc i) 0 inside)
    ∙ ap (λ b. read_on c (whole start n) (suc i) nothing_read (b ∷ rest)) is
    ∙ sign_on c sign (suc i) n rest
    ∙ right.known c (after_sign c n sign) (begins_right c sign n) (suc i + 1) (suc i + 1 + suc j) l refl
    ∙ ap (read_on c (whole (after_sign c n sign) m) (suc i + 1 + suc j) l) none)
    ∙ joined_true c sign n m (suc i + 1 + suc j) l (side_is c n left.most refl) (side_is c m right.most refl)

-- the right side stands after the sign
pub comparison_is : (v : ℕ) (text afterwards : List ℕ) (sign : Sign) (i n j m : ℕ) → 0 < i → i < length text → get_or text i 0 ≡ byte_of sign → 0 < j → j ≡ length afterwards
    → afterwards ≡ drop (i + 1) text → ReadsDigits text i n → ReadsDigits afterwards j m → is_true_number v text ≡ compared sign n m
comparison_is v text afterwards sign i n j m some inside is more ends rest_is left right =
    let next : i + 1 ≡ suc i = omega arith in
    let rest : afterwards ≡ drop (suc i) text = rest_is ∙ ap (λ k. drop k text) next in
    comparison_on v text sign i n j m some inside is more (ends ∙ ap length rest) left (subst (λ bs. ReadsDigits bs j m) rest right)

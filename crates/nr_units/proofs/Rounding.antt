-- Numbers that are out of range after scaling.
use Rattle.std.proofs.Common.{◌≡◌, ℕ, zero, suc, ◌+◌, ◌-◌, ◌*◌, ◌/◌, ◌^◌, ◌<◌, ◌≤◌, None, ℤ, pos, negsuc, unsigned_abs, min, ◌⊎◌, inl, inr, sym, arith, refl, ap, ◌∙◌}
use Rattle.std.proofs.Math.Nat.{le-div_iff_mul-le, mul-le-mul_left, mul_comm}
use Rattle.std.proofs.lemmas.Bool.Decides.{nat_tests, leb_tells}
use Rattle.nr_units.specs.Units.{nearest, with_sign_of, in_range, scaled, numerator, denominator}
use Rattle.nr_units.specs.declared.units.Scale.{Scale}
use Rattle.nr_units.specs.declared.units.Scale.TheVariants.{Inch, Centimetre, Pica, VerticalSpace, Em, En, Point, Unit as OneUnit}

pub unsigned_abs-with_sign_of : (z : ℤ) (m : ℕ) → unsigned_abs (with_sign_of z m) ≡ m
unsigned_abs-with_sign_of (pos n) m = refl
unsigned_abs-with_sign_of (negsuc n) zero = refl
unsigned_abs-with_sign_of (negsuc n) (suc m) = refl

-- a value too large is none
pub in_range-far : (z : ℤ) → 2147483647 < unsigned_abs z → in_range z ≡ None
in_range-far z h = grind (arith, nat_tests)

-- a quotient is at least what it is of a smaller number
pub nearest-large : (n d : ℕ) → 1 < d → d < 2 ^ 32 → 2 ^ 64 ≤ n → 2147483647 < nearest n d
nearest-large n d low high large =
    let positive : 0 < 2 * d = omega arith in
    let enough : 2147483648 * (2 * d) ≤ 2 * n + d = omega arith in
    let q : 2147483648 ≤ (2 * n + d) / (2 * d) = (le-div_iff_mul-le positive).1 enough in
    omega arith

-- A number is out of range under a scale where its quotient is, and where the product is.
pub scaled-far : (v : ℤ) (scale : Scale) (n : ℕ) (f : ℤ) (a b p q : ℕ) → f ≡ numerator v scale → a ≡ unsigned_abs f → b ≡ denominator scale → p ≡ n * a → q ≡ nearest p (10000 * b) → 2147483647 < q → scaled v scale n ≡ None
unfolding scaled
scaled-far v scale n f a b p q is_f is_a is_b is_p is_q far =
    let m : ℕ = nearest (n * unsigned_abs (numerator v scale)) (10000 * denominator scale) in
    let same : q ≡ m = is_q ∙ ap (λ x. nearest x (10000 * b)) is_p ∙ ap (λ x. nearest (n * x) (10000 * b)) (is_a ∙ ap unsigned_abs is_f) ∙ ap (λ x. nearest (n * unsigned_abs (numerator v scale)) (10000 * x)) is_b in
    let high : 2147483647 < m = omega (arith, same) in
    in_range-far (with_sign_of (numerator v scale) m) (rw (unsigned_abs-with_sign_of (numerator v scale) m) high)

pub scaled-too_large : (v : ℤ) (scale : Scale) (n : ℕ) (f : ℤ) (a b : ℕ) → f ≡ numerator v scale → a ≡ unsigned_abs f → b ≡ denominator scale → 0 < b → b < 128 → (n * a < 2 ^ 64 → ⊥) → scaled v scale n ≡ None
scaled-too_large v scale n f a b is_f is_a is_b low high large =
    let big : 2 ^ 64 ≤ n * a = omega (arith, large) in
    scaled-far v scale n f a b (n * a) (nearest (n * a) (10000 * b)) is_f is_a is_b refl refl
    (nearest-large (n * a) (10000 * b) (omega arith) (omega arith) big)

pub denominator-low : (scale : Scale) → 0 < denominator scale
denominator-low Inch = omega arith
denominator-low Centimetre = omega arith
denominator-low Pica = omega arith
denominator-low VerticalSpace = omega arith
denominator-low Em = omega arith
denominator-low En = omega arith
denominator-low Point = omega arith
denominator-low OneUnit = omega arith

pub denominator-high : (scale : Scale) → denominator scale < 128
denominator-high Inch = omega arith
denominator-high Centimetre = omega arith
denominator-high Pica = omega arith
denominator-high VerticalSpace = omega arith
denominator-high Em = omega arith
denominator-high En = omega arith
denominator-high Point = omega arith
denominator-high OneUnit = omega arith

-- A whole part of 2 ^ 32 or more is out of range, or worth nothing.
far : (n a b : ℕ) → 1 ≤ b → b < 128 → b ≤ a → 42949672950000 ≤ n → 2147483647 < nearest (n * a) (10000 * b)
far n a b low high most large =
    let by_scale : n * b ≤ n * a = mul-le-mul_left n most in
    let by_whole : b * 42949672950000 ≤ b * n = mul-le-mul_left b large in
    let positive : 0 < 2 * (10000 * b) = omega arith in
    let enough : 2147483648 * (2 * (10000 * b)) ≤ 2 * (n * a) + 10000 * b = omega (arith, by_scale, by_whole, mul_comm b n) in
    let q : 2147483648 ≤ (2 * (n * a) + 10000 * b) / (2 * (10000 * b)) = (le-div_iff_mul-le positive).1 enough in
    omega arith

scaled_large : (v : ℤ) (s : Scale) (n : ℕ) → 42949672950000 ≤ n → denominator s ≤ unsigned_abs (numerator v s) → scaled v s n ≡ None
scaled_large v s n large most =
    scaled-far v s n (numerator v s) (unsigned_abs (numerator v s)) (denominator s) (n * unsigned_abs (numerator v s)) (nearest (n * unsigned_abs (numerator v s)) (10000 * denominator s)) refl refl refl refl refl
    (far n (unsigned_abs (numerator v s)) (denominator s) (denominator-low s) (denominator-high s) most large)

-- a scale is at least a unit, or nothing
scale_tells : (v : ℤ) (s : Scale) → (denominator s ≤ unsigned_abs (numerator v s)) ⊎ (unsigned_abs (numerator v s) ≡ 0)
scale_tells v Inch = inl (omega arith)
scale_tells v Centimetre = inl (omega arith)
scale_tells v Pica = inl (omega arith)
scale_tells (pos zero) VerticalSpace = inr refl
scale_tells (pos (suc n)) VerticalSpace = inl (omega arith)
scale_tells (negsuc n) VerticalSpace = inl (omega arith)
scale_tells v Em = inl (omega arith)
scale_tells v En = inl (omega arith)
scale_tells v Point = inl (omega arith)
scale_tells v OneUnit = inl (omega arith)

scaled_nothing : (v : ℤ) (s : Scale) (m n : ℕ) → unsigned_abs (numerator v s) ≡ 0 → scaled v s m ≡ scaled v s n
unfolding scaled
scaled_nothing v s m n none =
    let e : m * unsigned_abs (numerator v s) ≡ n * unsigned_abs (numerator v s) = ap (λ a. m * a) none ∙ omega arith ∙ ap (λ a. n * a) (sym none) in
    ap (λ p. in_range (with_sign_of (numerator v s) (nearest p (10000 * denominator s)))) e

pub scaled-capped : (v : ℤ) (s : Scale) (w f : ℕ) → scaled v s (10000 * min w (2 ^ 32 - 1) + f) ≡ scaled v s (10000 * w + f)
scaled-capped v s w f =
    elim (leb_tells w 4294967295) [
      | inl h ↦ let small = h.1 in ap (scaled v s) (omega arith)
      | inr h ↦ elim (scale_tells v s) [
        | inl most ↦ let large = h.1 in scaled_large v s (10000 * min w (2 ^ 32 - 1) + f) (omega arith) most ∙ sym (scaled_large v s (10000 * w + f) (omega arith) most)
        | inr none ↦ scaled_nothing v s (10000 * min w (2 ^ 32 - 1) + f) (10000 * w + f) none
      ]
    ]

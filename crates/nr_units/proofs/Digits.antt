-- Decimal digits with zeros in front.
use Prim.Native.Char.{code}
use Rattle.std.proofs.Common.{◌≡◌, ℕ, zero, suc, ◌+◌, ◌-◌, ◌^◌, ◌<◌, ◌≤◌, min, max, List, ◌++◌, length, get_or, replicate, arith, refl, ap, sym, ◌∙◌, length-append}
use Rattle.std.proofs.lemmas.List.{length-replicate}
use Rattle.std.specs.Fmt.{decimal}
use Rattle.std.specs.Str.Parse.{AllDigits, digits_value}
use Rattle.std.proofs.lemmas.Fmt.{decimal_is_IsNumeral, decimal_digit, decimal_nonempty, first_decimal}
use Rattle.nr_units.specs.NumberText.{IsArabic, arabic_text}

-- zeros in front are digits and change no value
pub AllDigits-zeros : (k : ℕ) (ds : List ℕ) → AllDigits 10 ds → AllDigits 10 (replicate k (code "0") ++ ds)
AllDigits-zeros zero ds h = h
AllDigits-zeros (suc k) ds h = (omega arith, AllDigits-zeros k ds h)

pub digits_value-zeros : (k : ℕ) (ds : List ℕ) → digits_value 10 (replicate k (code "0") ++ ds) ≡ digits_value 10 ds
digits_value-zeros zero ds = refl
digits_value-zeros (suc k) ds = digits_value-zeros k ds

-- only what fills the places begins with a zero
no_more-zeros : (k w n : ℕ) (ds : List ℕ) → k ≡ w - length ds → (n ≡ 0 → length ds ≡ 1) → (0 < n → code "0" < get_or ds 0 0) → get_or (replicate k (code "0") ++ ds) 0 0 ≡ code "0" → length (replicate k (code "0") ++ ds) ≤ max 1 w
no_more-zeros zero w zero ds is_k none some first = let one = none refl in omega arith
no_more-zeros zero w (suc n) ds is_k none some first =
    let high : code "0" < get_or ds 0 0 = some (omega arith) in
    let low : get_or ds 0 0 ≡ code "0" = first in
    absurd (omega arith)
no_more-zeros (suc k) w n ds is_k none some first =
    omega (arith, length-append (replicate (suc k) (code "0")) ds, length-replicate {A = ℕ} (suc k) (code "0"))

length-decimal_zero : (n : ℕ) → n ≡ 0 → length (decimal n) ≡ 1
length-decimal_zero n e = ap (λ m. length (decimal m)) e ∙ ap length (decimal_digit 0 (omega arith))

pub arabic : (places n k : ℕ) → n < 2 ^ 64 → k ≡ min 9 places - length (decimal n) → IsArabic places n (replicate k (code "0") ++ decimal n)
arabic places n k fits is_k =
    let own = decimal_is_IsNumeral n fits in
    let len : length (replicate k (code "0") ++ decimal n) ≡ k + length (decimal n) = length-append (replicate k (code "0")) (decimal n) ∙ ap (λ m. m + length (decimal n)) (length-replicate {A = ℕ} k (code "0")) in
    record {
      digits = (omega (arith, len, own.0.0), AllDigits-zeros k (decimal n) own.0.1);
      value = digits_value-zeros k (decimal n) ∙ own.1;
      filled = omega (arith, len);
      no_more = no_more-zeros k (min 9 places) n (decimal n) is_k (length-decimal_zero n) (λ h. first_decimal n h fits);
    }

-- one place asks for no zero
pub no_zeros : (places n : ℕ) → places ≤ 1 → n < 2 ^ 64 → 0 ≡ min 9 places - length (decimal n)
no_zeros places n few fits = let some = decimal_nonempty n fits in omega arith

pub arabic_text_plain : (places n : ℕ) → places ≤ 1 → n < 2 ^ 64 → arabic_text places n ≡ decimal n
arabic_text_plain places n few fits = ap (λ k. replicate k (code "0") ++ decimal n) (sym (no_zeros places n few fits))

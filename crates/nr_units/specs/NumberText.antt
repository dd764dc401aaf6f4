-- The texts of numbers: Arabic, roman and alphabetic.
use Prim.Native.Char.{code}
use Rattle.std.specs.Prelude.{◌≡◌, ℕ, zero, suc, ◌==◌, ◌||◌, nat_le, if◌then◌else◌, decimal, ◌+◌, ◌-◌, ◌*◌, ◌/◌, ◌%◌, ◌≤◌, ◌<◌, min, max, List, [], ◌∷◌, ◌++◌, length, ℤ, pos, negsuc, slice_index, replicate, unwrap_or, slice_get}
use Rattle.std.specs.Str.Parse.{IsNumeral, digits_value}
use Rattle.nr_units.specs.declared.number_text.Format.{Format}
use Rattle.nr_units.specs.declared.number_text.Format.TheVariants.{Arabic, LowerRoman, UpperRoman, LowerAlphabetic, UpperAlphabetic}

-- the decimal digits whose value is n, with zeros in front for so many places, of which at most nine count
pub record IsArabic (places n : ℕ) (text : List ℕ) : Type 0 where
  pub digits : IsNumeral 10 text
  pub value : digits_value 10 text ≡ n
  pub filled : min 9 places ≤ length text
  pub no_more : slice_index text 0 ≡ code "0" → length text ≤ max 1 (min 9 places)

-- the ten forms of a roman digit, by its letters for one, five and ten
abbrev pub roman_forms : ℕ → ℕ → ℕ → List (List ℕ)
roman_forms i v x =
    [] ∷ (i ∷ []) ∷ (i ∷ i ∷ []) ∷ (i ∷ i ∷ i ∷ []) ∷ (i ∷ v ∷ [])
    ∷ (v ∷ []) ∷ (v ∷ i ∷ []) ∷ (v ∷ i ∷ i ∷ []) ∷ (v ∷ i ∷ i ∷ i ∷ []) ∷ (i ∷ x ∷ []) ∷ []

abbrev pub roman_digit : ℕ → ℕ → ℕ → ℕ → List ℕ
roman_digit i v x digit = unwrap_or (slice_get (roman_forms i v x) digit) []

-- thousands, hundreds, tens and units; raised is how far the letters stand before the small ones
abbrev pub roman : ℕ → ℕ → List ℕ
roman raised n =
    replicate (n / 1000) (code "m" - raised)
    ++ roman_digit (code "c" - raised) (code "d" - raised) (code "m" - raised) (n / 100 % 10)
    ++ roman_digit (code "x" - raised) (code "l" - raised) (code "c" - raised) (n / 10 % 10)
    ++ roman_digit (code "i" - raised) (code "v" - raised) (code "x" - raised) (n % 10)

-- roman from 1 to 3999, elsewhere Arabic without zeros in front
pub record IsRoman (raised n : ℕ) (text : List ℕ) : Type 0 where
  pub within : 0 < n → n < 4000 → text ≡ roman raised n
  pub none : n ≡ 0 → IsArabic 1 n text
  pub above : 4000 ≤ n → IsArabic 1 n text

-- each byte is one of the 26 letters above before
abbrev pub AreLetters : ℕ → List ℕ → Type 0
AreLetters before [] = Unit {0}
AreLetters before (b ∷ bs) = (before < b) × (b ≤ before + 26) × AreLetters before bs

-- the number in base 26 that letters valued 1 to 26 write after n
abbrev pub letters_value_after : ℕ → ℕ → List ℕ → ℕ
letters_value_after before n [] = n
letters_value_after before n (b ∷ bs) = letters_value_after before (26 * n + (b - before)) bs

-- the letters whose value is n; 0 has the digit
pub record IsAlphabetic (before n : ℕ) (text : List ℕ) : Type 0 where
  pub none : n ≡ 0 → text ≡ code "0" ∷ []
  pub letters : 0 < n → AreLetters before text
  pub value : 0 < n → letters_value_after before 0 text ≡ n

-- the form of a number without a sign
abbrev pub IsForm : Format → ℕ → List ℕ → Type 0
IsForm (Arabic places) n text = IsArabic places n text
IsForm LowerRoman n text = IsRoman 0 n text
IsForm UpperRoman n text = IsRoman (code "a" - code "A") n text
IsForm LowerAlphabetic n text = IsAlphabetic (code "a" - 1) n text
IsForm UpperAlphabetic n text = IsAlphabetic (code "A" - 1) n text

-- the text of a number in a format: a negative one is `-` and the form of its magnitude
abbrev pub IsNumberText : Format → ℤ → List ℕ → Type 0
IsNumberText format (pos n) text = IsForm format n text
IsNumberText format (negsuc n) text = (form : List ℕ) × (text ≡ code "-" ∷ form) × IsForm format (suc n) form

-- new is old and after it a text of which P holds
abbrev pub Appends : List ℕ → List ℕ → (List ℕ → Type 0) → Type 0
Appends old new P = (form : List ℕ) × (new ≡ old ++ form) × P form

-- ---- the same as one text

-- decimal digits, with zeros in front for so many places, of which at most nine count
abbrev pub arabic_text : ℕ → ℕ → List ℕ
arabic_text places n = replicate (min 9 places - length (decimal n)) (code "0") ++ decimal n

-- roman from 1 to 3999, elsewhere Arabic
abbrev pub roman_text : ℕ → ℕ → List ℕ
roman_text raised n = if (n == 0) || nat_le 4000 n then arabic_text 1 n else roman raised n

-- the letters of n, so many at most, before others: the last of them has the rest of n - 1 by 26
abbrev pub letters_before : ℕ → ℕ → ℕ → List ℕ → List ℕ
letters_before zero before n more = more
letters_before (suc most) before n more =
    if n == 0 then more else letters_before most before ((n - 1) / 26) ((before + 1 + (n - 1) % 26) ∷ more)

-- the letters of a number below 26^14
unfoldable pub letters : ℕ → ℕ → List ℕ
letters before n = letters_before 14 before n []

-- 0 has the digit
abbrev pub alphabetic_text : ℕ → ℕ → List ℕ
alphabetic_text before n = if n == 0 then code "0" ∷ [] else letters before n

abbrev pub form_text : Format → ℕ → List ℕ
form_text (Arabic places) n = arabic_text places n
form_text LowerRoman n = roman_text 0 n
form_text UpperRoman n = roman_text (code "a" - code "A") n
form_text LowerAlphabetic n = alphabetic_text (code "a" - 1) n
form_text UpperAlphabetic n = alphabetic_text (code "A" - 1) n

-- a negative number is `-` and the form of its magnitude
abbrev pub number_text : Format → ℤ → List ℕ
number_text format (pos n) = form_text format n
number_text format (negsuc n) = code "-" ∷ form_text format (suc n)

-- The digits and letters of a number are bytes of ASCII that print.
use Prim.Native.Char.{code}
use Rattle.std.specs.Prelude.{replicate, not, min, nat_le, nat_lt, decimal, ◌||◌, ◌&&◌, ◌/◌, ◌%◌}
use Rattle.std.specs.Option.{unwrap_or}
use Rattle.std.specs.List.{All, slice_get}
use Rattle.std.specs.Fmt.{digits, digits_onto, digit_glyph}
use Rattle.std.proofs.lemmas.Bool.{eqb-true, le-leb, lt-ltb}
use Rattle.std.proofs.lemmas.List.Elements.{All-nil, All-cons, All-head, All-tail, All-append, All-replicate}
use Rattle.std.proofs.Common.{◌≡◌, ℕ, zero, suc, ◌+◌, ◌-◌, ◌<◌, ◌≤◌, ◌==◌, Bool, true, false, if◌then◌else◌, List, [], ◌∷◌, ◌++◌, length, ℤ, pos, negsuc, refl, sym, subst, arith}
use Rattle.nr_units.specs.NumberText.{arabic_text, roman_digit, roman_forms, roman, roman_text, letters_before, letters, alphabetic_text, form_text, number_text}
use Rattle.nr_units.specs.declared.number_text.Format.{Format}
use Rattle.nr_units.specs.declared.number_text.Format.TheVariants as formats
use Rattle.nr_settings.specs.Characters.{prints}
use Rattle.nr_laws.proofs.PrintedLines.{either}

-- it prints, and is one of ASCII
abbrev pub IsAscii : ℕ → Type 0
IsAscii b = (prints b && nat_lt b 128) ≡ true

abbrev pub AreAscii : List ℕ → Type 0
AreAscii bs = All IsAscii bs

-- between the blank and the last byte of ASCII
printed-between : (b : ℕ) → 33 ≤ b → b ≤ 126 → IsAscii b
printed-between b low high = by (nat_le (code " ") b) (b == 127) (nat_lt b 128) (le-leb (code " ") b (omega arith)) refl (lt-ltb b 128 (omega arith))
  where
    by : (q r s : Bool) → q ≡ true → (b == 127) ≡ r → s ≡ true → ((q && not r) && s) ≡ true
    by true false true above is low = refl
    by true true s above is low = let same : b ≡ 127 = eqb-true b 127 is in absurd (omega arith)
    by false r s above is low = absurd (let wrong : false ≡ true = above in cc)
    by true false false above is low = absurd (let wrong : false ≡ true = low in cc)

first-is : (c : Bool) (x y : ℕ) → c ≡ true → (if c then x else y) ≡ x
first-is true x y is = refl
first-is false x y is = absurd (let wrong : false ≡ true = is in cc)

digit-printed : (n : ℕ) → n < 10 → IsAscii (digit_glyph false n)
digit-printed n small =
    let glyph : digit_glyph false n ≡ 48 + n = first-is (nat_lt n 10) (48 + n) (87 + n) (lt-ltb n 10 small) in
    subst IsAscii (sym glyph) (printed-between (48 + n) (omega arith) (omega arith))

digits-printed : (k n : ℕ) (more : List ℕ) → AreAscii more → AreAscii (digits_onto k 10 false n more)
digits-printed zero n more h = h
digits-printed (suc k) n more h =
    let glyph = digit_glyph false (n % 10) in
    let more-bytes : AreAscii (glyph ∷ more) = All-cons IsAscii glyph more (digit-printed (n % 10) (omega arith)) h in
    either AreAscii (n / 10 == 0) (glyph ∷ more) (digits_onto k 10 false (n / 10) (glyph ∷ more)) more-bytes (digits-printed k (n / 10) (glyph ∷ more) more-bytes)

pub decimal-printed : (n : ℕ) → AreAscii (decimal n)
unfolding digits
decimal-printed n = digits-printed 64 n [] (All-nil IsAscii)

arabic-printed : (places n : ℕ) → AreAscii (arabic_text places n)
arabic-printed places n =
    All-append IsAscii (replicate (min 9 places - length (decimal n)) (code "0")) (decimal n) (All-replicate IsAscii (min 9 places - length (decimal n)) (code "0") refl) (decimal-printed n)

-- the n-th of a list of texts, or none
nth : (ts : List (List ℕ)) (n : ℕ) → All AreAscii ts → AreAscii (unwrap_or (slice_get ts n) [])
nth [] n h = All-nil IsAscii
nth (t ∷ ts) zero h = All-head AreAscii t ts h
nth (t ∷ ts) (suc n) h = nth ts n (All-tail AreAscii t ts h)

cons : (b : ℕ) (bs : List ℕ) → IsAscii b → AreAscii bs → AreAscii (b ∷ bs)
cons b bs is h = All-cons IsAscii b bs is h

longer : (t : List ℕ) (ts : List (List ℕ)) → AreAscii t → All AreAscii ts → All AreAscii (t ∷ ts)
longer t ts is h = All-cons AreAscii t ts is h

ten : (a b c d e f g h i j : List ℕ) → AreAscii a → AreAscii b → AreAscii c → AreAscii d → AreAscii e → AreAscii f → AreAscii g → AreAscii h → AreAscii i → AreAscii j
    → All AreAscii (a ∷ b ∷ c ∷ d ∷ e ∷ f ∷ g ∷ h ∷ i ∷ j ∷ [])
ten a b c d e f g h i j ka kb kc kd ke kf kg kh ki kj =
    let t9 : All AreAscii (j ∷ []) = longer j [] kj (All-nil AreAscii) in
    let t8 : All AreAscii (i ∷ j ∷ []) = longer i (j ∷ []) ki t9 in
    let t7 : All AreAscii (h ∷ i ∷ j ∷ []) = longer h (i ∷ j ∷ []) kh t8 in
    let t6 : All AreAscii (g ∷ h ∷ i ∷ j ∷ []) = longer g (h ∷ i ∷ j ∷ []) kg t7 in
    let t5 : All AreAscii (f ∷ g ∷ h ∷ i ∷ j ∷ []) = longer f (g ∷ h ∷ i ∷ j ∷ []) kf t6 in
    let t4 : All AreAscii (e ∷ f ∷ g ∷ h ∷ i ∷ j ∷ []) = longer e (f ∷ g ∷ h ∷ i ∷ j ∷ []) ke t5 in
    let t3 : All AreAscii (d ∷ e ∷ f ∷ g ∷ h ∷ i ∷ j ∷ []) = longer d (e ∷ f ∷ g ∷ h ∷ i ∷ j ∷ []) kd t4 in
    let t2 : All AreAscii (c ∷ d ∷ e ∷ f ∷ g ∷ h ∷ i ∷ j ∷ []) = longer c (d ∷ e ∷ f ∷ g ∷ h ∷ i ∷ j ∷ []) kc t3 in
    longer a (b ∷ c ∷ d ∷ e ∷ f ∷ g ∷ h ∷ i ∷ j ∷ []) ka (longer b (c ∷ d ∷ e ∷ f ∷ g ∷ h ∷ i ∷ j ∷ []) kb t2)

forms-printed : (i v x : ℕ) → IsAscii i → IsAscii v → IsAscii x → All AreAscii (roman_forms i v x)
forms-printed i v x is vs xs =
    let none = All-nil IsAscii in
    let one = cons i [] is none in
    let two = cons i (i ∷ []) is one in
    let three = cons i (i ∷ i ∷ []) is two in
    ten ([]) (i ∷ []) (i ∷ i ∷ []) (i ∷ i ∷ i ∷ []) (i ∷ v ∷ []) (v ∷ []) (v ∷ i ∷ []) (v ∷ i ∷ i ∷ []) (v ∷ i ∷ i ∷ i ∷ []) (i ∷ x ∷ []) none one two three
    (cons i (v ∷ []) is (cons v [] vs none)) (cons v [] vs none) (cons v (i ∷ []) vs one) (cons v (i ∷ i ∷ []) vs two) (cons v (i ∷ i ∷ i ∷ []) vs three)
    (cons i (x ∷ []) is (cons x [] xs none))

roman_digit-printed : (i v x n : ℕ) → IsAscii i → IsAscii v → IsAscii x → AreAscii (roman_digit i v x n)
roman_digit-printed i v x n is vs xs = nth (roman_forms i v x) n (forms-printed i v x is vs xs)

raised-printed : (b raised : ℕ) → raised ≤ 32 → 65 ≤ b → b ≤ 122 → IsAscii (b - raised)
raised-printed b raised few low high = printed-between (b - raised) (omega arith) (omega arith)

roman-printed : (raised n : ℕ) → raised ≤ 32 → AreAscii (roman raised n)
roman-printed raised n few =
    let m = raised-printed (code "m") raised few (omega arith) (omega arith) in
    let c = raised-printed (code "c") raised few (omega arith) (omega arith) in
    let d = raised-printed (code "d") raised few (omega arith) (omega arith) in
    let x = raised-printed (code "x") raised few (omega arith) (omega arith) in
    let l = raised-printed (code "l") raised few (omega arith) (omega arith) in
    let v = raised-printed (code "v") raised few (omega arith) (omega arith) in
    let i = raised-printed (code "i") raised few (omega arith) (omega arith) in
    let thousands = replicate (n / 1000) (code "m" - raised) in
    let hundreds = roman_digit (code "c" - raised) (code "d" - raised) (code "m" - raised) (n / 100 % 10) in
    let tens = roman_digit (code "x" - raised) (code "l" - raised) (code "c" - raised) (n / 10 % 10) in
    let units = roman_digit (code "i" - raised) (code "v" - raised) (code "x" - raised) (n % 10) in
    let first : AreAscii (thousands ++ hundreds) =
    All-append IsAscii thousands hundreds (All-replicate IsAscii (n / 1000) (code "m" - raised) m)
    (roman_digit-printed (code "c" - raised) (code "d" - raised) (code "m" - raised) (n / 100 % 10) c d m) in
    let second : AreAscii (thousands ++ hundreds ++ tens) =
    All-append IsAscii (thousands ++ hundreds) tens first (roman_digit-printed (code "x" - raised) (code "l" - raised) (code "c" - raised) (n / 10 % 10) x l c) in
    All-append IsAscii (thousands ++ hundreds ++ tens) units second (roman_digit-printed (code "i" - raised) (code "v" - raised) (code "x" - raised) (n % 10) i v x)

roman_text-printed : (raised n : ℕ) → raised ≤ 32 → AreAscii (roman_text raised n)
roman_text-printed raised n few = either AreAscii ((n == 0) || nat_le 4000 n) (arabic_text 1 n) (roman raised n) (arabic-printed 1 n) (roman-printed raised n few)

letters-printed : (k before n : ℕ) (more : List ℕ) → 64 ≤ before → before ≤ 96 → AreAscii more → AreAscii (letters_before k before n more)
letters-printed zero before n more low high h = h
letters-printed (suc k) before n more low high h =
    let b = before + 1 + (n - 1) % 26 in
    let more-bytes : AreAscii (b ∷ more) = cons b more (printed-between b (omega arith) (omega arith)) h in
    either AreAscii (n == 0) more (letters_before k before ((n - 1) / 26) (b ∷ more)) h (letters-printed k before ((n - 1) / 26) (b ∷ more) low high more-bytes)

alphabetic-printed : (before n : ℕ) → 64 ≤ before → before ≤ 96 → AreAscii (alphabetic_text before n)
unfolding letters
alphabetic-printed before n low high =
    either AreAscii (n == 0) (code "0" ∷ []) (letters_before 14 before n []) (cons (code "0") [] refl (All-nil IsAscii)) (letters-printed 14 before n [] low high (All-nil IsAscii))

form-printed : (format : Format) (n : ℕ) → AreAscii (form_text format n)
form-printed (formats.Arabic places) n = arabic-printed places n
form-printed formats.LowerRoman n = roman_text-printed 0 n (omega arith)
form-printed formats.UpperRoman n = roman_text-printed (code "a" - code "A") n (omega arith)
form-printed formats.LowerAlphabetic n = alphabetic-printed (code "a" - 1) n (omega arith) (omega arith)
form-printed formats.UpperAlphabetic n = alphabetic-printed (code "A" - 1) n (omega arith) (omega arith)

pub number-printed : (format : Format) (z : ℤ) → AreAscii (number_text format z)
number-printed format (pos n) = form-printed format n
number-printed format (negsuc n) = cons (code "-") (form_text format (suc n)) refl (form-printed format (suc n))

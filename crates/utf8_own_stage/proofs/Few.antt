-- How many bytes come of a cluster, and of what stands before it.
use Rattle.std.proofs.Common.{◌≡◌, ℕ, ◌+◌, ◌-◌, ◌≤◌, List, [], ◌∷◌, ◌++◌, length, Bool, true, false, ◌==◌, ◌&&◌, nat_le, nat_lt, if◌then◌else◌, Option, None, Some, refl, sym, ◌∙◌, subst, codes, arith, rules}
use Rattle.std.proofs.lemmas.Bool.Decides.{nat_tests}
use Rattle.preconv_characters.specs.declared.target.Target.TheVariants.{Ascii}
use Rattle.preconv_characters.specs.Likeness.{ascii_like, before_nul, beyond_like, box_like, byte_or, code_emitted, cut, is_blank, is_mark, likeness, plain_letter, sign_like, sign_text, text_in, text_or_code, text_or_word, word_text}
use Rattle.preconv_characters.specs.Numbers.{is_within}
use Rattle.utf8_own_characters.specs.declared.table.Code.{Code}
use Rattle.utf8_own_characters.specs.declared.table.Code.TheVariants.{One, Two}
use Rattle.utf8_own_characters.specs.Breaking.{is_east_asian}
use Rattle.utf8_own_characters.proofs.Tests.{and_first, and_second, if_not}
use Rattle.utf8_own_stage.specs.declared.points.Place.{Place}
use Rattle.utf8_own_stage.specs.declared.points.Point.TheVariants.{Nothing, Cut, Waited, Joint}
use Rattle.utf8_own_stage.specs.declared.points.Waiting.{Waiting}
use Rattle.utf8_own_stage.specs.declared.points.Waiting.TheVariants as waiting
use Rattle.utf8_own_stage.specs.Coding.{coded_by, kept}
use Rattle.utf8_own_stage.specs.Points.{is_waiting, joins, may_cut, point, text_of, waiting_text, waiting_with}

-- ---- what a character from U+2E80 on looks like

few_if : (x : Bool) (n : ℕ) (xs ys : List ℕ) → length xs ≤ n → length ys ≤ n → length (if x then xs else ys) ≤ n
few_if true n xs ys p q = p
few_if false n xs ys p q = q

few_or : (o : Option ℕ) (n : ℕ) (xs : List ℕ) → 1 ≤ n → length xs ≤ n → length (byte_or o xs) ≤ n
few_or None n xs some p = p
few_or (Some b) n xs some p = some

ascii_by : (q r s t u v w x : Bool) (b : ℕ)
    → length (if q then codes "\\ " else if r then codes "\\(dq" else if s then codes "\\(aq" else if t then codes "\\&." else if u then codes "\\&=" else if v then codes "\\&_" else if w then codes "\\(rs" else if x then b ∷ [] else []) ≤ 10
ascii_by true r s t u v w x b = omega arith
ascii_by false true s t u v w x b = omega arith
ascii_by false false true t u v w x b = omega arith
ascii_by false false false true u v w x b = omega arith
ascii_by false false false false true v w x b = omega arith
ascii_by false false false false false true w x b = omega arith
ascii_by false false false false false false true x b = omega arith
ascii_by false false false false false false false true b = omega arith
ascii_by false false false false false false false false b = omega arith

ascii_few : (b : ℕ) → length (ascii_like b) ≤ 10
ascii_few b = ascii_by (b == 32) (b == 34) (b == 39) (b == 46) (b == 61) (b == 95) (b == 92) (is_within 33 126 b) b

code_by : (x y : Bool) (a b c d e f g : ℕ) → length ((60 ∷ 85 ∷ 43 ∷ []) ++ (if x then a ∷ [] else []) ++ (if y then b ∷ [] else []) ++ (c ∷ d ∷ e ∷ f ∷ g ∷ [])) ≤ 10
code_by true true a b c d e f g = omega arith
code_by true false a b c d e f g = omega arith
code_by false true a b c d e f g = omega arith
code_by false false a b c d e f g = omega arith

code_few : (c : ℕ) → length (code_emitted c) ≤ 10
code_few c = code_by (nat_le 1048576 c) (nat_le 65536 c) _ _ _ _ _ _ _

fits : ℕ → Option (List ℕ) → Bool
fits n None = true
fits n (Some text) = nat_le (length text) n

all_fit : ℕ → List (ℕ × List ℕ) → Bool
all_fit n [] = true
all_fit n (entry ∷ entries) = nat_le (length entry.1) n && all_fit n entries

fit_by : (x : Bool) (n : ℕ) (text : List ℕ) (o : Option (List ℕ)) → nat_le (length text) n ≡ true → fits n o ≡ true → fits n (if x then Some text else o) ≡ true
unfolding fits
fit_by true n text o p q = p
fit_by false n text o p q = q

fit_in : (n c : ℕ) (table : List (ℕ × List ℕ)) → all_fit n table ≡ true → fits n (text_in table c) ≡ true
unfolding fits all_fit
fit_in n c [] all = refl
fit_in n c (entry ∷ entries) all =
    fit_by (entry.0 == c) n entry.1 (text_in entries c) (and_first (nat_le (length entry.1) n) (all_fit n entries) all)
    (fit_in n c entries (and_second (nat_le (length entry.1) n) (all_fit n entries) all))

signs_fit : (c : ℕ) → fits 10 (sign_text c) ≡ true
unfolding sign_text all_fit
signs_fit c = search (fit_in 10 c, rules)

all_below : ℕ → List (ℕ × List ℕ) → Bool
all_below n [] = true
all_below n (entry ∷ entries) = nat_lt entry.0 n && all_below n entries

differs : (a n c : ℕ) → nat_lt a n ≡ true → nat_le n c ≡ true → (a == c) ≡ false
differs a n c p q = grind (arith, nat_tests)

none_in : (n c : ℕ) (table : List (ℕ × List ℕ)) → all_below n table ≡ true → nat_le n c ≡ true → text_in table c ≡ None
unfolding all_below
none_in n c [] all beyond = refl
none_in n c (entry ∷ entries) all beyond =
    if_not (entry.0 == c) (Some entry.1) (text_in entries c) (differs entry.0 n c (and_first (nat_lt entry.0 n) (all_below n entries) all) beyond)
    ∙ none_in n c entries (and_second (nat_lt entry.0 n) (all_below n entries) all) beyond

words_below : (c : ℕ) → nat_le 0x2E80 c ≡ true → word_text c ≡ None
unfolding word_text all_below
words_below c beyond = search (none_in 0x2E80 c, rules)

before_few : (xs : List ℕ) → length (before_nul xs) ≤ length xs
before_few [] = omega arith
before_few (b ∷ bs) = let rest = before_few bs in few_if (b == 0) (length (b ∷ bs)) [] (b ∷ before_nul bs) (omega arith) (omega (arith, rest))

is_few : (xs : List ℕ) (n : ℕ) → nat_le (length xs) n ≡ true → length (before_nul xs) ≤ n
is_few xs n e = let most : length xs ≤ n = grind (arith, nat_tests) in let less = before_few xs in omega (arith, most, less)

word_few : (c : ℕ) (o : Option (List ℕ)) (u : Option (List ℕ)) → fits 10 o ≡ true → u ≡ None → u ≡ word_text c → length (text_or_word c o) ≤ 10
unfolding fits
word_few c (Some text) u fit none is = is_few text 10 fit
word_few c None u fit none is = subst (λ (w : Option (List ℕ)). length (text_or_code c w) ≤ 10) (sym none ∙ is) (code_few c)

sign_few : (c : ℕ) → nat_le 0x2E80 c ≡ true → length (sign_like c) ≤ 10
sign_few c beyond =
    few_if (is_within 12352 64255 c) 10 (code_emitted c) (text_or_word c (sign_text c)) (code_few c)
    (word_few c (sign_text c) (word_text c) (signs_fit c) (words_below c beyond) refl)

beyond_few : (c : ℕ) → nat_le 0x2E80 c ≡ true → length (beyond_like c) ≤ 10
unfolding beyond_like
beyond_few c beyond =
    few_if (is_mark c) 10 _ _ (omega arith) (few_if (is_blank c) 10 _ _ (omega arith) (few_if (is_within 65281 65374 c) 10 _ _ (ascii_few (c - 65248))
    (few_or (plain_letter c) 10 _ (omega arith) (few_or (box_like c) 10 _ (omega arith) (sign_few c beyond)))))

likeness_few : (c : ℕ) → nat_le 0x2E80 c ≡ true → length (likeness Ascii c) ≤ 10
likeness_few c beyond =
    few_if (nat_lt c 128) 10 _ _ (ascii_few c) (few_if (c == cut) 10 _ _ (omega arith) (beyond_few c beyond))

pub coded_few : (o : Option Code) (c : ℕ) → nat_le 0x2E80 c ≡ true → length (coded_by o c) ≤ 10
coded_few None c beyond = likeness_few c beyond
coded_few (Some (One b)) c beyond = omega arith
coded_few (Some (Two lead trail)) c beyond = omega arith

-- ---- what stands before a character, and its bytes

cut_few : (d : Bool) (n : ℕ) → n ≤ 21 → length (text_of waiting.Nothing (if d then Cut else Nothing)) + n ≤ 26
cut_few true n few = omega (arith, few)
cut_few false n few = omega (arith, few)

line_few : (x j : Bool) (n : ℕ) → n ≤ 21 → length (text_of waiting.Newline (if x then Nothing else if j then Joint else Waited)) + n ≤ 26
line_few true j n few = omega (arith, few)
line_few false true n few = omega (arith, few)
line_few false false n few = omega (arith, few)

escape_few : (x : Bool) (n : ℕ) → n ≤ 21 → length (text_of waiting.Escape (if x then Nothing else Waited)) + n ≤ 26
escape_few true n few = omega (arith, few)
escape_few false n few = omega (arith, few)

name_few : (x : Bool) (n : ℕ) → n ≤ 21 → length (text_of waiting.Name (if x then Nothing else Waited)) + n ≤ 26
name_few true n few = omega (arith, few)
name_few false n few = omega (arith, few)

font_few : (x a b : Bool) (name n : ℕ) → n ≤ 21 → (a ≡ true → n ≤ 10)
    → length (text_of (waiting.Font name) (if x then Nothing else if a && b then Joint else Waited)) + n ≤ 26
font_few true a b name n few fewer = omega (arith, few)
font_few false true true name n few fewer = let f = fewer refl in omega (arith, f)
font_few false true false name n few fewer = omega (arith, few)
font_few false false b name n few fewer = omega (arith, few)

text_few : (w : Waiting) (d : Bool) (c n : ℕ) → n ≤ 21 → (nat_le 0x2E80 c ≡ true → n ≤ 10)
    → length (text_of w (if is_waiting w then (if is_waiting (waiting_with w c) then Nothing else if joins w c then Joint else Waited) else if d then Cut else Nothing)) + n ≤ 26
text_few waiting.Nothing d c n few fewer = cut_few d n few
text_few waiting.Newline d c n few fewer = line_few (is_waiting (waiting_with waiting.Newline c)) (is_east_asian c) n few
text_few waiting.Escape d c n few fewer = escape_few (is_waiting (waiting_with waiting.Escape c)) n few
text_few waiting.Name d c n few fewer = name_few (is_waiting (waiting_with waiting.Name c)) n few
text_few (waiting.Font name) d c n few fewer = font_few (is_waiting (waiting_with (waiting.Font name) c)) (nat_le 0x2E80 c) (is_east_asian c) name n few fewer

pub waiting_few : (w : Waiting) → length (waiting_text w) ≤ 4
waiting_few waiting.Nothing = omega arith
waiting_few waiting.Newline = omega arith
waiting_few waiting.Escape = omega arith
waiting_few waiting.Name = omega arith
waiting_few (waiting.Font name) = omega arith

-- where something waits then, nothing is put
kept_few : (w : Waiting) (bytes : List ℕ) (n : ℕ) → n ≤ 8 → n + length (kept (is_waiting w) bytes) ≤ 26
    → n + length (kept (is_waiting w) bytes) + length (waiting_text w) ≤ 26
kept_few waiting.Nothing bytes n p q = omega (arith, q)
kept_few waiting.Newline bytes n p q = omega (arith, p)
kept_few waiting.Escape bytes n p q = omega (arith, p)
kept_few waiting.Name bytes n p q = omega (arith, p)
kept_few (waiting.Font name) bytes n p q = omega (arith, p)

-- all of it, with what waits after that
pub all_few : (p : Place) (c : ℕ) (w : Waiting) (bytes : List ℕ) → length (kept (is_waiting w) bytes) ≤ 21
    → (nat_le 0x2E80 c ≡ true → length (kept (is_waiting w) bytes) ≤ 10) → length (text_of p.waits (point p c)) ≤ 8
    → length (text_of p.waits (point p c)) + length (kept (is_waiting w) bytes) + length (waiting_text w) ≤ 26
all_few p c w bytes few fewer short =
    kept_few w bytes (length (text_of p.waits (point p c))) short (text_few p.waits (may_cut p c) c (length (kept (is_waiting w) bytes)) few fewer)

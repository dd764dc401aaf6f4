-- Letters of three bytes that go on a text line are taken one after another, and go out as they come.
use Rattle.std.proofs.Common.{◌≡◌, ℕ, ◌+◌, ◌-◌, ◌/◌, ◌%◌, ◌<◌, ◌≤◌, List, [], ◌∷◌, ◌++◌, length, take, drop, get_or, Bool, true, false, not, nat_lt, ◌&&◌, if◌then◌else◌, ◌⊎◌, inl, inr, refl, sym, ◌∙◌, ap, arith}
use Rattle.std.proofs.Math.Seq.{take-add}
use Rattle.std.proofs.lemmas.Bool.{cases_lt, le-ltb}
use Rattle.std.proofs.lemmas.Bool.Decides.{nat_tests}
use Rattle.std.proofs.lemmas.List.{get_or-drop}
use Rattle.preconv_characters.specs.declared.marks.Mark.{Mark}
use Rattle.preconv_characters.specs.declared.marks.Mark.TheVariants.{Letter}
use Rattle.preconv_characters.specs.declared.said.Said.TheVariants.{Character as Says}
use Rattle.preconv_characters.specs.declared.target.Target.{Target}
use Rattle.preconv_characters.specs.declared.target.Target.TheVariants.{Utf8}
use Rattle.preconv_characters.specs.Marks.{is_closer, is_letter as is_script, mark_by, mark_of, wide_mark}
use Rattle.preconv_characters.specs.Numbers.{is_within}
use Rattle.preconv_characters.specs.Saying.{bytes_of}
use Rattle.preconv_characters.specs.Targets.{is_long, is_utf8}
use Rattle.preconv_characters.proofs.Long.{long_bytes, long-sent, three}
use Rattle.preconv_lines.specs.declared.half.Half.{Half}
use Rattle.preconv_lines.specs.declared.half.Escape.{Escape}
use Rattle.preconv_lines.specs.declared.half.Escape.TheVariants as escapes
use Rattle.preconv_lines.specs.Half.{is_plain}
use Rattle.preconv_lines.specs.Hyphens.{placed}
use Rattle.preconv_lines.specs.Offering.{is_raw}
use Rattle.preconv_lines.proofs.WideText.{wide_offered}
use Rattle.preconv_converter.specs.declared.reader.Reader.{Reader}
use Rattle.preconv_converter.specs.Letters.{GoOut, KeepsLetters, begins_letter, is_letter, last_mark, mark_after}
use Rattle.preconv_converter.specs.Reading.{Emitted, emitted, fed, is_second, is_tail, is_three, preceded, then_emitted, three_code, with_half}
use Rattle.preconv_converter.specs.Runs.{goes_on_text}
use Rattle.preconv_converter.proofs.AtOnce.{no_closer, placed_line, placed_open, placed_twice, text_step}
use Rattle.preconv_converter.proofs.Characters.{last}
use Rattle.preconv_converter.proofs.Hearing.{wide_heard}
use Rattle.preconv_converter.proofs.Plain.{and-first, and-second}
use Rattle.preconv_converter.proofs.Reading.{emitted-eq, fed-append}
use Rattle.preconv_converter.proofs.WholeTaken.{Within, three_fed, within}

-- ---- its bytes

is_within_end : (a b c : ℕ) → is_letter a b c ≡ true → is_tail c ≡ true
is_within_end a b c e = and-second (is_within 227 239 a && is_second a b) (is_tail c) e

first_of : (a b c : ℕ) → is_letter a b c ≡ true → Within 227 239 a
first_of a b c e = within 227 239 a (and-first (is_within 227 239 a) (is_second a b) (and-first (is_within 227 239 a && is_second a b) (is_tail c) e))

second_of : (a b c : ℕ) → is_letter a b c ≡ true → is_second a b ≡ true
second_of a b c e = and-second (is_within 227 239 a) (is_second a b) (and-first (is_within 227 239 a && is_second a b) (is_tail c) e)

second_low : (a b : ℕ) → is_second a b ≡ true → 128 ≤ b
second_low a b e = grind (arith, nat_tests)

second_high : (a b : ℕ) → is_second a b ≡ true → b ≤ 191
second_high a b e = grind (arith, nat_tests)

-- no half of a pair of UTF-16
second_cut : (a b : ℕ) → is_second a b ≡ true → a ≡ 237 → b ≤ 159
second_cut a b e is = grind (arith, nat_tests)

three_is : (a b c : ℕ) → is_letter a b c ≡ true → is_three a b c ≡ true
three_is a b c e = grind (arith, nat_tests)

record Bytes (a b c : ℕ) : Type 0 where
  low : 227 ≤ a
  high : a ≤ 239
  second : 128 ≤ b
  below : b ≤ 191
  cut : a ≡ 237 → b ≤ 159
  third : 128 ≤ c
  end : c ≤ 191

bytes_in : (a b c : ℕ) → is_letter a b c ≡ true → Bytes a b c
bytes_in a b c e =
    let first = first_of a b c e in
    let last = within 128 191 c (is_within_end a b c e) in
    record {
      low = first.low;
      high = first.high;
      second = second_low a b (second_of a b c e);
      below = second_high a b (second_of a b c e);
      cut = second_cut a b (second_of a b c e);
      third = last.low;
      end = last.high;
    }

-- ---- its number

code_low : (a b c : ℕ) → Bytes a b c → 0x3000 ≤ three_code a b c
code_low a b c s =
    let low = s.low in
    let high = s.high in omega (arith, low, high)

code_by : (a b c : ℕ) → Bytes a b c → (three_code a b c ≤ 0xD7FF) ⊎ (0xE000 ≤ three_code a b c)
code_by a b c s =
    let low = s.low in
    let high = s.high in
    let second = s.second in
    let below = s.below in
    elim (cases_lt a 237) [
      | inl l ↦ inl (omega (arith, l, low))
      | inr l ↦ elim (cases_lt 237 a) [
        | inl m ↦ inr (omega (arith, m, high))
        | inr m ↦ (let is : a ≡ 237 = omega arith in let cut = s.cut is in inl (omega (arith, is, cut, second)))
      ]
    ]

code_high : (a b c : ℕ) → Bytes a b c → three_code a b c ≤ 0xFFFF
code_high a b c s = let high = s.high in omega (arith, high)

long_by : (n : ℕ) → 0x3000 ≤ n → n ≤ 0xFFFF → (n ≤ 0xD7FF) ⊎ (0xE000 ≤ n) → is_long n ≡ true
long_by n low high (inl l) = grind (arith, nat_tests)
long_by n low high (inr l) = grind (arith, nat_tests)

long_is : (a b c : ℕ) → Bytes a b c → is_long (three_code a b c) ≡ true
long_is a b c s = long_by (three_code a b c) (code_low a b c s) (code_high a b c s) (code_by a b c s)

first_same : (a b c : ℕ) → 227 ≤ a → a ≤ 239 → 224 + three_code a b c / 4096 ≡ a
first_same a b c l h = omega arith

second_same : (a b c : ℕ) → 128 ≤ b → b ≤ 191 → 128 + (three_code a b c / 64) % 64 ≡ b
second_same a b c l h = omega arith

third_same : (a b c : ℕ) → 128 ≤ c → c ≤ 191 → 128 + three_code a b c % 64 ≡ c
third_same a b c l h = omega arith

cons_three : {a b c x y z : ℕ} → a ≡ x → b ≡ y → c ≡ z → a ∷ b ∷ c ∷ [] ≡ x ∷ y ∷ z ∷ []
cons_three p q e = cc

three_same : (a b c : ℕ) → Bytes a b c → three (three_code a b c) ≡ a ∷ b ∷ c ∷ []
three_same a b c s = cons_three (first_same a b c s.low s.high) (second_same a b c s.second s.below) (third_same a b c s.third s.end)

-- ---- what comes of it

letter_mark : (c : ℕ) → 0x3000 ≤ c → wide_mark c ≡ Letter
letter_mark c l = let e : is_script c ≡ true = grind (arith, nat_tests) in ap (λ (x : Bool). mark_by x c) e

said : (t : Target) (a b c : ℕ) → Bytes a b c → t ≡ Utf8 → bytes_of t (Says (three_code a b c)) ≡ a ∷ b ∷ c ∷ []
said t a b c s is =
    let n = three_code a b c in
    sym (long-sent t n (long_is a b c s) (ap is_utf8 is)) ∙ sym (long_bytes n (long_is a b c s)) ∙ three_same a b c s

plain_is : (e : Escape) → is_plain e ≡ true → e ≡ escapes.Plain
plain_is escapes.Plain p = refl
plain_is e p = absurd (let no : false ≡ true = p in cc)

pub letter_fed : (a b c : ℕ) (r : Reader) → is_letter a b c ≡ true → KeepsLetters r
    → fed r (a ∷ b ∷ c ∷ []) ≡ emitted (with_half (placed Letter r.half) r) (a ∷ b ∷ c ∷ []) 1
letter_fed a b c r e keeps =
    let s = bytes_in a b c e in
    let n = three_code a b c in
    let h = placed (wide_mark n) r.half in
    let plain = plain_is r.half.escape (and-first (is_plain r.half.escape) (not r.half.translating) keeps.free) in
    three_fed a b c r (three_is a b c e) (ap is_raw keeps.line) keeps.pending
    ∙ wide_heard n r h (wide_offered n r.half plain keeps.line)
    ∙ ap (λ (bytes : List ℕ). emitted (with_half h r) bytes 1) (said r.table a b c s keeps.table)
    ∙ ap (λ (m : Mark). emitted (with_half (placed m r.half) r) (a ∷ b ∷ c ∷ []) 1) (letter_mark n (code_low a b c s))

-- ---- one at the beginning of some bytes

last_letter : (c : ℕ) → 128 ≤ c → mark_after c ≡ Letter
last_letter c l = ap (λ (x : Bool). if x then mark_of c else Letter) (le-ltb c 128 l)

ascii_mark : (b : ℕ) → goes_on_text b ≡ true → mark_after b ≡ mark_of b
ascii_mark b p = let e : nat_lt b 128 ≡ true = grind (arith, nat_tests) in ap (λ (x : Bool). if x then mark_of b else Letter) e

third_of : (a b c : ℕ) → is_letter a b c ≡ true → 128 ≤ c
third_of a b c e = (bytes_in a b c e).third

pub letter_goes : (bs : List ℕ) → begins_letter bs ≡ true → GoOut 3 bs 1
letter_goes [] e = absurd (let no : false ≡ true = e in cc)
letter_goes (a ∷ []) e = absurd (let no : false ≡ true = e in cc)
letter_goes (a ∷ b ∷ []) e = absurd (let no : false ≡ true = e in cc)
letter_goes (a ∷ b ∷ c ∷ bs) e = λ r keeps.
    letter_fed a b c r e keeps
    ∙ ap (λ (m : Mark). emitted (with_half (placed m r.half) r) (a ∷ b ∷ c ∷ []) 1) (sym (last_letter c (third_of a b c e)))

pub letter_quiet : (bs : List ℕ) → begins_letter bs ≡ true → is_closer (last_mark 3 bs) ≡ false
letter_quiet [] e = absurd (let no : false ≡ true = e in cc)
letter_quiet (a ∷ []) e = absurd (let no : false ≡ true = e in cc)
letter_quiet (a ∷ b ∷ []) e = absurd (let no : false ≡ true = e in cc)
letter_quiet (a ∷ b ∷ c ∷ bs) e = ap is_closer (last_letter c (third_of a b c e))

pub letter_long : (bs : List ℕ) → begins_letter bs ≡ true → 3 ≤ length bs
letter_long [] e = absurd (let no : false ≡ true = e in cc)
letter_long (a ∷ []) e = absurd (let no : false ≡ true = e in cc)
letter_long (a ∷ b ∷ []) e = absurd (let no : false ≡ true = e in cc)
letter_long (a ∷ b ∷ c ∷ bs) e = omega arith

pub byte_goes : (bs : List ℕ) → 0 < length bs → goes_on_text (get_or bs 0 0) ≡ true → GoOut 1 bs 1
byte_goes [] l e = absurd (omega arith)
byte_goes (b ∷ bs) l e = λ r keeps.
    last b r _ (text_step b r keeps.pending keeps.free keeps.line e)
    ∙ ap (λ (m : Mark). emitted (with_half (placed m r.half) r) (b ∷ []) 1) (sym (ascii_mark b e))

pub byte_quiet : (bs : List ℕ) → goes_on_text (get_or bs 0 0) ≡ true → is_closer (last_mark 1 bs) ≡ false
byte_quiet bs e = ap is_closer (ascii_mark (get_or bs 0 0) e) ∙ no_closer (get_or bs 0 0) e

-- ---- one after another

placed_keeps : (m : Mark) (r : Reader) → KeepsLetters r → KeepsLetters (with_half (placed m r.half) r)
placed_keeps m r keeps = record {
  table = keeps.table;
  pending = keeps.pending;
  line = placed_line m r.half ∙ keeps.line;
  free = placed_open m r.half ∙ keeps.free;
}

last_at : (n m : ℕ) (bs : List ℕ) → 0 < m → last_mark m (drop n bs) ≡ last_mark (n + m) bs
last_at n m bs some =
    let e : n + (m - 1) ≡ n + m - 1 = omega arith in
    ap mark_after (get_or-drop n bs (m - 1) 0 ∙ ap (λ (k : ℕ). get_or bs k 0) e)

pub GoOut-more : (n m k : ℕ) (bs : List ℕ) → 0 < m → GoOut n bs k → GoOut m (drop n bs) 1 → is_closer (last_mark m (drop n bs)) ≡ false
    → GoOut (n + m) bs (k + 1)
GoOut-more n m k bs some f g quiet = λ r keeps.
    let xs = take n bs in
    let ys = take m (drop n bs) in
    let x = last_mark n bs in
    let y = last_mark m (drop n bs) in
    let s = with_half (placed x r.half) r in
    let whole : take (n + m) bs ≡ xs ++ ys = take-add n m bs in
    ap (fed r) whole
    ∙ fed-append r xs ys
    ∙ ap (λ (u : Emitted). then_emitted u (λ v. fed v ys)) (f r keeps)
    ∙ ap (preceded xs k) (g s (placed_keeps x r keeps))
    ∙ emitted-eq _ _ _ _ _ _ (ap (λ (h : Half). with_half h r) (placed_twice x y r.half quiet ∙ ap (λ (z : Mark). placed z r.half) (last_at n m bs some)))
    (sym whole) refl

-- A run is taken at once: what is half read then is known by its last byte.
use Prim.Native.Char.{code}
use Rattle.std.proofs.Common.{◌≡◌, ℕ, zero, suc, ◌+◌, ◌-◌, ◌<◌, ◌≤◌, List, [], ◌∷◌, length, get_or, Bool, true, false, not, ◌==◌, ◌&&◌, ◌||◌, nat_lt, if◌then◌else◌, refl, sym, ◌∙◌, ap, subst, add-one, arith}
use Rattle.std.proofs.lemmas.Bool.Decides.{nat_tests}
use Rattle.std.proofs.lemmas.List.Sums.{prefix_len_passes, prefix_len-le-length}
use Rattle.preconv_lines.specs.declared.half.Half.{Half}
use Rattle.preconv_lines.specs.declared.half.Line.{Line}
use Rattle.preconv_lines.specs.declared.half.Line.TheVariants as lines
use Rattle.preconv_characters.specs.declared.marks.Before.{Before}
use Rattle.preconv_characters.specs.declared.marks.Before.TheVariants.{Character, Argument}
use Rattle.preconv_characters.specs.declared.marks.Mark.{Mark}
use Rattle.preconv_characters.specs.declared.marks.Mark.TheVariants.{Letter, Opening, Quote as QuoteMark}
use Rattle.preconv_characters.specs.declared.marks.Mark.TheVariants.{Stop, Closing, Closed, Other}
use Rattle.preconv_converter.specs.declared.reader.Reader.{Reader}
use Rattle.preconv_converter.specs.declared.reader.Pending.TheVariants.{Nothing}
use Rattle.preconv_lines.specs.Half.{is_plain, is_open}
use Rattle.preconv_characters.specs.Marks.{mark_of, followed, is_ascii_letter, is_opening, is_stop}
use Rattle.preconv_characters.specs.Marks.{is_closing, is_closer, has_ended, mark_after}
use Rattle.preconv_lines.specs.Hyphens.{placed, gone_by, turns_hyphens, closes, carriage_return, line_after}
use Rattle.preconv_characters.specs.declared.words.Words.{Words}
use Rattle.preconv_characters.specs.declared.words.Place.{Place}
use Rattle.preconv_characters.specs.declared.words.Place.TheVariants.{Quoted}
use Rattle.preconv_characters.specs.declared.words.Class.{Class}
use Rattle.preconv_characters.specs.declared.words.Class.TheVariants.{Space, Quote, Other as AnyClass}
use Rattle.preconv_characters.specs.Words.{class_of, goes_on_at, goes_on_with, goes_on_with_space, spaced_at}
use Rattle.preconv_characters.specs.Words.{after_space, is_ninth, words_at}
use Rattle.preconv_lines.specs.Offering.{is_raw, may_pass, is_as_is, is_as_is_at, line_on, line_taken}
use Rattle.preconv_lines.specs.Offering.{taken_as_is}
use Rattle.preconv_converter.specs.Reading.{emitted, with_half, read}
use Rattle.preconv_converter.specs.Passing.{Passes}
use Rattle.preconv_converter.specs.Runs.{goes_on_text, goes_on_word, goes_on_after, may_close, run_at}
use Rattle.preconv_converter.specs.Runs.{run_len, last_before, after_run}
use Rattle.preconv_converter.proofs.TextRuns.{run_goes, run_within}
use Rattle.preconv_converter.proofs.Plain.{and-first, and-second, quoted_space, read_as_is, Passes-more}

-- ---- bytes that only go on

pub is_ascii : (b : ℕ) → goes_on_text b ≡ true → nat_lt b 127 ≡ true
is_ascii b p = grind (arith, nat_tests)

pub may_go : (b : ℕ) → goes_on_text b ≡ true → may_pass b ≡ true
may_go b p = grind (arith, nat_tests)

pub no_return : (b : ℕ) → goes_on_text b ≡ true → (b == carriage_return) ≡ false
no_return b p = grind (arith, nat_tests)

no_quote : (b : ℕ) → goes_on_text b ≡ true → (b == code "\"") ≡ false
no_quote b p = grind (arith, nat_tests)

no_closing : (b : ℕ) → goes_on_text b ≡ true → is_closing b ≡ false
no_closing b p = grind (arith, nat_tests)

pub no_backslash : (b : ℕ) → goes_on_text b ≡ true → (b == code "\\") ≡ false
no_backslash b p = grind (arith, nat_tests)

pub no_hyphen : (b : ℕ) → goes_on_text b ≡ true → (b == code "-") ≡ false
no_hyphen b p = grind (arith, nat_tests)

pub no_newline : (b : ℕ) → goes_on_text b ≡ true → (b == code "\n") ≡ false
no_newline b p = grind (arith, nat_tests)

-- what may close a sentence

closer_goes : (b : ℕ) → may_close b ≡ true → may_pass b ≡ true
closer_goes b p = grind (arith, nat_tests)

closer_backslash : (b : ℕ) → may_close b ≡ true → (b == code "\\") ≡ false
closer_backslash b p = grind (arith, nat_tests)

closer_hyphen : (b : ℕ) → may_close b ≡ true → (b == code "-") ≡ false
closer_hyphen b p = grind (arith, nat_tests)

closer_newline : (b : ℕ) → may_close b ≡ true → (b == code "\n") ≡ false
closer_newline b p = grind (arith, nat_tests)

-- a byte of a run is of text, or may close a sentence after no stop
data Goes (a b : ℕ) : Type 0 where
  Plainly : goes_on_text b ≡ true → Goes a b
  Closes : may_close b ≡ true → is_stop a ≡ false → Goes a b

not_true : (x : Bool) → not x ≡ true → x ≡ false
not_true false e = refl
not_true true e = absurd (let no : false ≡ true = e in cc)

goes_by : (x y z : Bool) (a b : ℕ) → goes_on_text b ≡ x → may_close b ≡ y → is_stop a ≡ z → (x || (y && not z)) ≡ true → Goes a b
goes_by true y z a b e f g p = Plainly e
goes_by false true false a b e f g p = Closes f g
goes_by false true true a b e f g p = absurd (let no : false ≡ true = p in cc)
goes_by false false z a b e f g p = absurd (let no : false ≡ true = p in cc)

goes : (a b : ℕ) → goes_on_after a b ≡ true → Goes a b
goes a b p = goes_by (goes_on_text b) (may_close b) (is_stop a) a b refl refl refl p

run_goes_out : (a b : ℕ) → Goes a b → may_pass b ≡ true
run_goes_out a b (Plainly p) = may_go b p
run_goes_out a b (Closes p q) = closer_goes b p

run_backslash : (a b : ℕ) → Goes a b → (b == code "\\") ≡ false
run_backslash a b (Plainly p) = no_backslash b p
run_backslash a b (Closes p q) = closer_backslash b p

run_hyphen : (a b : ℕ) → Goes a b → (b == code "-") ≡ false
run_hyphen a b (Plainly p) = no_hyphen b p
run_hyphen a b (Closes p q) = closer_hyphen b p

run_newline : (a b : ℕ) → Goes a b → (b == code "\n") ≡ false
run_newline a b (Plainly p) = no_newline b p
run_newline a b (Closes p q) = closer_newline b p

-- in a line of this kind, after another byte
run_in : Line → ℕ → ℕ → Bool
run_in lines.Text a b = goes_on_after a b
run_in lines.Request a b = goes_on_after a b
run_in lines.Stored a b = goes_on_after a b
run_in (lines.Words words) a b = goes_on_word words b
run_in line a b = false

is_run : (l : Line) (a b : ℕ) → run_in l a b ≡ true → Goes a b
unfolding run_in
is_run lines.Text a b p = goes a b p
is_run lines.Request a b p = goes a b p
is_run lines.Stored a b p = goes a b p
is_run (lines.Words words) a b p = Plainly (and-first (goes_on_text b) (goes_on_with (class_of b) words) p)
is_run line a b p = absurd (let no : false ≡ true = p in cc)

not_raw : (l : Line) (a b : ℕ) → run_in l a b ≡ true → is_raw l ≡ false
unfolding run_in
not_raw lines.Text a b p = refl
not_raw lines.Request a b p = refl
not_raw lines.Stored a b p = refl
not_raw (lines.Words words) a b p = refl
not_raw line a b p = absurd (let no : false ≡ true = p in cc)

space_stays : (x : Bool) (y : Class) (words : Words) → goes_on_at words.place (if x then Space else y) ≡ true → (if x then words_at (after_space words.place) words else words) ≡ words
space_stays true y words p = ap (λ (q : Place). words_at q words) (quoted_space words.place p)
space_stays false y words p = refl

stays : (l : Line) (a b : ℕ) → run_in l a b ≡ true → line_on l b ≡ l
unfolding run_in
stays lines.Text a b p = refl
stays lines.Request a b p = refl
stays lines.Stored a b p = refl
stays (lines.Words words) a b p =
    ap lines.Words (space_stays (b == code " ") (if b == code "\"" then Quote else AnyClass) words (and-second (goes_on_text b) (goes_on_with (class_of b) words) p))
stays line a b p = absurd (let no : false ≡ true = p in cc)

same_line : (l : Line) (a b : ℕ) → run_in l a b ≡ true → line_taken l b ≡ l
same_line l a b p =
    ap (λ (x : Bool). if x then lines.Start else line_on l b) (run_newline a b (is_run l a b p)) ∙ stays l a b p

or-true : (x : Bool) → (x || true) ≡ true
or-true true = refl
or-true false = refl

spaced_on : (place : Place) (ninth : Bool) → goes_on_at place Space ≡ true → (if ninth then goes_on_at place Space else spaced_at place) ≡ true
spaced_on Quoted true p = refl
spaced_on Quoted false p = refl
spaced_on place ninth p = absurd (let no : false ≡ true = p in cc)

spaces_by : (x : Bool) (y : Class) (words : Words) → goes_on_at words.place (if x then Space else y) ≡ true
    → (if x then goes_on_with_space words else goes_on_at words.place (if x then Space else y)) ≡ true
spaces_by true y words p = spaced_on words.place (is_ninth words) p
spaces_by false y words p = p

as_is_at : (l : Line) (a b : ℕ) (h : Half) → run_in l a b ≡ true → is_as_is_at l b h ≡ true
unfolding run_in
as_is_at lines.Request a b h p = refl
as_is_at lines.Stored a b h p = refl
as_is_at lines.Text a b h p =
    let kind = goes a b p in
    ap (λ (x : Bool). (not (turns_hyphens h) || not x) && (not (closes h) || not (b == code "\n"))) (run_hyphen a b kind)
    ∙ ap (λ (x : Bool). x && (not (closes h) || not (b == code "\n"))) (or-true (not (turns_hyphens h)))
    ∙ ap (λ (x : Bool). not (closes h) || not x) (run_newline a b kind)
    ∙ or-true (not (closes h))
as_is_at (lines.Words words) a b h p =
    let text = and-first (goes_on_text b) (goes_on_with (class_of b) words) p in
    let on = and-second (goes_on_text b) (goes_on_with (class_of b) words) p in
    ap (λ (x : Bool). if x then not (is_ninth words) else if b == code " " then goes_on_with_space words else not (b == code "-") && goes_on_with (class_of b) words) (no_newline b text)
    ∙ ap (λ (x : Bool). if b == code " " then goes_on_with_space words else not x && goes_on_with (class_of b) words) (no_hyphen b text)
    ∙ spaces_by (b == code " ") (if b == code "\"" then Quote else AnyClass) words on
as_is_at line a b h p = absurd (let no : false ≡ true = p in cc)

as_is : (l : Line) (a b : ℕ) (h : Half) → h.line ≡ l → is_open h ≡ true → run_in l a b ≡ true → is_as_is b h ≡ true
as_is l a b h line free p =
    let kind = is_run l a b p in
    ap (λ (x : Bool). x && not (b == code "\\") && is_open h && is_as_is_at h.line b h) (run_goes_out a b kind)
    ∙ ap (λ (x : Bool). not x && is_open h && is_as_is_at h.line b h) (run_backslash a b kind)
    ∙ ap (λ (x : Bool). x && is_as_is_at h.line b h) free
    ∙ ap (λ (m : Line). is_as_is_at m b h) line
    ∙ as_is_at l a b h p

-- ---- what stands before the next character is known by the last one

-- where the last one closes no sentence
and-false : (x y : Bool) → y ≡ false → (x && y) ≡ false
and-false true y e = e
and-false false y e = refl

after_any : (x y : Mark) → is_closer y ≡ false → mark_after x y ≡ y
after_any x y e = ap (λ (z : Bool). if z then Closed else y) (and-false (has_ended x) (is_closer y) e)

followed_twice : (x y : Mark) (b : Before) → is_closer y ≡ false → followed y (followed x b) ≡ followed y b
followed_twice x y Argument e = refl
followed_twice x y (Character z) e = ap Character (after_any (mark_after z x) y e ∙ sym (after_any z y e))

closer_by : (letter quote opening stop closing : Bool) → quote ≡ false → closing ≡ false
    → is_closer (if letter then Letter else if quote then QuoteMark else if opening then Opening else if stop then Stop else if closing then Closing else Other) ≡ false
closer_by true quote opening stop closing p q = refl
closer_by false true opening stop closing p q = absurd (let no : true ≡ false = p in cc)
closer_by false false true stop closing p q = refl
closer_by false false false true closing p q = refl
closer_by false false false false true p q = absurd (let no : true ≡ false = q in cc)
closer_by false false false false false p q = refl

pub no_closer : (b : ℕ) → goes_on_text b ≡ true → is_closer (mark_of b) ≡ false
no_closer b p = closer_by (is_ascii_letter b) (b == code "\"") (is_opening b) (is_stop b) (is_closing b) (no_quote b p) (no_closing b p)

abbrev pub placed_as : Bool → Mark → Half → Half
placed_as m x h = if m then record h { before = followed x h.before } else h

twice_by : (m : Bool) (x y : Mark) (h : Half) → h.manual ≡ m → is_closer y ≡ false → placed y (placed_as m x h) ≡ placed_as m y h
twice_by true x y h e last =
    ap (λ (z : Bool). if z then record h { before = followed y (followed x h.before) } else record h { before = followed x h.before }) e
    ∙ ap (λ (w : Before). record h { before = w }) (followed_twice x y h.before last)
twice_by false x y h e last = ap (λ (z : Bool). if z then record h { before = followed y h.before } else h) e

pub placed_twice : (x y : Mark) (h : Half) → is_closer y ≡ false → placed y (placed x h) ≡ placed y h
placed_twice x y h last = twice_by h.manual x y h refl last

line_by : (m : Bool) (x : Mark) (h : Half) → (placed_as m x h).line ≡ h.line
line_by true x h = refl
line_by false x h = refl

pub placed_line : (x : Mark) (h : Half) → (placed x h).line ≡ h.line
placed_line x h = line_by h.manual x h

escape_by : (m : Bool) (x : Mark) (h : Half) → is_plain (placed_as m x h).escape ≡ is_plain h.escape
escape_by true x h = refl
escape_by false x h = refl

pub placed_escape : (x : Mark) (h : Half) → is_plain (placed x h).escape ≡ is_plain h.escape
placed_escape x h = escape_by h.manual x h

open_by : (m : Bool) (x : Mark) (h : Half) → is_open (placed_as m x h) ≡ is_open h
open_by true x h = refl
open_by false x h = refl

pub placed_open : (x : Mark) (h : Half) → is_open (placed x h) ≡ is_open h
placed_open x h = open_by h.manual x h

-- in the midst of a line
taken_is : (b : ℕ) (h : Half) → (b == code "\n") ≡ false → line_taken h.line b ≡ h.line → taken_as_is b h ≡ placed (mark_of b) h
taken_is b h line same =
    ap (λ (l : Line). gone_by b (record h { line = l })) same
    ∙ ap (λ (x : Bool). if x then line_after h else placed (mark_of b) h) line

-- ---- what stands before the next character is the last byte of a run

ended_by : (letter quote opening stop closing : Bool) → stop ≡ false
    → has_ended (if letter then Letter else if quote then QuoteMark else if opening then Opening else if stop then Stop else if closing then Closing else Other) ≡ false
ended_by true quote opening stop closing p = refl
ended_by false true opening stop closing p = refl
ended_by false false true stop closing p = refl
ended_by false false false true closing p = absurd (let no : true ≡ false = p in cc)
ended_by false false false false true p = refl
ended_by false false false false false p = refl

false-and : (x y : Bool) → x ≡ false → (x && y) ≡ false
false-and false y e = refl
false-and true y e = absurd (let no : true ≡ false = e in cc)

no_end : (a b : ℕ) → Goes a b → (has_ended (mark_of a) && is_closer (mark_of b)) ≡ false
no_end a b (Plainly p) = and-false (has_ended (mark_of a)) (is_closer (mark_of b)) (no_closer b p)
no_end a b (Closes p q) =
    false-and (has_ended (mark_of a)) (is_closer (mark_of b)) (ended_by (is_ascii_letter a) (a == code "\"") (is_opening a) (is_stop a) (is_closing a) q)

last_by : Bool → Mark → Half → Half
last_by m x h = if m then record h { before = last_before x h.before } else h

last_followed : (x y : Mark) (b : Before) → (has_ended x && is_closer y) ≡ false → followed y (last_before x b) ≡ last_before y b
last_followed x y Argument e = refl
last_followed x y (Character z) e = ap (λ (w : Bool). Character (if w then Closed else y)) e

first_followed : (y : Mark) (b : Before) → is_closer y ≡ false → followed y b ≡ last_before y b
first_followed y Argument e = refl
first_followed y (Character z) e = ap Character (after_any z y e)

first_by : (m : Bool) (y : Mark) (h : Half) → is_closer y ≡ false → placed_as m y h ≡ last_by m y h
unfolding last_by
first_by true y h e = ap (λ (w : Before). record h { before = w }) (first_followed y h.before e)
first_by false y h e = refl

next_by : (m : Bool) (x y : Mark) (h : Half) → h.manual ≡ m → (has_ended x && is_closer y) ≡ false → placed y (last_by m x h) ≡ last_by m y h
unfolding last_by
next_by true x y h e last =
    ap (λ (z : Bool). if z then record h { before = followed y (last_before x h.before) } else record h { before = last_before x h.before }) e
    ∙ ap (λ (w : Before). record h { before = w }) (last_followed x y h.before last)
next_by false x y h e last = ap (λ (z : Bool). if z then record h { before = followed y h.before } else h) e

last_line : (m : Bool) (x : Mark) (h : Half) → (last_by m x h).line ≡ h.line
unfolding last_by
last_line true x h = refl
last_line false x h = refl

last_open : (m : Bool) (x : Mark) (h : Half) → is_open (last_by m x h) ≡ is_open h
unfolding last_by
last_open true x h = refl
last_open false x h = refl

-- ---- a run

run_step : (a b : ℕ) (l : Line) (r : Reader) → r.pending ≡ Nothing → is_open r.half ≡ true → r.half.line ≡ l → run_in l a b ≡ true
    → read b r ≡ emitted (with_half (placed (mark_of b) r.half) r) (b ∷ []) 1
run_step a b l r none free line p =
    let on : line_taken r.half.line b ≡ r.half.line = ap (λ (m : Line). line_taken m b) line ∙ same_line l a b p ∙ sym line in
    read_as_is b r none (ap is_raw line ∙ not_raw l a b p) (as_is l a b r.half line free p)
    ∙ ap (λ (h : Half). emitted (with_half h r) (b ∷ []) 1) (taken_is b r.half (run_newline a b (is_run l a b p)) on)

text_goes : (b : ℕ) → goes_on_text b ≡ true → run_in lines.Text (code ".") b ≡ true
unfolding run_in
text_goes b p = ap (λ (x : Bool). x || (may_close b && not (is_stop (code ".")))) p

-- a byte that only goes on a text line, whatever stands before it
pub text_step : (b : ℕ) (r : Reader) → r.pending ≡ Nothing → is_open r.half ≡ true → r.half.line ≡ lines.Text → goes_on_text b ≡ true
    → read b r ≡ emitted (with_half (placed (mark_of b) r.half) r) (b ∷ []) 1
text_step b r none free line p = run_step (code ".") b lines.Text r none free line (text_goes b p)

plainly : (x y : Bool) → (x || (y && false)) ≡ true → x ≡ true
plainly true y p = refl
plainly false true p = absurd (let no : false ≡ true = p in cc)
plainly false false p = absurd (let no : false ≡ true = p in cc)

-- where a stop may stand before it
first_text : (l : Line) (b : ℕ) → run_in l (code ".") b ≡ true → goes_on_text b ≡ true
unfolding run_in
first_text lines.Text b p = plainly (goes_on_text b) (may_close b) p
first_text lines.Request b p = plainly (goes_on_text b) (may_close b) p
first_text lines.Stored b p = plainly (goes_on_text b) (may_close b) p
first_text (lines.Words words) b p = and-first (goes_on_text b) (goes_on_with (class_of b) words) p
first_text line b p = absurd (let no : false ≡ true = p in cc)

run_first : (b : ℕ) (l : Line) (r : Reader) → r.pending ≡ Nothing → is_open r.half ≡ true → r.half.line ≡ l → run_in l (code ".") b ≡ true
    → read b r ≡ emitted (with_half (after_run b r.half) r) (b ∷ []) 1
unfolding last_by
run_first b l r none free line p =
    run_step (code ".") b l r none free line p
    ∙ ap (λ (h : Half). emitted (with_half h r) (b ∷ []) 1) (first_by r.half.manual (mark_of b) r.half (no_closer b (first_text l b p)))

run_next : (a b : ℕ) (l : Line) (r : Reader) → r.pending ≡ Nothing → is_open r.half ≡ true → r.half.line ≡ l → run_in l a b ≡ true
    → read b (with_half (after_run a r.half) r) ≡ emitted (with_half (after_run b r.half) r) (b ∷ []) 1
unfolding last_by
run_next a b l r none free line p =
    let m = r.half.manual in
    let x = mark_of a in
    let s = with_half (after_run a r.half) r in
    run_step a b l s none (last_open m x r.half ∙ free) (last_line m x r.half ∙ line) p
    ∙ ap (λ (h : Half). emitted (with_half h r) (b ∷ []) 1) (next_by m x (mark_of b) r.half refl (no_end a b (is_run l a b p)))

run_passes : (n : ℕ) (bs : List ℕ) (l : Line) (r : Reader) → r.pending ≡ Nothing → is_open r.half ≡ true → r.half.line ≡ l
    → ((i : ℕ) → i < n + 1 → run_in l (get_or (code "." ∷ bs) i 0) (get_or bs i 0) ≡ true) → n < length bs
    → Passes (n + 1) bs r (with_half (after_run (get_or bs n 0) r.half) r)
run_passes zero bs l r none free line goes within =
    Passes-more r r (with_half (after_run (get_or bs 0 0) r.half) r) bs 0 refl within
    (run_first (get_or bs 0 0) l r none free line (goes 0 (omega arith)))
run_passes (suc n) bs l r none free line goes within =
    let s = with_half (after_run (get_or bs n 0) r.half) r in
    let P : ℕ → Type 0 = λ k. Passes k bs r s in
    let before : Passes (suc n) bs r s =
    subst P (add-one n) (run_passes n bs l r none free line (λ i below. goes i (omega arith)) (omega arith)) in
    Passes-more r s (with_half (after_run (get_or bs (suc n) 0) r.half) r) bs (suc n) before within
    (run_next (get_or bs n 0) (get_or bs (suc n) 0) l r none free line (goes (suc n) (omega arith)))

run_at-goes : (l : Line) (bs : List ℕ) (i : ℕ) → i < run_at l bs → run_in l (get_or (code "." ∷ bs) i 0) (get_or bs i 0) ≡ true
unfolding run_in
run_at-goes lines.Text bs i h = run_goes (code ".") bs i h
run_at-goes lines.Request bs i h = run_goes (code ".") bs i h
run_at-goes lines.Stored bs i h = run_goes (code ".") bs i h
run_at-goes (lines.Words words) bs i h = prefix_len_passes (goes_on_word words) bs i 0 h
run_at-goes line bs i h = absurd (omega arith)

run_at-within : (l : Line) (bs : List ℕ) → run_at l bs ≤ length bs
run_at-within lines.Text bs = run_within (code ".") bs
run_at-within lines.Request bs = run_within (code ".") bs
run_at-within lines.Stored bs = run_within (code ".") bs
run_at-within (lines.Words words) bs = prefix_len-le-length (goes_on_word words) bs
run_at-within line bs = omega arith

run_plain : (x : Bool) (l : Line) (bs : List ℕ) → 0 < (if x then run_at l bs else 0) → x ≡ true
run_plain true l bs some = refl
run_plain false l bs some = absurd (omega arith)

pub run_all : (n : ℕ) (bs : List ℕ) (r : Reader) → r.pending ≡ Nothing → n ≡ run_len bs r.half → 0 < n
    → Passes n bs r (with_half (after_run (get_or bs (n - 1) 0) r.half) r)
run_all n bs r none is some =
    let l = r.half.line in
    let has : 0 < run_len bs r.half = subst (λ (k : ℕ). 0 < k) is some in
    let free = run_plain (is_open r.half) l bs has in
    let all : n ≡ run_at l bs = is ∙ ap (λ (x : Bool). if x then run_at l bs else 0) free in
    let within : run_at l bs ≤ length bs = run_at-within l bs in
    let back : n - 1 + 1 ≡ n = omega arith in
    let P : ℕ → Type 0 = λ k. Passes k bs r (with_half (after_run (get_or bs (n - 1) 0) r.half) r) in
    subst P back (run_passes (n - 1) bs l r none free refl
    (λ i below. run_at-goes l bs i (omega arith)) (omega arith))

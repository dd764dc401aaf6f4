-- Copied elements pay for what the reader makes of them: 8 for one that is taken, whether it is the next item or a `\`.
use Prim.Native.Char.{code}
use Rattle.std.specs.Prelude.{nat_lt, ◌&&◌, ◌||◌, not, length, slice_index}
use Rattle.std.proofs.Common.{◌≡◌, ℕ, ◌+◌, ◌≤◌, ◌==◌, Bool, true, false, if◌then◌else◌, None, Some, refl, arith}
use Rattle.std.proofs.lemmas.Bool.{ltb-false, eqb-false}
use Rattle.nr_reading.specs.declared.mode.PendingAct.TheVariants as pending_acts
use Rattle.nr_reading.specs.declared.mode.Escape.{Escape}
use Rattle.nr_reading.specs.declared.mode.Escape.TheVariants as escapes
use Rattle.nr_reading.specs.declared.mode.Mode.{Mode}
use Rattle.nr_reading.specs.declared.mode.Mode.TheVariants as modes
use Rattle.nr_reading.specs.declared.mode.Reading.{Reading}
use Rattle.nr_reading.specs.declared.mode.Signs.{Signs}
use Rattle.nr_reading.specs.declared.notes.Condition.{Condition}
use Rattle.nr_reading.specs.declared.notes.Defining.{Defining}
use Rattle.nr_reading.specs.declared.notes.Notes.{Notes}
use Rattle.nr_reading.specs.declared.spelled.Spelled.{Spelled}
use Rattle.nr_reading.specs.Step.{Step}
use Rattle.nr_reading.specs.Conditions.{begins_number, read_condition_byte, read_condition, read_number, read_first, read_second}
use Rattle.nr_reading.specs.Control.{completes, read_name, read_macro_gap, read_word, read_quoted}
use Rattle.nr_reading.specs.Definitions.{last_line, ends_whole, not_last, read_body_start, over_body_start}
use Rattle.nr_reading.specs.Mode.{is_direct}
use Rattle.nr_reading.specs.Reader.{read_by, read_over_by}
use Rattle.nr_reading.specs.Spelled.{is_blank, ends_name, name_of, is_empty}
use Rattle.nr_reading.specs.Step.{to, pending_act, go, leave}
use Rattle.nr_reading.specs.Strings.{read_string_name, read_string_blanks}
use Rattle.nr_reading.specs.Weights.{cost_of_event, paid_by, weight_by, is_lead}
use Rattle.nr_reading.proofs.Weighing.{at, blanks_in, weight_of_note}

-- what is half read weighs this, whatever of an escape was read
abbrev pub base_weight : Reading → ℕ
base_weight r = weight_by r.pending_act r.mode escapes.Plain

-- an element came: a step is paid, at so much for one that is taken
pub record Hears (r : Reading) (worth : ℕ) (s : Step) : Type 0 where
  pub pays : base_weight s.reading + weight_of_note s.note + cost_of_event s.event ≤ base_weight r + paid_by s.takes worth
  pub blanks : blanks_in s.reading ≡ 0
  pub escape : s.reading.escape ≡ r.escape
  pub tells : is_lead s.event ≡ false

either : {r : Reading} {w : ℕ} (b : Bool) {x y : Step} → Hears r w x → Hears r w y → Hears r w (if b then x else y)
either true p q = p
either false p q = q

-- the same, where the test tells something
tested : {r : Reading} {w : ℕ} (b : Bool) {x y : Step} → (b ≡ true → Hears r w x) → (b ≡ false → Hears r w y) → Hears r w (if b then x else y)
tested true p q = p refl
tested false p q = q refl

-- ---- control lines

control_hears : (b : ℕ) (e : Escape) (c n : Bool) (s : Signs) (o : Notes) → Hears (at modes.Control e c n) 8 (read_by modes.Control b s o (at modes.Control e c n))
control_hears b e c n s o =
    either (is_blank b) (record { pays = omega arith; blanks = refl; escape = refl; tells = refl }) (record { pays = omega arith; blanks = refl; escape = refl; tells = refl })

name_hears : (b : ℕ) (long : Bool) (name : Spelled) (e : Escape) (c n : Bool) → Hears (at modes.Name e c n) 8 (read_name b long name (at modes.Name e c n))
name_hears b long name e c n =
    either (ends_name b) (record { pays = omega arith; blanks = refl; escape = refl; tells = refl })
    (either (completes long name) (record { pays = omega arith; blanks = refl; escape = refl; tells = refl }) (record { pays = omega arith; blanks = refl; escape = refl; tells = refl }))

drop_hears : (b : ℕ) (e : Escape) (c n : Bool) (s : Signs) (o : Notes) → Hears (at modes.Drop e c n) 8 (read_by modes.Drop b s o (at modes.Drop e c n))
drop_hears b e c n s o = either (b == code "\n") (record { pays = omega arith; blanks = refl; escape = refl; tells = refl }) (record { pays = omega arith; blanks = refl; escape = refl; tells = refl })

title_rest_hears : (b : ℕ) (e : Escape) (c n : Bool) (s : Signs) (o : Notes) → Hears (at modes.TitleRest e c n) 8 (read_by modes.TitleRest b s o (at modes.TitleRest e c n))
title_rest_hears b e c n s o = either (b == code "\n") (record { pays = omega arith; blanks = refl; escape = refl; tells = refl }) (record { pays = omega arith; blanks = refl; escape = refl; tells = refl })

request_blanks_hears : (b : ℕ) (e : Escape) (c n : Bool) (s : Signs) (o : Notes) → Hears (at modes.RequestBlanks e c n) 8 (read_by modes.RequestBlanks b s o (at modes.RequestBlanks e c n))
request_blanks_hears b e c n s o =
    either (is_blank b) (record { pays = omega arith; blanks = refl; escape = refl; tells = refl }) (record { pays = omega arith; blanks = refl; escape = refl; tells = refl })

request_line_hears : (b : ℕ) (e : Escape) (c n : Bool) (s : Signs) (o : Notes) → Hears (at modes.RequestLine e c n) 8 (read_by modes.RequestLine b s o (at modes.RequestLine e c n))
request_line_hears b e c n s o =
    either (b == code "\n") (record { pays = omega arith; blanks = refl; escape = refl; tells = refl }) (record { pays = omega arith; blanks = refl; escape = refl; tells = refl })

macro_blanks_hears : (b : ℕ) (e : Escape) (c n : Bool) (s : Signs) (o : Notes) → Hears (at modes.MacroBlanks e c n) 8 (read_by modes.MacroBlanks b s o (at modes.MacroBlanks e c n))
macro_blanks_hears b e c n s o =
    either (is_blank b) (record { pays = omega arith; blanks = refl; escape = refl; tells = refl }) (record { pays = omega arith; blanks = refl; escape = refl; tells = refl })

macro_gap_hears : (b : ℕ) (e : Escape) (c n : Bool) → Hears (at modes.MacroGap e c n) 8 (read_macro_gap b (at modes.MacroGap e c n))
macro_gap_hears b e c n =
    either (b == code "\n") (record { pays = omega arith; blanks = refl; escape = refl; tells = refl })
    (either (b == code " ") (record { pays = omega arith; blanks = refl; escape = refl; tells = refl })
    (either (b == code "\"") (record { pays = omega arith; blanks = refl; escape = refl; tells = refl }) (record { pays = omega arith; blanks = refl; escape = refl; tells = refl })))

word_hears : (b : ℕ) (e : Escape) (c n : Bool) → Hears (at modes.Word e c n) 8 (read_word b (at modes.Word e c n))
word_hears b e c n =
    either (b == code "\n") (record { pays = omega arith; blanks = refl; escape = refl; tells = refl })
    (either (b == code " ") (record { pays = omega arith; blanks = refl; escape = refl; tells = refl }) (record { pays = omega arith; blanks = refl; escape = refl; tells = refl }))

quoted_hears : (b : ℕ) (e : Escape) (c n : Bool) → Hears (at modes.Quoted e c n) 8 (read_quoted b (at modes.Quoted e c n))
quoted_hears b e c n =
    either (b == code "\n") (record { pays = omega arith; blanks = refl; escape = refl; tells = refl })
    (either (b == code "\"") (record { pays = omega arith; blanks = refl; escape = refl; tells = refl }) (record { pays = omega arith; blanks = refl; escape = refl; tells = refl }))

quote_hears : (b : ℕ) (e : Escape) (c n : Bool) (s : Signs) (o : Notes) → Hears (at modes.Quote e c n) 8 (read_by modes.Quote b s o (at modes.Quote e c n))
quote_hears b e c n s o = either (b == code "\"") (record { pays = omega arith; blanks = refl; escape = refl; tells = refl }) (record { pays = omega arith; blanks = refl; escape = refl; tells = refl })

-- ---- strings, transparent lines

string_before_hears : (b : ℕ) (e : Escape) (c n : Bool) (s : Signs) (o : Notes) → Hears (at modes.StringBefore e c n) 8 (read_by modes.StringBefore b s o (at modes.StringBefore e c n))
string_before_hears b e c n s o =
    either (is_blank b) (record { pays = omega arith; blanks = refl; escape = refl; tells = refl }) (record { pays = omega arith; blanks = refl; escape = refl; tells = refl })

-- a name of a string ends: without one the line does nothing
string_name_ends : (none : Bool) (e : Escape) (c n : Bool) (w : ℕ)
    → Hears (at modes.StringName e c n) w (leave (if none then to modes.Drop (at modes.StringName e c n) else to modes.StringBlanks (at modes.StringName e c n)))
string_name_ends true e c n w = record { pays = omega arith; blanks = refl; escape = refl; tells = refl }
string_name_ends false e c n w = record { pays = omega arith; blanks = refl; escape = refl; tells = refl }

string_name_hears : (b : ℕ) (long : Bool) (name : Spelled) (e : Escape) (c n : Bool) → Hears (at modes.StringName e c n) 8 (read_string_name b long name (at modes.StringName e c n))
string_name_hears b long name e c n =
    either (ends_name b) (string_name_ends (is_empty (name_of name)) e c n 8)
    (either (completes long name) (record { pays = omega arith; blanks = refl; escape = refl; tells = refl }) (record { pays = omega arith; blanks = refl; escape = refl; tells = refl }))

string_blanks_hears : (b : ℕ) (e : Escape) (c n : Bool) → Hears (at modes.StringBlanks e c n) 8 (read_string_blanks b (at modes.StringBlanks e c n))
string_blanks_hears b e c n =
    either (is_blank b) (record { pays = omega arith; blanks = refl; escape = refl; tells = refl })
    (either (b == code "\"") (record { pays = omega arith; blanks = refl; escape = refl; tells = refl }) (record { pays = omega arith; blanks = refl; escape = refl; tells = refl }))

string_text_hears : (b : ℕ) (e : Escape) (c n : Bool) (s : Signs) (o : Notes) → Hears (at modes.StringText e c n) 8 (read_by modes.StringText b s o (at modes.StringText e c n))
string_text_hears b e c n s o = either (b == code "\n") (record { pays = omega arith; blanks = refl; escape = refl; tells = refl }) (record { pays = omega arith; blanks = refl; escape = refl; tells = refl })

transparent_hears : (b : ℕ) (e : Escape) (c n : Bool) (s : Signs) (o : Notes) → Hears (at modes.Transparent e c n) 8 (read_by modes.Transparent b s o (at modes.Transparent e c n))
transparent_hears b e c n s o = either (b == code "\n") (record { pays = omega arith; blanks = refl; escape = refl; tells = refl }) (record { pays = omega arith; blanks = refl; escape = refl; tells = refl })

-- ---- definitions

-- a byte of the text, in its line
kept_hears : (held : ℕ) (keeps ends : Bool) (b : ℕ) (e : Escape) (c n : Bool)
    → let r = at (modes.BodyStart held) e c n in Hears r 8 (go (pending_act (if keeps then pending_acts.Add b else pending_acts.Look) (to (if ends then modes.BodyStart 0 else modes.Body) r)))
kept_hears held true true b e c n = record { pays = omega arith; blanks = refl; escape = refl; tells = refl }
kept_hears held true false b e c n = record { pays = omega arith; blanks = refl; escape = refl; tells = refl }
kept_hears held false true b e c n = record { pays = omega arith; blanks = refl; escape = refl; tells = refl }
kept_hears held false false b e c n = record { pays = omega arith; blanks = refl; escape = refl; tells = refl }

-- bytes that were held back, and then this one
released_hears : (held : ℕ) (keeps ends : Bool) (b : ℕ) (e : Escape) (c n : Bool)
    → let r = at (modes.BodyStart held) e c n in Hears r 8 (go (pending_act (if keeps then pending_acts.Release held 0 (Some b) else pending_acts.Look) (to (if ends then modes.BodyStart 0 else modes.Body) r)))
released_hears held true true b e c n = record { pays = omega arith; blanks = refl; escape = refl; tells = refl }
released_hears held true false b e c n = record { pays = omega arith; blanks = refl; escape = refl; tells = refl }
released_hears held false true b e c n = record { pays = omega arith; blanks = refl; escape = refl; tells = refl }
released_hears held false false b e c n = record { pays = omega arith; blanks = refl; escape = refl; tells = refl }

not_last_hears : (b : ℕ) (d : Defining) (held : ℕ) (e : Escape) (c n : Bool) → Hears (at (modes.BodyStart held) e c n) 8 (not_last b d held (at (modes.BodyStart held) e c n))
not_last_hears b d held e c n = either (held == 0) (kept_hears held d.keeps (b == code "\n") b e c n) (released_hears held d.keeps (b == code "\n") b e c n)

nearer_hears : (held : ℕ) (ends : Bool) (e : Escape) (c n : Bool)
    → let r = at (modes.BodyStart held) e c n in Hears r 8 (go (to (if ends then modes.BodyEnd else modes.BodyStart (held + 1)) r))
nearer_hears held true e c n = record { pays = omega arith; blanks = refl; escape = refl; tells = refl }
nearer_hears held false e c n = record { pays = omega arith; blanks = refl; escape = refl; tells = refl }

body_start_hears : (b : ℕ) (d : Defining) (held : ℕ) (e : Escape) (c n : Bool) → Hears (at (modes.BodyStart held) e c n) 8 (read_body_start b d held (at (modes.BodyStart held) e c n))
body_start_hears b d held e c n =
    tested (nat_lt held (length (last_line d)))
    (λ less. either (b == slice_index (last_line d) held) (nearer_hears held ((held + 1 == length (last_line d)) && not (ends_whole d)) e c n) (not_last_hears b d held e c n))
    (λ whole. either ((b == code "\n") || is_blank b) (record { pays = omega (arith, ltb-false held (length (last_line d)) whole); blanks = refl; escape = refl; tells = refl }) (not_last_hears b d held e c n))

body_hears : (b : ℕ) (keeps ends : Bool) (e : Escape) (c n : Bool)
    → let r = at modes.Body e c n in Hears r 8 (go (pending_act (if keeps then pending_acts.Add b else pending_acts.Look) (to (if ends then modes.BodyStart 0 else modes.Body) r)))
body_hears b true true e c n = record { pays = omega arith; blanks = refl; escape = refl; tells = refl }
body_hears b true false e c n = record { pays = omega arith; blanks = refl; escape = refl; tells = refl }
body_hears b false true e c n = record { pays = omega arith; blanks = refl; escape = refl; tells = refl }
body_hears b false false e c n = record { pays = omega arith; blanks = refl; escape = refl; tells = refl }

body_end_hears : (b : ℕ) (e : Escape) (c n : Bool) (s : Signs) (o : Notes) → Hears (at modes.BodyEnd e c n) 8 (read_by modes.BodyEnd b s o (at modes.BodyEnd e c n))
body_end_hears b e c n s o = either (b == code "\n") (record { pays = omega arith; blanks = refl; escape = refl; tells = refl }) (record { pays = omega arith; blanks = refl; escape = refl; tells = refl })

-- ---- conditions

condition_byte_hears : (b : ℕ) (e : Escape) (c n : Bool) → Hears (at modes.Condition e c n) 8 (read_condition_byte b (at modes.Condition e c n))
condition_byte_hears b e c n =
    either (b == code "o") (record { pays = omega arith; blanks = refl; escape = refl; tells = refl })
    (either (b == code "e") (record { pays = omega arith; blanks = refl; escape = refl; tells = refl })
    (either (b == code "t") (record { pays = omega arith; blanks = refl; escape = refl; tells = refl })
    (either (b == code "n") (record { pays = omega arith; blanks = refl; escape = refl; tells = refl })
    (either (begins_number b) (record { pays = omega arith; blanks = refl; escape = refl; tells = refl }) (record { pays = omega arith; blanks = refl; escape = refl; tells = refl })))))

condition_hears : (b : ℕ) (negated : Bool) (e : Escape) (c n : Bool) → Hears (at modes.Condition e c n) 8 (read_condition b negated (at modes.Condition e c n))
condition_hears b negated e c n =
    either (b == code "\n") (record { pays = omega arith; blanks = refl; escape = refl; tells = refl })
    (either (is_blank b) (either negated (record { pays = omega arith; blanks = refl; escape = refl; tells = refl }) (record { pays = omega arith; blanks = refl; escape = refl; tells = refl }))
    (either ((b == code "!") && not negated) (record { pays = omega arith; blanks = refl; escape = refl; tells = refl }) (condition_byte_hears b e c n)))

number_hears : (b k : ℕ) (e : Escape) (c n : Bool) → Hears (at (modes.Number k) e c n) 8 (read_number b k (at (modes.Number k) e c n))
number_hears b k e c n =
    either ((b == code "\n") || ((k == 0) && (is_blank b || (b == code "\\")))) (record { pays = omega arith; blanks = refl; escape = refl; tells = refl }) (record { pays = omega arith; blanks = refl; escape = refl; tells = refl })

first_hears : (b d : ℕ) (x : Condition) (e : Escape) (c n : Bool) → Hears (at (modes.First d) e c n) 8 (read_first b d x (at (modes.First d) e c n))
first_hears b d x e c n =
    either (b == code "\n") (record { pays = omega arith; blanks = refl; escape = refl; tells = refl })
    (either (b == d) (record { pays = omega arith; blanks = refl; escape = refl; tells = refl }) (record { pays = omega arith; blanks = refl; escape = refl; tells = refl }))

second_hears : (b d : ℕ) (x : Condition) (e : Escape) (c n : Bool) → Hears (at (modes.Second d) e c n) 8 (read_second b d x (at (modes.Second d) e c n))
second_hears b d x e c n =
    either (b == code "\n") (record { pays = omega arith; blanks = refl; escape = refl; tells = refl })
    (either (b == d) (record { pays = omega arith; blanks = refl; escape = refl; tells = refl }) (record { pays = omega arith; blanks = refl; escape = refl; tells = refl }))

-- ---- all modes

pub read_hears : (m : Mode) (b : ℕ) (s : Signs) (o : Notes) (e : Escape) (c n : Bool) → is_direct m ≡ false → Hears (at m e c n) 8 (read_by m b s o (at m e c n))
read_hears modes.Control b s o e c n is = control_hears b e c n s o
read_hears modes.Name b s o e c n is = name_hears b s.long o.name e c n
read_hears modes.Drop b s o e c n is = drop_hears b e c n s o
read_hears modes.TitleRest b s o e c n is = title_rest_hears b e c n s o
read_hears modes.RequestBlanks b s o e c n is = request_blanks_hears b e c n s o
read_hears modes.RequestLine b s o e c n is = request_line_hears b e c n s o
read_hears modes.MacroBlanks b s o e c n is = macro_blanks_hears b e c n s o
read_hears modes.MacroGap b s o e c n is = macro_gap_hears b e c n
read_hears modes.Word b s o e c n is = word_hears b e c n
read_hears modes.Quoted b s o e c n is = quoted_hears b e c n
read_hears modes.Quote b s o e c n is = quote_hears b e c n s o
read_hears modes.StringBefore b s o e c n is = string_before_hears b e c n s o
read_hears modes.StringName b s o e c n is = string_name_hears b s.long o.name e c n
read_hears modes.StringBlanks b s o e c n is = string_blanks_hears b e c n
read_hears modes.StringText b s o e c n is = string_text_hears b e c n s o
read_hears (modes.BodyStart held) b s o e c n is = body_start_hears b o.defining held e c n
read_hears modes.Body b s o e c n is = body_hears b o.defining.keeps (b == code "\n") e c n
read_hears modes.BodyEnd b s o e c n is = body_end_hears b e c n s o
read_hears modes.Condition b s o e c n is = condition_hears b o.condition.negated e c n
read_hears (modes.Number k) b s o e c n is = number_hears b k e c n
read_hears (modes.First d) b s o e c n is = first_hears b d o.condition e c n
read_hears (modes.Second d) b s o e c n is = second_hears b d o.condition e c n
read_hears modes.Transparent b s o e c n is = transparent_hears b e c n s o
read_hears m b s o e c n is = let wrong : ⊥ = cc in absurd wrong

-- ---- where the line ends, nothing is taken

kept_end : (keeps : Bool) (e : Escape) (c n : Bool) → let r = at modes.Body e c n in Hears r 0 (go (pending_act (if keeps then pending_acts.Add (code "\n") else pending_acts.Look) (to (modes.BodyStart 0) r)))
kept_end true e c n = record { pays = omega arith; blanks = refl; escape = refl; tells = refl }
kept_end false e c n = record { pays = omega arith; blanks = refl; escape = refl; tells = refl }

released_end : (held : ℕ) (keeps : Bool) (e : Escape) (c n : Bool) → 1 ≤ held
    → let r = at (modes.BodyStart held) e c n in Hears r 0 (leave (pending_act (if keeps then pending_acts.Release held 0 None else pending_acts.Look) (to modes.Body r)))
released_end held true e c n some = record { pays = omega arith; blanks = refl; escape = refl; tells = refl }
released_end held false e c n some = record { pays = omega arith; blanks = refl; escape = refl; tells = refl }

at_least_one : (held : ℕ) → (held == 0) ≡ false → 1 ≤ held
at_least_one held is = let other = eqb-false held 0 is in omega (arith, other)

body_start_end : (held : ℕ) (d : Defining) (e : Escape) (c n : Bool) → Hears (at (modes.BodyStart held) e c n) 0 (over_body_start d held (at (modes.BodyStart held) e c n))
body_start_end held d e c n =
    tested (held == 0) (λ none. record { pays = omega arith; blanks = refl; escape = refl; tells = refl })
    (λ some. either (nat_lt held (length (last_line d))) (released_end held d.keeps e c n (at_least_one held some)) (record { pays = omega (arith, at_least_one held some); blanks = refl; escape = refl; tells = refl }))

pub over_hears : (m : Mode) (s : Signs) (o : Notes) (e : Escape) (c n : Bool) → is_direct m ≡ false → Hears (at m e c n) 0 (read_over_by m s o (at m e c n))
over_hears (modes.BodyStart held) s o e c n is = body_start_end held o.defining e c n
over_hears modes.StringName s o e c n is = string_name_ends (is_empty (name_of o.name)) e c n 0
over_hears modes.Body s o e c n is = kept_end o.defining.keeps e c n
over_hears modes.Control s o e c n is = record { pays = omega arith; blanks = refl; escape = refl; tells = refl }
over_hears modes.Name s o e c n is = record { pays = omega arith; blanks = refl; escape = refl; tells = refl }
over_hears modes.Drop s o e c n is = record { pays = omega arith; blanks = refl; escape = refl; tells = refl }
over_hears modes.TitleRest s o e c n is = record { pays = omega arith; blanks = refl; escape = refl; tells = refl }
over_hears modes.RequestBlanks s o e c n is = record { pays = omega arith; blanks = refl; escape = refl; tells = refl }
over_hears modes.RequestLine s o e c n is = record { pays = omega arith; blanks = refl; escape = refl; tells = refl }
over_hears modes.MacroBlanks s o e c n is = record { pays = omega arith; blanks = refl; escape = refl; tells = refl }
over_hears modes.MacroGap s o e c n is = record { pays = omega arith; blanks = refl; escape = refl; tells = refl }
over_hears modes.Word s o e c n is = record { pays = omega arith; blanks = refl; escape = refl; tells = refl }
over_hears modes.Quoted s o e c n is = record { pays = omega arith; blanks = refl; escape = refl; tells = refl }
over_hears modes.Quote s o e c n is = record { pays = omega arith; blanks = refl; escape = refl; tells = refl }
over_hears modes.StringBefore s o e c n is = record { pays = omega arith; blanks = refl; escape = refl; tells = refl }
over_hears modes.StringBlanks s o e c n is = record { pays = omega arith; blanks = refl; escape = refl; tells = refl }
over_hears modes.StringText s o e c n is = record { pays = omega arith; blanks = refl; escape = refl; tells = refl }
over_hears modes.BodyEnd s o e c n is = record { pays = omega arith; blanks = refl; escape = refl; tells = refl }
over_hears modes.Condition s o e c n is = record { pays = omega arith; blanks = refl; escape = refl; tells = refl }
over_hears (modes.Number k) s o e c n is = record { pays = omega arith; blanks = refl; escape = refl; tells = refl }
over_hears (modes.First d) s o e c n is = record { pays = omega arith; blanks = refl; escape = refl; tells = refl }
over_hears (modes.Second d) s o e c n is = record { pays = omega arith; blanks = refl; escape = refl; tells = refl }
over_hears modes.Transparent s o e c n is = record { pays = omega arith; blanks = refl; escape = refl; tells = refl }
over_hears m s o e c n is = let wrong : ⊥ = cc in absurd wrong

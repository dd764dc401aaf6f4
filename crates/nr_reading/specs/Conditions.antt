-- Conditions (CSTR 54, 16).
use Prim.Native.Char.{code}
use Rattle.std.specs.Prelude.{ℕ, ◌-◌, ◌==◌, ◌&&◌, ◌||◌, not, Bool, true, false, if◌then◌else◌}
use Rattle.nr_reading.specs.declared.event.Event.TheVariants as events
use Rattle.nr_reading.specs.declared.event.Question.TheVariants as questions
use Rattle.nr_reading.specs.declared.mode.PendingAct.TheVariants as pending_acts
use Rattle.nr_reading.specs.declared.mode.Mode.TheVariants as modes
use Rattle.nr_reading.specs.declared.mode.Reading.{Reading}
use Rattle.nr_reading.specs.declared.notes.Condition.{Condition}
use Rattle.nr_reading.specs.Notes as notes
use Rattle.nr_reading.specs.Step.{Step}
use Rattle.nr_reading.specs.Ask.{is_digit}
use Rattle.nr_reading.specs.Noting.{one_more, are_equal}
use Rattle.nr_reading.specs.Spelled.{is_blank}
use Rattle.nr_reading.specs.Step.{to, pending_act, go, leave, tell, noting, leave_telling, leave_noting}

-- A digit, or one of `( + - . |`, begins a number.
abbrev pub begins_number : ℕ → Bool
begins_number b =
    is_digit b || (b == code "(") || (b == code "+") || (b == code "-") || (b == code ".") || (b == code "|")

-- `o`, `e`, `t`, `n`; a number; any other byte delimits two strings
abbrev pub read_condition_byte : ℕ → Reading → Step
read_condition_byte b r =
    if b == code "o" then tell (events.Judge questions.Odd) (to (modes.Skip 0) r)
    else (if b == code "e" then tell (events.Judge questions.Even) (to (modes.Skip 0) r)
    else (if b == code "t" then go (pending_act (pending_acts.Judge false) r)
    else (if b == code "n" then go (pending_act (pending_acts.Judge true) r)
    else (if begins_number b then leave_noting notes.NewLine (to (modes.Number 0) r)
    else noting notes.Strings (to (modes.First b) r)))))

-- Blanks before it are skipped, `!` negates it; a newline is false, and so is a blank after `!`.
abbrev pub read_condition : ℕ → Bool → Reading → Step
read_condition b negated r =
    if b == code "\n" then leave (pending_act (pending_acts.Judge false) r)
    else (if is_blank b then (if negated then leave (pending_act (pending_acts.Judge false) r) else go r)
    else (if (b == code "!") && not negated then noting notes.Negated r
    else read_condition_byte b r))

-- the parentheses that are open after a byte; `)` without `(` doesn't count
abbrev pub parentheses : ℕ → ℕ → ℕ
parentheses b depth = if b == code "(" then one_more depth else (if b == code ")" then depth - 1 else depth)

-- A number ends before a blank or a `\` outside parentheses, and before the newline.
abbrev pub read_number : ℕ → ℕ → Reading → Step
read_number b depth r =
    if (b == code "\n") || ((depth == 0) && (is_blank b || (b == code "\\")))
    then leave_telling (events.Judge questions.Number) (to (modes.Skip 0) r)
    else noting (notes.Line b) (to (modes.Number (parentheses b depth)) r)

-- The newline ends the strings as far as they were read.
abbrev pub read_first : ℕ → ℕ → Condition → Reading → Step
read_first b d c r =
    if b == code "\n" then leave (pending_act (pending_acts.Judge (are_equal c)) r)
    else (if b == d then go (to (modes.Second d) r) else noting (notes.First b) r)

abbrev pub read_second : ℕ → ℕ → Condition → Reading → Step
read_second b d c r =
    if b == code "\n" then leave (pending_act (pending_acts.Judge (are_equal c)) r)
    else (if b == d then go (pending_act (pending_acts.Judge (are_equal c)) r) else noting (notes.Second b) r)

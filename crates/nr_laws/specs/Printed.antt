-- Which bytes go out: no control byte but the newline, and the backspace that strikes one byte over another;
-- and beyond ASCII none that is not in the input.
use Prim.Native.Char.{code}
use Rattle.std.specs.Prelude.{◌≡◌, ℕ, ◌||◌, ◌&&◌, ◌==◌, nat_le, nat_lt, Bool, true, false, List}
use Rattle.std.specs.List.{All}
use Rattle.nr_units.specs.Source.{Supply}
use Rattle.nr_page.specs.Faces.{struck_out}
use Rattle.nr_settings.specs.Characters.{prints}
use Rattle.nr_options.specs.Limits.{Bounds}
use Rattle.nr_options.specs.declared.options.Options.{Options}
use Rattle.nr_machine.specs.declared.outcome.Outcome.{Outcome}
use Rattle.nr_laws.specs.Laws.{AnswersWith, unlimited_text}

-- no control byte of ASCII, or the end of a row
abbrev pub is_of_row : ℕ → Bool
is_of_row b = prints b || b == code "\n"

-- a byte of ASCII, or one of a set
abbrev pub is_among : (ℕ → Bool) → ℕ → Bool
is_among set b = nat_lt b 128 || set b

-- Whatever the input, of the control bytes of ASCII only newline and backspace go out,
abbrev pub NoControlGoesOut : Type 0
NoControlGoesOut =
    (b : Bounds) (options : Options) (supply : Supply) (n : ℕ) (outcome : Outcome) (out : List ℕ)
    → AnswersWith b options supply n outcome out → All (λ byte. (is_of_row byte || byte == 8) ≡ true) out

-- and without what is struck over no backspace.
abbrev pub BackspaceStrikes : Type 0
BackspaceStrikes =
    (options : Options) (supply : Supply) (n : ℕ)
    → All (λ byte. is_of_row byte ≡ true) (struck_out (unlimited_text options supply n))

-- Whatever the set, where each byte of the input is of ASCII or of the set, so is each that goes out.
abbrev pub NoByteIsAdded : Type 0
NoByteIsAdded =
    (set : ℕ → Bool) (b : Bounds) (options : Options) (supply : Supply) (n : ℕ) (outcome : Outcome) (out : List ℕ)
    → All (λ byte. is_among set byte ≡ true) supply.bytes → AnswersWith b options supply n outcome out
    → All (λ byte. is_among set byte ≡ true) out

-- the control bytes beyond ASCII
abbrev pub is_high_control : ℕ → Bool
is_high_control b = nat_le 128 b && nat_le b 159

-- So none of these goes out of an input that has none.
abbrev pub NoHighControlGoesOut : Type 0
NoHighControlGoesOut =
    (b : Bounds) (options : Options) (supply : Supply) (n : ℕ) (outcome : Outcome) (out : List ℕ)
    → All (λ byte. is_high_control byte ≡ false) supply.bytes → AnswersWith b options supply n outcome out
    → All (λ byte. is_high_control byte ≡ false) out

-- Laws of single moves: at which limit one is refused, and how many there may be.
use Rattle.std.specs.Prelude.{◌≡◌, ◌≢◌, ◌↔◌, ℕ, zero, suc, ◌+◌, ◌-◌, ◌*◌, ◌≤◌, length, Option, None, Some}
use Rattle.nr_units.specs.Source.{Supply}
use Rattle.nr_fill.specs.Piece.{Word}
use Rattle.nr_reading.specs.Weights.{item_worth, cost_of_text, cost_of_special, weight_of_text}
use Rattle.nr_reading.specs.Weights.{weight_of_argument, blanks_owed}
use Rattle.nr_input.specs.Laws.{most_of_reading, held_back}
use Rattle.nr_input.specs.Weights.{items_left}
use Rattle.nr_options.specs.Limits.{Bounds, AreLimits}
use Rattle.nr_options.specs.declared.options.Options.{Options}
use Rattle.nr_formatter.specs.Weights.{cost_of_piece, cost_of_word, weight_of_dash}
use Rattle.nr_formatter.specs.Access.{collected}
use Rattle.nr_formatter.specs.declared.formatter.Formatter.{Formatter}
use Rattle.nr_machine.specs.State.{State, start}
use Rattle.nr_machine.specs.Machine.{step, state_after}
use Rattle.nr_machine.specs.Measures.{passed}
use Rattle.nr_machine.specs.Run.{Passes, Runs, moves_a_byte}
use Rattle.nr_machine.specs.declared.outcome.Measure.{Measure}

-- ---- where a move is refused

-- In a run a move is refused at a limit exactly where the state that it would lead to is above that limit,
-- and above no limit that is asked before it: also a move that reads.
abbrev pub LimitsAreExact : Type 0
LimitsAreExact =
    (b : Bounds) (options : Options) (supply : Supply) (n : ℕ) (which : Measure)
    → Runs n (start b options supply)
    → let s = state_after n (start b options supply) in Passes s which ↔ (passed (step s) ≡ Some which)

-- ---- how many moves there are

-- the parts of a word that is being read, up to its last break point
abbrev pub parts_of : Option Word → ℕ
parts_of None = 0
parts_of (Some w) = length w.parts

-- So many moves the text that is read may bring before the next byte of the source is taken, for each element
-- and end of the texts of the levels, and for each that the splices may bring that are still allowed.
abbrev pub moves_of_texts : Formatter → ℕ
moves_of_texts f =
    item_worth * (items_left f.store.levels + (f.reader.most - f.reader.burst) * (f.store.limit + 3))

-- What else there may be: the newline that is added, what is half read, what an event and what is under way
-- may set to be read, a special character, the second cell of a dash, and a word; and 95 for the end of the
-- input, a page, a trap, a stop of a tab and the options.
abbrev pub moves_at_most : ℕ
moves_at_most =
    item_worth + most_of_reading + 2 * weight_of_text + cost_of_special + weight_of_dash + cost_of_word + 95

-- So many the rest: escapes that are half read, blanks that the line begins with, bytes of a definition's
-- line that are held back; pieces of the line, and parts of its word; texts that are being built.
abbrev pub moves_of_rest : Formatter → ℕ
moves_of_rest f =
    weight_of_argument * length f.reader.half.asks + cost_of_text * blanks_owed f.reader.half
    + held_back f.reader.half + cost_of_piece * (length (collected f).pieces + parts_of (collected f).word)
    + length f.store.building + moves_at_most

-- a byte was taken in the last of these moves, or none was made
abbrev pub IsAfterByte : ℕ → State → Type 0
IsAfterByte zero s = Unit {0}
IsAfterByte (suc m) s = (state_after (suc m) s).coming.taken ≢ (state_after m s).coming.taken

-- no byte is taken in n moves after the first m
abbrev pub NoneIsTaken : ℕ → ℕ → State → Type 0
NoneIsTaken m n s = (state_after (m + n) s).coming.taken ≡ (state_after m s).coming.taken

-- Each beginning of a run keeps the bound that the whole of it keeps: so many moves for each byte that was
-- taken, and as many before the first. At most 32 registers are given.
abbrev pub MovesAreFew : Type 0
MovesAreFew =
    (b : Bounds) (options : Options) (supply : Supply) (n : ℕ) → length options.registers.items ≤ 32
    → Runs n (start b options supply)
    → n ≤ moves_a_byte b * ((state_after n (start b options supply)).coming.taken + 1)

-- From any state of a run so many moves are made at most before a byte is taken, one for each option that has
-- still to take effect.
abbrev pub MovesBeforeByte : Type 0
MovesBeforeByte =
    (b : Bounds) (options : Options) (supply : Supply) (m n : ℕ) → Runs (m + n) (start b options supply)
    → NoneIsTaken m n (start b options supply)
    → let s = state_after m (start b options supply) in
    n ≤ length s.chosen + moves_of_texts s.formatter + moves_of_rest s.formatter

-- Between the takings of two bytes, before the first and after the last there are no more moves than the
-- number for a byte.
abbrev pub MovesBetween : Type 0
MovesBetween =
    (b : Bounds) (options : Options) (supply : Supply) (m n : ℕ) → AreLimits b
    → length options.registers.items ≤ 32 → Runs (m + n) (start b options supply)
    → IsAfterByte m (start b options supply) → NoneIsTaken m n (start b options supply)
    → n ≤ moves_a_byte b

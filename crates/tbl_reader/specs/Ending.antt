-- The end of the input: a line of a table that is half read ends first, and then the table.
use Rattle.std.specs.Prelude.{◌≡◌, ℕ, ◌+◌, ◌≤◌, ◌-◌, List, [], ◌∷◌, ◌++◌, length, Bool, true, false, ◌&&◌, Option, None, Some, if◌then◌else◌, nat_lt}
use Prim.Native.Char.{code}
use Rattle.tbl_reader.specs.declared.command.Start.{Start}
use Rattle.tbl_reader.specs.declared.command.Start.TheVariants as starts
use Rattle.tbl_reader.specs.declared.complaint.Kind.{Kind}
use Rattle.tbl_reader.specs.declared.complaint.Kind.TheVariants.{NoFormat, OpenBlock, OpenTable}
use Rattle.tbl_reader.specs.declared.reader.Limits.{Limits}
use Rattle.tbl_reader.specs.declared.state.Mode.{Mode}
use Rattle.tbl_reader.specs.declared.state.Mode.TheVariants as modes
use Rattle.tbl_reader.specs.declared.state.State.{State}
use Rattle.tbl_reader.specs.declared.telling.Tell.TheVariants as tells
use Rattle.tbl_reader.specs.Commands.{begins_command}
use Rattle.tbl_reader.specs.Pages.{Page, Effect, effect, and_then, rest_of}
use Rattle.tbl_reader.specs.Reading.{Fits, read, fed}
use Rattle.tbl_reader.specs.RowLines.{last_field}
use Rattle.tbl_reader.specs.States.{first_state}
use Rattle.tbl_reader.specs.Telling.{Piece, piece, each}

-- something is wrong at the end, which is emitted of the line of the last byte; a line starts there, or doesn't
abbrev pub last_line : Bool → ℕ → ℕ
last_line starts line = if starts && nat_lt 1 line then line - 1 else line

abbrev pub wrong_at_end : Kind → Bool → State → Piece
wrong_at_end kind starts s = piece (tells.Wrong (record { kind = kind; line = last_line starts s.line })) []

abbrev pub has_begun : Start → Bool
has_begun starts.Nothing = false
has_begun start = true

-- a line of a table is half read
abbrev pub is_open_in : Mode → Page → Bool
is_open_in (modes.Passing start) p = false
is_open_in (modes.Plain start) p = has_begun start
is_open_in modes.BlockLine p = true
is_open_in mode p = nat_lt p.start (length p.kept)

abbrev pub block_at_end : Page → Effect
block_at_end p =
    effect p (wrong_at_end (OpenBlock p.state.block) true p.state ∷ piece tells.BlockEnd [] ∷ piece tells.Row []
    ∷ piece tells.TableEnd [] ∷ [])

abbrev pub head_at_end : Page → Effect
head_at_end p =
    effect p (wrong_at_end NoFormat true p.state ∷ piece tells.Plain [] ∷ each tells.Pass (rest_of p)
    ++ piece tells.PlainEnd [] ∷ [])

-- the field that was read so far is the last
abbrev pub row_at_end : Page → Effect
row_at_end p =
    let e = last_field p in
    effect e.page (wrong_at_end (OpenTable p.state.begun) true p.state ∷ e.pieces ++ piece tells.Row []
    ∷ piece tells.TableEnd [] ∷ [])

-- a table ends that has no end of its own
abbrev pub closed_in : Mode → Page → Effect
closed_in (modes.Passing start) p = effect p []
closed_in (modes.Plain start) p =
    effect p (wrong_at_end (OpenTable p.state.begun) true p.state ∷ piece tells.PlainEnd [] ∷ [])
closed_in modes.Head p = head_at_end p
closed_in modes.Rows p = effect p (wrong_at_end (OpenTable p.state.begun) true p.state ∷ piece tells.TableEnd [] ∷ [])
closed_in modes.Row p = row_at_end p
closed_in modes.Block p = block_at_end p
closed_in modes.BlockLine p = block_at_end p

abbrev pub closed : Page → Effect
closed p = closed_in p.state.mode p

-- the line of `.TS` is half read
abbrev pub is_begin : Mode → Bool
is_begin (modes.Passing start) = begins_command start
is_begin mode = false

-- a line of a table that is half read ends
abbrev pub line_closed : Page → Effect
line_closed p = if is_open_in p.state.mode p then read (code "\n") p else effect p []

abbrev pub finished : Page → Effect
finished p =
    if is_begin p.state.mode then effect p (wrong_at_end (OpenTable p.state.line) false p.state ∷ [])
    else and_then (line_closed p) closed

-- ---- what comes next: a byte, or the end

abbrev pub next_read : Option ℕ → Page → Effect
next_read None p = finished p
next_read (Some b) p = read b p

-- the limits stay, and after a byte the next may come
abbrev pub GoesOn : Option ℕ → Page → Page → Type 0
GoesOn None p q = q.limits ≡ p.limits
GoesOn (Some b) p q = (q.limits ≡ p.limits) × Fits q × (q.state.line ≤ p.state.line + 1)

-- ---- the definition: what is said of all bytes of an input, where so many bytes are kept

abbrev pub first_page : Limits → Page
first_page limits = record { state = first_state; limits = limits; kept = []; from = 0; start = 0 }

abbrev pub page_said : Limits → List ℕ → List Piece
page_said limits input = (and_then (fed input (first_page limits)) finished).pieces

-- What is known of a page between two bytes, and what is kept of it.
use Rattle.std.specs.Prelude.{ℕ, ◌+◌, max, List, [], ◌++◌, drop}
use Rattle.tbl_reader.specs.declared.complaint.Kind.{Kind}
use Rattle.tbl_reader.specs.declared.reader.Limits.{Limits}
use Rattle.tbl_reader.specs.declared.state.Mode.{Mode}
use Rattle.tbl_reader.specs.declared.state.State.{State}
use Rattle.tbl_reader.specs.declared.telling.Tell.TheVariants as tells
use Rattle.tbl_reader.specs.Telling.{Piece, piece}

-- what is known of a page, and what is kept of it: the options and formats so far, or the line so far, with those that it goes on
-- from. The formats begin in it at `from`, or the field; the line at `start`.
pub record Page : Type 0 where
  pub state : State
  pub limits : Limits
  pub kept : List ℕ
  pub from : ℕ
  pub start : ℕ

-- the bytes of memory of a reader: one more than are kept at most
abbrev pub memory_of : Limits → ℕ
memory_of l = max l.formats l.row + 1

-- what it is then, and what is said
pub record Effect : Type 0 where
  pub page : Page
  pub pieces : List Piece

abbrev pub effect : Page → List Piece → Effect
effect p pieces = record { page = p; pieces = pieces }

abbrev pub with_state : State → Page → Page
with_state s p = record p { state = s }

abbrev pub at_mode : Mode → Page → Page
at_mode mode p = record p { state = record p.state { mode = mode } }

abbrev pub line_counted : State → State
line_counted s = record s { line = s.line + 1 }

-- nothing is kept
abbrev pub forgotten : Page → Page
forgotten p = record p { kept = []; from = 0; start = 0 }

-- from where the formats begin, or the field
abbrev pub rest_of : Page → List ℕ
rest_of p = drop p.from p.kept

abbrev pub line_of : Page → List ℕ
line_of p = drop p.start p.kept

abbrev pub wrong : Kind → State → Piece
wrong kind s = piece (tells.Wrong (record { kind = kind; line = s.line })) []

-- one thing and then another
abbrev pub and_then : Effect → (Page → Effect) → Effect
and_then e f = let g = f e.page in effect g.page (e.pieces ++ g.pieces)

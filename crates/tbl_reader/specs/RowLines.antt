-- What stands between rows, and the fields of rows (Tbl, "Data"; tbl(1), "Table data"), line by line: fields are separated by the
-- byte that the options say, after the last column it is text; a line that ends with a backslash goes on in the next.
use Rattle.std.specs.Prelude.{ℕ, zero, suc, ◌+◌, ◌-◌, List, [], ◌∷◌, ◌++◌, length, take, drop, Bool, true, not, ◌==◌, ◌&&◌, if◌then◌else◌, nat_lt, Option, None, Some}
use Prim.Native.Char.{code}
use Rattle.tbl_reader.specs.declared.command.Start.TheVariants.{Nothing, Other}
use Rattle.tbl_reader.specs.declared.complaint.Kind.TheVariants.{TooManyFields, RowLimit}
use Rattle.tbl_reader.specs.declared.field.Mark.TheVariants as marks
use Rattle.tbl_reader.specs.declared.field.Shape.{Shape}
use Rattle.tbl_reader.specs.declared.field.Shape.TheVariants as shapes
use Rattle.tbl_reader.specs.declared.state.Mode.TheVariants as modes
use Rattle.tbl_reader.specs.declared.state.State.{State}
use Rattle.tbl_reader.specs.declared.telling.Tell.TheVariants as tells
use Rattle.tbl_reader.specs.Commands.{is_command}
use Rattle.tbl_reader.specs.Fields.{shape_of, without_blanks_before, marks_of, is_request, place_of, cleaned, continues}
use Rattle.tbl_reader.specs.Numbers.{prefix}
use Rattle.tbl_reader.specs.Pages.{Page, Effect, effect, and_then, with_state, at_mode, forgotten, rest_of, line_of, wrong}
use Rattle.tbl_reader.specs.States.{block_opened, formats_begun, row_begun, field_counted, is_beyond}
use Rattle.tbl_reader.specs.Telling.{Piece, piece, each}

-- ---- fields

-- what is known then, and what is said
pub record Said : Type 0 where
  pub state : State
  pub pieces : List Piece

abbrev pub saying : State → List Piece → Said
saying s pieces = record { state = s; pieces = pieces }

-- a field as it counts: without the blanks before it, where the options say so
abbrev pub trimmed : State → List ℕ → List ℕ
trimmed s text = if s.options.nospaces then without_blanks_before text else text

-- and without those after it
abbrev pub solid : State → List ℕ → List ℕ
solid s text = if s.options.nospaces then take (marks_of s.options.point text).solid text else text

-- where it is aligned, if a column has numbers
abbrev pub prefix_of : State → List ℕ → Option ℕ
prefix_of s text = if s.formats.numeric then prefix (marks_of s.options.point text) else None

-- a field of text
abbrev pub text_said : State → List ℕ → Piece
text_said s text = piece (tells.Field (prefix_of s text)) (solid s text)

abbrev pub shape_said : Shape → State → List ℕ → Piece
shape_said shapes.Empty s text = piece (tells.Mark marks.Nothing) []
shape_said (shapes.Mark mark) s text = piece (tells.Mark mark) []
shape_said shape s text = text_said s text

-- a field in a column
abbrev pub field_said : State → List ℕ → Said
field_said s text =
    let t = trimmed s text in saying (field_counted s) (shape_said (shape_of t) s t ∷ [])

-- nothing but what separates fields: they are all empty
abbrev pub are_empty : ℕ → List ℕ → Bool
are_empty tab [] = true
are_empty tab (b ∷ bs) = (b == tab) && are_empty tab bs

-- the last field of a row: after the columns it is text, or nothing where only empty fields stand there
abbrev pub last_said : State → List ℕ → Said
last_said s text =
    if not (is_beyond s) then field_said s text else
    let t = trimmed s text in
    if are_empty s.options.tab t then saying s [] else saying s (wrong TooManyFields s ∷ text_said s t ∷ [])

-- ---- the fields of a line that something ends that separates them, of so many columns

-- the field that ends so far after the beginning of the line
abbrev pub next_said : ℕ → Page → Said
next_said len p = field_said p.state (drop p.from (take (p.start + len) p.kept))

-- the page after it
abbrev pub after_field : ℕ → Page → Page
after_field len p =
    record p { state = (next_said len p).state; from = p.start + len + 1; start = p.start + len + 1 }

abbrev pub ended_at : Option ℕ → (Page → Effect) → Page → Effect
ended_at None more p = effect p []
ended_at (Some len) more p = and_then (effect (after_field len p) (next_said len p).pieces) more

abbrev pub fields_ended : ℕ → Page → Effect
fields_ended zero p = effect p []
fields_ended (suc n) p = ended_at (place_of p.state.options.tab (line_of p)) (fields_ended n) p

-- all of them
abbrev pub all_ended : Page → Effect
all_ended p = fields_ended (p.state.formats.columns - p.state.fields) p

-- ---- the end of a line

-- the next line begins a row
abbrev pub rows_begun : Page → Page
rows_begun p = forgotten (with_state (row_begun p.state) p)

abbrev pub row_ended : Page → Effect
row_ended p = effect (rows_begun p) (piece tells.Row [] ∷ [])

-- the last field ends, and the row
abbrev pub last_field : Page → Effect
last_field p = let said = last_said p.state (rest_of p) in effect (with_state said.state p) said.pieces

abbrev pub last_ended : Page → Effect
last_ended p = and_then (last_field p) row_ended

-- a text block begins, which may stand after the columns
abbrev pub block_begun : State → List Piece
block_begun s =
    if is_beyond s then wrong TooManyFields s ∷ piece tells.Block [] ∷ [] else piece tells.Block [] ∷ []

-- a rule alone goes across the table, a block begins, or the row ends
abbrev pub rest_said : Shape → Page → Effect
rest_said shapes.Block p = effect (forgotten (with_state (block_opened p.state) p)) (block_begun p.state)
rest_said (shapes.Mark marks.Rule) p =
    if p.state.fields == 0 then effect (rows_begun p) (piece tells.Rule [] ∷ []) else last_ended p
rest_said shape p = last_ended p

abbrev pub rest_emitted : Page → Effect
rest_emitted p = rest_said (shape_of (trimmed p.state (rest_of p))) p

-- the row goes on in the next line, if the last backslash stands alone
abbrev pub line_continued : Bool → Page → Effect
line_continued alone p =
    if alone
    then (let kept = take (length p.kept - 1) p.kept in
    effect (at_mode modes.Row (record p { kept = kept; start = length kept })) [])
    else rest_emitted p

-- two backslashes in it stand for one, and a comment ends it
abbrev pub line_cleaned : Page → Page
line_cleaned p = record p { kept = take p.start p.kept ++ cleaned (line_of p) }

-- a line of a row ends
abbrev pub row_line : Page → Effect
row_line p = and_then (all_ended (line_cleaned p)) (line_continued (continues (line_of p)))

-- ---- lines between rows

abbrev pub table_ended : Page → Effect
table_ended p =
    effect (forgotten (at_mode (modes.Passing Nothing) p))
    (piece tells.TableEnd [] ∷ each tells.Pass p.kept ++ piece tells.Pass (code "\n" ∷ []) ∷ [])

-- `.TE`, `.T&`, a request, or a row
abbrev pub line_between : Page → Effect
line_between p =
    if is_command (code "E") p.kept then table_ended p else
    if is_command (code "&") p.kept then effect (forgotten (with_state (formats_begun p.state) p))
    (piece tells.Formats [] ∷ []) else
    if is_request p.kept then effect (forgotten p) (piece tells.Request p.kept ∷ []) else row_line p

-- ---- lines that are too long

-- `.TE`, so far: the rest of the line passes
abbrev pub long_end : Page → Effect
long_end p =
    effect (forgotten (at_mode (modes.Passing Other) p)) (piece tells.TableEnd [] ∷ each tells.Pass p.kept)

abbrev pub row_so_far : State → List Piece
row_so_far s = if nat_lt 0 s.fields then piece tells.Row [] ∷ [] else []

-- what was emitted of the row is one, and the rest stands as it is
abbrev pub row_overflown : Page → Effect
row_overflown p =
    effect (forgotten (at_mode (modes.Plain Other) p))
    (row_so_far p.state
    ++ (wrong RowLimit p.state ∷ piece tells.Plain [] ∷ each tells.Pass
    (code "\\" ∷ code "&" ∷ rest_of p)))

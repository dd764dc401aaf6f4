-- The options and formats of a table, line by line: a line of options that ends with a semicolon, or none; lines of formats, of
-- which the last ends with a point.
use Rattle.std.specs.Prelude.{ℕ, ◌+◌, List, [], ◌∷◌, ◌++◌, length, take, false, if◌then◌else◌, nat_le, Option, None, Some}
use Prim.Native.Char.{code}
use Rattle.tbl_reader.specs.declared.command.Start.TheVariants.{Nothing}
use Rattle.tbl_reader.specs.declared.complaint.Kind.{Kind}
use Rattle.tbl_reader.specs.declared.complaint.Kind.TheVariants.{NoFormat, TooManyColumns, FormatsLimit}
use Rattle.tbl_reader.specs.declared.formats.Formats.{Formats}
use Rattle.tbl_reader.specs.declared.options.Options.{Options}
use Rattle.tbl_reader.specs.declared.state.Mode.TheVariants as modes
use Rattle.tbl_reader.specs.declared.state.State.{State}
use Rattle.tbl_reader.specs.declared.telling.Tell.TheVariants as tells
use Rattle.tbl_reader.specs.Commands.{is_command}
use Rattle.tbl_reader.specs.Formats.{read}
use Rattle.tbl_reader.specs.Heads.{options_end, is_dotted}
use Rattle.tbl_reader.specs.Options.{options_of}
use Rattle.tbl_reader.specs.Outside.{given_up}
use Rattle.tbl_reader.specs.Pages.{Page, Effect, effect, and_then, with_state, at_mode, rest_of, line_of, wrong}
use Rattle.tbl_reader.specs.RowLines.{rows_begun}
use Rattle.tbl_reader.specs.States.{wrong_with}
use Rattle.tbl_reader.specs.Telling.{Piece, piece}

-- the table isn't set, and a line ends
abbrev pub given_up_line : Kind → Page → Effect
given_up_line kind p =
    and_then (given_up kind p)
    (λ q. effect (at_mode (modes.Plain Nothing) q) (piece tells.Pass (code "\n" ∷ []) ∷ []))

-- `.TE` comes before the formats end
abbrev pub head_ended : Page → Effect
head_ended p =
    and_then (given_up_line NoFormat p)
    (λ q. effect (at_mode (modes.Passing Nothing) q) (piece tells.PlainEnd [] ∷ []))

-- ---- options

abbrev pub wrong_if : Option Kind → State → List Piece
wrong_if None s = []
wrong_if (Some kind) s = wrong kind s ∷ []

abbrev pub options_wrong : Options → State → List Piece
options_wrong o s = wrong_if o.wrong s

abbrev pub options_split : Option ℕ → Page → Effect
options_split None p = effect p []
options_split (Some end) p =
    let o = options_of (take end p.kept) in
    effect (record p { state = record p.state { options = o }; from = end + 1; start = end + 1 })
    (piece (tells.Options o) [] ∷ options_wrong o p.state)

-- of the first line what stands before a semicolon is options
abbrev pub options_said : Page → Effect
options_said p = options_split (options_end p.kept) (record p { state = record p.state { first = false } })

abbrev pub options_line : Page → Effect
options_line p = if p.state.first then options_said p else effect p []

-- ---- formats

abbrev pub with_newline : List ℕ → List ℕ
with_newline text = text ++ code "\n" ∷ []

-- what formats say, byte by byte
abbrev pub formats_after : Formats → List ℕ → Formats
formats_after f [] = f
formats_after f (b ∷ bs) = formats_after (read b f).formats bs

abbrev pub formats_said : Formats → List ℕ → List Piece
formats_said f [] = []
formats_said f (b ∷ bs) = let r = read b f in piece (tells.Format r.called) [] ∷ formats_said r.formats bs

-- what becomes of the table by what is wrong with them
abbrev pub formats_judged : Option Kind → Page → Effect
formats_judged (Some NoFormat) p = given_up_line NoFormat p
formats_judged (Some TooManyColumns) p = given_up_line TooManyColumns p
formats_judged (Some kind) p = effect (rows_begun p) (wrong kind p.state ∷ [])
formats_judged None p = effect (rows_begun p) []

-- these formats were read: what is wrong with them, and what is known then
abbrev pub wrong_in : Formats → Page → Option Kind
wrong_in f p = wrong_with f p.state.formats.lines

abbrev pub formats_taken : Formats → Page → Page
formats_taken f p = with_state (record p.state { formats = f }) p

-- the formats end, and rows begin with the next line
abbrev pub formats_ended : Page → Effect
formats_ended p =
    let text = with_newline (rest_of p) in
    let f = formats_after p.state.formats text in
    and_then (effect p (formats_said p.state.formats text ++ piece tells.FormatsEnd [] ∷ []))
    (λ q. formats_judged (wrong_in f q) (formats_taken f q))

abbrev pub formats_line : Page → Effect
formats_line p =
    if is_dotted (line_of p) then formats_ended p else
    if nat_le p.limits.formats (length p.kept) then given_up_line FormatsLimit p
    else effect (record p { kept = p.kept ++ code "\n" ∷ []; start = length p.kept + 1 }) []

-- a line of options or formats ends
abbrev pub head_line : Page → Effect
head_line p =
    if is_command (code "E") (line_of p) then head_ended p else and_then (options_line p) formats_line

-- Lines that pass: those outside of tables, and those of a table that isn't set.
use Rattle.std.specs.Prelude.{ℕ, ◌+◌, [], ◌∷◌, Bool, true, false, ◌==◌, if◌then◌else◌}
use Prim.Native.Char.{code}
use Rattle.tbl_reader.specs.declared.command.Start.{Start}
use Rattle.tbl_reader.specs.declared.command.Start.TheVariants.{Nothing}
use Rattle.tbl_reader.specs.declared.complaint.Kind.{Kind}
use Rattle.tbl_reader.specs.declared.state.Mode.TheVariants as modes
use Rattle.tbl_reader.specs.declared.telling.Tell.TheVariants as tells
use Rattle.tbl_reader.specs.Commands.{start_with, start_of, begins_command}
use Rattle.tbl_reader.specs.States.{table_begun}
use Rattle.tbl_reader.specs.Telling.{piece, each}
use Rattle.tbl_reader.specs.Pages.{Page, Effect, effect, with_state, at_mode, line_counted, forgotten, rest_of, line_of, wrong}

-- ---- lines outside of tables

-- one ends that is `.TS`, or another
abbrev pub line_passed : Bool → Page → Effect
line_passed true p =
    effect (forgotten (with_state (line_counted (table_begun p.state)) p)) (piece (tells.Table p.state.line) [] ∷ [])
line_passed false p =
    effect (with_state (record p.state { line = p.state.line + 1; mode = modes.Passing Nothing }) p) []

-- a byte of one that begins so
abbrev pub passed : ℕ → Start → Page → Effect
passed b start p =
    if b == code "\n"
    then (let e = line_passed (begins_command start) p in
    effect e.page (piece tells.Pass (b ∷ []) ∷ e.pieces))
    else effect (at_mode (modes.Passing (start_with (code "S") b start)) p) (piece tells.Pass (b ∷ []) ∷ [])

-- ---- lines of a table that isn't set

abbrev pub plain_line_passed : Bool → Page → Effect
plain_line_passed true p =
    effect (with_state (record p.state { line = p.state.line + 1; mode = modes.Passing Nothing }) p)
    (piece tells.PlainEnd [] ∷ [])
plain_line_passed false p =
    effect (with_state (record p.state { line = p.state.line + 1; mode = modes.Plain Nothing }) p) []

abbrev pub plain_passed : ℕ → Start → Page → Effect
plain_passed b start p =
    if b == code "\n"
    then (let e = plain_line_passed (begins_command start) p in
    effect e.page (piece tells.Pass (b ∷ []) ∷ e.pieces))
    else effect (at_mode (modes.Plain (start_with (code "E") b start)) p) (piece tells.Pass (b ∷ []) ∷ [])

-- the table isn't set further: what is kept of it stands as it is, from here on
abbrev pub given_up : Kind → Page → Effect
given_up kind p =
    effect (forgotten (at_mode (modes.Plain (start_of (code "E") (line_of p))) p))
    (wrong kind p.state ∷ piece tells.Plain [] ∷ each tells.Pass (rest_of p))

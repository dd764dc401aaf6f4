-- A page is lines: bytes that are read one by one come to whole lines that are.
use Rattle.std.specs.Prelude.{ℕ, ◌≡◌, ◌+◌, ◌≤◌, List, [], ◌∷◌, ◌++◌, length, Bool, true, not, ◌==◌, ◌&&◌}
use Prim.Native.Char.{code}
use Rattle.tbl_reader.specs.declared.command.Start.TheVariants.{Nothing}
use Rattle.tbl_reader.specs.declared.state.Mode.TheVariants as modes
use Rattle.tbl_reader.specs.declared.telling.Tell.TheVariants as tells
use Rattle.tbl_reader.specs.Commands.{is_command}
use Rattle.tbl_reader.specs.HeadLines.{with_newline}
use Rattle.tbl_reader.specs.Outside.{line_passed}
use Rattle.tbl_reader.specs.Pages.{Page, effect, at_mode}
use Rattle.tbl_reader.specs.Reading.{fed, is_kept, limit_of, line_ended, with_kept}
use Rattle.tbl_reader.specs.Telling.{each}

-- none of these bytes ends a line
abbrev pub is_line : List ℕ → Bool
is_line [] = true
is_line (b ∷ bs) = not (b == code "\n") && is_line bs

-- outside of tables a line passes, and after one that is `.TS` a table begins
abbrev pub LinesPass : Type 0
LinesPass =
    (line : List ℕ) (p : Page) → is_line line ≡ true
    → fed (with_newline line) (at_mode (modes.Passing Nothing) p)
    ≡ (let e = line_passed (is_command (code "S") line) p in
    effect e.page (each tells.Pass (with_newline line) ++ e.pieces))

-- in a table a line that there is room for is read as a whole
abbrev pub LinesAreRead : Type 0
LinesAreRead =
    (line : List ℕ) (p : Page) → is_kept p.state.mode ≡ true → is_line line ≡ true
    → length p.kept + length line ≤ limit_of p
    → fed (with_newline line) p ≡ line_ended (with_kept line p)

-- A page is read: lines outside of tables pass byte by byte, those of a table are kept up to their end, and then read as a whole.
use Rattle.std.specs.Prelude.{ℕ, ◌≡◌, ◌<◌, ◌≤◌, take, ◌+◌, List, [], ◌∷◌, ◌++◌, length, Bool, true, false, ◌==◌, if◌then◌else◌, nat_lt}
use Prim.Native.Char.{code}
use Rattle.tbl_reader.specs.declared.complaint.Kind.TheVariants.{FormatsLimit}
use Rattle.tbl_reader.specs.declared.reader.Limits.{Limits}
use Rattle.tbl_reader.specs.declared.state.Mode.{Mode}
use Rattle.tbl_reader.specs.declared.state.Mode.TheVariants as modes
use Rattle.tbl_reader.specs.declared.telling.Tell.TheVariants as tells
use Rattle.tbl_reader.specs.BlockLines.{block_line, block_overflown}
use Rattle.tbl_reader.specs.Commands.{is_command}
use Rattle.tbl_reader.specs.HeadLines.{head_line}
use Rattle.tbl_reader.specs.Outside.{passed, plain_passed, given_up}
use Rattle.tbl_reader.specs.Pages.{Page, Effect, effect, and_then, with_state, at_mode, line_counted}
use Rattle.tbl_reader.specs.RowLines.{line_between, row_line, row_overflown, long_end}
use Rattle.tbl_reader.specs.declared.command.Start.TheVariants.{Nothing}
use Rattle.tbl_reader.specs.declared.passing.Lines.{Lines}
use Rattle.tbl_reader.specs.Telling.{Piece, Tells, piece, each}

-- how many bytes are kept at most
abbrev pub limit_in : Mode → Limits → ℕ
limit_in modes.Head limits = limits.formats
limit_in mode limits = limits.row

abbrev pub limit_of : Page → ℕ
limit_of p = limit_in p.state.mode p.limits

-- a line that is kept ends, by where it stands
abbrev pub line_ended_in : Mode → Page → Effect
line_ended_in modes.Head p = head_line p
line_ended_in modes.Rows p = line_between p
line_ended_in modes.Row p = row_line p
line_ended_in modes.Block p = block_line p
line_ended_in mode p = effect p []

abbrev pub line_ended : Page → Effect
line_ended p = and_then (line_ended_in p.state.mode p) (λ q. effect (with_state (line_counted q.state) q) [])

-- these bytes are kept too
abbrev pub with_kept : List ℕ → Page → Page
with_kept bytes p = record p { kept = p.kept ++ bytes }

-- more bytes came than may be kept
abbrev pub overflown_in : Mode → Page → Effect
overflown_in modes.Head p = given_up FormatsLimit p
overflown_in modes.Rows p = if is_command (code "E") p.kept then long_end p else row_overflown p
overflown_in modes.Block p = block_overflown p
overflown_in mode p = row_overflown p

abbrev pub overflown : Page → Effect
overflown p = overflown_in p.state.mode p

-- a byte of a line that is kept
abbrev pub kept_more : Page → Effect
kept_more p = if nat_lt (limit_of p) (length p.kept) then overflown p else effect p []

abbrev pub kept : ℕ → Page → Effect
kept b p = if b == code "\n" then line_ended p else kept_more (with_kept (b ∷ []) p)

-- a byte of a line in a text block, of which a part was emitted
abbrev pub block_goes_on : ℕ → Page → Effect
block_goes_on b p =
    effect (if b == code "\n"
    then with_state (record p.state { line = p.state.line + 1; mode = modes.Block }) p else p)
    (piece tells.BlockText (b ∷ []) ∷ [])

-- a byte, by where it stands
abbrev pub read_in : Mode → ℕ → Page → Effect
read_in (modes.Passing start) b p = passed b start p
read_in (modes.Plain start) b p = plain_passed b start p
read_in modes.BlockLine b p = block_goes_on b p
read_in mode b p = kept b p

abbrev pub read : ℕ → Page → Effect
read b p = read_in p.state.mode b p

-- many bytes
abbrev pub fed : List ℕ → Page → Effect
fed [] p = effect p []
fed (b ∷ bs) p = and_then (read b p) (fed bs)

-- ---- many bytes at once

abbrev pub Fits : Page → Type 0
Fits p = length p.kept ≤ limit_of p

-- lines are kept
abbrev pub is_kept : Mode → Bool
is_kept (modes.Passing start) = false
is_kept (modes.Plain start) = false
is_kept modes.BlockLine = false
is_kept mode = true

-- so many of these bytes were taken, one of them at least, and read as if one by one
pub record Took {A S : Type 0} (shows : A → S → Type 0) (hears : Piece → S → S) (bytes : List ℕ) (p q : Page)
    (old new : A) (n : ℕ) : Type 0 where
  pub some : 0 < n
  pub within : n ≤ length bytes
  pub page : q ≡ (fed (take n bytes) p).page
  pub emitted : Tells shows hears (fed (take n bytes) p).pieces old new
  pub fits : Fits q
  pub lines : q.state.line ≤ p.state.line + n

-- ---- whole lines

-- the page after so many lines that passed
abbrev pub lines_on : ℕ → Page → Page
lines_on n p = with_state (record p.state { line = p.state.line + n; mode = modes.Passing Nothing }) p

-- these lines pass
abbrev pub AreFree : Lines → List ℕ → Type 0
AreFree lines bytes =
    (p : Page) → fed (take lines.len bytes) (at_mode (modes.Passing Nothing) p)
    ≡ effect (lines_on lines.count p) (each tells.Pass (take lines.len bytes))

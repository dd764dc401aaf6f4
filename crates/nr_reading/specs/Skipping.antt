-- Accepted and rejected parts of conditionals, and diverted lines (CSTR 54, 16, 7.4).
use Prim.Native.Char.{code}
use Rattle.std.specs.Prelude.{ℕ, ◌-◌, ◌==◌, if◌then◌else◌, None, Some}
use Rattle.nr_reading.specs.declared.event.Event.TheVariants as events
use Rattle.nr_reading.specs.declared.next_item.NextItem.{NextItem}
use Rattle.nr_reading.specs.declared.next_item.NextItem.TheVariants as next_items
use Rattle.nr_reading.specs.declared.mode.Mode.TheVariants as modes
use Rattle.nr_reading.specs.declared.mode.Reading.{Reading}
use Rattle.nr_reading.specs.declared.mode.Signs.{Signs}
use Rattle.nr_reading.specs.Step.{Step}
use Rattle.nr_reading.specs.Noting.{one_more}
use Rattle.nr_reading.specs.Spelled.{is_blank}
use Rattle.nr_reading.specs.Step.{to, go, leave, tell, leave_telling}
use Rattle.nr_reading.specs.Text.{begin_escape, start}
use Rattle.nr_reading.specs.TextEscape.{plain}

-- ---- accepted

-- Blanks and `\{` are skipped; a newline right there ends the line without effect; what follows else is the beginning of a line.
abbrev pub accepted_byte : ℕ → Reading → Step
accepted_byte b r =
    if is_blank b then go r
    else (if b == code "\n" then go (to modes.Start r)
    else (if b == code "\\" then begin_escape r else leave (to modes.Start r)))

abbrev pub accepted : NextItem → Reading → Step
accepted next_items.Mark r = go r
accepted (next_items.Byte b) r = accepted_byte b r
accepted f r = leave (to modes.Start r)

abbrev pub accepted_escape : NextItem → Reading → Step
accepted_escape next_items.Mark r = go r
accepted_escape (next_items.Byte b) r = if b == code "{" then go (plain r) else leave (to modes.Start r)
accepted_escape f r = leave (to modes.Start r)

-- ---- rejected

-- Elements are skipped as they are, without interpolation; a newline at count 0 ends the part.
abbrev pub past_newline : ℕ → Reading → Step
past_newline n r = if n == 0 then go (to modes.Start r) else go r

abbrev pub skip_byte : ℕ → ℕ → Reading → Step
skip_byte b n r =
    if b == code "\n" then past_newline n r else (if b == code "\\" then begin_escape r else go r)

abbrev pub skip : NextItem → ℕ → Reading → Step
skip (next_items.Byte b) n r = skip_byte b n r
skip (next_items.LineEnd h) n r = past_newline n r
skip next_items.Resume n r = leave (to modes.Start r)
skip next_items.Over n r = leave (to modes.Start r)
skip f n r = go r

-- `\{` adds one, `\}` takes one away, not below 0.
abbrev pub braces : ℕ → ℕ → ℕ
braces b n = if b == code "{" then one_more n else (if b == code "}" then n - 1 else n)

-- `\` is skipped together with the next element.
abbrev pub skip_escape : NextItem → ℕ → Reading → Step
skip_escape next_items.Mark n r = go r
skip_escape (next_items.Byte b) n r = go (plain (to (modes.Skip (braces b n)) r))
skip_escape next_items.Resume n r = leave (plain (to modes.Start r))
skip_escape next_items.Over n r = leave (plain (to modes.Start r))
skip_escape f n r = go (plain r)

-- ---- diverted lines

-- Each diverted line is read as it is: its cells, and its line end with a height.
abbrev pub diverted : NextItem → Reading → Step
diverted next_items.Mark r = go r
diverted (next_items.Cell c) r = tell (events.DivertedCell c) r
diverted (next_items.LineEnd h) r = tell (events.DivertedEnd (Some h)) (to modes.Start r)
diverted f r = leave_telling (events.DivertedEnd None) (to modes.Start r)

-- the first item of a diverted line; without one it is a line like any other
abbrev pub diverting : NextItem → Signs → Reading → Step
diverting (next_items.Cell c) s r = tell (events.DivertedCell c) (to modes.Diverted r)
diverting (next_items.LineEnd h) s r = tell (events.DivertedEnd (Some h)) (to modes.Start r)
diverting f s r = start f s r

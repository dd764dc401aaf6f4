-- Titles (CSTR 54, 14).
use Prim.Native.Char.{code}
use Rattle.std.specs.Prelude.{ℕ, ◌==◌, if◌then◌else◌}
use Rattle.nr_reading.specs.declared.event.Event.TheVariants as events
use Rattle.nr_reading.specs.declared.next_item.NextItem.{NextItem}
use Rattle.nr_reading.specs.declared.next_item.NextItem.TheVariants as next_items
use Rattle.nr_reading.specs.declared.mode.Mode.TheVariants as modes
use Rattle.nr_reading.specs.declared.mode.Reading.{Reading}
use Rattle.nr_reading.specs.Step.{Step}
use Rattle.nr_reading.specs.Spelled.{is_blank}
use Rattle.nr_reading.specs.Step.{to, go, tell, leave_telling}
use Rattle.nr_reading.specs.Text.{begin_escape}

-- a title's line ends
abbrev pub ended_title : Reading → Reading
ended_title r = to modes.Start r

-- The delimiter is the first plain byte that isn't a blank.
abbrev pub before_title_byte : ℕ → Reading → Step
before_title_byte b r =
    if b == code "\n" then tell events.TitleEnd (ended_title r)
    else (if b == code "\\" then begin_escape r
    else (if is_blank b then go r else tell events.TitlePart (to (modes.Title b 0) r)))

abbrev pub before_title : NextItem → Reading → Step
before_title next_items.Mark r = go r
before_title (next_items.Byte b) r = before_title_byte b r
before_title (next_items.Cell c) r = go r
before_title (next_items.LineEnd h) r = tell events.TitleEnd (ended_title r)
before_title next_items.Resume r = leave_telling events.TitleEnd (ended_title r)
before_title next_items.Over r = leave_telling events.TitleEnd (ended_title r)

-- after the right part the rest of the line is dropped
abbrev pub next_part : ℕ → ℕ → Reading → Reading
next_part d n r =
    if n == 0 then to (modes.Title d 1) r
    else (if n == 1 then to (modes.Title d 2) r else to modes.TitleRest r)

-- In a part a delimiter is judged first.
abbrev pub title_byte : ℕ → ℕ → ℕ → Reading → Step
title_byte b d n r =
    if b == code "\n" then tell events.TitleEnd (ended_title r)
    else (if b == code "\\" then begin_escape r
    else (if b == d then tell events.TitlePart (next_part d n r) else tell (events.Byte b) r))

abbrev pub title : NextItem → ℕ → ℕ → Reading → Step
title next_items.Mark d n r = go r
title (next_items.Byte b) d n r = title_byte b d n r
title (next_items.Cell c) d n r = tell (events.Cell c) r
title (next_items.LineEnd h) d n r = tell events.TitleEnd (ended_title r)
title next_items.Resume d n r = leave_telling events.TitleEnd (ended_title r)
title next_items.Over d n r = leave_telling events.TitleEnd (ended_title r)

-- The rest of a title's line is read in copy mode, and dropped.
abbrev pub read_title_rest : ℕ → Reading → Step
read_title_rest b r = if b == code "\n" then tell events.TitleEnd (ended_title r) else go r

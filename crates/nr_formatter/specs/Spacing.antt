-- Vertical space. (CSTR 54, section 5.)
use Rattle.std.specs.Prelude.{ℕ, ◌+◌, ◌-◌, suc, min, Bool, true, false, not, ◌&&◌, ◌||◌, ◌==◌, nat_lt, if◌then◌else◌, ℤ, pos, negsuc, int_lt}
use Rattle.nr_settings.specs.Spacing as spaces
use Rattle.nr_formatter.specs.declared.formatter.Formatter.{Formatter}
use Rattle.nr_formatter.specs.declared.paper.Outlet.{Outlet}
use Rattle.nr_formatter.specs.declared.paper.Outlet.TheVariants as outlets
use Rattle.nr_formatter.specs.declared.tasks.Task.TheVariants as tasks
use Rattle.nr_formatter.specs.Access.{line, spacing, diversion}
use Rattle.nr_formatter.specs.Places.{outlet, is_diverting, page_place, present_place, distance_below}
use Rattle.nr_formatter.specs.Pages.{moved_to}

-- ---- space that was asked for

-- none is placed in no-space mode
abbrev pub is_spaceless : ℕ → Formatter → Bool
is_spaceless n f = f.settings.pages.no_space || n == 0

-- Space goes down to the next trap or the bottom at most; what is left of it is lost.
abbrev pub spaced : ℕ → Formatter → Formatter
spaced n f =
    record (moved_to (f.paper.place + min n (distance_below f.paper.place f)) f) { task = tasks.Read }

-- ---- requests

-- an open page takes the output
abbrev pub is_on_page : Outlet → Bool
is_on_page outlets.Diversion = false
is_on_page outlets.NoPage = false
is_on_page outlets.Full = true
is_on_page outlets.Room = true

-- upward on the open page, to its top at most; not in no-space mode
abbrev pub spaced_up : ℕ → Formatter → Formatter
spaced_up n f =
    if is_on_page (outlet f) && not f.settings.pages.no_space
    then record f { paper = record f.paper { place = f.paper.place - n } } else f

abbrev pub sp_by : ℤ → Formatter → Formatter
sp_by (pos n) f = record f { task = tasks.Space n }
sp_by (negsuc n) f = record (spaced_up (suc n) f) { task = tasks.Read }

-- `.sp N`: downward once there is room; upward at once
abbrev pub sp : Formatter → Formatter
sp f = sp_by (spaces.sp (line f) (spacing f) (present_place f)) f

abbrev pub has_room : Outlet → Bool
has_room outlets.Room = true
has_room outlets.Diversion = false
has_room outlets.NoPage = false
has_room outlets.Full = false

-- `.ne N`: on an open page with room, to the next trap or the bottom where that is nearer than N
abbrev pub needed : ℕ → ℤ → Formatter → Formatter
needed below n f =
    if has_room (outlet f) && int_lt (pos below) n then moved_to (f.paper.place + below) f else f

abbrev pub ne : Formatter → Formatter
ne f =
    record (needed (distance_below f.paper.place f) (spaces.ne (line f) (spacing f) (present_place f)) f)
    { task = tasks.Read }

-- `.rt ±N`: upward alone, to a place that is not above the top; not in a diversion
abbrev pub returned : ℤ → Formatter → Formatter
returned (pos n) f =
    if not (is_diverting (diversion f)) && nat_lt n (page_place f.paper)
    then record f { paper = record f.paper { place = n } } else f
returned (negsuc n) f = f

abbrev pub rt : Formatter → Formatter
rt f = record (returned (spaces.rt (line f) (spacing f) (page_place f.paper) f.settings.pages.mark) f)
    { task = tasks.Read }

-- Where output goes, and places. (CSTR 54, section 3.)
use Rattle.std.specs.Prelude.{ℕ, ◌-◌, Bool, true, false, nat_lt, if◌then◌else◌, Option, None, Some, ℤ, pos, ◌<ℤ◌, int_lt, unsigned_abs}
use Rattle.nr_symbol_tables.specs.Trap.{nearest}
use Rattle.nr_symbol_tables.specs.declared.trap.Trap.{Trap}
use Rattle.nr_store.specs.declared.element.Diversion.{Diversion}
use Rattle.nr_formatter.specs.declared.formatter.Formatter.{Formatter}
use Rattle.nr_formatter.specs.declared.paper.Outlet.{Outlet}
use Rattle.nr_formatter.specs.declared.paper.Outlet.TheVariants as outlets
use Rattle.nr_formatter.specs.declared.paper.PageState.{PageState}
use Rattle.nr_formatter.specs.declared.paper.PageState.TheVariants.{Unbegun, Open, Closed}
use Rattle.nr_formatter.specs.declared.paper.Paper.{Paper}
use Rattle.nr_formatter.specs.declared.tasks.Task.TheVariants as tasks
use Rattle.nr_formatter.specs.Access.{diversion}

-- no place is lower
abbrev pub lowest : ℕ
lowest = 2147483647

abbrev pub is_open : PageState → Bool
is_open Unbegun = false
is_open Open = true
is_open Closed = false

-- an open page has room while the place is above its bottom
abbrev pub page_outlet : PageState → ℕ → ℕ → Outlet
page_outlet Unbegun place page_length = outlets.NoPage
page_outlet Open place page_length = if nat_lt place page_length then outlets.Room else outlets.Full
page_outlet Closed place page_length = outlets.NoPage

abbrev pub outlet_of : Option Diversion → Formatter → Outlet
outlet_of None f = page_outlet f.paper.state f.paper.place f.settings.pages.page_length
outlet_of (Some d) f = outlets.Diversion

-- to the innermost diversion, and else to a page
abbrev pub outlet : Formatter → Outlet
outlet f = outlet_of (diversion f) f

-- it is a page
abbrev pub is_on_page : Outlet → Bool
is_on_page outlets.Diversion = false
is_on_page o = true

abbrev pub is_diverting : Option Diversion → Bool
is_diverting None = false
is_diverting (Some d) = true

-- the place on the open page; 0 while none is open
abbrev pub page_place : Paper → ℕ
page_place p = if is_open p.state then p.place else 0

abbrev pub place_in : Option Diversion → Formatter → ℕ
place_in None f = page_place f.paper
place_in (Some d) f = d.height

-- the present place: in the innermost diversion, and else on the open page
abbrev pub present_place : Formatter → ℤ
present_place f = pos (place_in (diversion f) f)

-- ---- distances (CSTR 54, section 7.5)

-- the nearest trap below a place on the page, which stands above the bottom
abbrev pub trap_below : ℕ → Formatter → Option Trap
trap_below place f = nearest (pos place) (pos f.settings.pages.page_length) f.store.traps

-- a place below one on the page, above the bottom
abbrev pub IsBelow : ℕ → Formatter → ℤ → Type 0
IsBelow place f below = (pos place <ℤ below) × (below <ℤ pos f.settings.pages.page_length)

abbrev pub distance_to : ℕ → ℕ → Option Trap → ℕ
distance_to place bottom None = bottom - place
distance_to place bottom (Some t) = unsigned_abs t.place - place

-- from a place to the nearest trap below it, or else to the bottom; 0 at the bottom or below it
abbrev pub distance_below : ℕ → Formatter → ℕ
distance_below place f = distance_to place f.settings.pages.page_length (trap_below place f)

abbrev pub room_above : ℕ → Option Trap → ℕ
room_above height None = lowest
room_above height (Some t) = if int_lt (pos height) t.place then unsigned_abs t.place - height else lowest

abbrev pub room_in : Option Diversion → ℕ
room_in None = lowest
room_in (Some d) = room_above d.height d.trap

-- how far down the innermost diversion goes before its trap; no bound where it has none below
abbrev pub diversion_room : Formatter → ℕ
diversion_room f = room_in (diversion f)

-- a request has taken effect: the input is read on
abbrev pub to_read : Formatter → Formatter
to_read f = record f { task = tasks.Read }

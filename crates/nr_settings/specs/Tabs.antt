-- Tab stops, and what tabs and leaders repeat (CSTR 54, tabs, leaders, and fields).
use Prim.Native.Char.{code}
use Rattle.std.specs.Prelude.{ℕ, zero, suc, ◌*◌, ◌/◌, Bool, false, List, [], ◌∷◌, ◌++◌, length, ◌==◌, nat_le, Option, Some, None, slice_get, ℤ, pos, negsuc, ◌+ℤ◌, if◌then◌else◌}
use Rattle.nr_units.specs.Units.{nearest_multiple}
use Rattle.nr_units.specs.LongestPrefix.{read_of}
use Rattle.nr_units.specs.declared.units.Scale.TheVariants.{Em}
use Rattle.nr_units.specs.declared.expression.Read.{Read}
use Rattle.nr_settings.specs.Arguments.{number_in, after_number, byte_in}
use Rattle.nr_settings.specs.Characters.{printing}
use Rattle.nr_settings.specs.Numbers.{context}
use Rattle.nr_settings.specs.declared.stops.StopKind.{StopKind}
use Rattle.nr_settings.specs.declared.stops.StopKind.TheVariants.{Left, Right, Centre}
use Rattle.nr_settings.specs.declared.stops.Stop.{Stop}
use Rattle.nr_settings.specs.declared.tabs.Ruler.{Ruler}
use Rattle.nr_settings.specs.declared.tabs.Tabs.{Tabs}

-- the arguments of a line that are numbers, at most so many
abbrev pub numbers_in : ℕ → List ℕ → List (List ℕ)
numbers_in zero line = []
numbers_in (suc n) line =
    if length (number_in line) == 0 then [] else number_in line ∷ numbers_in n (after_number line)

-- `+N` counts from the stop before.
abbrev pub is_relative : List ℕ → Bool
is_relative [] = false
is_relative (b ∷ bs) = b == code "+"

abbrev pub after_plus : List ℕ → List ℕ
after_plus [] = []
after_plus (b ∷ bs) = if b == code "+" then bs else b ∷ bs

-- right after the number, R is a right stop and C a centre stop; any other is a left one
abbrev pub kind_of : Option ℕ → StopKind
kind_of None = Left
kind_of (Some c) = if c == code "R" then Right else if c == code "C" then Centre else Left

-- the column of a place, in characters; one before the line's beginning is as one at it, as no text stands before it
abbrev pub column_of : ℤ → ℕ
column_of (pos units) = units / 24
column_of (negsuc n) = 0

-- one stop more: there are 32 at most
abbrev pub planted : StopKind → ℤ → Ruler → Ruler
planted kind place r =
    record { stops = r.stops ++ record { column = column_of place; kind = kind } ∷ []; place = place }

abbrev pub with_place : Bool → StopKind → Option ℤ → Ruler → Ruler
with_place relative kind None r = r
with_place relative kind (Some n) r =
    if nat_le 32 (length r.stops) then r
    else planted kind (nearest_multiple 24 (if relative then r.place +ℤ n else n)) r

-- an argument that is no number is passed over
abbrev pub with_read : Bool → List ℕ → Read → Ruler → Ruler
with_read relative number read r = with_place relative (kind_of (slice_get number read.used)) read.value r

abbrev pub with_stop : ℕ → List ℕ → Ruler → Ruler
with_stop v argument r =
    with_read (is_relative argument) (after_plus argument)
    (read_of (context Em v (pos 0)) (after_plus argument)) r

abbrev pub with_stops : ℕ → List (List ℕ) → Ruler → Ruler
with_stops v [] r = r
with_stops v (argument ∷ more) r = with_stops v more (with_stop v argument r)

abbrev pub empty_ruler : Ruler
empty_ruler = record { stops = []; place = pos 0 }

-- `.ta N[RC] ..`: the stops; without arguments none
abbrev pub ta : List ℕ → ℕ → Tabs → Tabs
ta line v s = record s { stops = (with_stops v (numbers_in (length line) line) empty_ruler).stops }

-- `.tc c`, `.lc c`: what a tab and a leader repeat; without c, or with one that prints nothing, blanks
abbrev pub tc : List ℕ → Tabs → Tabs
tc line s = record s { tab = printing (byte_in line) }

abbrev pub lc : List ℕ → Tabs → Tabs
lc line s = record s { leader = printing (byte_in line) }

-- at first a left stop at every eighth character
abbrev pub every_eighth : ℕ → List Stop
every_eighth zero = []
every_eighth (suc n) = every_eighth n ++ record { column = 8 * suc n; kind = Left } ∷ []

abbrev pub first_tabs : Tabs
first_tabs = record { stops = every_eighth 32; tab = None; leader = Some (code ".") }

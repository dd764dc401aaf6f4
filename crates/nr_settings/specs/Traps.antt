-- The arguments of the requests that set traps (CSTR 54, page control, traps; `.it`: input line number traps).
use Rattle.std.specs.Prelude.{ℕ, zero, suc, Bool, List, Option, Some, None, ℤ, pos, negsuc}
use Rattle.std.specs.Option.{option_map}
use Rattle.nr_units.specs.Units.{nearest_multiple}
use Rattle.nr_units.specs.declared.units.Scale.TheVariants.{VerticalSpace, Unit as OneUnit}
use Rattle.nr_settings.specs.Arguments.{name_in, after_name, after_number}
use Rattle.nr_settings.specs.Numbers.{first_value}
use Rattle.nr_settings.specs.declared.traps.PageTrap.{PageTrap}
use Rattle.nr_settings.specs.declared.traps.PageTrap.TheVariants.{Plant, Remove, Nothing}
use Rattle.nr_settings.specs.declared.traps.TrapMove.{TrapMove}
use Rattle.nr_settings.specs.declared.traps.DiversionTrap.{DiversionTrap}
use Rattle.nr_settings.specs.declared.traps.DiversionTrap.TheVariants.{Set as SetTrap, Remove as RemoveTrap, Nothing as NoTrap}
use Rattle.nr_settings.specs.declared.traps.LineTrap.{LineTrap}
use Rattle.nr_settings.specs.declared.traps.LineTrap.TheVariants.{After, Off, Nothing as NoLines}

-- a place: the number, rounded to a multiple of 40
abbrev pub place_in : ℕ → ℤ → List ℕ → Option ℤ
place_in v here line = option_map (nearest_multiple 40) (first_value VerticalSpace v here line)

-- `.wh N xx`: a trap at N for xx, or without xx none there. Without N nothing changes.
abbrev pub page_trap : Option ℤ → Option (List ℕ) → PageTrap
page_trap None name = Nothing
page_trap (Some place) None = Remove place
page_trap (Some place) (Some name) = Plant place name

abbrev pub wh : List ℕ → Bool → ℕ → ℤ → PageTrap
wh line long v here = page_trap (place_in v here line) (name_in long (after_number line))

-- `.ch xx N`: the trap for xx goes to N, or without N away. Without xx nothing changes.
abbrev pub trap_move : Option ℤ → Option (List ℕ) → Option TrapMove
trap_move place None = None
trap_move place (Some name) = Some (record { name = name; place = place })

abbrev pub ch : List ℕ → Bool → ℕ → ℤ → Option TrapMove
ch line long v here = trap_move (place_in v here (after_name long line)) (name_in long line)

-- `.dt N xx`: the diversion's trap at N for xx, or without both none. With one of them nothing changes.
abbrev pub diversion_trap : Option ℤ → Option (List ℕ) → DiversionTrap
diversion_trap None None = RemoveTrap
diversion_trap None (Some name) = NoTrap
diversion_trap (Some place) None = NoTrap
diversion_trap (Some place) (Some name) = SetTrap place name

abbrev pub dt : List ℕ → Bool → ℕ → ℤ → DiversionTrap
dt line long v here = diversion_trap (place_in v here line) (name_in long (after_number line))

-- `.it N xx`: xx after N text lines; off without both, or where N is below 1. With one of them nothing changes.
abbrev pub line_trap : Option ℤ → Option (List ℕ) → LineTrap
line_trap None None = Off
line_trap None (Some name) = NoLines
line_trap (Some (pos zero)) name = Off
line_trap (Some (pos (suc n))) None = NoLines
line_trap (Some (pos (suc n))) (Some name) = After (suc n) name
line_trap (Some (negsuc n)) name = Off

abbrev pub it : List ℕ → Bool → ℕ → LineTrap
it line long v = line_trap (first_value OneUnit v (pos 0) line) (name_in long (after_number line))

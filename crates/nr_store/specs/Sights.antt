-- What comes next of the levels, without the mode that is resumed.
use Rattle.std.specs.Prelude.{◌≡◌}
use Rattle.nr_store.specs.declared.shown.Shown.{Shown}
use Rattle.nr_store.specs.declared.shown.Shown.TheVariants as shows
use Rattle.nr_store.specs.declared.shown.Sight.{Sight}
use Rattle.nr_store.specs.declared.shown.Sight.TheVariants as sights

-- a mode comes next
abbrev pub IsResume : {K : Type 0} → Shown K → Type 0
IsResume (shows.Resume mode) = Unit {0}
IsResume s = ⊥

-- this is what comes next
abbrev pub Shows : {K : Type 0} → Sight → Shown K → Type 0
Shows (sights.Item x) s = s ≡ shows.Item x
Shows sights.End s = s ≡ shows.End
Shows sights.Resume s = IsResume s
Shows sights.Nothing s = s ≡ shows.Nothing

-- what comes next, with this mode where one does
abbrev pub shown_with : {K : Type 0} → Sight → K → Shown K
shown_with (sights.Item x) mode = shows.Item x
shown_with sights.End mode = shows.End
shown_with sights.Resume mode = shows.Resume mode
shown_with sights.Nothing mode = shows.Nothing

-- How escapes nest in one another's names and arguments.
use Rattle.std.specs.Prelude.{ℕ, ◌+◌, nat_lt, Bool, true, false, if◌then◌else◌, List, [], ◌∷◌, length, count_by}
use Rattle.nr_reading.specs.declared.ask.Ask.{Ask}
use Rattle.nr_reading.specs.declared.mode.Mode.{Mode}
use Rattle.nr_reading.specs.Ask.{counts}
use Rattle.nr_reading.specs.Mode.{reads_name}

abbrev pub is_none : List Ask → Bool
is_none [] = true
is_none (a ∷ asks) = false

-- how many of them count as names in which interpolations nest
abbrev pub counted : List Ask → ℕ
counted asks = count_by (λ (a : Ask). counts a.kind) asks

-- in how many names an interpolation stands; a control line's name counts too
abbrev pub nested : Mode → List Ask → ℕ
nested m asks = counted asks + (if reads_name m then 1 else 0)

-- Inside a name and inside `\w`, interpolations nest at most 8 deep.
abbrev pub may_nest : Mode → List Ask → Bool
may_nest m asks = nat_lt (nested m asks) 9

-- another begins; there is room for ten: an escape in the text, one more in its argument, and eight nested in that
abbrev pub pushed : Ask → List Ask → List Ask
pushed a asks = if nat_lt (length asks) 10 then a ∷ asks else asks

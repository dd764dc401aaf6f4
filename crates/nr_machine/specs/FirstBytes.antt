-- A beginning of the input that is read before what follows it is known.
use Rattle.std.specs.Prelude.{◌≡◌, ℕ, ◌+◌, List, [], ◌++◌, length}
use Rattle.nr_units.specs.Source.{Faults, Never, After, Anytime, Supply}
use Rattle.nr_options.specs.Limits.{Bounds}
use Rattle.nr_options.specs.declared.options.Options.{Options}
use Rattle.nr_machine.specs.State.{State, start}
use Rattle.nr_machine.specs.Machine.{state_after}
use Rattle.nr_machine.specs.Run.{Runs}

-- where a source fails that has so many bytes more before it
abbrev pub after_more : ℕ → Faults → Faults
after_more n Never = Never
after_more n (After m) = After (n + m)
after_more n Anytime = Anytime

-- these bytes, and then those of a source
abbrev pub preceded : List ℕ → Supply → Supply
preceded first rest = record { bytes = first ++ rest.bytes; faults = after_more (length first) rest.faults }

-- these bytes alone, and a failure after the last of them
abbrev pub broken_off : List ℕ → Supply
broken_off first = record { bytes = first; faults = After (length first) }

-- the same, where this is to come of the source after what is left of the first bytes
abbrev pub followed : Supply → State → State
followed rest s = record s { coming = record s.coming { supply = preceded s.coming.supply.bytes rest } }

-- where nothing is left of them
abbrev pub with_rest : Supply → State → State
with_rest rest s = record s { coming = record s.coming { supply = rest } }

-- n moves are made over these bytes alone, all of them are taken, and no move looks further
pub record TakesAll (b : Bounds) (options : Options) (first : List ℕ) (n : ℕ) : Type 0 where
  pub runs : Runs n (start b options (broken_off first))
  pub taken : (state_after n (start b options (broken_off first))).coming.supply ≡ broken_off []

-- These are the first n moves over any input that begins with these bytes, and lead to the same state but for what is to come.
abbrev pub FirstIsKept : Type 0
FirstIsKept =
    (b : Bounds) (options : Options) (first : List ℕ) (n : ℕ) (rest : Supply) → TakesAll b options first n
    → Runs n (start b options (preceded first rest))
    × (state_after n (start b options (preceded first rest)) ≡ with_rest rest (state_after n (start b options (broken_off first))))

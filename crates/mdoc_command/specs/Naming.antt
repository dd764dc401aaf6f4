-- The page's name: the word of the first `.Nm` that has one (mdoc(7), Nm).
use Rattle.std.specs.Prelude.{ℕ, false, ◌||◌}
use Rattle.mdoc_command.specs.declared.naming.Naming.{Naming}

abbrev pub first : Naming
first = record { known = false; waits = false; section = 0 }

-- a word that calls no macro: where `.Nm` waits it is the name
abbrev pub taking : Naming → Naming
taking n = record n { known = n.known || n.waits; waits = false }

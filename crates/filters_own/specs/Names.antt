-- What the name of a table says.
use Rattle.std.specs.Prelude.{ℕ, List, [], drop, get_or, ◌==◌, if◌then◌else◌, Option, None, Some, codes}
use Rattle.std.specs.List.{starts_with}
use Rattle.std.specs.Option.{option_map}
use Rattle.utf8_characters.specs.Tables.{table_named}
use Rattle.filters_own.specs.declared.names.Named.{Named}
use Rattle.filters_own.specs.declared.names.Named.TheVariants.{Fixed, Own}

-- the table of what a file prints, named by the word at this place, or a fixed one
abbrev pub table_at : ℕ → List ℕ → Option Named
table_at place word =
    if starts_with (λ a b. a == b) word (codes "own:") then Some (Own place) else option_map Fixed (table_named word)

-- the file that a name has
abbrev pub file_of : List ℕ → List ℕ
file_of word = if starts_with (λ a b. a == b) word (codes "own:") then drop 4 word else word

abbrev pub file_at : List (List ℕ) → ℕ → List ℕ
file_at words place = file_of (get_or words place [])

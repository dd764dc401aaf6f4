-- The macro files of a run.
use Rattle.std.specs.Prelude.{ℕ, List, [], ◌∷◌, Bool, ◌||◌, if◌then◌else◌, codes}
use Rattle.std.specs.List.{list_any}
use Rattle.std.specs.Str.{bytes_eq}
use Rattle.program_options.specs.Job.{Asked}
use Rattle.program_plan.specs.declared.macros.Macros.{Macros}
use Rattle.program_plan.specs.declared.macros.Macros.TheVariants.{Manual, Named}
use Rattle.program_plan.specs.declared.macros.Macros.TheVariants as macros

-- the names of the macros of manual pages: the page says whether it is one of man(7) or of mdoc(7)
abbrev pub is_manual_name : List ℕ → Bool
is_manual_name name =
    bytes_eq name (codes "an") || (bytes_eq name (codes "andoc") || bytes_eq name (codes "doc"))

abbrev pub has_manual : List (List ℕ) → Bool
has_manual names = list_any is_manual_name names

-- the name of the file of macros that are named so
abbrev pub file_name : List ℕ → List ℕ
file_name name = if is_manual_name name then codes "an" else name

-- one of these names is of that file
abbrev pub names_file : List ℕ → List (List ℕ) → Bool
names_file file names = list_any (λ name. bytes_eq (file_name name) file) names

-- what macros these names are of; where there is no name what the text asks for
abbrev pub named_by : Bool → List (List ℕ) → Macros
named_by asks [] = if asks then Manual else macros.None
named_by asks (name ∷ names) = if has_manual (name ∷ names) then Manual else Named

abbrev pub macros_of : Bool → Asked → Macros
macros_of asks asked = named_by asks asked.macros

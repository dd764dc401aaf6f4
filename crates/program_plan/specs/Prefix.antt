-- What is read before the macro files.
use Rattle.std.specs.Prelude.{ℕ, List, [], ◌∷◌, ◌++◌, Bool, not, ◌&&◌, Option, None, Some, if◌then◌else◌, codes, decimal}
use Rattle.std.specs.List.{flat_map}
use Rattle.program_options.specs.Job.{Asked, Assignment}
use Rattle.program_options.specs.declared.plain.Kind.{Kind}
use Rattle.program_options.specs.declared.plain.Kind.TheVariants.{Register, Text}

-- the cells of a line, for macro files (`L`) and without them
abbrev pub width_lines : ℕ → List ℕ
width_lines cells = codes ".nr L " ++ decimal cells ++ codes "\n.ll " ++ decimal cells ++ codes "n\n"

abbrev pub set_width : Option ℕ → List ℕ
set_width None = []
set_width (Some cells) = width_lines cells

-- the lines of a register and of a string
abbrev pub line_of : Kind → List ℕ → List ℕ → List ℕ
line_of Register name value = codes ".nr " ++ name ++ codes " " ++ value ++ codes "\n"
line_of Text name value = codes ".ds " ++ name ++ codes " \"" ++ value ++ codes "\n"

abbrev pub assignment_line : Assignment → List ℕ
assignment_line set = line_of set.kind set.name set.value

-- registers and strings in order, read with long names
abbrev pub assignment_lines : List Assignment → List ℕ
assignment_lines [] = []
assignment_lines (set ∷ sets) = codes ".cp 0\n" ++ flat_map assignment_line (set ∷ sets) ++ codes ".cp 1\n"

-- one long page
abbrev pub long_line : Bool → List ℕ
long_line is_long = if is_long then codes ".nr C 1\n" else []

-- A manual page is one long page, unless pages are asked for.
abbrev pub prefix : Bool → Asked → List ℕ
prefix is_manual asked =
    long_line (is_manual && not asked.plain.is_paged)
    ++ set_width asked.plain.width
    ++ assignment_lines asked.settings

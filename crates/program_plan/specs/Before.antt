-- The cells of a line, and what is read before a text.
use Rattle.std.specs.Prelude.{◌≡◌, ℕ, List, [], ◌∷◌, ◌++◌, Bool, true, false, Option, None, Some, ◌||◌, if◌then◌else◌, codes}
use Rattle.std.specs.Str.{bytes_eq}
use Rattle.program_options.specs.Job.{Asked}
use Rattle.program_plan.specs.declared.macros.Macros.{Macros}
use Rattle.program_plan.specs.declared.macros.Macros.TheVariants.{Manual}

-- macro files of papers: -ms and -me
abbrev pub is_paper : List ℕ → Bool
is_paper name = bytes_eq name (codes "s") || bytes_eq name (codes "e")

-- those of papers, and of all other text
abbrev pub paper_cells : List (List ℕ) → ℕ
paper_cells [] = 65
paper_cells (name ∷ names) = if is_paper name then 60 else 65

-- those of macro files
abbrev pub usual_cells : Macros → List (List ℕ) → ℕ
usual_cells Manual names = 78
usual_cells other names = paper_cells names

abbrev pub or_usual : Option ℕ → ℕ → ℕ
or_usual (Some cells) usual = cells
or_usual None usual = usual

-- where no word sets them, those of the macro files
abbrev pub cells_of : Macros → Asked → ℕ
cells_of macros asked = or_usual asked.plain.width (usual_cells macros asked.macros)

-- the macros of manual pages
abbrev pub is_of_manual : Macros → Bool
is_of_manual Manual = true
is_of_manual other = false

-- these bytes come first
pub record BeginsWith (first all : List ℕ) : Type 0 where
  pub rest : List ℕ
  pub is : all ≡ first ++ rest

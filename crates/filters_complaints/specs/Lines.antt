-- The lines that report what is wrong with texts.
use Rattle.std.specs.Prelude.{ℕ, List, [], ◌∷◌, ◌++◌, Bool, if◌then◌else◌, codes, decimal}
use Rattle.std.specs.List.{concat, flat_map}
use Rattle.filters_complaints.specs.Complaints.{AllReported}

-- how a line begins that a program tells of a line of the text of this name
abbrev pub place_text : List ℕ → List ℕ → List ℕ → List ℕ
place_text program name line = concat (program ∷ codes ": " ∷ name ∷ codes ":" ∷ line ∷ codes ": " ∷ [])

-- at which line it is, and what is said of it
abbrev pub complaint_line : {C : Type 0} → (C → ℕ) → (C → List ℕ) → List ℕ → List ℕ → C → List ℕ
complaint_line at says program name c = place_text program name (decimal (at c)) ++ says c

-- there was more to report
abbrev pub more_lines : List ℕ → List ℕ → Bool → List ℕ
more_lines program name missed =
    if missed then concat (program ∷ codes ": " ∷ name ∷ codes ": and more\n" ∷ []) else []

-- THE LINES of a program about the text of this name, of which these complaints are reported
abbrev pub lines_of : {C : Type 0} → (C → ℕ) → (C → List ℕ) → List ℕ → List ℕ → AllReported C → List ℕ
lines_of at says program name r =
    flat_map (complaint_line at says program name) r.first.items ++ more_lines program name r.missed

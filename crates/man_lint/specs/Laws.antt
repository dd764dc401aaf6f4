-- What holds of each page.
use Rattle.std.specs.Prelude.{ℕ, ◌+◌, ◌≤◌, List, [], ◌∷◌, ◌==◌, if◌then◌else◌}
use Rattle.std.specs.List.{All}
use Prim.Native.Char.{code}
use Rattle.man_lint.specs.Complaints.{faults_of}
use Rattle.man_lint.specs.declared.reporting.Complaint.{Complaint}

-- a line has its number, counted from 1
pub record IsIn (n line : ℕ) : Type 0 where
  pub first : 1 ≤ line
  pub last : line ≤ n

abbrev pub newlines : List ℕ → ℕ
newlines [] = 0
newlines (b ∷ bs) = (if b == code "\n" then 1 else 0) + newlines bs

-- the lines of a page: one more than its newlines, the last of which may be empty
abbrev pub lines_in : List ℕ → ℕ
lines_in page = 1 + newlines page

-- EACH COMPLAINT IS OF A LINE OF THE PAGE
abbrev pub ComplaintsHaveLines : Type 0
ComplaintsHaveLines = (page : List ℕ) → All (λ (c : Complaint). IsIn (lines_in page) c.line) (faults_of page).first.items

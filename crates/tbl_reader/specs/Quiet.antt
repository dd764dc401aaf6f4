-- Bytes of which no more is said than that they pass, or nothing.
use Rattle.std.specs.Prelude.{◌≡◌, ℕ, ◌+◌, ◌≤◌}
use Rattle.tbl_reader.specs.Pages.{Page}
use Rattle.tbl_reader.specs.Reading.{Fits}

-- the limits stay, what is kept fits, and no more lines than so many began
pub record Stays (p q : Page) (n : ℕ) : Type 0 where
  pub limits : q.limits ≡ p.limits
  pub fits : Fits q
  pub lines : q.state.line ≤ p.state.line + n

-- Escapes in the text of the source that are put at once: fonts, and places to cut.
use Rattle.std.specs.Prelude.{◌≡◌, ◌<◌, ℕ, true, List}
use Rattle.nr_formatter.specs.Many.Runs.{is_in_line}
use Rattle.nr_formatter.specs.declared.formatter.Formatter.{Formatter}
use Rattle.fast_machine.specs.Running.{PutsText}

-- An escape that these bytes begin with was put, in so many moves, and its text line goes on; or none was, and nothing done.
pub record PutsEscape (bs : List ℕ) (taken moves : ℕ) (f g : Formatter) : Type 0 where
  pub puts : 0 < taken → PutsText bs taken moves f g
  pub line : 0 < taken → is_in_line g ≡ true
  pub left : taken ≡ 0 → g ≡ f

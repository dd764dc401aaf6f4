-- What goes out of bytes that are to come, and of the end after them, if it comes, and in how many steps.
use Rattle.std.specs.Prelude.{ℕ, ◌+◌, List, ◌++◌, Bool, true, false}
use Rattle.document_stages.specs.Running.{at_most}
use Rattle.mdoc_converter.specs.Reading.{State, fed, finished}

abbrev pub said : State → Bool → List ℕ → List ℕ
said s true bytes = (fed s bytes).bytes ++ (finished (fed s bytes).state).bytes
said s false bytes = (fed s bytes).bytes

abbrev pub steps_said : State → Bool → List ℕ → ℕ
steps_said s true bytes = (fed s bytes).steps + (finished (fed s bytes).state).steps
steps_said s false bytes = (fed s bytes).steps

-- so many steps were made before
abbrev pub counted : ℕ → State → Bool → List ℕ → ℕ
counted n s ends bytes = at_most (n + steps_said s ends bytes)

-- What goes out of bytes that are to come, and of the end after them, if it comes, and in how many steps.
use Rattle.std.specs.Prelude.{ℕ, ◌+◌, List, ◌++◌, Bool, true, false}
use Rattle.document_stages.specs.Running.{at_most}
use Rattle.preconv_converter.specs.declared.reader.Reader.{Reader}
use Rattle.preconv_converter.specs.Reading.{fed, finished, pending_heard}

abbrev pub said : Reader → Bool → List ℕ → List ℕ
said r true bytes = (fed r bytes).bytes ++ finished (fed r bytes).reader
said r false bytes = (fed r bytes).bytes

abbrev pub steps_said : Reader → Bool → List ℕ → ℕ
steps_said r true bytes = (fed r bytes).steps + (pending_heard (fed r bytes).reader).steps
steps_said r false bytes = (fed r bytes).steps

-- so many steps were made before
abbrev pub counted : ℕ → Reader → Bool → List ℕ → ℕ
counted n r ends bytes = at_most (n + steps_said r ends bytes)

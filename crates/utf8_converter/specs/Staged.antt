-- What goes out of bytes that are to come, and of the end after them, if it comes, and how many of them are
-- dropped.
use Rattle.std.specs.Prelude.{◌≡◌, ℕ, ◌+◌, ◌<◌, ◌≤◌, List, ◌++◌, length, take, Bool, true, false}
use Rattle.document_stages.specs.Running.{at_most}
use Rattle.utf8_converter.specs.Reading.{ended, fed}
use Rattle.utf8_converter.specs.declared.reader.Reader.{Reader}

abbrev pub said : Reader → Bool → List ℕ → List ℕ
said r true bytes = (fed r bytes).bytes ++ (ended (fed r bytes).reader).bytes
said r false bytes = (fed r bytes).bytes

abbrev pub strays_said : Reader → Bool → List ℕ → ℕ
strays_said r true bytes = (fed r bytes).strays + (ended (fed r bytes).reader).strays
strays_said r false bytes = (fed r bytes).strays

-- so many were dropped before
abbrev pub counted : ℕ → Reader → Bool → List ℕ → ℕ
counted n r ends bytes = at_most (n + strays_said r ends bytes)

-- So many of these bytes were read, and what they come to stands at the beginning of a room.
pub record ReadsSome (r s : Reader) (bytes : List ℕ) (taken : ℕ) (room : List ℕ) (end i j : ℕ) : Type 0 where
  pub some : 0 < taken
  pub within : taken ≤ length bytes
  pub reader : s ≡ (fed r (take taken bytes)).reader
  pub out : take end room ≡ (fed r (take taken bytes)).bytes
  pub made : j ≡ at_most (i + (fed r (take taken bytes)).strays)

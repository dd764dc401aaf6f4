-- Bytes that go out as they are.
use Rattle.std.specs.Prelude.{◌≡◌, ℕ, List, take}
use Rattle.preconv_converter.specs.declared.reader.Reader.{Reader}
use Rattle.preconv_converter.specs.Reading.{emitted, fed}

-- the first n of these do, each in one step
abbrev pub Passes : ℕ → List ℕ → Reader → Reader → Type 0
Passes n bytes r s = fed r (take n bytes) ≡ emitted s (take n bytes) n

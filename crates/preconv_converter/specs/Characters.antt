-- A text in UTF-8 is read as its characters (RFC 3629).
use Rattle.std.specs.Prelude.{ℕ, List, [], ◌∷◌, nat_lt, if◌then◌else◌}
use Rattle.std.specs.Char.{encode_utf8}
use Rattle.preconv_lines.specs.declared.half.Coming.{Coming}
use Rattle.preconv_lines.specs.declared.half.Coming.TheVariants.{Byte, Wide}
use Rattle.preconv_converter.specs.declared.reader.Reader.{Reader}
use Rattle.preconv_lines.specs.Offering.{is_raw}
use Rattle.preconv_converter.specs.Reading.{Emitted, emitted, then_emitted, heard, fed}

-- a character comes: one of ASCII by its byte, another, and DEL, by its code
abbrev pub coming_of : ℕ → Coming
coming_of c = if nat_lt c 127 then Byte c else Wide c

-- it is heard, but in comments and ignored lines its bytes pass
abbrev pub read_character : ℕ → Reader → Emitted
read_character c r = if is_raw r.half.line then fed r (encode_utf8 c) else heard (coming_of c) r

-- one after the other
abbrev pub read_characters : Reader → List ℕ → Emitted
read_characters r [] = emitted r [] 0
read_characters r (c ∷ cs) = then_emitted (read_character c r) (λ s. read_characters s cs)

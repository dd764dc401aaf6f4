-- Letters of three bytes that go on a text line: they go out as they come, and so does what only goes on between them.
use Rattle.std.specs.Prelude.{◌≡◌, ℕ, ◌-◌, List, [], ◌∷◌, get_or, take, Bool, true, false, ◌&&◌, nat_lt, if◌then◌else◌}
use Rattle.preconv_characters.specs.Marks.{mark_of}
use Rattle.preconv_characters.specs.Numbers.{is_within}
use Rattle.preconv_characters.specs.declared.marks.Mark.{Mark}
use Rattle.preconv_characters.specs.declared.marks.Mark.TheVariants.{Letter}
use Rattle.preconv_characters.specs.declared.target.Target.TheVariants.{Utf8}
use Rattle.preconv_lines.specs.Half.{is_open}
use Rattle.preconv_lines.specs.Hyphens.{placed}
use Rattle.preconv_lines.specs.declared.half.Line.TheVariants as lines
use Rattle.preconv_converter.specs.declared.reader.Pending.TheVariants.{Nothing}
use Rattle.preconv_converter.specs.declared.reader.Reader.{Reader}
use Rattle.preconv_converter.specs.Reading.{emitted, fed, is_second, is_tail, with_half}

-- a letter from U+3000 on
abbrev pub is_letter : ℕ → ℕ → ℕ → Bool
is_letter a b c = is_within 0xE3 0xEF a && is_second a b && is_tail c

abbrev pub begins_letter : List ℕ → Bool
begins_letter [] = false
begins_letter (a ∷ []) = false
begins_letter (a ∷ b ∷ []) = false
begins_letter (a ∷ b ∷ c ∷ bs) = is_letter a b c

-- they go out as they come: as themselves, in a text line, where nothing is half read and no byte is translated
pub record KeepsLetters (r : Reader) : Type 0 where
  pub table : r.table ≡ Utf8
  pub pending : r.pending ≡ Nothing
  pub line : r.half.line ≡ lines.Text
  pub free : is_open r.half ≡ true

-- what stands before the next character after a byte, the last of a letter or one of ASCII
abbrev pub mark_after : ℕ → Mark
mark_after b = if nat_lt b 128 then mark_of b else Letter

abbrev pub last_mark : ℕ → List ℕ → Mark
last_mark n bytes = mark_after (get_or bytes (n - 1) 0)

-- there the first n of these go out as they come, in so many steps
abbrev pub GoOut : ℕ → List ℕ → ℕ → Type 0
GoOut n bytes steps = (r : Reader) → KeepsLetters r
    → fed r (take n bytes) ≡ emitted (with_half (placed (last_mark n bytes) r.half) r) (take n bytes) steps

-- The mark at the beginning of a text (RFC 2781, section 3.2; RFC 3629, section 6), and what is half read after it.
use Rattle.std.specs.Prelude.{ℕ, List, [], ◌∷◌, Bool, true, false, ◌==◌, ◌&&◌, ◌||◌, if◌then◌else◌}
use Rattle.preconv_coding.specs.declared.wide.Order.TheVariants.{Big, Little}
use Rattle.preconv_coding.specs.declared.wide.Units.{Units}
use Rattle.preconv_coding.specs.declared.part.Part.{Part}
use Rattle.preconv_coding.specs.declared.part.Part.TheVariants.{Start, Mark, LongMark, Head, Plain, Unknown, Eight, Wide}
use Rattle.preconv_coding.specs.declared.part.Step.{Step}
use Rattle.std.specs.Char.{encode_utf8}
use Rattle.preconv_coding.specs.declared.tag.Tells.{Tells}
use Rattle.preconv_coding.specs.declared.tag.Tells.TheVariants as tells
use Rattle.preconv_coding.specs.declared.names.Coding.TheVariants as codings
use Rattle.preconv_coding.specs.Sets.{character_of}
use Rattle.preconv_coding.specs.Tag as tags
use Rattle.preconv_coding.specs.Wide as wides

abbrev pub plain : Part → List ℕ → Step
plain part bytes = record { part = part; text = bytes }

abbrev pub decided : Tells → Part
decided (tells.More head) = Head head
decided (tells.Reads codings.Plain) = Plain
decided (tells.Reads (codings.Eight set)) = Eight set
decided (tells.Unknown head) = Unknown head

-- the first byte of a text without a mark
abbrev pub first : ℕ → Part
first b = decided (tags.taken b tags.first_head)

abbrev pub silent : Part → Step
silent part = record { part = part; text = [] }

abbrev pub is_marking : ℕ → Bool
is_marking b = (b == 0xEF) || (b == 0xFE) || (b == 0xFF)

-- FE FF, FF FE, or EF BB of EF BB BF
abbrev pub after_mark : ℕ → ℕ → Step
after_mark a b =
    if (a == 0xFE) && (b == 0xFF) then silent (Wide (wides.first_wide Big)) else
    if (a == 0xFF) && (b == 0xFE) then silent (Wide (wides.first_wide Little)) else
    if (a == 0xEF) && (b == 0xBB) then silent LongMark else plain Plain (a ∷ b ∷ [])

abbrev pub of_units : Units → Step
of_units u = record { part = Wide u.wide; text = u.text }

-- a byte comes
abbrev pub taken : ℕ → Part → Step
taken b Start = if is_marking b then silent (Mark b) else plain (first b) (b ∷ [])
taken b (Mark a) = after_mark a b
taken b LongMark = if b == 0xBF then silent Plain else plain Plain (0xEF ∷ 0xBB ∷ b ∷ [])
taken b (Head head) = plain (decided (tags.taken b head)) (b ∷ [])
taken b Plain = plain Plain (b ∷ [])
taken b (Unknown head) = plain (Unknown head) (b ∷ [])
taken b (Eight set) = plain (Eight set) (encode_utf8 (character_of set b))
taken b (Wide w) = of_units (wides.taken b w)

-- bytes go out as they are from now on
abbrev pub is_plain : Part → Bool
is_plain Plain = true
is_plain (Unknown head) = true
is_plain part = false

-- the end comes
abbrev pub ended : Part → List ℕ
ended Start = []
ended (Mark a) = a ∷ []
ended LongMark = 0xEF ∷ 0xBB ∷ []
ended (Head head) = []
ended Plain = []
ended (Unknown head) = []
ended (Eight set) = []
ended (Wide w) = wides.ended w

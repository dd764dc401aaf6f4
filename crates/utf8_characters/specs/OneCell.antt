-- Characters that take one cell of a terminal (the Unicode Standard, UAX 11, East Asian Width).
use Rattle.std.specs.Prelude.{ℕ, Bool, ◌&&◌, ◌||◌, nat_le}

abbrev pub is_within : ℕ → ℕ → ℕ → Bool
is_within first last c = nat_le first c && nat_le c last

-- Ranges in which no character is a control character, a blank, wide, or a mark on the one before it; some numbers in them are no
-- character's. From Latin-1 but for its blank and the soft hyphen to the modifier letters; Greek, Cyrillic; punctuation; signs of money;
-- letterlike signs, numbers, arrows, mathematics, technical signs up to U+2319; boxes, blocks, shapes; check marks; brackets of mathematics.
abbrev pub is_one_cell : ℕ → Bool
is_one_cell c =
    is_within 0xA1 0xAC c || is_within 0xAE 0x2FF c || is_within 0x370 0x482 c || is_within 0x48A 0x52F c
    || is_within 0x2010 0x2027 c || is_within 0x2030 0x205E c || is_within 0x20A0 0x20BF c
    || is_within 0x2100 0x2319 c
    || is_within 0x2500 0x25FC c || is_within 0x2713 0x2718 c || is_within 0x27E6 0x27EF c

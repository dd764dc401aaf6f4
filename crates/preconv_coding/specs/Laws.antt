-- Text that goes out as it is, text in UTF-16 (RFC 2781, sections 2.1 and 3), and text that names its coding.
use Prim.Native.Char.{code}
use Rattle.std.specs.Prelude.{◌≡◌, ℕ, ◌+◌, ◌-◌, ◌/◌, ◌%◌, List, [], ◌∷◌, ◌++◌, Bool, true, false, not, ◌==◌, ◌&&◌, ◌||◌, nat_lt, if◌then◌else◌, Option, None, Some, length, codes, nat_le, encode_utf8_all}
use Rattle.std.specs.Str.{all_scalars}
use Rattle.preconv_coding.specs.declared.wide.Order.{Order}
use Rattle.preconv_coding.specs.declared.wide.Order.TheVariants.{Big, Little}
use Rattle.preconv_coding.specs.declared.sets.Set.{Set}
use Rattle.preconv_coding.specs.declared.names.Coding.{Coding}
use Rattle.preconv_coding.specs.declared.names.Coding.TheVariants.{Plain, Eight}
use Rattle.preconv_coding.specs.Names.{coding_named}
use Rattle.preconv_coding.specs.Sets.{characters_of}
use Rattle.preconv_coding.specs.Tag.{goes_on, lowered}
use Rattle.preconv_coding.specs.Part.{is_marking}
use Rattle.preconv_coding.specs.UnderCoding.{text_of}

-- ---- text that goes out as it is

-- its first byte may begin a mark
abbrev pub may_be_marked : List ℕ → Bool
may_be_marked [] = false
may_be_marked (b ∷ bs) = is_marking b

-- no `:` stands in the first two lines, the second of which has begun or not
abbrev pub names_nothing : Bool → List ℕ → Bool
names_nothing second [] = true
names_nothing second (b ∷ bs) =
    if b == code "\n" then second || names_nothing true bs else not (b == code ":") && names_nothing second bs

abbrev pub PlainStays : Type 0
PlainStays = (bs : List ℕ) → may_be_marked bs ≡ false → names_nothing false bs ≡ true → text_of bs ≡ bs

-- ---- text in UTF-16

abbrev pub unit_bytes : Order → ℕ → List ℕ
unit_bytes Big u = u / 256 ∷ u % 256 ∷ []
unit_bytes Little u = u % 256 ∷ u / 256 ∷ []

-- a character is a unit, or a pair of them
abbrev pub utf16 : Order → ℕ → List ℕ
utf16 order c =
    if nat_lt c 0x10000 then unit_bytes order c
    else unit_bytes order (0xD800 + (c - 0x10000) / 0x400)
    ++ unit_bytes order (0xDC00 + (c - 0x10000) % 0x400)

abbrev pub utf16_all : Order → List ℕ → List ℕ
utf16_all order [] = []
utf16_all order (c ∷ cs) = utf16 order c ++ utf16_all order cs

abbrev pub WideIsRead : Type 0
WideIsRead =
    (order : Order) (cs : List ℕ) → all_scalars cs ≡ true
    → text_of (unit_bytes order 0xFEFF ++ utf16_all order cs) ≡ encode_utf8_all cs

-- ---- text whose first line names its coding

abbrev pub line_of : List ℕ → List ℕ
line_of name = codes ".\\\" -*- coding: " ++ name ++ codes " -*-\n"

-- a byte at least, and 32 at most, each of which goes on a name
abbrev pub all_go_on : List ℕ → Bool
all_go_on [] = true
all_go_on (b ∷ bs) = goes_on b && all_go_on bs

abbrev pub is_name : List ℕ → Bool
is_name name = all_go_on name && nat_le 1 (length name) && nat_le (length name) 32

abbrev pub all_lowered : List ℕ → List ℕ
all_lowered [] = []
all_lowered (b ∷ bs) = lowered b ∷ all_lowered bs

abbrev pub SetsAreRead : Type 0
SetsAreRead =
    (name : List ℕ) (set : Set) (bs : List ℕ) → is_name name ≡ true
    → coding_named (all_lowered name) ≡ Some (Eight set)
    → text_of (line_of name ++ bs) ≡ line_of name ++ encode_utf8_all (characters_of set bs)

-- it names UTF-8, ASCII, or what is not known
abbrev pub is_no_set : Option Coding → Bool
is_no_set None = true
is_no_set (Some Plain) = true
is_no_set (Some (Eight set)) = false

abbrev pub OthersStay : Type 0
OthersStay =
    (name bs : List ℕ) → is_name name ≡ true → is_no_set (coding_named (all_lowered name)) ≡ true
    → text_of (line_of name ++ bs) ≡ line_of name ++ bs

-- ---- text of ASCII in any set

abbrev pub all_ascii : List ℕ → Bool
all_ascii [] = true
all_ascii (b ∷ bs) = nat_lt b 128 && all_ascii bs

abbrev pub AsciiStays : Type 0
AsciiStays = (set : Set) (bs : List ℕ) → all_ascii bs ≡ true → encode_utf8_all (characters_of set bs) ≡ bs

-- Units of UTF-16 become characters (RFC 2781, section 2).
use Rattle.std.specs.Prelude.{ℕ, ◌+◌, ◌*◌, ◌%◌, List, [], ◌++◌, Bool, ◌&&◌, nat_le, if◌then◌else◌, Option, None, Some}
use Rattle.std.specs.Char.{encode_utf8}
use lib.Utf8.{scalar}
use Rattle.preconv_coding.specs.declared.wide.Order.{Order}
use Rattle.preconv_coding.specs.declared.wide.Order.TheVariants.{Big, Little}
use Rattle.preconv_coding.specs.declared.wide.Wide.{Wide}
use Rattle.preconv_coding.specs.declared.wide.Units.{Units}

-- what stands for a character that is none
abbrev pub replacement : ℕ
replacement = 0xFFFD

abbrev pub character_of : ℕ → ℕ
character_of c = if scalar c then c else replacement

abbrev pub is_within : ℕ → ℕ → ℕ → Bool
is_within first last u = nat_le first u && nat_le u last

-- the first unit of a pair, and the second
abbrev pub is_high : ℕ → Bool
is_high u = is_within 0xD800 0xDBFF u

abbrev pub is_low : ℕ → Bool
is_low u = is_within 0xDC00 0xDFFF u

-- ten bits of each
abbrev pub pair_code : ℕ → ℕ → ℕ
pair_code high low = 0x10000 + (high % 0x400) * 0x400 + low % 0x400

abbrev pub unit : Order → ℕ → ℕ → ℕ
unit Big a b = a * 256 + b
unit Little a b = b * 256 + a

abbrev pub first_wide : Order → Wide
first_wide order = record { order = order; high = None; first = None }

abbrev pub units : Wide → List ℕ → Units
units wide text = record { wide = wide; text = text }

-- a unit that goes on no pair: it begins one, or is a character
abbrev pub fresh : ℕ → Wide → Units
fresh u w = record {
  wide = record { order = w.order; high = if is_high u then Some u else None; first = None };
  text = if is_high u then [] else encode_utf8 (character_of u);
}

-- the first of a pair without its second is lost
abbrev pub after_high : Option ℕ → ℕ → Wide → Units
after_high None u w = fresh u w
after_high (Some high) u w =
    if is_low u then units (first_wide w.order) (encode_utf8 (character_of (pair_code high u))) else
    units (fresh u w).wide (encode_utf8 replacement ++ (fresh u w).text)

abbrev pub unit_taken : ℕ → Wide → Units
unit_taken u w = after_high w.high u w

abbrev pub after_first : Option ℕ → ℕ → Wide → Units
after_first None b w = units (record { order = w.order; high = w.high; first = Some b }) []
after_first (Some a) b w = unit_taken (unit w.order a b) w

abbrev pub taken : ℕ → Wide → Units
taken b w = after_first w.first b w

-- what is half read at the end is lost
abbrev pub lost_of : Option ℕ → Option ℕ → List ℕ
lost_of None None = []
lost_of high first = encode_utf8 replacement

abbrev pub ended : Wide → List ℕ
ended w = lost_of w.high w.first

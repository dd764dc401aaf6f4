-- A coding that is named in a page's first two lines, as in `.\" -*- coding: koi8-r -*-` (groff's preconv(1), Coding Tags).
use Prim.Native.Char.{code}
use Rattle.std.specs.Prelude.{ℕ, ◌+◌, List, [], ◌∷◌, ◌++◌, length, Bool, true, false, not, ◌==◌, ◌&&◌, ◌||◌, nat_le, if◌then◌else◌, Option, None, Some, codes, slice_get}
use Rattle.nr_units.specs.Name.{is_full}
use Rattle.preconv_coding.specs.declared.tag.Tag.{Tag}
use Rattle.preconv_coding.specs.declared.tag.Tag.TheVariants.{Key, Blanks, Value}
use Rattle.preconv_coding.specs.declared.tag.Head.{Head}
use Rattle.preconv_coding.specs.declared.tag.Tells.{Tells}
use Rattle.preconv_coding.specs.declared.tag.Tells.TheVariants.{More, Reads, Unknown}
use Rattle.preconv_coding.specs.declared.names.Coding.{Coding}
use Rattle.preconv_coding.specs.declared.names.Coding.TheVariants.{Plain}
use Rattle.preconv_coding.specs.Names.{coding_named}

abbrev pub key : List ℕ
key = codes "coding:"

abbrev pub is_within : ℕ → ℕ → ℕ → Bool
is_within first last b = nat_le first b && nat_le b last

abbrev pub goes_on : ℕ → Bool
goes_on b =
    is_within (code "A") (code "Z") b || is_within (code "a") (code "z") b
    || is_within (code "0") (code "9") b || (b == code "-") || (b == code "/") || (b == code "_")

abbrev pub lowered : ℕ → ℕ
lowered b = if is_within (code "A") (code "Z") b then b + 32 else b

-- one byte more of the key, or its beginning
abbrev pub key_by : Option ℕ → ℕ → ℕ → ℕ
key_by None count b = if b == code "c" then 1 else 0
key_by (Some next) count b = if next == b then count + 1 else if b == code "c" then 1 else 0

abbrev pub key_read : ℕ → ℕ → ℕ
key_read count b = key_by (slice_get key count) count b

abbrev pub first_head : Head
first_head = record { second = false; tag = Key 0; name = [] }

abbrev pub going : Tag → Head → Tells
going tag h = More (record { second = h.second; tag = tag; name = h.name })

abbrev pub spelling : ℕ → Head → Tells
spelling b h = More (record { second = h.second; tag = Value; name = h.name ++ lowered b ∷ [] })

abbrev pub line_ended : Head → Tells
line_ended h = if h.second then Reads Plain else More (record { second = true; tag = Key 0; name = [] })

abbrev pub after_key : ℕ → Head → Tells
after_key read h = going (if read == 7 then Blanks else Key read) h

abbrev pub of_name : Option Coding → Head → Tells
of_name (Some coding) h = Reads coding
of_name None h = Unknown h

-- the name was read whole; an empty one names nothing
abbrev pub named : Head → Tells
named h = if length h.name == 0 then Reads Plain else of_name (coding_named h.name) h

abbrev pub in_value : ℕ → Head → Tells
in_value b h = if goes_on b && not (is_full h.name) then spelling b h else named h

abbrev pub in_blanks : ℕ → Head → Tells
in_blanks b h =
    if b == code "\n" then line_ended h else
    if b == code " " then going Blanks h else in_value b h

abbrev pub in_key : ℕ → ℕ → Head → Tells
in_key count b h = if b == code "\n" then line_ended h else after_key (key_read count b) h

-- a byte comes: in the name, after the key, or before it
abbrev pub taken_at : Tag → ℕ → Head → Tells
taken_at Value b h = in_value b h
taken_at Blanks b h = in_blanks b h
taken_at (Key count) b h = in_key count b h

abbrev pub taken : ℕ → Head → Tells
taken b h = taken_at h.tag b h

-- The text of bytes, read as UTF-8.
use Rattle.std.specs.Prelude.{ℕ, List, [], ◌∷◌, ◌++◌, if◌then◌else◌, Option, None, Some, encode_utf8_all, length, map, nat_le}
use Rattle.std.specs.Option.{option_map}
use Rattle.nr_units.specs.Source.{Faults, Never, After, Anytime, Supply}
use Rattle.preconv_coding.specs.declared.names.Coding.{Coding}
use Rattle.preconv_coding.specs.declared.names.Coding.TheVariants.{Plain, Eight}
use Rattle.preconv_coding.specs.declared.part.Part.{Part}
use Rattle.preconv_coding.specs.declared.part.Part.TheVariants.{Start}
use Rattle.preconv_coding.specs.declared.part.Part.TheVariants as parts
use Rattle.preconv_coding.specs.declared.under_coding.Unknown.{Unknown}
use Rattle.preconv_coding.specs.Names.{coding_named}
use Rattle.preconv_coding.specs.Tag.{lowered}
use Rattle.preconv_coding.specs.Sets.{characters_of}
use Rattle.preconv_coding.specs.Part.{taken, ended, is_plain}

-- the text of the bytes that are to come
abbrev pub text_from : Part → List ℕ → List ℕ
text_from part [] = ended part
text_from part (b ∷ bs) = (taken b part).text ++ text_from (taken b part).part bs

-- the text of all bytes
abbrev pub text_of : List ℕ → List ℕ
text_of bs = text_from Start bs

-- it fails at no call where its bytes come at each, and else it may at any
abbrev pub text_faults : Faults → Faults
text_faults Never = Never
text_faults (After n) = Anytime
text_faults Anytime = Anytime

abbrev pub given : Part → List ℕ → Supply → Supply
given part ready q = record { bytes = ready ++ text_from part q.bytes; faults = text_faults q.faults }

abbrev pub supply_from : Part → List ℕ → Option Supply → Option Supply
supply_from part ready known = option_map (given part ready) known

abbrev pub text_supply : Option Supply → Option Supply
text_supply known = option_map (λ (q : Supply). record { bytes = text_of q.bytes; faults = text_faults q.faults }) known

-- the coding of a name whose letters are of either case: no name that is known has more than 32 bytes
abbrev pub coding_of : List ℕ → Option Coding
coding_of name = if nat_le (length name) 32 then coding_named (map lowered name) else None

-- the text of bytes under a coding
abbrev pub coded : Coding → List ℕ → List ℕ
coded Plain bs = bs
coded (Eight set) bs = encode_utf8_all (characters_of set bs)

abbrev pub coded_supply : Coding → Option Supply → Option Supply
coded_supply coding known =
    option_map (λ (q : Supply). record { bytes = coded coding q.bytes; faults = text_faults q.faults }) known

-- bytes that go out as they are may be taken many at once
abbrev pub hand_of : Part → List ℕ → List ℕ → List ℕ
hand_of part [] hand = if is_plain part then hand else []
hand_of part (b ∷ bs) hand = []

-- a coding that the text names, and that is not known
abbrev pub unknown_in : Part → Option Unknown
unknown_in (parts.Unknown h) = Some (record { name = h.name; line = if h.second then 2 else 1 })
unknown_in part = None

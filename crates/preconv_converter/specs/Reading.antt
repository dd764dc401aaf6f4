-- Bytes become characters (RFC 3629; ISO 8859-1), and these are heard.
use Rattle.std.specs.Prelude.{◌≡◌, ℕ, zero, suc, ◌+◌, ◌*◌, ◌%◌, List, [], ◌∷◌, ◌++◌, take, Bool, ◌&&◌, ◌==◌}
use Rattle.std.specs.Prelude.{nat_lt, if◌then◌else◌}
use Rattle.preconv_characters.specs.declared.target.Target.{Target}
use Rattle.preconv_lines.specs.declared.half.Half.{Half}
use Rattle.preconv_lines.specs.declared.half.Coming.{Coming}
use Rattle.preconv_lines.specs.declared.half.Coming.TheVariants.{Byte, Wide}
use Rattle.preconv_lines.specs.declared.half.Line.{Line}
use Rattle.preconv_lines.specs.declared.half.Line.TheVariants as lines
use Rattle.preconv_converter.specs.declared.reader.Reader.{Reader}
use Rattle.preconv_converter.specs.declared.reader.Pending.{Pending}
use Rattle.preconv_converter.specs.declared.reader.Pending.TheVariants.{Nothing, One, Two, Three}
use Rattle.preconv_characters.specs.Numbers.{is_within}
use Rattle.preconv_characters.specs.Saying.{bytes_of, sent, all_sent}
use Rattle.preconv_lines.specs.Half.{first_half}
use Rattle.preconv_lines.specs.Lines.{passing}
use Rattle.preconv_lines.specs.Offering.{offer, is_raw}

-- What is half read then, what goes out, and in how many steps: a character is offered to what is half read,
-- or a byte passes as it is.
pub record Emitted : Type 0 where
  pub reader : Reader
  pub bytes : List ℕ
  pub steps : ℕ

abbrev pub emitted : Reader → List ℕ → ℕ → Emitted
emitted r bytes steps = record { reader = r; bytes = bytes; steps = steps }

-- these bytes, in so many steps, and then what comes
abbrev pub preceded : List ℕ → ℕ → Emitted → Emitted
preceded bytes steps t = record { reader = t.reader; bytes = bytes ++ t.bytes; steps = steps + t.steps }

-- first the one, then the other
abbrev pub then_emitted : Emitted → (Reader → Emitted) → Emitted
then_emitted t next = preceded t.bytes t.steps (next t.reader)

-- a page begins
abbrev pub first_reader : Target → Reader
first_reader table = record { half = first_half; pending = Nothing; table = table }

-- ---- a character is heard: it is offered again until it is taken

abbrev pub with_half : Half → Reader → Reader
with_half h r = record r { half = h }

abbrev pub heard_in : ℕ → Coming → Reader → Emitted
heard_in zero coming r = emitted r [] 0
heard_in (suc n) coming r =
    let m = offer coming r.half in
    preceded (bytes_of r.table m.said) 1 (if m.takes then emitted (with_half m.half r) [] 0
    else heard_in n coming (with_half m.half r))

-- six times are enough: an escape that is none, and words that end and begin
unfoldable pub heard : Coming → Reader → Emitted
heard coming r = heard_in 6 coming r

-- ---- characters of several bytes

abbrev pub is_lead : ℕ → Bool
is_lead b = is_within 194 244 b

abbrev pub is_tail : ℕ → Bool
is_tail b = is_within 128 191 b

-- no longer form than is needed, no surrogate, nothing above U+10FFFF
abbrev pub is_second : ℕ → ℕ → Bool
is_second first b =
    if first == 224 then is_within 160 191 b else
    if first == 237 then is_within 128 159 b else
    if first == 240 then is_within 144 191 b else
    if first == 244 then is_within 128 143 b else is_tail b

abbrev pub low_six : ℕ → ℕ
low_six b = b % 64

-- a character of two bytes, and one of three
abbrev pub is_two : ℕ → ℕ → Bool
is_two a b = is_within 194 223 a && is_tail b

abbrev pub is_three : ℕ → ℕ → ℕ → Bool
is_three a b c = is_within 224 239 a && is_second a b && is_tail c

abbrev pub two_code : ℕ → ℕ → ℕ
two_code a b = (a % 32) * 64 + low_six b

abbrev pub three_code : ℕ → ℕ → ℕ → ℕ
three_code a b c = (a % 16) * 4096 + low_six b * 64 + low_six c

-- a byte that is no part of one comes as Latin-1
abbrev pub stray : ℕ → Reader → Emitted
stray b r = heard (Wide b) r

abbrev pub pending_with : Pending → Reader → Reader
pending_with pending r = record r { pending = pending }

abbrev pub strays : Pending → Reader → Emitted
strays Nothing r = emitted r [] 0
strays (One a) r = stray a r
strays (Two a b) r = then_emitted (stray a r) (λ s. stray b s)
strays (Three a b c) r = then_emitted (then_emitted (stray a r) (λ s. stray b s)) (λ s. stray c s)

-- what was read of a character was none
abbrev pub pending_heard : Reader → Emitted
pending_heard r = strays r.pending (pending_with Nothing r)

abbrev pub fresh : ℕ → Reader → Emitted
fresh b r =
    if nat_lt b 127 then heard (Byte b) r else
    if is_lead b then emitted (pending_with (One b) r) [] 0 else stray b r

abbrev pub apart : ℕ → Reader → Emitted
apart b r = then_emitted (pending_heard r) (λ s. fresh b s)

abbrev pub whole : ℕ → Reader → Emitted
whole c r = heard (Wide c) (pending_with Nothing r)

-- by what is pending
abbrev pub heard_after : Pending → ℕ → Reader → Emitted
heard_after Nothing b r = apart b r
heard_after (One a) b r =
    if is_second a b
    then (if nat_lt a 224 then whole ((a % 32) * 64 + low_six b) r else emitted (pending_with (Two a b) r) [] 0)
    else apart b r
heard_after (Two a b) c r =
    if is_tail c
    then (if nat_lt a 240 then whole ((a % 16) * 4096 + low_six b * 64 + low_six c) r
    else emitted (pending_with (Three a b c) r) [] 0)
    else apart c r
heard_after (Three a b c) d r =
    if is_tail d then whole ((a % 8) * 262144 + low_six b * 4096 + low_six c * 64 + low_six d) r
    else apart d r

abbrev pub heard_byte : ℕ → Reader → Emitted
heard_byte b r = heard_after r.pending b r

-- ---- a byte, and the end

abbrev pub read : ℕ → Reader → Emitted
read b r = if is_raw r.half.line then emitted (with_half (passing b r.half) r) (sent r.table b ∷ []) 1
    else heard_byte b r

-- a name that is half read
abbrev pub name_left : Line → List ℕ → List ℕ
name_left lines.Control name = name
name_left lines.Name name = name
name_left lines.Face name = name
name_left (lines.Asked asked) name = name
name_left line name = []

-- what is half read at the end goes out as it is
abbrev pub ended : Reader → List ℕ
ended r = all_sent r.table r.half.kept ++ all_sent r.table (name_left r.half.line r.half.name)

abbrev pub finished : Reader → List ℕ
finished r = (pending_heard r).bytes ++ ended (pending_heard r).reader

-- ---- many bytes

abbrev pub fed : Reader → List ℕ → Emitted
fed r [] = emitted r [] 0
fed r (b ∷ bs) = then_emitted (read b r) (λ s. fed s bs)

-- ---- bytes are taken one after another

-- the first n of these, in so many steps, and what comes of them stands after what was pending
pub record Takes (n : ℕ) (bytes : List ℕ) (r s : Reader) (pending left : List ℕ) (steps : ℕ) : Type 0 where
  pub reader : s ≡ (fed r (take n bytes)).reader
  pub out : left ≡ pending ++ (fed r (take n bytes)).bytes
  pub made : steps ≡ (fed r (take n bytes)).steps

-- ---- the definition: what comes of all bytes of an input

abbrev pub converted : Target → List ℕ → List ℕ
converted table input =
    let t = fed (first_reader table) input in
    t.bytes ++ finished t.reader

-- in how many steps that comes
abbrev pub steps_of : Target → List ℕ → ℕ
steps_of table input =
    let t = fed (first_reader table) input in
    t.steps + (pending_heard t.reader).steps

-- Conditions (the groff manual, Operators in Conditionals): those on names become 1 or 0, as what holds here.
use Prim.Native.Char.{code}
use Rattle.std.specs.Prelude.{ℕ, List, [], length, Bool, true, false, ◌==◌, ◌||◌, if◌then◌else◌}
use Rattle.preconv_characters.specs.declared.said.Said.TheVariants.{Nothing, Byte}
use Rattle.preconv_lines.specs.declared.half.Half.{Half}
use Rattle.preconv_lines.specs.declared.half.Line.{Line}
use Rattle.preconv_lines.specs.declared.half.Line.TheVariants as lines
use Rattle.preconv_lines.specs.declared.half.Asked.{Asked}
use Rattle.preconv_lines.specs.declared.half.Asked.TheVariants.{Defined, Always, Never}
use Rattle.preconv_characters.specs.Numbers.{begins_number}
use Rattle.preconv_characters.specs.Beginnings.{is_known}
use Rattle.preconv_lines.specs.Half.{Offered, taken, left}
use Rattle.preconv_lines.specs.Hyphens.{saying}
use Rattle.preconv_lines.specs.Endings.{with_byte}

abbrev pub is_gap : ℕ → Bool
is_gap b = (b == code " ") || (b == code "\t")

-- ---- the first byte tells the condition: n t o e, v, d, c F, r m S, a number, or strings between delimiters

abbrev pub asking : Asked → Half → Offered
asking asked h = taken Nothing (record h { line = lines.Asked asked; name = [] })

abbrev pub before_condition : ℕ → Half → Offered
before_condition b h =
    if b == code "\n" then saying b lines.Start h else
    if is_gap b || (b == code "!") then saying b lines.Condition h else
    if (b == code "n") || (b == code "t") || (b == code "o") || (b == code "e")
    then saying b lines.Part h else
    if b == code "v" then saying (code "0") lines.Part h else
    if b == code "d" then asking Defined h else
    if (b == code "c") || (b == code "F") then asking Always h else
    if (b == code "r") || (b == code "m") || (b == code "S") then asking Never h else
    if begins_number b then saying b lines.Number h else saying b (lines.Strings b false) h

abbrev pub in_number : ℕ → Half → Offered
in_number b h =
    if b == code "\n" then saying b lines.Start h else
    if is_gap b then saying b lines.Part h else saying b lines.Number h

abbrev pub in_strings : ℕ → Bool → ℕ → Half → Offered
in_strings delimiter ended b h =
    if b == code "\n" then saying b lines.Start h else
    if b == delimiter
    then (if ended then saying b lines.Part h else saying b (lines.Strings delimiter true) h)
    else saying b (lines.Strings delimiter ended) h

-- ---- names

abbrev pub holds : Asked → List ℕ → Bool
holds Defined name = is_known name
holds Always name = true
holds Never name = false

abbrev pub answer : Asked → Half → ℕ
answer asked h = if holds asked h.name then code "1" else code "0"

abbrev pub answering : Asked → Line → Half → Offered
answering asked line h = left (Byte (answer asked h)) (record h { line = line })

abbrev pub in_asked : Asked → ℕ → Half → Offered
in_asked asked b h =
    if b == code "\n" then answering asked lines.Request h else
    if is_gap b then (if length h.name == 0 then taken Nothing h else answering asked lines.Part h)
    else taken Nothing (record h { name = with_byte b h.name })

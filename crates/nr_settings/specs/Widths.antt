-- The width of a text that was read once in argument mode: of the argument of `\w` (CSTR 54, width function).
use Prim.Native.Char.{code}
use Rattle.std.specs.Prelude.{ℕ, zero, suc, ◌+◌, ◌*◌, Bool, List, [], ◌∷◌, length, take, ◌==◌, Option, Some, None, pos, unwrap_or, if◌then◌else◌}
use Rattle.nr_settings.specs.Characters.{prints}
use Rattle.nr_settings.specs.Motions.{motion}
use Rattle.nr_settings.specs.Specials.{special_of, cells_of}
use Rattle.nr_settings.specs.Escapes.{escape_of, escape_name_len, bracketed, register_len, delimited_len, delimited, size_len, len_before}
use Rattle.nr_settings.specs.declared.escapes.Escape.{Escape}
use Rattle.nr_settings.specs.declared.escapes.Escape.TheVariants.{OneCell, Nothing, Comment, Argument, Named, Register, Pair, Bracket, Motion, Delimited, Size, Plain}
use Rattle.nr_settings.specs.declared.specials.Special.{Special}
use Rattle.nr_settings.specs.declared.widths.Element.{Element}

-- 24 units for a byte that prints
abbrev pub byte_width : ℕ → ℕ
byte_width b = if prints b then 24 else 0

abbrev pub special_width : Option Special → ℕ
special_width None = 0
special_width (Some special) = 24 * cells_of special

-- an element that has so many bytes after its first, and this width
abbrev pub of_width : ℕ → ℕ → Element
of_width more width = record { more = more; width = width }

-- Of an escape, what stands after its two bytes, and its width. What it would take past the end isn't there.
abbrev pub escaped : Bool → ℕ → ℕ → List ℕ → Escape → Element
escaped long v c text OneCell = of_width 1 24
escaped long v c text Nothing = of_width 1 0
escaped long v c text Comment = of_width (1 + length text) 0
escaped long v c text Argument = of_width 2 0
escaped long v c text Named = of_width (1 + escape_name_len long text) 0
escaped long v c text Register = of_width (1 + register_len long text) 0
escaped long v c text Pair = of_width 3 (special_width (special_of (take 2 text)))
escaped long v c text Bracket =
    of_width (2 + len_before (code "]") text) (special_width (special_of (bracketed text)))
escaped long v c text Motion =
    of_width (1 + delimited_len text) (unwrap_or (motion v (pos 0) (delimited text)) 0)
escaped long v c text Delimited = of_width (1 + delimited_len text) 0
escaped long v c text Size = of_width (1 + size_len text) 0
escaped long v c text Plain = of_width 1 (byte_width c)

abbrev pub after_backslash : Bool → ℕ → List ℕ → Element
after_backslash long v [] = of_width 0 0
after_backslash long v (c ∷ text) = escaped long v c text (escape_of long c)

-- the element that a text begins with
abbrev pub element_of : Bool → ℕ → ℕ → List ℕ → Element
element_of long v b text = if b == code "\\" then after_backslash long v text else of_width 0 (byte_width b)

-- the sum of the elements' widths, where so many bytes still belong to the element before
abbrev pub widths : Bool → ℕ → ℕ → List ℕ → ℕ
widths long v more [] = 0
widths long v zero (b ∷ text) =
    (element_of long v b text).width + widths long v (element_of long v b text).more text
widths long v (suc more) (b ∷ text) = widths long v more text

abbrev pub width_of : Bool → ℕ → List ℕ → ℕ
width_of long v text = widths long v 0 text

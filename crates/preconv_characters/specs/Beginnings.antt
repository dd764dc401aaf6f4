-- What the name of a control line makes of the rest of it.
use Prim.Native.Char.{code}
use Rattle.std.specs.Prelude.{ℕ, ◌-◌, List, [], ◌∷◌, ◌++◌, length, take, drop, Bool, true, false, not, ◌==◌}
use Rattle.std.specs.Prelude.{◌&&◌, ◌||◌, if◌then◌else◌, Option, None, Some, is_some, codes, slice_index}
use Rattle.std.specs.Str.{bytes_eq}
use Rattle.nr_units.specs.Name.{is_full}
use Rattle.preconv_characters.specs.declared.said.Said.{Said}
use Rattle.preconv_characters.specs.declared.said.Said.TheVariants.{Kept}
use Rattle.preconv_characters.specs.declared.beginnings.Opens.{Opens}
use Rattle.preconv_characters.specs.declared.beginnings.Opens.TheVariants.{Rest, Definition, Ignored}
use Rattle.preconv_characters.specs.declared.beginnings.Opens.TheVariants.{Condition, Else, Nop, Translation}
use Rattle.preconv_characters.specs.declared.beginnings.Opens.TheVariants.{Face, Words, Paragraph, Tagged}
use Rattle.preconv_characters.specs.declared.beginnings.Opens.TheVariants.{Plain, Title}
use Rattle.preconv_characters.specs.declared.beginnings.TheConstants.{OPENING, KNOWN}
use Rattle.preconv_characters.specs.Glyphs.{looked_up}

-- what a table has for a name of one byte or two
abbrev pub entry : {T : Type 0} → List (ℕ × ℕ × T) → List ℕ → Option T
entry table [] = None
entry table (a ∷ []) = looked_up table a (code " ")
entry table (a ∷ b ∷ []) = looked_up table a b
entry table (a ∷ b ∷ c ∷ rest) = None

unfoldable pub known_entry : List ℕ → Option Bool
known_entry name = entry KNOWN name

-- those with the same first byte stand side by side: where they begin in the table, and where they end
abbrev pub group_of : ℕ → ℕ × ℕ
group_of b =
    if b == code "." then (0, 1) else
    if b == code "A" then (1, 3) else
    if b == code "B" then (3, 7) else
    if b == code "C" then (7, 9) else
    if b == code "D" then (9, 10) else
    if b == code "G" then (10, 11) else
    if b == code "H" then (11, 12) else
    if b == code "I" then (12, 16) else
    if b == code "L" then (16, 18) else
    if b == code "M" then (18, 20) else
    if b == code "N" then (20, 22) else
    if b == code "P" then (22, 24) else
    if b == code "R" then (24, 27) else
    if b == code "S" then (27, 33) else
    if b == code "T" then (33, 41) else
    if b == code "U" then (41, 44) else
    if b == code "a" then (44, 46) else
    if b == code "d" then (46, 48) else
    if b == code "e" then (48, 49) else
    if b == code "f" then (49, 50) else
    if b == code "i" then (50, 53) else
    if b == code "t" then (53, 54) else
    (0, 0)

abbrev pub group : ℕ → List (ℕ × ℕ × Opens)
group b = take ((group_of b).1 - (group_of b).0) (drop (group_of b).0 OPENING)

unfoldable pub opening_entry : List ℕ → Option Opens
opening_entry name = entry OPENING name

-- a request of the language, or a name of the macro file for manual pages
abbrev pub is_known : List ℕ → Bool
is_known name = is_some (known_entry name)

abbrev pub opens_or_rest : Option Opens → Opens
opens_or_rest None = Rest
opens_or_rest (Some opens) = opens

abbrev pub opened_by : List ℕ → Opens
opened_by name = opens_or_rest (opening_entry name)

abbrev pub definition_alone : Opens → Opens
definition_alone Definition = Definition
definition_alone opens = Rest

-- `de1` and `am1` are as `de` and `am`
abbrev pub opened : List ℕ → Opens
opened name =
    if (length name == 3) && (slice_index name 2 == code "1")
    then definition_alone (opened_by (take 2 name)) else
    if bytes_eq name (codes "nop") then Nop else opened_by name

-- requests that take no words
abbrev pub is_alone : List ℕ → Bool
is_alone name = bytes_eq name (codes "nf") || bytes_eq name (codes "fi") || bytes_eq name (codes "br")

-- with a blank before an escape
abbrev pub apart : List ℕ → ℕ → List ℕ
apart name b = if (b == code "\\") && not (is_full name) then name ++ code " " ∷ [] else name

-- How a name goes out before this byte: that of a definition without its third byte, and that of a condition,
-- or of a request that takes no words, with a blank before an escape. `.nop` is a condition that holds.
abbrev pub said_name : Opens → List ℕ → ℕ → Said
said_name Definition name b = Kept (if length name == 3 then take 2 name else name)
said_name Condition name b = Kept (apart name b)
said_name Else name b = Kept (apart name b)
said_name Rest name b = Kept (if is_alone name then apart name b else name)
said_name Nop name b = Kept (codes "if 1 ")
said_name opens name b = Kept name

-- text after its line is roman
abbrev pub is_roman : Opens → Bool
is_roman (Words fonts) = true
is_roman Paragraph = true
is_roman Tagged = true
is_roman Plain = true
is_roman Title = true
is_roman opens = false

-- so it goes out as it is, and so does a blank or a newline after it
abbrev pub goes_out : Opens → ℕ → Bool
goes_out Ignored len = false
goes_out Condition len = false
goes_out Else len = false
goes_out Nop len = false
goes_out Translation len = false
goes_out Face len = false
goes_out Definition len = not (len == 3)
goes_out opens len = true

-- The table of macros by their names (mdoc(7), MACRO OVERVIEW).
use Rattle.std.specs.Prelude.{ℕ, List, [], ◌∷◌, not, ◌==◌, ◌&&◌, ◌||◌, if◌then◌else◌}
use Rattle.std.specs.Prelude.{Option, None, Some}
use Prim.Native.Char.{code}
use Rattle.mdoc_layout.specs.declared.macros.Macro.{Macro}
use Rattle.mdoc_layout.specs.declared.macros.Macro.TheVariants as macros
use Rattle.mdoc_layout.specs.declared.macros.Font.{Font}
use Rattle.mdoc_layout.specs.declared.macros.Font.TheVariants.{Roman, Italic}
use Rattle.mdoc_layout.specs.declared.macros.Pair.TheVariants.{Braces}
use Rattle.mdoc_layout.specs.declared.macros.System.TheVariants.{BsdOs}
use Rattle.mdoc_words.specs.declared.macros.TheConstants.{NAMES}

-- what a table has after a name of two bytes
abbrev pub looked_up : {T : Type 0} → List (ℕ × ℕ × T) → ℕ → ℕ → Option T
looked_up [] a b = None
looked_up (entry ∷ entries) a b =
    if (entry.0 == a) && (entry.1 == b) then Some entry.2 else looked_up entries a b

unfoldable pub letters_macro : ℕ → ℕ → Option Macro
letters_macro a b = looked_up NAMES a b

-- a part of a reference: books, publishers and journals are in italics
abbrev pub part_font : ℕ → Font
part_font b = if (b == code "B") || (b == code "I") || (b == code "J") then Italic else Roman

abbrev pub short_macro : ℕ → ℕ → Option Macro
short_macro a b = if a == code "%" then Some (macros.Part b) else letters_macro a b

abbrev pub brace_macro : ℕ → Option Macro
brace_macro c =
    if c == code "q" then Some (macros.Encloses Braces) else
    if c == code "o" then Some (macros.Opens Braces) else
    if c == code "c" then Some (macros.Closes Braces) else None

-- `Bsx`, `Brq`, `Bro` and `Brc`
abbrev pub long_macro : ℕ → ℕ → ℕ → Option Macro
long_macro a b c =
    if (a == code "B") && (b == code "s") && (c == code "x") then Some (macros.Stands BsdOs) else
    if not (a == code "B") || not (b == code "r") then None else brace_macro c

-- the macro of a name
abbrev pub macro_of : List ℕ → Option Macro
macro_of [] = None
macro_of (a ∷ []) = None
macro_of (a ∷ b ∷ []) = short_macro a b
macro_of (a ∷ b ∷ c ∷ []) = long_macro a b c
macro_of (a ∷ b ∷ c ∷ d ∷ rest) = None

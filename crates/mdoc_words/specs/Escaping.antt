-- How far an escape has been read (CSTR 54, section 10.1; groff manual, "Escapes").
use Rattle.std.specs.Prelude.{ℕ, Bool, ◌==◌, ◌||◌, if◌then◌else◌, Option, None, Some}
use Prim.Native.Char.{code}
use Rattle.mdoc_layout.specs.declared.page.Escape.{Escape}
use Rattle.mdoc_layout.specs.declared.page.Escape.TheVariants as escapes

-- letters after which a name comes: one letter, `(` and two, or `[` and all up to `]`
abbrev pub takes_name : ℕ → Bool
takes_name b =
    (b == code "*") || (b == code "n") || (b == code "f") || (b == code "s") || (b == code "g") || (b == code "k")
    || (b == code "F") || (b == code "m") || (b == code "M") || (b == code "V") || (b == code "Y")

-- letters after which an argument comes, between two marks
abbrev pub takes_argument : ℕ → Bool
takes_argument b =
    (b == code "h") || (b == code "v") || (b == code "w") || (b == code "o") || (b == code "b") || (b == code "l")
    || (b == code "L") || (b == code "D") || (b == code "N") || (b == code "x") || (b == code "X") || (b == code "Z")
    || (b == code "A") || (b == code "B") || (b == code "C") || (b == code "H") || (b == code "R") || (b == code "S")

abbrev pub begun_then : ℕ → Option Escape
begun_then b =
    if b == code "(" then Some escapes.Two else
    if b == code "[" then Some escapes.Bracketed else
    if takes_name b then Some escapes.Named else
    if takes_argument b then Some escapes.Opens else None

-- before a name a sign may stand
abbrev pub named_then : ℕ → Option Escape
named_then b =
    if b == code "(" then Some escapes.Two else
    if b == code "[" then Some escapes.Bracketed else
    if b == code "'" then Some (escapes.Delimited b) else
    if (b == code "+") || (b == code "-") then Some escapes.Named else None

-- an escape after one more byte; none where it has ended
abbrev pub escape_then : Escape → ℕ → Option Escape
escape_then escapes.Begun b = begun_then b
escape_then escapes.Named b = named_then b
escape_then escapes.Two b = Some escapes.One
escape_then escapes.One b = None
escape_then escapes.Bracketed b = if b == code "]" then None else Some escapes.Bracketed
escape_then escapes.Opens b = Some (escapes.Delimited b)
escape_then (escapes.Delimited mark) b = if b == mark then None else Some (escapes.Delimited mark)

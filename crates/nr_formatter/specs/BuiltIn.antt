-- Which registers are built in: `%`, `nl`, `dn`, `dl`, and all whose names begin with `.`. (CSTR 54, its index of registers; groff manual, built-in registers.)
use Prim.Native.Char.{code}
use Rattle.std.specs.Prelude.{ℕ, ◌&&◌, ◌==◌, if◌then◌else◌, List, [], ◌∷◌, Option, None, Some}
use Rattle.nr_formatter.specs.declared.built_in.BuiltInRegister.{BuiltInRegister}
use Rattle.nr_formatter.specs.declared.built_in.BuiltInRegister.TheVariants as given

-- `.$ .d .i .l .o .p .v .n .t .u .z .H .V`; another is undefined
abbrev pub dotted : ℕ → BuiltInRegister
dotted b =
    if b == code "$" then given.Arguments
    else if b == code "d" then given.DiversionPlace
    else if b == code "i" then given.Indent
    else if b == code "l" then given.LineLength
    else if b == code "o" then given.Offset
    else if b == code "p" then given.PageLength
    else if b == code "v" then given.Spacing
    else if b == code "n" then given.TextWidth
    else if b == code "t" then given.Distance
    else if b == code "u" then given.Fill
    else if b == code "z" then given.Diversion
    else if b == code "H" then given.HorizontalUnit
    else if b == code "V" then given.VerticalUnit
    else given.Other

-- `%`
abbrev pub given_by_byte : ℕ → Option BuiltInRegister
given_by_byte a = if a == code "%" then Some given.Page else if a == code "." then Some given.Other else None

-- `nl dn dl`
abbrev pub given_by_bytes : ℕ → ℕ → Option BuiltInRegister
given_by_bytes a b =
    if a == code "." then Some (dotted b)
    else if a == code "n" && b == code "l" then Some given.Place
    else if a == code "d" && b == code "n" then Some given.Height
    else if a == code "d" && b == code "l" then Some given.Width
    else None

-- the built-in register of a name, if there is one
abbrev pub given_named : List ℕ → Option BuiltInRegister
given_named [] = None
given_named (a ∷ []) = given_by_byte a
given_named (a ∷ b ∷ []) = given_by_bytes a b
given_named (a ∷ b ∷ c ∷ more) = if a == code "." then Some given.Other else None

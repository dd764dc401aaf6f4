-- What is read of a text, computed byte after byte: the longest prefix that is an expression, and its value.
use Rattle.std.specs.Prelude.{ℕ, ◌+◌, Bool, true, false, List, [], ◌∷◌, length, Option, Some, None, nat_le}
use Rattle.nr_units.specs.Scan.{Scan, symbol_of, after_symbol, start, whole_value}
use Rattle.nr_units.specs.Scanner.{read_at, noted}
use Rattle.nr_units.specs.declared.symbols.Symbol.{Symbol}
use Rattle.nr_units.specs.declared.symbols.Symbol.TheVariants.{Digit, Point, Letter, Mark, Bar, Open, Close, Blank}
use Rattle.nr_units.specs.declared.expression.Ctx.{Ctx}
use Rattle.nr_units.specs.declared.expression.Read.{Read}

abbrev pub nothing_read : Read
nothing_read = record { value = None; used = 0 }

-- a parenthesis is opened while 64 are open
abbrev pub is_one_too_many : ℕ → Symbol → Bool
is_one_too_many depth (Digit d) = false
is_one_too_many depth Point = false
is_one_too_many depth (Letter scale) = false
is_one_too_many depth (Mark o) = false
is_one_too_many depth Bar = false
is_one_too_many depth Open = nat_le 64 depth
is_one_too_many depth Close = false
is_one_too_many depth Blank = false

-- Where a symbol leads: no further, or one parenthesis too deep, or on to the next byte.
abbrev pub read_step : (Scan → Read → Read) → Read → Bool → ℕ → Read → Option Scan → Read
read_step on here deep i longest None = here
read_step on here true i longest (Some t) = record { value = None; used = i }
read_step on here false i longest (Some t) = on t longest

abbrev pub read_symbol : (Scan → Read → Read) → Ctx → Scan → ℕ → Read → Option Symbol → Read
read_symbol on c s i longest None = read_at (whole_value c s) i longest
read_symbol on c s i longest (Some y) =
    read_step on (read_at (whole_value c s) i longest) (is_one_too_many (length s.outer) y) i
    (noted (whole_value c s) y i longest) (after_symbol c s y)

-- what is read where the first i bytes are scanned and these come next
abbrev pub read_on : Ctx → Scan → ℕ → Read → List ℕ → Read
read_on c s i longest [] = read_at (whole_value c s) i longest
read_on c s i longest (b ∷ bs) = read_symbol (λ t l. read_on c t (i + 1) l bs) c s i longest (symbol_of b)

unfoldable pub read_of : Ctx → List ℕ → Read
read_of c text = read_on c start 0 nothing_read text

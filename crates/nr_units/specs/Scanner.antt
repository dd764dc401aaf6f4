-- The scan of a text, as it lies in the program.
use Rattle.std.specs.Prelude.{◌≡◌, ℕ, ◌<◌, length, reverse, Option, Some, None, ℤ}
use Rattle.nr_units.specs.Scan.{Scan, after_symbol}
use Rattle.nr_units.specs.declared.symbols.Symbol.{Symbol}
use Rattle.nr_units.specs.declared.symbols.Symbol.TheVariants.{Digit, Point, Letter, Mark, Bar, Open, Close, Blank}
use Rattle.nr_units.specs.declared.scanner.Scanner.{Scanner}
use Rattle.nr_units.specs.declared.scanner.Step.{Step}
use Rattle.nr_units.specs.declared.scanner.Step.TheVariants.{Taken, Stuck, TooDeep}
use Rattle.nr_units.specs.declared.expression.Ctx.{Ctx}
use Rattle.nr_units.specs.declared.expression.Read.{Read}

-- the innermost parenthesis stands last in the vector, and first in the scan
abbrev pub scan_of : Scanner → Scan
scan_of s = record { level = s.level; outer = reverse s.outer.items }

-- what a symbol does to a scan: it goes on, or no expression goes on so, or it is one parenthesis too many
abbrev pub Steps : Ctx → Scan → Symbol → Step → Scan → Type 0
Steps c old y Taken new = (after_symbol c old y ≡ Some new) × (y ≡ Open → length old.outer < 64)
Steps c old y Stuck new = (after_symbol c old y ≡ None) × (new ≡ old)
Steps c old y TooDeep new =
    (y ≡ Open) × (length old.outer ≡ 64) × ((next : Scan) × (after_symbol c old y ≡ Some next))

-- the longest expression among the first i bytes: all of them, where they have a value, else the one so far
abbrev pub read_at : Option (Option ℤ) → ℕ → Read → Read
read_at None i longest = longest
read_at (Some v) i longest = record { value = v; used = i }

-- the same before an operator, and before another symbol the one so far
abbrev pub noted : Option (Option ℤ) → Symbol → ℕ → Read → Read
noted v (Mark o) i longest = read_at v i longest
noted v (Digit d) i longest = longest
noted v Point i longest = longest
noted v (Letter scale) i longest = longest
noted v Bar i longest = longest
noted v Open i longest = longest
noted v Close i longest = longest
noted v Blank i longest = longest

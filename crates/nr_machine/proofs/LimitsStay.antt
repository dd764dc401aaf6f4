-- No move changes the limits, whether it is made or not.
use Rattle.std.proofs.Common.{◌≡◌, ℕ, ℤ, refl, ap, ap₂}
use Rattle.nr_store.specs.Store.{is_held}
use Rattle.nr_formatter.specs.Limits as formatter
use Rattle.nr_formatter.specs.declared.formatter.Formatter.{Formatter}
use Rattle.nr_formatter.proofs.LimitsStay.{either-limits}
use Rattle.nr_machine.specs.Holding.{Shape}
use Rattle.nr_machine.specs.Limits.{Limits, limits_of}
use Rattle.nr_machine.specs.Machine.{first_set}

-- where only the formatter changes
pub formatter-limits : (e : Shape) (f : Formatter) → formatter.limits_of f ≡ formatter.limits_of e.formatter → limits_of (record e { formatter = f }) ≡ limits_of e
formatter-limits e f same = ap (λ (l : formatter.Limits). record (limits_of e) { formatter = l }) same

-- where the page changes too
pub page-limits : (e f : Shape) → formatter.limits_of f.formatter ≡ formatter.limits_of e.formatter → f.page.limit ≡ e.page.limit → limits_of f ≡ limits_of e
page-limits e f same page = ap₂ (λ (l : formatter.Limits) (n : ℕ). let new : Limits = record { formatter = l; page = n } in new) same page

-- the number of the first page
pub first_set-limits : (n : ℤ) (f : Formatter) → formatter.limits_of (first_set n f) ≡ formatter.limits_of f
first_set-limits n f = either-limits (is_held n) f (record f { paper = record f.paper { number = n } }) f refl refl

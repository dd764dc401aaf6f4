-- The next trap whose macro springs.
use Rattle.std.proofs.Common.{◌≡◌, ℕ, ◌<ℤ◌, true, false, Option, None, Some, refl, ap, ◌∙◌, ℤ, pos, negsuc, FitsSigned, w32, to_z, of_z, arith}
use Rattle.std.specs.Prelude.{unsigned_abs}
use Rattle.std.proofs.lemmas.Int.{ints, to_z-of_z}
use Rattle.nr_symbol_tables.specs.Trap.{nearest}
use Rattle.nr_symbol_tables.specs.declared.trap.Trap.{Trap}
use Rattle.nr_formatter.specs.declared.formatter.Formatter.{Formatter}
use Rattle.nr_formatter.specs.Places.{trap_below}
use Rattle.nr_formatter.specs.Pages.{names_text, is_text, springs_at, springing_traps}
use Rattle.nr_formatter.proofs.Nearest.{none_kept, found_kept, passed_kept, macro_found}

-- the next of them below a place
abbrev pub springing_below : ℕ → Formatter → Option Trap
springing_below place f = nearest (pos place) (pos f.settings.pages.page_length) (springing_traps f)

springs_found : (f : Formatter) (place : ℕ) (t : Trap) → trap_below place f ≡ Some t → springs_at f t.place ≡ names_text t.name f
springs_found f place t e = ap (λ m. is_text m f) (macro_found (pos place) (pos f.settings.pages.page_length) f.store.traps t e)

pub springing_none : (f : Formatter) (place : ℕ) → trap_below place f ≡ None → springing_below place f ≡ None
springing_none f place e = none_kept (springs_at f) (pos place) (pos f.settings.pages.page_length) f.store.traps e

pub springing_found : (f : Formatter) (place : ℕ) (t : Trap) → trap_below place f ≡ Some t → names_text t.name f ≡ true → springing_below place f ≡ Some t
springing_found f place t e k =
    found_kept (springs_at f) (pos place) (pos f.settings.pages.page_length) f.store.traps t e (springs_found f place t e ∙ k)

pub springing_passed : (f : Formatter) (place : ℕ) (t : Trap) → trap_below place f ≡ Some t → names_text t.name f ≡ false →
    springing_below place f ≡ nearest t.place (pos f.settings.pages.page_length) (springing_traps f)
springing_passed f place t e k =
    passed_kept (springs_at f) (pos place) (pos f.settings.pages.page_length) f.store.traps t e (springs_found f place t e ∙ k)

from_abs : (n : ℕ) (z : ℤ) → pos n <ℤ z → pos (unsigned_abs z) ≡ z
from_abs n (pos m) h = refl
from_abs n (negsuc m) h = absurd (omega (arith, ints))

-- a place that is below another is itself as an unsigned number
pub below_cast : (n : ℕ) (z : ℤ) → FitsSigned w32 z → pos n <ℤ z → pos (unsigned_abs (to_z w32 (of_z w32 z))) ≡ z
below_cast n z fits h = rw to_z-of_z (from_abs n z h)

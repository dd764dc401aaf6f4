-- The bytes at hand are what comes next.
use Rattle.std.proofs.Common.{ℕ, List, Bool, true, false, Option, None, Some}
use Rattle.std.proofs.Math.Seq.{take-append_seam, take-length}
use Rattle.nr_units.specs.Source.{buffered_supply, Offers}

-- of a buffer
pub offers_buffered : (kept : List ℕ) (ended : Bool) (known : Option (List ℕ)) → Offers (buffered_supply kept ended known) kept
offers_buffered kept true known = (take-length kept, tt)
offers_buffered kept false None = tt
offers_buffered kept false (Some rest) = (take-append_seam kept rest, tt)

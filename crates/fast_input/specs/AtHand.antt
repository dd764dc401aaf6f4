-- Bytes that the source has at hand, taken many at once.
use Prim.Native.Char.{code}
use Rattle.std.specs.Prelude.{◌≡◌, ℕ, ◌+◌, ◌<◌, ◌^◌, ◌==◌, not, List, length, take}
use Rattle.nr_units.specs.Source.{MayGiveAll, skipped}
use Rattle.nr_input.specs.Place.{Coming}

-- these bytes come next, no call fails before them, and none is the 2^40th
pub record ComeNext (bs : List ℕ) (c : Coming) : Type 0 where
  pub bytes : take (length bs) c.supply.bytes ≡ bs
  pub faults : MayGiveAll (length bs) c.supply.faults
  pub few : c.taken + length bs < 2 ^ 40

-- after the next n bytes, of which this is the last
abbrev pub after_last : ℕ → ℕ → Coming → Coming
after_last last n c =
    record {
      supply = skipped n c.supply;
      taken = c.taken + n;
      inside = not (last == code "\n");
    }

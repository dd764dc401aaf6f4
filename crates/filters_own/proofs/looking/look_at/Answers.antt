use Rattle.std.proofs.Common.{inl}
use Rattle.filters.proofs.Opening.{Asks-none}
use Rattle.filters_own.proofs.Owning.{ranked-in}
use Rattle.filters_own.proofs.looking.look_at.Goals as goal

pub returns-in_default-room_for-clause-reads : goal.returns-in_default-room_for-clause-reads
returns-in_default-room_for-clause-reads g c = inl (Asks-none _)

pub returns-in-Ok-cells_of-clause-reads : goal.returns-in-Ok-cells_of-clause-reads
returns-in-Ok-cells_of-clause-reads g c =
    let look = c.in-Ok-first_of.ensures.reads in
    record {
      left = look.left;
      opened = look.opened;
      asks = look.asks;
      is = ranked-in look.left c.first_of.new.prefix.items _ look.is (rw c.as_slice.ensures.value at c.in-Ok-cells_of.ensures);
    }

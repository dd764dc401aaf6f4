use Rattle.std.proofs.Common.{take}
use Rattle.filters_complaints.proofs.Printing.{printable-print}
use Rattle.filters_complaints.proofs.names.printable.Goals as goal

pub returns-clause-prints : goal.returns-clause-prints
returns-clause-prints c =
    printable-print (take c.loop-byte.byte-index c.as_bytes-byte-items.result.now) c.loop-byte.all c.loop-byte.invariant.0

use Rattle.std.proofs.Common.{◌≡◌, ◌<◌, take}
use Rattle.nr_symbol_tables.specs.Rows.{long_kind}
use Rattle.nr_symbol_tables.proofs.table.long_kind.Given as goal

abbrev pub invariant-loop-byte : goal.invariant-loop-byte
invariant-loop-byte l = record { is : l.kind ≡ long_kind (take l.byte-index l.bytes); few : l.kind < 512 }

use Rattle.std.proofs.Common.{◌≡◌, ◌≤◌, drop}
use Rattle.tbl_columns.specs.Registers.{with_bytes, written}
use Rattle.tbl_columns.proofs.registers.Expression.push_all.Given as goal

abbrev pub invariant-loop-byte : goal.invariant-loop-byte
invariant-loop-byte l = record {
  value : with_bytes (drop l.byte-index l.bytes) (written l.self) ≡ with_bytes l.bytes (written l.initial.self);
  within : l.self.len ≤ 128;
}

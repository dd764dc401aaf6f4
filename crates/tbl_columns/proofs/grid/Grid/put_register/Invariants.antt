use Rattle.std.proofs.Common.{◌≡◌, ◌++◌, drop, take}
use Rattle.tbl_columns.specs.Registers.{is_known, replaced}
use Rattle.tbl_columns.proofs.grid.Grid.put_register.Given as goal

abbrev pub invariant-loop-place : goal.invariant-loop-place
invariant-loop-place l = record {
  same : l.self ≡ l.initial.self;
  known : is_known l.register.name (drop l.place l.self.registers.items) ≡ is_known l.register.name l.self.registers.items;
  replaced : take l.place l.self.registers.items ++ replaced l.register (drop l.place l.self.registers.items)
      ≡ replaced l.register l.self.registers.items;
}

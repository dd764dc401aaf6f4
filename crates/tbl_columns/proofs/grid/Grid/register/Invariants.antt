use Rattle.std.proofs.Common.{◌≡◌, drop}
use Rattle.tbl_columns.specs.Registers.{number_among}
use Rattle.tbl_columns.proofs.grid.Grid.register.Given as goal

abbrev pub invariant-loop-register : goal.invariant-loop-register
invariant-loop-register l = number_among l.name (drop l.register-index l.self.registers.items) ≡ number_among l.name l.self.registers.items

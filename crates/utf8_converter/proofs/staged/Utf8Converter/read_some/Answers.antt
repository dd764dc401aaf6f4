use Rattle.std.proofs.Common.{get_or, ◌∙◌, arith}
use Rattle.utf8_converter.proofs.Held.{Reads-table, read-table, serves-as}
use Rattle.utf8_converter.proofs.Staging.{some-byte, some-cells}
use Rattle.utf8_converter.proofs.staged.Utf8Converter.read_some.Goals as goal

pub invariant_of-self : goal.invariant_of-self
invariant_of-self c = record {
  serves = serves-as c.args.self.now.spelling c.args.self.now.reader c.read_cells-cells.new.reader (Reads-table _ _ _ _ _ _ c.read_cells-cells.ensures.reads) c.args.self.now.serves;
  counts = c.args.self.now.counts;
}

pub returns-then-cells-gt0-clause-reads : goal.returns-then-cells-gt0-clause-reads
returns-then-cells-gt0-clause-reads c =
    some-cells c.args.self.now.reader c.read_cells-cells.new.reader c.args.bytes.now c.read_cells-cells.result.taken c.read_cells-cells.new.room c.read_cells-cells.result.end c.args.self.now.strays
    c.args.self.now.counts c.if-cells-gt0.true c.read_cells-cells.ensures.reads

pub read-filled-requires-clause-serves : goal.read-filled-requires-clause-serves
read-filled-requires-clause-serves c =
    serves-as c.args.self.now.spelling c.args.self.now.reader c.read_cells-cells.new.reader (Reads-table _ _ _ _ _ _ c.read_cells-cells.ensures.reads) c.args.self.now.serves

pub invariant_of-self-2 : goal.invariant_of-self-2
invariant_of-self-2 c = record {
  serves = serves-as c.args.self.now.spelling c.args.self.now.reader c.read-filled.new.reader
      (read-table (get_or c.args.bytes.now 0 0) c.read_cells-cells.new.reader c.read-filled.new.reader c.read-filled.ensures.fills.reader
      ∙ Reads-table _ _ _ _ _ _ c.read_cells-cells.ensures.reads) c.args.self.now.serves;
  counts = c.saturating_add-self.type_inv;
}

pub returns-clause-reads : goal.returns-clause-reads
returns-clause-reads c =
    some-byte c.args.self.now.reader c.read_cells-cells.new.reader c.read-filled.new.reader c.args.bytes.now c.read_cells-cells.result.taken c.read_cells-cells.new.room c.read_cells-cells.result.end
    _ c.read-filled.new.room c.read-filled.result.end c.args.self.now.strays c.saturating_add-self.result c.read-filled.result.strays (omega arith) c.read_cells-cells.ensures.reads c.requires.some
    c.read-filled.ensures.fills c.saturating_add-self.ensures

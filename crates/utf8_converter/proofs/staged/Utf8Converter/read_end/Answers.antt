use Rattle.utf8_converter.proofs.Held.{ended-table, serves-as}
use Rattle.utf8_converter.proofs.staged.Utf8Converter.read_end.Goals as goal

pub invariant_of-self : goal.invariant_of-self
invariant_of-self c = record {
  serves = serves-as c.args.self.now.spelling c.args.self.now.reader c.finish-filled.new.reader
      (ended-table c.args.self.now.reader c.finish-filled.new.reader c.finish-filled.ensures.fills.reader) c.args.self.now.serves;
  counts = c.saturating_add-self.type_inv;
}

use Rattle.std.proofs.Common.{arith}
use Rattle.utf8_converter.proofs.Goes.{Goes-rest, Goes-serves}
use Rattle.utf8_converter.proofs.spelling.Spelling.put_cells.Goals as goal

pub put_cell-cell-requires-clause-serves : goal.put_cell-cell-requires-clause-serves
put_cell-cell-requires-clause-serves c =
    Goes-serves c.args.reader.now c.loop-taken.reader c.args.bytes.now c.loop-taken.taken c.args.room.now c.loop-taken.room c.args.end c.loop-taken.to c.args.self.now c.requires.serves c.loop-taken.invariant.goes

pub loop-taken-preserved : goal.loop-taken-preserved
loop-taken-preserved c =
    let few = c.put_cell-cell.ensures.few in
    let more = c.loop-taken-test.true in
    record {
      goes = Goes-rest c.args.reader.now c.loop-taken.reader c.put_cell-cell.new.reader c.args.bytes.now c.loop-taken.taken c.put_cell-cell.result.taken c.args.room.now c.loop-taken.room c.put_cell-cell.new.room
          c.args.end c.loop-taken.to c.put_cell-cell.result.end c.requires.fresh c.loop-taken.invariant.goes c.put_cell-cell.ensures.goes;
      few = omega (arith, few, more);
    }

use Rattle.std.proofs.Common.{◌+◌, arith}
use Rattle.nr_machine.specs.Holding.{shape}
use Rattle.fast_machine.proofs.Running.{in_place-add}
use Rattle.fast_machine.proofs.obeying.read_levels.Goals as goal

pub returns-then-answered-eq0-clause-reads : goal.returns-then-answered-eq0-clause-reads
returns-then-answered-eq0-clause-reads c =
    in_place-add (c.loop.moves + c.read_levels_once-moves.result) c.answer-answered.result (shape c.args.engine.now) (shape c.read_levels_once-moves.new.engine) (shape c.answer-answered.new.engine)
    (in_place-add c.loop.moves c.read_levels_once-moves.result (shape c.args.engine.now) (shape c.loop.engine) (shape c.read_levels_once-moves.new.engine) c.loop.invariant.reads c.read_levels_once-moves.ensures.reads)
    c.answer-answered.ensures.answers

pub loop-preserved : goal.loop-preserved
loop-preserved c = record {
  reads = in_place-add (c.loop.moves + c.read_levels_once-moves.result) c.answer-answered.result (shape c.args.engine.now) (shape c.read_levels_once-moves.new.engine) (shape c.answer-answered.new.engine)
      (in_place-add c.loop.moves c.read_levels_once-moves.result (shape c.args.engine.now) (shape c.loop.engine) (shape c.read_levels_once-moves.new.engine) c.loop.invariant.reads c.read_levels_once-moves.ensures.reads)
      c.answer-answered.ensures.answers;
  few = omega (arith, c.if-moves-gt-ENOUGH_MOVES.false);
}

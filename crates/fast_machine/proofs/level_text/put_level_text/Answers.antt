use Rattle.std.proofs.Common.{◌+◌, sym, ◌∙◌, arith}
use Rattle.nr_machine.specs.Holding.{Shape, shape}
use Rattle.fast_machine.specs.Running.{MakesInPlace}
use Rattle.fast_machine.proofs.Running.{in_place-add}
use Rattle.fast_machine.proofs.level_text.put_level_text.Goals.{After-read_levels_once}
use Rattle.fast_machine.proofs.level_text.put_level_text.Goals as goal

-- one part more
part : (c : After-read_levels_once) → MakesInPlace (c.loop.moves + (c.put_level_line.result + c.read_levels_once.result)) (shape c.args.engine.now) (shape c.read_levels_once.new.engine)
part c =
    let e : Shape = shape c.loop.engine in
    let f : Shape = shape c.put_level_line.new.engine in
    let g : Shape = shape c.read_levels_once.new.engine in
    in_place-add c.loop.moves (c.put_level_line.result + c.read_levels_once.result) (shape c.args.engine.now) e g c.loop.invariant.puts
    (in_place-add c.put_level_line.result c.read_levels_once.result e f g c.put_level_line.ensures.puts c.read_levels_once.ensures.reads)

pub returns-then-next-eq0-clause-puts : goal.returns-then-next-eq0-clause-puts
returns-then-next-eq0-clause-puts c = part ((goal.at.returns-then-next-eq0-clause-puts c).After-read_levels_once)

pub loop-preserved : goal.loop-preserved
loop-preserved c = record {
  puts = part ((goal.at.loop-preserved c).After-read_levels_once);
  line = sym c.is_in_line.ensures ∙ c.if-not-is_in_line.false;
  few = omega (arith, c.if-moves-gt-ENOUGH_MOVES.false);
}

use Rattle.std.proofs.Common.{◌≡◌, ◌+◌, ℕ, subst, arith}
use Rattle.nr_machine.specs.Holding.{Shape, shape}
use Rattle.fast_machine.specs.Running.{MakesReading}
use Rattle.fast_machine.proofs.Running.{reading-add, reading_in_place, reading_none}
use Rattle.fast_machine.proofs.obeying.obey_lines.Goals as goal

pub loop-init : goal.loop-init
loop-init g c = record {
  reads = reading_none (shape c.args.engine.now) (g.R.Source.supply c.args.input.now) (g.R.Source.failures c.args.input.now);
  request = c.requires.request;
  few = omega arith;
}

pub returns-then-obeyed-eq0-clause-reads : goal.returns-then-obeyed-eq0-clause-reads
returns-then-obeyed-eq0-clause-reads g c =
    let e : Shape = shape c.args.engine.now in
    let f : Shape = shape c.obey-obeyed.new.engine in
    let none : c.loop.moves + c.obey-obeyed.result ≡ c.loop.moves = omega (arith, c.if-obeyed-eq0.true) in
    subst (λ (n : ℕ). MakesReading n e f (g.R.Source.supply c.args.input.now) (g.R.Source.supply c.loop.input) (g.R.Source.failures c.args.input.now) (g.R.Source.failures c.loop.input)) none
    (reading-add c.loop.moves c.obey-obeyed.result e (shape c.loop.engine) f _ _ _ _ _ _ c.loop.invariant.reads
    (reading_in_place c.obey-obeyed.result (shape c.loop.engine) f _ _ c.obey-obeyed.ensures.obeys))

pub returns-then-not-reads_next-clause-reads : goal.returns-then-not-reads_next-clause-reads
returns-then-not-reads_next-clause-reads g c =
    reading-add c.loop.moves c.obey-obeyed.result (shape c.args.engine.now) (shape c.loop.engine) (shape c.obey-obeyed.new.engine) _ _ _ _ _ _ c.loop.invariant.reads
    (reading_in_place c.obey-obeyed.result (shape c.loop.engine) (shape c.obey-obeyed.new.engine) _ _ c.obey-obeyed.ensures.obeys)

pub loop-preserved : goal.loop-preserved
loop-preserved g c = record {
  reads = reading-add (c.loop.moves + c.obey-obeyed.result) c.read_control_line-moves.result (shape c.args.engine.now) (shape c.obey-obeyed.new.engine) (shape c.read_control_line-moves.new.engine) _ _ _ _ _ _
      (reading-add c.loop.moves c.obey-obeyed.result (shape c.args.engine.now) (shape c.loop.engine) (shape c.obey-obeyed.new.engine) _ _ _ _ _ _ c.loop.invariant.reads
      (reading_in_place c.obey-obeyed.result (shape c.loop.engine) (shape c.obey-obeyed.new.engine) _ _ c.obey-obeyed.ensures.obeys))
      c.read_control_line-moves.ensures.reads;
  request = c.in-Request.is;
  few = omega (arith, c.if-moves-gt-ENOUGH_MOVES.false, c.read_control_line-moves.ensures.few);
}

pub returns-in_default : goal.returns-in_default
returns-in_default g c = record {
  reads = reading-add (c.loop.moves + c.obey-obeyed.result) c.read_control_line-moves.result (shape c.args.engine.now) (shape c.obey-obeyed.new.engine) (shape c.read_control_line-moves.new.engine) _ _ _ _ _ _
      (reading-add c.loop.moves c.obey-obeyed.result (shape c.args.engine.now) (shape c.loop.engine) (shape c.obey-obeyed.new.engine) _ _ _ _ _ _ c.loop.invariant.reads
      (reading_in_place c.obey-obeyed.result (shape c.loop.engine) (shape c.obey-obeyed.new.engine) _ _ c.obey-obeyed.ensures.obeys))
      c.read_control_line-moves.ensures.reads;
  few = omega (arith, c.if-moves-gt-ENOUGH_MOVES.false, c.read_control_line-moves.ensures.few);
}

pub returns-clause-reads : goal.returns-clause-reads
returns-clause-reads g c = c.loop.invariant.reads

pub returns-clause-few : goal.returns-clause-few
returns-clause-few g c = omega (arith, c.loop.invariant.few)

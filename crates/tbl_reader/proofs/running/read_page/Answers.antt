use Rattle.std.proofs.Common.{◌≡◌, refl, sym, ◌∙◌, arith}
use Rattle.tbl_reader.proofs.Turning.{Stands-first, Stands-took, Ran-broken, Ran-done, Ran-fault, Ran-long, Stands-stays, Turns-stay}
use Rattle.tbl_reader.specs.declared.running.TurnResult.TheVariants as turns
use Rattle.tbl_reader.proofs.Whole.{lines_pass, lines_are_read}
use Rattle.tbl_reader.proofs.running.read_page.Goals as goal

pub loop-taken-init : goal.loop-taken-init
loop-taken-init g c = record {
  stands = Stands-first g.S.Setter.shows g.S.Setter.hears c.args.reader.now.limits (g.R.Source.supply c.args.input.now)
      c.begins.new.self c.args.setter.now c.begins.ensures;
  taken = omega arith;
  reads = refl;
  works = λ h. absurd (omega (arith, h));
}

pub returns-then-has_failed-clause-ran : goal.returns-then-has_failed-clause-ran
returns-then-has_failed-clause-ran g c =
    Ran-broken g.S.Setter.shows g.S.Setter.hears c.args.reader.now.limits (g.R.Source.supply c.args.input.now)
    (g.R.Source.supply c.loop-taken.input) (g.R.Source.supply c.make_turn-turn.new.input) c.loop-taken.reader c.make_turn-turn.new.reader
    c.args.setter.now c.loop-taken.setter c.make_turn-turn.new.setter c.loop-taken.taken c.make_turn-turn.result c.loop-taken.invariant.stands c.make_turn-turn.ensures.turns

pub loop-taken-preserved : goal.loop-taken-preserved
loop-taken-preserved g c = record {
  stands = Stands-took g.S.Setter.shows g.S.Setter.hears c.args.reader.now.limits (g.R.Source.supply c.args.input.now)
      (g.R.Source.supply c.loop-taken.input) (g.R.Source.supply c.make_turn-turn.new.input) c.loop-taken.reader c.make_turn-turn.new.reader
      c.args.setter.now c.loop-taken.setter c.make_turn-turn.new.setter c.loop-taken.taken c.in-Took.count c.loop-taken.invariant.stands c.in-Took.ensures.turns;
  taken = (let few = c.in-Took.ensures.measured.1 in omega (arith, few));
  reads = c.in-Took.ensures.failures ∙ c.loop-taken.invariant.reads;
  works = λ h. sym c.has_failed.ensures ∙ c.if-has_failed.false;
}

pub returns-in-End-clause-ran : goal.returns-in-End-clause-ran
returns-in-End-clause-ran g c =
    Ran-done g.S.Setter.shows g.S.Setter.hears c.args.reader.now.limits (g.R.Source.supply c.args.input.now)
    (g.R.Source.supply c.loop-taken.input) (g.R.Source.supply c.make_turn-turn.new.input) c.loop-taken.reader c.make_turn-turn.new.reader
    c.args.setter.now c.loop-taken.setter c.make_turn-turn.new.setter c.loop-taken.taken c.loop-taken.invariant.stands c.in-End.ensures.turns

pub returns-in-ReadFault-clause-ran : goal.returns-in-ReadFault-clause-ran
returns-in-ReadFault-clause-ran g c =
    Ran-fault g.S.Setter.shows g.S.Setter.hears c.args.reader.now.limits (g.R.Source.supply c.args.input.now)
    (g.R.Source.supply c.loop-taken.input) (g.R.Source.supply c.make_turn-turn.new.input) c.loop-taken.reader c.make_turn-turn.new.reader
    c.args.setter.now c.loop-taken.setter c.make_turn-turn.new.setter c.loop-taken.taken c.loop-taken.invariant.stands c.in-ReadFault.ensures.turns

pub returns-clause-ran : goal.returns-clause-ran
returns-clause-ran g c =
    let all : c.loop-taken.taken ≡ 1099511627776 =
    (let most = c.loop-taken.invariant.taken in let least = c.loop-taken-test.false in omega (arith, most, least)) in
    Ran-long g.S.Setter.shows g.S.Setter.hears c.args.reader.now.limits (g.R.Source.supply c.args.input.now)
    (g.R.Source.supply c.loop-taken.input) c.loop-taken.reader c.args.setter.now c.loop-taken.setter c.loop-taken.taken c.loop-taken.invariant.stands all

pub returns-then-has_failed-clause-limits : goal.returns-then-has_failed-clause-limits
returns-then-has_failed-clause-limits g c =
    (Turns-stay g.S.Setter.shows g.S.Setter.hears c.args.reader.now.limits (g.R.Source.supply c.args.input.now)
    (g.R.Source.supply c.loop-taken.input) (g.R.Source.supply c.make_turn-turn.new.input) c.loop-taken.reader c.make_turn-turn.new.reader
    c.args.setter.now c.loop-taken.setter c.make_turn-turn.new.setter c.loop-taken.taken c.make_turn-turn.result c.loop-taken.invariant.stands c.make_turn-turn.ensures.turns)

pub returns-in-End-clause-limits : goal.returns-in-End-clause-limits
returns-in-End-clause-limits g c =
    (Turns-stay g.S.Setter.shows g.S.Setter.hears c.args.reader.now.limits (g.R.Source.supply c.args.input.now)
    (g.R.Source.supply c.loop-taken.input) (g.R.Source.supply c.make_turn-turn.new.input) c.loop-taken.reader c.make_turn-turn.new.reader
    c.args.setter.now c.loop-taken.setter c.make_turn-turn.new.setter c.loop-taken.taken turns.End c.loop-taken.invariant.stands c.in-End.ensures.turns)

pub returns-in-ReadFault-clause-limits : goal.returns-in-ReadFault-clause-limits
returns-in-ReadFault-clause-limits g c =
    (Turns-stay g.S.Setter.shows g.S.Setter.hears c.args.reader.now.limits (g.R.Source.supply c.args.input.now)
    (g.R.Source.supply c.loop-taken.input) (g.R.Source.supply c.make_turn-turn.new.input) c.loop-taken.reader c.make_turn-turn.new.reader
    c.args.setter.now c.loop-taken.setter c.make_turn-turn.new.setter c.loop-taken.taken turns.ReadFault c.loop-taken.invariant.stands c.in-ReadFault.ensures.turns)

pub returns-clause-limits : goal.returns-clause-limits
returns-clause-limits g c =
    (Stands-stays g.S.Setter.shows g.S.Setter.hears c.args.reader.now.limits (g.R.Source.supply c.args.input.now)
    (g.R.Source.supply c.loop-taken.input) c.loop-taken.reader c.args.setter.now c.loop-taken.setter c.loop-taken.taken c.loop-taken.invariant.stands)

pub returns-then-has_failed-clause-passing : goal.returns-then-has_failed-clause-passing
returns-then-has_failed-clause-passing g c = lines_pass

pub returns-then-has_failed-clause-reading : goal.returns-then-has_failed-clause-reading
returns-then-has_failed-clause-reading g c = lines_are_read

pub returns-in-End-clause-passing : goal.returns-in-End-clause-passing
returns-in-End-clause-passing g c = lines_pass

pub returns-in-End-clause-reading : goal.returns-in-End-clause-reading
returns-in-End-clause-reading g c = lines_are_read

pub returns-in-ReadFault-clause-passing : goal.returns-in-ReadFault-clause-passing
returns-in-ReadFault-clause-passing g c = lines_pass

pub returns-in-ReadFault-clause-reading : goal.returns-in-ReadFault-clause-reading
returns-in-ReadFault-clause-reading g c = lines_are_read

pub returns-clause-passing : goal.returns-clause-passing
returns-clause-passing g c = lines_pass

pub returns-clause-reading : goal.returns-clause-reading
returns-clause-reading g c = lines_are_read

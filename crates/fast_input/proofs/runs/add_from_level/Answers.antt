use Rattle.std.proofs.Common.{subst, ap, ◌∙◌, arith}
use Rattle.nr_store.specs.Store.{Stored}
use Rattle.nr_input.specs.Limits.{limits_of}
use Rattle.nr_input.specs.Moving.{situation}
use Rattle.fast_input.specs.Runs.{HasRead, PaysAll, IsLongestInLevel}
use Rattle.fast_input.proofs.runs.add_from_level.Goals as goal

pub returns-then-taken-eq0-clause-read : goal.returns-then-taken-eq0-clause-read
returns-then-taken-eq0-clause-read g c = λ k p supply holds.
    let run = c.read_level.result in
    let same = c.add_level_prefix-taken.ensures.none c.if-taken-eq0.true in
    subst (λ (v : Stored _). HasRead run.moves (situation v k c.args.reader.now) run.event c.read_level.new.store c.read_level.new.reader p supply) same (c.read_level.ensures.read k p supply holds)

pub returns-then-taken-eq0-clause-pays : goal.returns-then-taken-eq0-clause-pays
returns-then-taken-eq0-clause-pays g c = λ p.
    let run = c.read_level.result in
    let same = c.add_level_prefix-taken.ensures.none c.if-taken-eq0.true in
    subst (λ (v : Stored _). PaysAll run.moves v p c.args.reader.now run.event c.read_level.new.store p c.read_level.new.reader) same (c.read_level.ensures.pays p)

pub returns-then-taken-eq0-clause-longest : goal.returns-then-taken-eq0-clause-longest
returns-then-taken-eq0-clause-longest g c =
    let run = c.read_level.result in
    let same = c.add_level_prefix-taken.ensures.none c.if-taken-eq0.true in
    subst (λ (v : Stored _). IsLongestInLevel run.moves v c.args.reader.now run.event c.read_level.new.store c.read_level.new.reader) same c.read_level.ensures.longest

pub returns-then-taken-eq0-clause-limits : goal.returns-then-taken-eq0-clause-limits
returns-then-taken-eq0-clause-limits g c = c.read_level.ensures.limits ∙ ap (λ (w : Stored _). limits_of w c.args.reader.now) (c.add_level_prefix-taken.ensures.none c.if-taken-eq0.true)

pub returns-clause-longest : goal.returns-clause-longest
returns-clause-longest g c = record {
  some = λ b first pending_act. omega (arith, c.if-taken-eq0.false);
  all = λ few quiet pending_act b next. c.add_level_prefix-taken.ensures.stops (omega (arith, few)) b next;
}

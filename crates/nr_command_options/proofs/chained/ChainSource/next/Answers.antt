use Rattle.std.proofs.Common.{ap, ◌∙◌}
use Rattle.nr_units.specs.Failures.{next_count}
use Rattle.nr_command_options.proofs.Chaining.{chain_byte, chain_newline, chain_past, chain_fault, chain_end, failures_in-same, failures_in-next}
use Rattle.nr_command_options.proofs.chained.ChainSource.next.Goals as goal

pub returns-in-Ok-Some-clause-gives : goal.returns-in-Ok-Some-clause-gives
returns-in-Ok-Some-clause-gives g c =
    let gives = rw c.in-Ok-Some.field-0-is at c.in-Ok-Some.ensures.gives in
    chain_byte g.F.Source.supply c.loop-self.self.files.now c.loop-self.self.at c.loop-self.self.line_open _ c.index-self-self.result c.next.new.self c.in-Ok-Some.byte c.loop-self.invariant.stays c.loop-self-test.true gives

pub returns-then-self-clause-gives : goal.returns-then-self-clause-gives
returns-then-self-clause-gives g c =
    let gives = rw c.in-Ok-None.field-0-is at c.in-Ok-None.ensures.gives in
    let stays = rw c.if-self.true at c.loop-self.invariant.stays in
    chain_newline g.F.Source.supply c.loop-self.self.files.now c.loop-self.self.at _ c.index-self-self.result c.next.new.self stays c.loop-self-test.true gives

pub loop-self-preserved : goal.loop-self-preserved
loop-self-preserved g c =
    let gives = rw c.in-Ok-None.field-0-is at c.in-Ok-None.ensures.gives in
    let stays = rw c.if-self.false at c.loop-self.invariant.stays in
    rw c.if-self.false (record {
      stays = chain_past g.F.Source.supply c.loop-self.self.files.now c.loop-self.self.at _ c.index-self-self.result c.next.new.self stays c.loop-self-test.true gives;
      failures = failures_in-same g.F.Source.failures c.loop-self.self.files.now c.loop-self.self.at c.index-self-self.result c.next.new.self c.loop-self-test.true c.in-Ok-None.ensures.failures ∙ c.loop-self.invariant.failures;
    })

pub returns-in-Err-clause-gives : goal.returns-in-Err-clause-gives
returns-in-Err-clause-gives g c =
    chain_fault g.F.Source.supply c.loop-self.self.files.now c.loop-self.self.at c.loop-self.self.line_open _ c.index-self-self.result c.next.new.self c.in-Err.fault c.loop-self.invariant.stays c.loop-self-test.true c.in-Err.ensures.gives

pub returns-clause-gives : goal.returns-clause-gives
returns-clause-gives g c =
    chain_end g.F.Source.supply c.loop-self.self.files.now c.loop-self.self.at c.loop-self.self.line_open _ c.loop-self.invariant.stays c.loop-self-test.false

pub returns-in-Ok-Some-clause-failures : goal.returns-in-Ok-Some-clause-failures
returns-in-Ok-Some-clause-failures g c =
    failures_in-same g.F.Source.failures c.loop-self.self.files.now c.loop-self.self.at c.index-self-self.result c.next.new.self c.loop-self-test.true c.in-Ok-Some.ensures.failures ∙ c.loop-self.invariant.failures

pub returns-then-self-clause-failures : goal.returns-then-self-clause-failures
returns-then-self-clause-failures g c =
    failures_in-same g.F.Source.failures c.loop-self.self.files.now c.loop-self.self.at c.index-self-self.result c.next.new.self c.loop-self-test.true c.in-Ok-None.ensures.failures ∙ c.loop-self.invariant.failures

pub returns-in-Err-clause-failures : goal.returns-in-Err-clause-failures
returns-in-Err-clause-failures g c =
    failures_in-next g.F.Source.failures c.loop-self.self.files.now c.loop-self.self.at c.index-self-self.result c.next.new.self c.loop-self-test.true c.in-Err.ensures.failures ∙ ap next_count c.loop-self.invariant.failures

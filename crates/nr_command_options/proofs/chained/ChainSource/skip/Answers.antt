use Rattle.std.proofs.lemmas.Grind.{common_steps}
use Rattle.std.proofs.Common.{◌<◌, length, ap, sym, ◌∙◌, arith}
use Rattle.nr_command_options.proofs.Chaining.{chain_skips_some, hand_within, hand_is, failures_in-same}
use Rattle.nr_command_options.proofs.chained.ChainSource.skip.Goals as goal

pub returns-clause-skips : goal.returns-clause-skips
returns-clause-skips g c =
    let chain = c.args.self.now in
    let files = chain.files.now in
    let d = c.index-self-self.result in
    let some : 0 < c.args.n = omega arith in
    let within = hand_within g.F.Source.at_hand files chain.at (omega (arith, c.requires)) in
    let hand = hand_is g.F.Source.at_hand files chain.at d within ∙ sym c.window.ensures.value in
    chain_skips_some g.F.Source.supply files chain.at chain.line_open d c.skip.new.self c.args.n c.window.result.now within some (omega (arith, ap length hand, c.requires)) c.window.ensures.offers c.skip.ensures.skips

pub returns-clause-failures : goal.returns-clause-failures
returns-clause-failures g c =
    let chain = c.args.self.now in
    let within = hand_within g.F.Source.at_hand chain.files.now chain.at (omega (arith, c.requires)) in
    failures_in-same g.F.Source.failures chain.files.now chain.at c.index-self-self.result c.skip.new.self within c.skip.ensures.failures

pub offset_bounds-self-self : goal.offset_bounds-self-self
offset_bounds-self-self g c = grind (arith, common_steps)

pub bounds-self-self : goal.bounds-self-self
bounds-self-self g c = grind (arith, common_steps)

pub bounds-window-n : goal.bounds-window-n
bounds-window-n g c = grind (arith, common_steps)

pub skip-requires : goal.skip-requires
skip-requires g c = grind (arith, common_steps)

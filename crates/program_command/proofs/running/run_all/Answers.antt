use Rattle.std.proofs.Common.{rules, ◌≡◌, [], map, sym, ◌∙◌}
use Rattle.nr_command_options.specs.Files.{files_supply}
use Rattle.program_options.specs.Job.{asked_of}
use Rattle.program_command.specs.Running.{under}
use Rattle.program_command.proofs.Kept.{Keeps-same}
use Rattle.program_command.proofs.Prefixes.{begins-joined, came-first, came-then}
use Rattle.program_command.proofs.Texts.{Runs-prefix, Runs-others}
use Rattle.program_command.proofs.running.run_all.Goals as goal

pub returns-then-is_for_others-clause-runs : goal.returns-then-is_for_others-clause-runs
returns-then-is_for_others-clause-runs g c =
    let none : c.new-first.result.items ≡ [] = search rules in
    Runs-others (asked_of c.args.job.now) c.args.around.now (files_supply (map g.T.Source.supply c.args.macros.now))
    (under c.args.reading.coding (g.S.Source.supply c.args.pages)) _ c.as_slice.result.now (g.W.Sink.held c.args.output)
    (came-first _ _ _ _ _ c.under_coding-text.ensures none c.in-Ok.ensures) (begins-joined _ _ _ c.as_slice.ensures.value)
    (sym c.is_for_others.ensures ∙ c.if-is_for_others.true)

pub returns-clause-runs : goal.returns-clause-runs
returns-clause-runs g c =
    let none : c.new-first.result.items ≡ [] = search rules in
    Runs-prefix (asked_of c.args.job.now) c.args.around.now (files_supply (map g.T.Source.supply c.args.macros.now)) c.args.reading.coding
    (g.S.Source.supply c.args.pages) _ _ c.as_slice.result.now c.run_prefix.result.1 (g.W.Sink.held c.args.output) (g.W.Sink.held c.run_prefix.result.0)
    (came-first _ _ _ _ _ c.under_coding-text.ensures none c.in-Ok.ensures) (begins-joined _ _ _ c.as_slice.ensures.value)
    (sym c.is_for_others.ensures ∙ c.if-is_for_others.false)
    (came-then _ _ _ _ _ c.in-Ok-read_prefix.ensures c.over-prefix.ensures.supply c.as_slice-2.ensures.value)
    (λ only. Keeps-same g.W.Sink.held c.args.output c.run_prefix.result.0 (c.run_prefix.ensures.checks only)) c.run_prefix.ensures.prints

use Rattle.std.proofs.Common.{ℕ, length, min, Option, refl, ap, ◌∙◌}
use Rattle.std.specs.Option.{option_map}
use Rattle.nr_units.specs.Source.{Supply}
use Rattle.program_command.specs.Running.{under, with_named}
use Rattle.program_options.specs.Job.{asked_of}
use Rattle.program_command.proofs.Kept.{Runs-failed, Runs-kept, settled-runs}
use Rattle.program_command.proofs.Texts.{Runs-same, Runs-texts}
use Rattle.program_command.proofs.running.run_texts.Goals as goal

pub returns-in-Ok-clause-passed_on : goal.returns-in-Ok-clause-passed_on
returns-in-Ok-clause-passed_on g c = λ sound. rw c.in-Ok.ensures.passed_on refl

pub returns-clause-passed_on : goal.returns-clause-passed_on
returns-clause-passed_on g c = λ not. absurd (not refl)

pub returns-in-Ok-clause-runs : goal.returns-in-Ok-clause-runs
returns-in-Ok-clause-runs g c =
    let job = asked_of c.args.job.now in
    let held = g.W.Sink.held in
    let ran = c.run_pages-output.ensures in
    let texts = c.args.texts.now in
    let folder = option_map g.F.Folder.texts c.args.folder in
    let named = c.args.reading.coding in
    let came = ap (λ (f : Option Supply). under named (with_named folder f)) c.chain-pages.ensures.supply in
    Runs-kept job c.args.around.now _ _ c.settled-ending.result (held c.args.output) (held c.run_pages-output.result.0) (held c.flush.new.self)
    (Runs-texts g.T.Source.supply job c.args.around.now named folder texts _ _ c.min-count.result c.settled-ending.result _ _
    (c.min-count.ensures ∙ ap (λ (n : ℕ). min n (length texts)) c.macro_count.ensures) c.split_at_mut-macros.ensures.front c.split_at_mut-macros.ensures.back
    (Runs-same job c.args.around.now _ _ _ c.settled-ending.result _ _ came (settled-runs held job c.args.around.now _ _ c.args.output c.run_pages-output.result.0 c.run_pages-output.result.1 c.settled-ending.result ran.runs ran.unprinted
    c.settled-ending.ensures.ended c.settled-ending.ensures.refused)))
    c.in-Ok.ensures.held

pub returns-clause-runs : goal.returns-clause-runs
returns-clause-runs g c =
    let job = asked_of c.args.job.now in
    let held = g.W.Sink.held in
    let ran = c.run_pages-output.ensures in
    let texts = c.args.texts.now in
    let folder = option_map g.F.Folder.texts c.args.folder in
    let named = c.args.reading.coding in
    let came = ap (λ (f : Option Supply). under named (with_named folder f)) c.chain-pages.ensures.supply in
    Runs-failed job c.args.around.now _ _ c.settled-ending.result (held c.args.output) (held c.run_pages-output.result.0) (held c.flush.new.self)
    (Runs-texts g.T.Source.supply job c.args.around.now named folder texts _ _ c.min-count.result c.settled-ending.result _ _
    (c.min-count.ensures ∙ ap (λ (n : ℕ). min n (length texts)) c.macro_count.ensures) c.split_at_mut-macros.ensures.front c.split_at_mut-macros.ensures.back
    (Runs-same job c.args.around.now _ _ _ c.settled-ending.result _ _ came (settled-runs held job c.args.around.now _ _ c.args.output c.run_pages-output.result.0 c.run_pages-output.result.1 c.settled-ending.result ran.runs ran.unprinted
    c.settled-ending.ensures.ended c.settled-ending.ensures.refused)))
    c.in-Err.ensures.held

use Rattle.std.proofs.Common.{ℕ, List, length, Option, Some, map, sym, subst, ap, ◌∙◌}
use Rattle.nr_units.specs.Source.{Supply}
use Rattle.document_sources.specs.Joining.{followed}
use Rattle.nr_command_options.specs.Files.{files_supply}
use Rattle.program_options.specs.Job.{asked_of}
use Rattle.program_command.specs.Running.{MayLeaveOut, Runs, under, with_named}
use Rattle.program_command.proofs.Leaving.{IsOfRun-left, Runs-left-out}
use Rattle.program_command.proofs.running.run_within.Goals as goal

pub returns-in-Ok-ran-clause-run : goal.returns-in-Ok-ran-clause-run
returns-in-Ok-ran-clause-run g c =
    IsOfRun-left _ c.in-Ok-ran.ending c.with_left_out.result c.with_left_out.ensures (rw c.in-Ok-ran.is at c.run_all-output.ensures.run)

pub returns-in-Ok-ran-clause-runs : goal.returns-in-Ok-ran-clause-runs
returns-in-Ok-ran-clause-runs g c =
    let job = asked_of c.args.job.now in
    let files = files_supply (map g.T.Source.supply c.args.macros.now) in
    let coding = c.args.reading.coding in
    let texts = g.F.Folder.texts c.args.within.1 in
    let pages = g.S.Source.supply c.args.within.0 in
    let room = ap (λ (ns : List ℕ). length ns) c.deref_mut.ensures.value ∙ (sym c.in-Ok.room.ok.0 ∙ c.in-Ok.ensures.len) in
    let same = c.over-pages.ensures.supply ∙ ap (λ (n : ℕ). followed texts pages n 64 67108864) room in
    Runs-left-out job c.args.around.now files (under coding (with_named (Some texts) pages)) c.in-Ok-ran.ending c.with_left_out.result (g.W.Sink.held c.args.output) (g.W.Sink.held c.run_all-output.result.0)
    (subst (λ (n : List ℕ). MayLeaveOut n c.in-Ok-ran.ending c.with_left_out.result) c.first_name.ensures c.with_left_out.ensures)
    (subst (λ (t : Option Supply). Runs job c.args.around.now files (under coding t) c.in-Ok-ran.ending (g.W.Sink.held c.args.output) (g.W.Sink.held c.run_all-output.result.0)) same (rw c.in-Ok-ran.is at c.run_all-output.ensures.runs))

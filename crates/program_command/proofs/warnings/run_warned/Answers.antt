use Rattle.std.proofs.Common.{drop, inl, inr, refl}
use Rattle.std.specs.Option.{option_map}
use Rattle.document_stages.specs.Joined.{joined}
use Rattle.program_options.specs.Job.{asked_of}
use Rattle.program_command.proofs.Aheads.{Runs-ahead}
use Rattle.program_command.proofs.Kept.{Keeps-refl}
use Rattle.program_command.proofs.Warning.{AreAhead-same}
use Rattle.program_command.proofs.warnings.run_warned.Goals as goal

pub returns-in_default-clause-comes : goal.returns-in_default-clause-comes
returns-in_default-clause-comes g c = inl (record { unrun = tt; kept = Keeps-refl _ })

pub returns-in_default-clause-prints : goal.returns-in_default-clause-prints
returns-in_default-clause-prints g c = inl refl

pub returns-clause-prints : goal.returns-clause-prints
returns-clause-prints g c = inr c.run_texts.ensures.passed_on

pub returns-clause-comes : goal.returns-clause-comes
returns-clause-comes g c = inr (record {
  reported = c.in-Ok.ensures.reported;
  runs = Runs-ahead (asked_of c.args.job.now) c.args.around.now c.args.with.0.coding (option_map g.F.Folder.texts c.args.with.1) _ _ c.run_texts.result.0 _ _
      (AreAhead-same (λ a. joined (drop a.taken a.first.items) (g.T.Source.supply a.rest)) _ _ _ c.deref_mut.ensures.value c.in-Ok.ensures.stay) c.run_texts.ensures.runs;
})

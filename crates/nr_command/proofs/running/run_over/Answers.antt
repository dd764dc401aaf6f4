use Rattle.std.proofs.Common.{◌≡◌, IsErr, Result, refl, sym, ap, ◌∙◌, subst}
use Rattle.std.proofs.lemmas.Bool.{false≢true}
use Rattle.nr_machine.specs.declared.outcome.Outcome.{Outcome}
use Rattle.nr_machine.specs.declared.outcome.Outcome.TheVariants.{Done, Limit, ReadFault, TooLong, WriteFault}
use Rattle.nr_command.specs.Running.{status_of}
use Rattle.nr_command.proofs.running.run_over.Goals as goal

-- a run has no status of a desk that was not made
status-apart : (o : Outcome) → status_of o ≡ 5 → ⊥
status-apart Done five = cc
status-apart (Limit which at) five = cc
status-apart TooLong five = cc
status-apart (ReadFault at) five = cc
status-apart WriteFault five = cc

-- only a run that is done has status 0
only-done : (o : Outcome) → status_of o ≡ 0 → o ≡ Done
only-done Done none = refl
only-done (Limit which at) none = cc
only-done TooLong none = cc
only-done (ReadFault at) none = cc
only-done WriteFault none = cc

pub returns-in-Ok-clause-quiet : goal.returns-in-Ok-clause-quiet
returns-in-Ok-clause-quiet g c = λ none. c.tell.ensures.quiet (only-done c.run_desk-outcome.result (sym c.tell.ensures.status ∙ none))

pub returns-in-Ok-clause-passed_on : goal.returns-in-Ok-clause-passed_on
returns-in-Ok-clause-passed_on g c = λ written there. c.run_desk-outcome.ensures.passed_on (λ fault. written (c.tell.ensures.status ∙ ap status_of fault))

pub returns-in-Ok-clause-refused : goal.returns-in-Ok-clause-refused
returns-in-Ok-clause-refused g c =
    ((λ five. absurd (status-apart c.run_desk-outcome.result (sym c.tell.ensures.status ∙ five))), (λ err. absurd (false≢true (subst (λ (r : Result _ _). IsErr r) c.in-Ok.is err))))

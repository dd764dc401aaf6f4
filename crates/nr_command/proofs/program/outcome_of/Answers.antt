use Rattle.std.proofs.lemmas.Grind.{common_steps}
use Rattle.std.proofs.Common.{rules, ◌≡◌, ℕ, Bool, List, [], ◌∷◌, Option, map, subst, ap, ◌∙◌, arith}
use Rattle.nr_units.specs.Failures.{SinkFailures}
use Rattle.nr_units.specs.Source.{Supply}
use Rattle.nr_options.specs.Limits.{Bounds}
use Rattle.nr_options.specs.declared.options.Options.{Options}
use Rattle.nr_machine.specs.declared.outcome.Outcome.{Outcome}
use Rattle.nr_command_options.specs.Chained.{failures_in}
use Rattle.nr_command_options.specs.Files.{files_supply}
use Rattle.nr_command.specs.Memory.{buffers_of, list_of, DeskUnder}
use Rattle.nr_command.specs.Opening.{Asks}
use Rattle.nr_command.specs.Running.{Ran}
use Rattle.nr_command.proofs.Openings.{Asks-then}
use Rattle.nr_command.proofs.program.outcome_of.Goals as goal

-- a run under equal limits over an equal supply, with as many failed reads before
Ran-same : (b b' : Bounds) (options : Options) (supply supply' : Option Supply) (reads reads' after : ℕ) (old new : Option (List ℕ)) (writes writes' : SinkFailures) (passed_on : Bool) (outcome : Outcome)
    → b ≡ b' → supply ≡ supply' → reads ≡ reads' → Ran b options supply reads after old new writes writes' passed_on outcome → Ran b' options supply' reads' after old new writes writes' passed_on outcome
Ran-same b b' options supply supply' reads reads' after old new writes writes' passed_on outcome same_b same_supply same_reads ran =
    subst (λ n. Ran b' options supply' n after old new writes writes' passed_on outcome) same_reads
    (subst (λ s. Ran b' options s reads after old new writes writes' passed_on outcome) same_supply
    (subst (λ l. Ran l options supply reads after old new writes writes' passed_on outcome) same_b ran))

pub returns-clause-ends : goal.returns-clause-ends
returns-clause-ends g c =
    let supply = g.O.Text.Source.supply in
    record {
      texts = c.in_ok-texts.texts.items;
      left = c.run_desk.new.input.files.now;
      opened = c.in_ok-texts.ensures.all;
      each = c.in_ok-texts.ensures.asked;
      ran = Ran-same _ _ _ _ _ _ _ _ _ _ _ _ _ _ c.in_ok-desk.ensures.limits (c.chain-input.ensures.supply ∙ ap (λ texts. files_supply (map supply texts)) c.deref_mut.ensures.value) (c.chain-input.ensures.failures ∙ ap (failures_in g.O.Text.Source.failures) c.deref_mut.ensures.value) c.run_desk.ensures.ran;
      passed = c.run_desk.ensures.passed_on;
    }

pub returns-clause-takes : goal.returns-clause-takes
returns-clause-takes g c =
    let job = c.args.job.now in
    let buffers : Asks (g.M.Memory.asked c.args.memory.now) (g.M.Memory.asked c.bytes.new.self) (buffers_of job ∷ []) = search rules in
    let desk = Asks-then _ _ _ (list_of job ∷ []) (DeskUnder job.limits ∷ []) c.open_texts.ensures.listed c.desk.ensures.asked in
    Asks-then _ _ _ (buffers_of job ∷ []) (list_of job ∷ DeskUnder job.limits ∷ []) buffers desk

pub returns-in_err-texts-clause-takes : goal.returns-in_err-texts-clause-takes
returns-in_err-texts-clause-takes g c = grind (arith, common_steps)

pub returns-in_err-desk-clause-takes : goal.returns-in_err-desk-clause-takes
returns-in_err-desk-clause-takes g c = grind (arith, common_steps)

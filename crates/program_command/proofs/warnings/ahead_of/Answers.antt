use Rattle.std.proofs.Common.{rules, ◌≡◌, ℕ, ◌-◌, List, [], drop, Option, sym, subst, ap, ◌∙◌}
use Rattle.nr_units.specs.Source.{Supply}
use Rattle.document_stages.specs.Joined.{joined}
use Rattle.document_stages.specs.Pulling.{Stays}
use Rattle.program_options.specs.Job.{asked_of}
use Rattle.program_command.specs.Running.{first_of}
use Rattle.program_command.proofs.Bytewise.{Stays-nothing}
use Rattle.program_command.proofs.Warning.{TellsAt-looked, TellsAt-passed, not-looked}
use Rattle.program_command.proofs.warnings.ahead_of.Goals as goal

pub returns-then-not-is_looked_at-clause-stays : goal.returns-then-not-is_looked_at-clause-stays
returns-then-not-is_looked_at-clause-stays g c =
    let known = g.S.Source.supply c.args.text in
    let none : c.new.result.items ≡ [] = search rules in
    subst (λ (s : Option Supply). Stays known s) (sym (c.over.ensures ∙ ap (λ (bs : List ℕ). joined bs known) none)) (Stays-nothing known)

pub returns-then-not-is_looked_at-clause-reported : goal.returns-then-not-is_looked_at-clause-reported
returns-then-not-is_looked_at-clause-reported g c =
    TellsAt-passed (asked_of c.args.job.now) c.args.looks.coding c.args.place (g.S.Source.supply c.args.text) _ (sym c.is_looked_at.ensures ∙ c.if-not-is_looked_at.true)

pub returns-clause-reported : goal.returns-clause-reported
returns-clause-reported g c =
    let files = (asked_of c.args.job.now).files in
    let at = c.saturating_sub-page.ensures ∙ ap (λ (n : ℕ). c.args.place - n) c.macro_count.ensures in
    let named = c.name_of.ensures ∙ ap (λ (n : ℕ). first_of (drop n files)) at in
    TellsAt-looked c.look_at_text.result (asked_of c.args.job.now) c.args.looks.coding c.args.place c.name_of.result.now (g.S.Source.supply c.args.text) _ _
    (sym c.is_looked_at.ensures ∙ c.if-not-is_looked_at.false) named c.look_at_text.ensures.reported

pub returns-clause-silent : goal.returns-clause-silent
returns-clause-silent g c = λ none. absurd (not-looked (asked_of c.args.job.now) c.args.place (sym c.is_looked_at.ensures ∙ c.if-not-is_looked_at.false) none)

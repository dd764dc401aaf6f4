-- A run of which a text was left out comes to what it came to.
use Rattle.std.proofs.Common.{◌≡◌, ℕ, List, Bool, true, false, Option, ◌⊎◌, inl, inr, sym, subst}
use Rattle.nr_units.specs.Source.{Supply}
use Rattle.document_printing.specs.declared.setup.PageEnd.TheVariants as outcomes
use Rattle.document_printing.specs.declared.setup.Report.{Report}
use Rattle.program_options.specs.Job.{Asked}
use Rattle.program_command.specs.Program.{IsOfRun}
use Rattle.program_command.specs.Running.{EndsBefore, EndsBy, IsBefore, IsDocument, IsLeftOut, IsReported, IsWhole, MayLeaveOut, Runs, first_of, is_for_others}
use Rattle.program_command.specs.declared.endings.Ending.{Ending}
use Rattle.program_command.specs.declared.endings.Ending.TheVariants.{Done, LeftOut, Unshown}
use Rattle.program_command.specs.declared.surroundings.Surroundings.{Surroundings}

reported-left : (name unshown : List ℕ) (report : Report) (after : Ending) → IsLeftOut name after → report.outcome ≡ outcomes.Done → IsReported name unshown report after
reported-left name unshown report (LeftOut place why) left is = (is, left)
reported-left name unshown report other left is = absurd left

reported-whole : (name unshown : List ℕ) (report : Report) (before : Ending) → IsWhole before → IsReported name unshown report before → report.outcome ≡ outcomes.Done
reported-whole name unshown report Done whole reported = reported.0
reported-whole name unshown report (Unshown first names) whole reported = reported.0
reported-whole name unshown report other whole reported = absurd whole

document-left : (job : Asked) (around : Surroundings) (macros : Option Supply) (q : Supply) (before after : Ending) (a b : Option (List ℕ))
    → IsWhole before → IsLeftOut (first_of job.files) after → IsDocument job around macros q before a b → IsDocument job around macros q after a b
document-left job around macros q before after a b whole left d = record {
  first = d.first;
  rest = d.rest;
  looked_at = d.looked_at;
  plan = d.plan;
  plan_is = d.plan_is;
  macros = d.macros;
  macros_are = d.macros_are;
  options = d.options;
  options_are = d.options_are;
  report = d.report;
  printed = d.printed;
  reported = reported-left (first_of job.files) _ d.report after left (reported-whole (first_of job.files) _ d.report before whole d.reported);
}

ends-left : (others : Bool) (job : Asked) (around : Surroundings) (macros : Option Supply) (q : Supply) (before after : Ending) (a b : Option (List ℕ))
    → IsWhole before → IsLeftOut (first_of job.files) after → EndsBy others job around macros q before a b → EndsBy others job around macros q after a b
ends-left true job around macros q before after a b whole left ends = absurd (subst IsWhole ends.reported whole)
ends-left false job around macros q before after a b whole left ends = document-left job around macros q before after a b whole left ends

not-both : (before : Ending) → IsWhole before → IsBefore before → ⊥
not-both Done whole unread = unread
not-both (Unshown first names) whole unread = unread
not-both other whole unread = absurd whole

either-left : (others : Bool) (job : Asked) (around : Surroundings) (macros : Option Supply) (q : Supply) (before after : Ending) (a b : Option (List ℕ))
    → IsWhole before → IsLeftOut (first_of job.files) after → (EndsBefore before a b ⊎ EndsBy others job around macros q before a b)
    → EndsBefore after a b ⊎ EndsBy others job around macros q after a b
either-left others job around macros q before after a b whole left (inl unread) = absurd (not-both before whole unread.before)
either-left others job around macros q before after a b whole left (inr ends) = inr (ends-left others job around macros q before after a b whole left ends)

run-left : (name : List ℕ) (after : Ending) → IsLeftOut name after → IsOfRun after
run-left name (LeftOut place why) left = tt
run-left name other left = absurd left

pub IsOfRun-left : (name : List ℕ) (before after : Ending) → MayLeaveOut name before after → IsOfRun before → IsOfRun after
IsOfRun-left name before after (inl same) run = subst IsOfRun (sym same) run
IsOfRun-left name before after (inr (whole, left)) run = run-left name after left

pub Runs-left-out : (job : Asked) (around : Surroundings) (macros known : Option Supply) (before after : Ending) (a b : Option (List ℕ))
    → MayLeaveOut (first_of job.files) before after → Runs job around macros known before a b → Runs job around macros known after a b
Runs-left-out job around macros known before after a b (inl same) runs =
    subst (λ (e : Ending). Runs job around macros known e a b) (sym same) runs
Runs-left-out job around macros known before after a b (inr (whole, left)) runs = record {
  checks = runs.checks;
  prints = λ asks q is short. let given = runs.prints asks q is short in record {
    first = given.first;
    rest = given.rest;
    looked_at = given.looked_at;
    ends = either-left (is_for_others job given.first) job around macros q before after a b whole left given.ends;
  };
}

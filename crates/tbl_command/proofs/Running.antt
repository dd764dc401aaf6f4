-- What the words of tbl ask for comes about.
use Rattle.std.proofs.Common.{◌≡◌, ℕ, List, drop, Bool, Option, None, Some, Ok, sym, refl, subst, ap, ◌∙◌}
use Rattle.nr_units.specs.Failures.{SinkFailures}
use Rattle.tbl_table.specs.declared.signs.Signs.{Signs}
use Rattle.tbl_setting.specs.Drawing.{signs_of}
use Rattle.tbl_setting.specs.Bounds.{Bounds}
use Rattle.utf8_characters.specs.declared.table.FixedTable.{FixedTable}
use Rattle.utf8_own_characters.specs.Table.{Characters}
use Rattle.filters.specs.Disk.{Opening}
use Rattle.filters.specs.Program.{Comes, IsRun, TurnsNames}
use Rattle.filters.specs.Program as programs
use Rattle.filters.specs.declared.endings.Ending.{Ending}
use Rattle.filters_own.specs.declared.names.Named.{Named}
use Rattle.filters_own.specs.declared.names.Named.TheVariants.{Fixed, Own}
use Rattle.filters_own.specs.Looking.{AsksForOwn, ComesTo}
use Rattle.filters_own.specs.Names.{file_at}
use Rattle.tbl_command.specs.Arguments.{IsAnswer}
use Rattle.tbl_command.specs.Converting.{AsksBy, AsksFor, bounds_of, own, tbl}
use Rattle.utf8_own_page.specs.Signs.{signs_for}
use Rattle.tbl_command.specs.declared.arguments.Job.{Job}

-- texts were set with the frames of a page's own table
pub own-set : (may_come : List ℕ → Opening → Type 0) (asked asked' : Option (List (List ℕ))) (held new : Option (List ℕ)) (writes writes' : SinkFailures)
    (passed_on : Bool) (b : Bounds) (signs : Signs) (job : Job) (table : Characters) (names : List (List ℕ)) (ending : Ending)
    → b ≡ bounds_of signs job → signs ≡ signs_for table → TurnsNames may_come asked asked' held new writes writes' passed_on (tbl b) names ending
    → TurnsNames may_come asked asked' held new writes writes' passed_on (own job table) names ending
own-set may_come asked asked' held new writes writes' passed_on b signs job table names ending bounds drawn turns =
    subst (λ (x : Bounds). TurnsNames may_come asked asked' held new writes writes' passed_on (tbl x) names ending)
    (bounds ∙ ap (λ (s : Signs). bounds_of s job) drawn) turns

-- by the table of a file
pub by-own : (may_come : List ℕ → Opening → Type 0) (asked asked' : Option (List (List ℕ))) (held new : Option (List ℕ)) (writes writes' : SinkFailures)
    (passed_on : Bool) (words : List (List ℕ)) (job : Job) (place : ℕ) (file : List ℕ) (names : List (List ℕ)) (ending : Ending)
    → IsAnswer words (Ok job) → job.characters ≡ Some (Own place) → file ≡ file_at words place → names ≡ drop job.files words
    → ComesTo (own job) file names (Comes may_come asked asked' held new writes writes' passed_on) ending
    → IsRun (AsksFor words) may_come asked asked' held new writes writes' passed_on ending
by-own may_come asked asked' held new writes writes' passed_on words job place file names ending answer by file_is names_are came = record {
  job = came.0;
  is_asked = (
    Ok job,
    answer,
    subst (λ (n : Option Named). AsksBy n words job came.0) (sym by)
        (subst (λ (f : List ℕ). AsksForOwn (own job) f (drop job.files words) came.0) file_is
        (subst (λ (ns : List (List ℕ)). AsksForOwn (own job) file ns came.0) names_are came.1)),
  );
  comes = came.2;
}

-- by a fixed table
pub by-fixed : (may_come : List ℕ → Opening → Type 0) (asked asked' : Option (List (List ℕ))) (held new : Option (List ℕ)) (writes writes' : SinkFailures)
    (passed_on : Bool) (words : List (List ℕ)) (job : Job) (table : FixedTable) (names : List (List ℕ)) (ending : Ending)
    → IsAnswer words (Ok job) → job.characters ≡ Some (Fixed table) → names ≡ drop job.files words
    → TurnsNames may_come asked asked' held new writes writes' passed_on (tbl (bounds_of (signs_of (Some table)) job)) names ending
    → IsRun (AsksFor words) may_come asked asked' held new writes writes' passed_on ending
by-fixed may_come asked asked' held new writes writes' passed_on words job table names ending answer by names_are turns =
    let job_is : programs.Job = programs.TurnsTexts (tbl (bounds_of (signs_of (Some table)) job)) (drop job.files words) in
    record {
      job = job_is;
      is_asked = (Ok job, answer, subst (λ (n : Option Named). AsksBy n words job job_is) (sym by) refl);
      comes = subst (λ (ns : List (List ℕ)). TurnsNames may_come asked asked' held new writes writes' passed_on (tbl (bounds_of (signs_of (Some table)) job)) ns ending)
          names_are turns;
    }

-- by none
pub by-none : (may_come : List ℕ → Opening → Type 0) (asked asked' : Option (List (List ℕ))) (held new : Option (List ℕ)) (writes writes' : SinkFailures)
    (passed_on : Bool) (words : List (List ℕ)) (job : Job) (names : List (List ℕ)) (ending : Ending)
    → IsAnswer words (Ok job) → job.characters ≡ None → names ≡ drop job.files words
    → TurnsNames may_come asked asked' held new writes writes' passed_on (tbl (bounds_of (signs_of None) job)) names ending
    → IsRun (AsksFor words) may_come asked asked' held new writes writes' passed_on ending
by-none may_come asked asked' held new writes writes' passed_on words job names ending answer by names_are turns =
    let job_is : programs.Job = programs.TurnsTexts (tbl (bounds_of (signs_of None) job)) (drop job.files words) in
    record {
      job = job_is;
      is_asked = (Ok job, answer, subst (λ (n : Option Named). AsksBy n words job job_is) (sym by) refl);
      comes = subst (λ (ns : List (List ℕ)). TurnsNames may_come asked asked' held new writes writes' passed_on (tbl (bounds_of (signs_of None) job)) ns ending)
          names_are turns;
    }

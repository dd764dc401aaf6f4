-- What the words of preconv ask for comes about.
use Rattle.std.proofs.Common.{◌≡◌, ℕ, List, drop, Bool, Option, None, Some, Result, Ok, sym, refl, subst}
use Rattle.nr_units.specs.Failures.{SinkFailures}
use Rattle.preconv_characters.specs.declared.target.Target.TheVariants.{Ascii, Bytes}
use Rattle.utf8_characters.specs.declared.table.FixedTable.{FixedTable}
use Rattle.filters.specs.Disk.{Opening}
use Rattle.filters.specs.Program.{Comes, IsRun, TurnsNames}
use Rattle.filters.specs.Program as programs
use Rattle.filters.specs.declared.endings.Ending.{Ending}
use Rattle.filters_own.specs.declared.names.Named.{Named}
use Rattle.filters_own.specs.declared.names.Named.TheVariants.{Fixed, Own}
use Rattle.filters_own.specs.Looking.{AsksForOwn, ComesTo}
use Rattle.filters_own.specs.Names.{file_at}
use Rattle.preconv_command.specs.Converting.{AsksBy, AsksFor, own, preconv}
use Rattle.preconv_command.specs.declared.arguments.Job.{Job}
use Rattle.preconv_command.specs.declared.arguments.Wrong.{Wrong}

-- by the table of a file
pub by-own : (may_come : List ℕ → Opening → Type 0) (asked asked' : Option (List (List ℕ))) (held new : Option (List ℕ)) (writes writes' : SinkFailures)
    (passed_on : Bool) (words : List (List ℕ)) (answer : Result Job Wrong) (job : Job) (place : ℕ) (file : List ℕ) (names : List (List ℕ)) (ending : Ending)
    → Ok job ≡ answer → job.table ≡ Some (Own place) → file ≡ file_at words place → names ≡ drop job.files words
    → ComesTo own file names (Comes may_come asked asked' held new writes writes' passed_on) ending
    → IsRun (AsksFor words answer) may_come asked asked' held new writes writes' passed_on ending
by-own may_come asked asked' held new writes writes' passed_on words answer job place file names ending is by file_is names_are came = record {
  job = came.0;
  is_asked = subst (λ (r : Result Job Wrong). AsksFor words r came.0) is
      (subst (λ (n : Option Named). AsksBy n words job.files came.0) (sym by)
      (subst (λ (f : List ℕ). AsksForOwn own f (drop job.files words) came.0) file_is
      (subst (λ (ns : List (List ℕ)). AsksForOwn own file ns came.0) names_are came.1)));
  comes = came.2;
}

-- by a fixed table
pub by-fixed : (may_come : List ℕ → Opening → Type 0) (asked asked' : Option (List (List ℕ))) (held new : Option (List ℕ)) (writes writes' : SinkFailures)
    (passed_on : Bool) (words : List (List ℕ)) (answer : Result Job Wrong) (job : Job) (table : FixedTable) (names : List (List ℕ)) (ending : Ending)
    → Ok job ≡ answer → job.table ≡ Some (Fixed table) → names ≡ drop job.files words
    → TurnsNames may_come asked asked' held new writes writes' passed_on (preconv (Bytes table)) names ending
    → IsRun (AsksFor words answer) may_come asked asked' held new writes writes' passed_on ending
by-fixed may_come asked asked' held new writes writes' passed_on words answer job table names ending is by names_are turns =
    let job_is : programs.Job = programs.TurnsTexts (preconv (Bytes table)) (drop job.files words) in
    record {
      job = job_is;
      is_asked = subst (λ (r : Result Job Wrong). AsksFor words r job_is) is
          (subst (λ (n : Option Named). AsksBy n words job.files job_is) (sym by) refl);
      comes = subst (λ (ns : List (List ℕ)). TurnsNames may_come asked asked' held new writes writes' passed_on (preconv (Bytes table)) ns ending) names_are turns;
    }

-- by none
pub by-none : (may_come : List ℕ → Opening → Type 0) (asked asked' : Option (List (List ℕ))) (held new : Option (List ℕ)) (writes writes' : SinkFailures)
    (passed_on : Bool) (words : List (List ℕ)) (answer : Result Job Wrong) (job : Job) (names : List (List ℕ)) (ending : Ending)
    → Ok job ≡ answer → job.table ≡ None → names ≡ drop job.files words
    → TurnsNames may_come asked asked' held new writes writes' passed_on (preconv Ascii) names ending
    → IsRun (AsksFor words answer) may_come asked asked' held new writes writes' passed_on ending
by-none may_come asked asked' held new writes writes' passed_on words answer job names ending is by names_are turns =
    let job_is : programs.Job = programs.TurnsTexts (preconv Ascii) (drop job.files words) in
    record {
      job = job_is;
      is_asked = subst (λ (r : Result Job Wrong). AsksFor words r job_is) is
          (subst (λ (n : Option Named). AsksBy n words job.files job_is) (sym by) refl);
      comes = subst (λ (ns : List (List ℕ)). TurnsNames may_come asked asked' held new writes writes' passed_on (preconv Ascii) ns ending) names_are turns;
    }

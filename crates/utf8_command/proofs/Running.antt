-- What the words of utf8 ask for comes about.
use Rattle.std.proofs.Common.{◌≡◌, ℕ, List, drop, Bool, Option, Result, Ok, refl, subst}
use Rattle.nr_units.specs.Failures.{SinkFailures}
use Rattle.utf8_characters.specs.declared.table.FixedTable.{FixedTable}
use Rattle.filters.specs.Disk.{Asks, Opening}
use Rattle.filters.specs.Program.{Comes, IsRun, Puts, TurnsNames}
use Rattle.filters.specs.Program as programs
use Rattle.filters.specs.declared.endings.Ending.{Ending}
use Rattle.filters.proofs.Opening.{Asks-none}
use Rattle.filters_own.specs.declared.names.Named.{Named}
use Rattle.filters_own.specs.declared.names.Named.TheVariants.{Fixed, Own}
use Rattle.filters_own.specs.Looking.{AsksForOwn, ComesTo}
use Rattle.filters_own.specs.Names.{file_at}
use Rattle.utf8_command.specs.Choosing.{AsksForChoice, ComesToChoice}
use Rattle.utf8_command.specs.Converting.{AsksFor, file_after, own, utf8, version_line}
use Rattle.utf8_command.specs.declared.arguments.Job.{Job}
use Rattle.utf8_command.specs.declared.arguments.Job.TheVariants.{Turn, Choose, Version}
use Rattle.utf8_command.specs.declared.arguments.Wrong.{Wrong}

-- by the table of a file
pub by-own : (may_come : List ℕ → Opening → Type 0) (asked asked' : Option (List (List ℕ))) (held new : Option (List ℕ)) (writes writes' : SinkFailures)
    (passed_on : Bool) (words : List (List ℕ)) (answer : Result Job Wrong) (named : Named) (place : ℕ) (escapes : Bool) (files : ℕ) (file : List ℕ) (names : List (List ℕ))
    (ending : Ending) → Ok (Turn named escapes files) ≡ answer → named ≡ Own place → file ≡ file_at words place → names ≡ drop files words
    → ComesTo (own escapes) file names (Comes may_come asked asked' held new writes writes' passed_on) ending
    → IsRun (AsksFor words answer) may_come asked asked' held new writes writes' passed_on ending
by-own may_come asked asked' held new writes writes' passed_on words answer named place escapes files file names ending is by file_is names_are came = record {
  job = came.0;
  is_asked = subst (λ (r : Result Job Wrong). AsksFor words r came.0) is
      (rw by (subst (λ (f : List ℕ). AsksForOwn (own escapes) f (drop files words) came.0) file_is
      (subst (λ (ns : List (List ℕ)). AsksForOwn (own escapes) file ns came.0) names_are came.1)));
  comes = came.2;
}

-- by a fixed table
pub by-fixed : (may_come : List ℕ → Opening → Type 0) (asked asked' : Option (List (List ℕ))) (held new : Option (List ℕ)) (writes writes' : SinkFailures)
    (passed_on : Bool) (words : List (List ℕ)) (answer : Result Job Wrong) (named : Named) (table : FixedTable) (escapes : Bool) (files : ℕ) (names : List (List ℕ))
    (ending : Ending) → Ok (Turn named escapes files) ≡ answer → named ≡ Fixed table → names ≡ drop files words
    → TurnsNames may_come asked asked' held new writes writes' passed_on (utf8 table escapes) names ending
    → IsRun (AsksFor words answer) may_come asked asked' held new writes writes' passed_on ending
by-fixed may_come asked asked' held new writes writes' passed_on words answer named table escapes files names ending is by names_are turns =
    let job : programs.Job = programs.TurnsTexts (utf8 table escapes) (drop files words) in
    record {
      job = job;
      is_asked = subst (λ (r : Result Job Wrong). AsksFor words r job) is (rw by refl);
      comes = subst (λ (ns : List (List ℕ)). TurnsNames may_come asked asked' held new writes writes' passed_on (utf8 table escapes) ns ending) names_are turns;
    }

-- a table was chosen
pub by-choice : (may_come : List ℕ → Opening → Type 0) (asked asked' : Option (List (List ℕ))) (held new : Option (List ℕ)) (writes writes' : SinkFailures)
    (passed_on : Bool) (words : List (List ℕ)) (answer : Result Job Wrong) (name : List ℕ) (ending : Ending) → Ok Choose ≡ answer → name ≡ file_after words
    → ComesToChoice name (Comes may_come asked asked' held new writes writes' passed_on) ending
    → IsRun (AsksFor words answer) may_come asked asked' held new writes writes' passed_on ending
by-choice may_come asked asked' held new writes writes' passed_on words answer name ending is name_is came = record {
  job = came.0;
  is_asked = subst (λ (r : Result Job Wrong). AsksFor words r came.0) is (subst (λ (n : List ℕ). AsksForChoice n came.0) name_is came.1);
  comes = came.2;
}

-- the version was printed
pub by-version : (may_come : List ℕ → Opening → Type 0) (asked : Option (List (List ℕ))) (held new : Option (List ℕ)) (writes writes' : SinkFailures)
    (passed_on : Bool) (words : List (List ℕ)) (answer : Result Job Wrong) (ending : Ending) → Ok Version ≡ answer → Puts version_line held new passed_on ending
    → IsRun (AsksFor words answer) may_come asked asked held new writes writes' passed_on ending
by-version may_come asked held new writes writes' passed_on words answer ending is puts =
    let job : programs.Job = programs.Prints version_line in
    record {
      job = job;
      is_asked = subst (λ (r : Result Job Wrong). AsksFor words r job) is refl;
      comes = (Asks-none asked, puts);
    }

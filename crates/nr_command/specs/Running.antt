-- What a run of the program comes to.
use Rattle.std.specs.Prelude.{◌≡◌, ℕ, List, Bool, false, IsTrue, if◌then◌else◌, Option, Some, codes}
use Rattle.std.specs.Io.KnownBytes.{Keeps}
use Rattle.nr_units.specs.Failures.{SinkFailures, counted_if, put_counted_if, flush_counted_if}
use Rattle.nr_units.specs.Source.{Supply}
use Rattle.nr_machine.specs.State.{start}
use Rattle.nr_options.specs.Limits.{Bounds}
use Rattle.nr_options.specs.declared.options.Options.{Options}
use Rattle.nr_machine.specs.Run.{Answers, is_read_fault, is_write_fault}
use Rattle.nr_machine.specs.declared.outcome.Outcome.{Outcome}
use Rattle.nr_machine.specs.declared.outcome.Outcome.TheVariants.{Done, Limit, ReadFault, TooLong, WriteFault}

-- the status of the program
abbrev pub status_of : Outcome → ℕ
status_of Done = 0
status_of (Limit which at) = 1
status_of TooLong = 1
status_of (ReadFault at) = 3
status_of WriteFault = 4

-- the line that reports want of memory
abbrev pub memory_line : List ℕ
memory_line = codes "nroff: out of memory\n"

-- A run came to this outcome: after so many moves formatting answered, with so much put out, and then the
-- output was flushed, a write fault or not.
pub record Ran (b : Bounds) (options : Options) (supply : Option Supply) (reads reads' : ℕ)
    (old new : Option (List ℕ)) (writes writes' : SinkFailures) (passed_on : Bool) (outcome : Outcome)
    : Type 0 where
  pub formatted : Outcome
  pub moves : ℕ
  pub held : Option (List ℕ)
  pub flush_failed : Bool
  pub answers : (known : Supply) → supply ≡ Some known
      → Answers b (start b options known) moves formatted old held
  pub flushed : Keeps held new
  pub passed : flush_failed ≡ false → IsTrue passed_on
  pub outcome_is : outcome ≡ (if flush_failed then WriteFault else formatted)
  -- each failed call was counted
  pub read_failures : reads' ≡ counted_if (is_read_fault formatted) reads
  pub write_failures : writes' ≡ flush_counted_if flush_failed
      (put_counted_if (is_write_fault formatted) writes)

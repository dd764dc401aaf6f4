-- What a job comes to: a run over its texts, or why it is not run.
use Rattle.std.specs.Prelude.{◌≡◌, ◌≢◌, ℕ, List, [], map, Bool, true, false, IsTrue, Option, Result, Ok, Err}
use Rattle.std.specs.Prelude.{◌⊎◌}
use Rattle.nr_units.specs.Failures.{SinkFailures, counted_if}
use Rattle.nr_units.specs.Source.{Supply}
use Rattle.nr_machine.specs.declared.outcome.Outcome.{Outcome}
use Rattle.nr_machine.specs.declared.outcome.Outcome.TheVariants.{WriteFault}
use Rattle.nr_command_options.specs.Chained.{failures_in}
use Rattle.nr_command_options.specs.Files.{files_supply}
use Rattle.nr_command_options.specs.Inputs.{Reading, readings, reading_of}
use Rattle.nr_command_options.specs.Job.{asked_of}
use Rattle.nr_command_options.specs.declared.job.Job.{Job}
use Rattle.nr_command.specs.Faults.{Tells, line_of}
use Rattle.nr_command.specs.Memory.{Taking, Takes}
use Rattle.nr_command.specs.Opening.{Opening, AreOpen, Asks, IsFirstRefused, unopened_text}
use Rattle.nr_command.specs.Running.{Ran, status_of, memory_line}
use Rattle.nr_command.specs.declared.opening.NotRun.{NotRun}
use Rattle.nr_command.specs.declared.opening.NotRun.TheVariants.{CannotOpen, OutOfMemory}

-- The text that is reported as not to be opened is the first that can't be. Where memory is wanting, no text
-- was asked for or each was.
abbrev pub IsRefused : (Reading → Opening → Type 0) → Option (List Reading) → Option (List Reading)
    → List Reading → NotRun → Type 0
IsRefused may_come asked asked' readings (CannotOpen input) =
    IsFirstRefused may_come asked asked' readings (reading_of input)
IsRefused may_come asked asked' readings OutOfMemory = Asks asked asked' [] ⊎ Asks asked asked' readings

-- want of memory is reported
abbrev pub lacks_memory : {A : Type 0} → Result A NotRun → Bool
lacks_memory (Ok x) = false
lacks_memory (Err (CannotOpen input)) = false
lacks_memory (Err OutOfMemory) = true

-- The texts of a job were opened, each once and in order, and a run over them, one after the other, came to
-- this outcome. The texts live no longer than the run.
pub record RanOver {T : Type 0} (supply : T → Option Supply) (failures : T → ℕ) (may_come : Reading → Opening
    → Type 0) (asked asked' : Option (List Reading)) (job : Job) (old new : Option (List ℕ))
    (writes writes' : SinkFailures) (passed_on : Bool) (outcome : Outcome) : Type 0 where
  -- as they were opened, and as the run left them
  pub texts : List T
  pub left : List T
  pub opened : AreOpen may_come (readings (asked_of job)) (map supply texts)
  pub each : Asks asked asked' (readings (asked_of job))
  -- a read fault is reported where a call of one of them failed, and nowhere else
  pub ran : Ran job.limits job.options (files_supply (map supply texts)) (failures_in failures texts)
      (failures_in failures left) old new writes writes' passed_on outcome
  pub passed : outcome ≢ WriteFault → IsTrue passed_on

-- a job came to this end; where it is not run, nothing was put out
abbrev pub Ends : {T : Type 0} → (T → Option Supply) → (T → ℕ) → (Reading → Opening → Type 0)
    → Option (List Reading) → Option (List Reading) → Job → Option (List ℕ) → Option (List ℕ) → SinkFailures
    → SinkFailures → Bool → Result Outcome NotRun → Type 0
Ends supply failures may_come asked asked' job old new writes writes' passed_on (Ok outcome) =
    RanOver supply failures may_come asked asked' job old new writes writes' passed_on outcome
Ends supply failures may_come asked asked' job old new writes writes' passed_on (Err why) =
    IsRefused may_come asked asked' (readings (asked_of job)) why × (new ≡ old) × (writes' ≡ writes)

-- the status of the program
abbrev pub status_of_end : Result Outcome NotRun → ℕ
status_of_end (Ok outcome) = status_of outcome
status_of_end (Err (CannotOpen input)) = 3
status_of_end (Err OutOfMemory) = 5

-- the line that reports the end
abbrev pub line_of_end : Result Outcome NotRun → List ℕ
line_of_end (Ok outcome) = line_of outcome
line_of_end (Err (CannotOpen input)) = unopened_text (reading_of input)
line_of_end (Err OutOfMemory) = memory_line

-- The program ran a job: it came to an end, for which so much memory was asked for, and the status and the
-- line report which.
pub record Comes {T : Type 0} (supply : T → Option Supply) (failures : T → ℕ) (may_come : Reading → Opening
    → Type 0) (asked asked' : Option (List Reading)) (taken taken' : Option (List Taking)) (job : Job)
    (old new : Option (List ℕ)) (writes writes' : SinkFailures) (passed_on : Bool)
    (old_line new_line : Option (List ℕ)) (untold untold' : SinkFailures) (status : ℕ) : Type 0 where
  pub end : Result Outcome NotRun
  pub ended : Ends supply failures may_come asked asked' job old new writes writes' passed_on end
  pub takes : Takes taken taken' asked asked' job end
  pub status_is : status ≡ status_of_end end
  pub reported : Tells old_line new_line untold untold' (line_of_end end)

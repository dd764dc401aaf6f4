-- What a job asks of its memory.
use Rattle.std.specs.Prelude.{◌≡◌, ℕ, ◌*◌, ◌-◌, ◌^◌, min, List, [], ◌∷◌, length, Option, Result, Ok, Err, ◌⊎◌}
use Rattle.nr_options.specs.Limits.{Bounds}
use Rattle.nr_command_options.specs.Inputs.{Reading, readings}
use Rattle.nr_command_options.specs.Job.{asked_of}
use Rattle.nr_command_options.specs.declared.job.Job.{Job}
use Rattle.nr_command.specs.Opening.{Asks}
use Rattle.nr_command.specs.declared.opening.NotRun.{NotRun}
use Rattle.nr_command.specs.declared.opening.NotRun.TheVariants.{CannotOpen, OutOfMemory}

-- a call for memory
pub data Taking : Type 0 where
  -- so many bytes
  Bytes : ℕ → Taking
  -- room for so many values
  Room : ℕ → Taking
  -- a desk for runs under these limits
  DeskUnder : Bounds → Taking

-- how many texts a job reads
abbrev pub texts_of : Job → ℕ
texts_of job = length (readings (asked_of job))

-- the buffers of its texts, 8 KiB for each
abbrev pub buffers_of : Job → Taking
buffers_of job = Bytes (min (texts_of job * 8192) (2 ^ 64 - 1))

-- the list of its texts
abbrev pub list_of : Job → Taking
list_of job = Room (texts_of job)

-- What was asked for before a job came to this end: the buffers and the list, and the desk once all texts are
-- open. No text is opened before the buffers and the list are there.
abbrev pub Takes : {A : Type 0} → Option (List Taking) → Option (List Taking) → Option (List Reading)
    → Option (List Reading) → Job → Result A NotRun → Type 0
Takes taken taken' asked asked' job (Ok x) =
    Asks taken taken' (buffers_of job ∷ list_of job ∷ DeskUnder job.limits ∷ [])
Takes taken taken' asked asked' job (Err (CannotOpen input)) =
    Asks taken taken' (buffers_of job ∷ list_of job ∷ [])
Takes taken taken' asked asked' job (Err OutOfMemory) =
    (Asks taken taken' (buffers_of job ∷ []) × Asks asked asked' [])
    ⊎ ((Asks taken taken' (buffers_of job ∷ list_of job ∷ []) × Asks asked asked' [])
    ⊎ (Asks taken taken' (buffers_of job ∷ list_of job ∷ DeskUnder job.limits ∷ [])
    × Asks asked asked' (readings (asked_of job))))

-- What a run under limits answers: the moves that it makes, and where it stops.
use Rattle.std.specs.Prelude.{◌≡◌, ◌≢◌, ◌⊎◌, ℕ, ◌<◌, ◌≤◌, ◌+◌, ◌*◌, List, [], ◌∷◌, ◌++◌, Option, None, Some, Result, Ok, Err, Bool, true, false}
use Rattle.std.specs.Io.KnownBytes.{Appends}
use Rattle.nr_units.specs.Failures.{SinkFailures, counted_if, put_counted_if}
use Rattle.nr_units.specs.Sink.{AppendsPrefix}
use Rattle.nr_input.specs.Moving as input
use Rattle.nr_input.specs.Refusal.{place_reported}
use Rattle.nr_input.specs.declared.refusal.Refusal.{Refusal}
use Rattle.nr_input.specs.declared.refusal.Refusal.TheVariants as refusals
use Rattle.nr_reading.specs.declared.event.Event.{Event}
use Rattle.nr_reading.specs.declared.event.Event.TheVariants as events
use Rattle.nr_reading.specs.Weights.{item_worth}
use Rattle.nr_formatter.specs.declared.tasks.Task.{Task}
use Rattle.nr_formatter.specs.declared.tasks.Task.TheVariants as tasks
use Rattle.nr_options.specs.Limits.{Bounds}
use Rattle.nr_machine.specs.State.{State, Ended, Choice}
use Rattle.nr_machine.specs.Machine.{step, state_after, situation_of}
use Rattle.nr_machine.specs.Printing.{bytes_of, text}
use Rattle.nr_formatter.specs.declared.passed.Passed.{Passed}
use Rattle.nr_machine.specs.Measures.{measure_of, passed}
use Rattle.nr_machine.specs.declared.outcome.Measure.{Measure}
use Rattle.nr_machine.specs.declared.outcome.Measure.TheVariants as measures
use Rattle.nr_machine.specs.declared.outcome.Outcome.{Outcome}
use Rattle.nr_machine.specs.declared.outcome.Outcome.TheVariants.{Done, Limit, ReadFault, TooLong, WriteFault}
use Rattle.nr_machine.specs.declared.outcome.Stop.{Stop}
use Rattle.nr_machine.specs.declared.outcome.Stop.TheVariants as stops

-- ---- the kind of a move

pub data Kind : Type 0 where
  -- the input is read
  Reads : Kind
  -- anything else
  Works : Kind
  -- none: the run is over
  Over : Kind

abbrev pub kind_of_task : Task → Kind
kind_of_task tasks.Read = Reads
kind_of_task tasks.Halted = Over
kind_of_task t = Works

abbrev pub kind_of_event : Event → Task → Kind
kind_of_event events.Nothing t = kind_of_task t
kind_of_event e t = Works

abbrev pub kind_of_springs : Option (List ℕ) → Event → Task → Kind
kind_of_springs None e t = kind_of_event e t
kind_of_springs (Some name) e t = Works

abbrev pub kind_of : List Choice → Option (List ℕ) → Event → Task → Kind
kind_of [] springs e t = kind_of_springs springs e t
kind_of (c ∷ cs) springs e t = Works

-- of the next move
abbrev pub kind : State → Kind
kind s = kind_of s.chosen s.formatter.springs s.formatter.event s.formatter.task

-- ---- a move is made, or the run stops

-- the next move is made
abbrev pub GoesBy : Kind → State → Type 0
GoesBy Reads s = input.Goes (situation_of s)
GoesBy Works s = passed (step s) ≡ None
GoesBy Over s = ⊥

abbrev pub Goes : State → Type 0
Goes s = GoesBy (kind s) s

-- what a move that reads would pass, by why it is refused
abbrev pub IsRefusal : Measure → Refusal → Type 0
IsRefusal measures.Stored r = r ≡ refusals.Stored
IsRefusal measures.Depth r = r ≡ refusals.Depth
IsRefusal measures.Expansions r = r ≡ refusals.Expansions
IsRefusal m r = ⊥

-- the next move would pass this limit
abbrev pub PassesBy : Kind → State → Measure → Type 0
PassesBy Reads s which = (r : Refusal) × input.Refuses (situation_of s) r × IsRefusal which r
PassesBy Works s which = passed (step s) ≡ Some which
PassesBy Over s which = ⊥

abbrev pub Passes : State → Measure → Type 0
Passes s which = PassesBy (kind s) s which

-- the next move ends a page
abbrev pub EndsPage : State → Type 0
EndsPage s = (page : Ended) × ((step s).pages ≡ s.pages ++ page ∷ [])

-- after how many bytes of the input the run stops at a limit
abbrev pub place_by : Kind → State → ℕ
place_by Reads s = place_reported s.coming.taken s.formatter.reader
place_by k s = s.coming.taken

-- the run stops here, as the outcome says
abbrev pub Stops : State → Outcome → Type 0
Stops s Done = kind s ≡ Over
Stops s (Limit which at) = Passes s which × (at ≡ place_by (kind s) s)
-- the next byte is needed, and the source may fail
Stops s (ReadFault at) =
    (kind s ≡ Reads) × input.Refuses (situation_of s) refusals.ReadFault × (at ≡ s.coming.taken)
-- it is there, and is the 2^40th
Stops s TooLong = (kind s ≡ Reads) × input.Refuses (situation_of s) refusals.TooLong
-- the next move is made and ends a page, but not all of it is written
Stops s WriteFault = Goes s × EndsPage s

-- So many moves were made as a run may make, and one more is pending.
abbrev pub AreSpent : ℕ → ℕ → State → Type 0
AreSpent most n s = (n ≡ most) × (kind s ≢ Over)

-- The run ends here after n moves, as the outcome says: where they are spent at the limit of all moves, and elsewhere as it stops.
abbrev pub Ends : ℕ → ℕ → State → Outcome → Type 0
Ends most n s outcome =
    (AreSpent most n s × (outcome ≡ Limit measures.Moves s.coming.taken))
    ⊎ ((AreSpent most n s → ⊥) × Stops s outcome)

-- every one of the first n moves is made
abbrev pub Runs : ℕ → State → Type 0
Runs n s = (m : ℕ) → m < n → Goes (state_after m s)

-- ---- what goes out

-- the pages that have ended went out, and of the one that the next move ends a prefix
pub record BreaksOff (s : State) (old new : Option (List ℕ)) : Type 0 where
  pub between : Option (List ℕ)
  pub ended : Appends old between (text s.pages)
  pub page : Ended
  pub ends : (step s).pages ≡ s.pages ++ page ∷ []
  pub prefix : AppendsPrefix between new (bytes_of page)

-- the pages that have ended
abbrev pub Writes : State → Outcome → Option (List ℕ) → Option (List ℕ) → Type 0
Writes s Done old new = Appends old new (text s.pages)
Writes s (Limit which at) old new = Appends old new (text s.pages)
Writes s (ReadFault at) old new = Appends old new (text s.pages)
Writes s TooLong old new = Appends old new (text s.pages)
Writes s WriteFault old new = BreaksOff s old new

-- How many moves there may be for each byte that is taken, and as many before the first.
abbrev pub moves_a_byte : Bounds → ℕ
moves_a_byte b = item_worth * (b.expansions + 1) * (b.stored + b.cells + b.depth + 4)

-- The machine makes n moves from s, as many as are allowed at most, and the run ends there as the outcome says.
pub record Answers (b : Bounds) (s : State) (n : ℕ) (outcome : Outcome)
    (old new : Option (List ℕ)) : Type 0 where
  pub runs : Runs n s
  pub allowed : n ≤ b.moves
  pub ends : Ends b.moves n (state_after n s) outcome
  pub writes : Writes (state_after n s) outcome old new
  pub bound : n ≤ moves_a_byte b * ((state_after n s).coming.taken + 1)

-- ---- how a run stops where a move is not made

abbrev pub refusal_outcome : ℕ → Refusal → Outcome
refusal_outcome at refusals.Stored = Limit measures.Stored at
refusal_outcome at refusals.Depth = Limit measures.Depth at
refusal_outcome at refusals.Expansions = Limit measures.Expansions at
refusal_outcome at refusals.ReadFault = ReadFault at
refusal_outcome at refusals.TooLong = TooLong

abbrev pub stop_outcome : ℕ → Stop → Outcome
stop_outcome at (stops.Limit which) = Limit which at
stop_outcome at stops.WriteFault = WriteFault

-- the answer of a move at this place of the input, where it reads
abbrev pub refused : ℕ → Result (Unit {0}) Refusal → Result (Unit {0}) Outcome
refused at (Ok x) = Ok x
refused at (Err refusal) = Err (refusal_outcome at refusal)

-- where it neither reads nor writes
abbrev pub limited : ℕ → Result (Unit {0}) Measure → Result (Unit {0}) Outcome
limited at (Ok x) = Ok x
limited at (Err which) = Err (Limit which at)

-- where it may write
abbrev pub stopped : ℕ → Result (Unit {0}) Stop → Result (Unit {0}) Outcome
stopped at (Ok x) = Ok x
stopped at (Err stop) = Err (stop_outcome at stop)

-- the answer of a move that only the formatter makes
abbrev pub measured : Result (Unit {0}) Passed → Result (Unit {0}) Measure
measured (Ok x) = Ok x
measured (Err p) = Err (measure_of p)

-- of one that might have written
abbrev pub unwritten : Result (Unit {0}) Measure → Result (Unit {0}) Stop
unwritten (Ok x) = Ok x
unwritten (Err which) = Err (stops.Limit which)

-- ---- faults are reported where a call failed, and nowhere else

abbrev pub is_write_fault : Outcome → Bool
is_write_fault WriteFault = true
is_write_fault outcome = false

abbrev pub is_read_fault : Outcome → Bool
is_read_fault (ReadFault at) = true
is_read_fault outcome = false

-- the same of a move
abbrev pub stops_writing : Result (Unit {0}) Outcome → Bool
stops_writing (Ok x) = false
stops_writing (Err outcome) = is_write_fault outcome

abbrev pub stops_reading : Result (Unit {0}) Outcome → Bool
stops_reading (Ok x) = false
stops_reading (Err outcome) = is_read_fault outcome

-- of a part of one
abbrev pub fails_writing : Result (Unit {0}) Stop → Bool
fails_writing (Ok x) = false
fails_writing (Err (stops.Limit which)) = false
fails_writing (Err stops.WriteFault) = true

-- A fault of the source or the sink is reported where a call of it failed, and no other call failed: by the counts of failed calls.
pub record ReportedFaults (outcome : Outcome) (reads reads' : ℕ) (writes writes' : SinkFailures) : Type 0 where
  pub read_failures : reads' ≡ counted_if (is_read_fault outcome) reads
  pub write_failures : writes' ≡ put_counted_if (is_write_fault outcome) writes

-- Why a move is not made, where it stays then, and where that is reported.
use Rattle.std.specs.Prelude.{ℕ, ◌-◌, ◌==◌, nat_le, Bool, true, false, if◌then◌else◌, Result, Ok, Err}
use Rattle.nr_reading.specs.declared.ask.Sign.TheVariants as signs
use Rattle.nr_reading.specs.declared.event.Event.{Event}
use Rattle.nr_reading.specs.declared.mode.PendingAct.{PendingAct}
use Rattle.nr_reading.specs.declared.mode.PendingAct.TheVariants as pending_acts
use Rattle.nr_reading.specs.declared.mode.Escape.{Escape}
use Rattle.nr_reading.specs.declared.mode.Escape.TheVariants as escapes
use Rattle.nr_store.specs.Store.{Stored, afforded, checked}
use Rattle.nr_store.specs.declared.refusal.Refusal as stored
use Rattle.nr_store.specs.declared.refusal.Refusal.TheVariants as stores
use Rattle.nr_store.specs.declared.refusal.StoredBytes.{StoredBytes}
use Rattle.nr_input.specs.declared.reader.Reader.{Reader}
use Rattle.nr_input.specs.declared.refusal.Refusal.{Refusal}
use Rattle.nr_input.specs.declared.refusal.Refusal.TheVariants as refusals
use Rattle.nr_input.specs.Acting.{Acted, act, then_pending, name_in, has_text}

-- ---- limits

-- what the store refuses
abbrev pub refusal_of : stored.Refusal → Refusal
refusal_of stores.Stored = refusals.Stored
refusal_of stores.Depth = refusals.Depth

-- whether there may be a splice more since the last byte of the input was taken
abbrev pub expanding_answer : Reader → Result (Unit {0}) Refusal
expanding_answer r = if nat_le r.most r.burst then Err refusals.Expansions else Ok tt

-- a level that may be opened is a splice more; where none is opened nothing is asked
abbrev pub splicing_by : Result Bool stored.Refusal → Reader → Result (Unit {0}) Refusal
splicing_by (Ok true) r = expanding_answer r
splicing_by (Ok false) r = Ok tt
splicing_by (Err e) r = Err (refusal_of e)

-- whether a text, if there is one, may be spliced where that leads to `new`
abbrev pub splicing_answer : {K : Type 0} → Bool → Stored K → Reader → Result (Unit {0}) Refusal
splicing_answer is_text new r = splicing_by (checked new is_text) r

abbrev pub storing_by : Result (Unit {0}) StoredBytes → Result (Unit {0}) Refusal
storing_by (Ok x) = Ok tt
storing_by (Err e) = Err refusals.Stored

-- whether `new` may be stored
abbrev pub storing_answer : {K : Type 0} → Stored K → Result (Unit {0}) Refusal
storing_answer new = storing_by (afforded new tt)

-- ---- what is pending

-- what a move that is pending asks of the limits
pub data Asking : Type 0 where
  -- nothing
  Nothing : Asking
  -- that what it leads to may be stored
  Bytes : Asking
  -- that a text, if there is one, may be spliced
  Splice : Bool → Asking
  -- a splice was refused, and is from then on
  Refused : Asking

abbrev pub asking : {K : Type 0} → PendingAct → Stored K → Reader → Asking
asking pending_acts.Begin v r = Bytes
asking (pending_acts.Add b) v r = Bytes
asking (pending_acts.Release held n b) v r = Bytes
asking (pending_acts.Put b) v r = Bytes
asking pending_acts.CallEnding v r = Splice (has_text r.half.notes.defining.ending v)
asking pending_acts.Splice v r = Splice (has_text r.half.notes.asked v)
asking (pending_acts.Register signs.None) v r = Splice true
asking (pending_acts.Argument n) v r = Splice true
asking pending_acts.Call v r = Splice (has_text (name_in r) v)
asking pending_acts.Expanded v r = Refused
asking d v r = Nothing

-- how that is answered, by what it leads to
abbrev pub answer_to : {K : Type 0} → Asking → Stored K → Reader → Result (Unit {0}) Refusal
answer_to Nothing new r = Ok tt
answer_to Bytes new r = storing_answer new
answer_to (Splice is_text) new r = splicing_answer is_text new r
answer_to Refused new r = Err refusals.Expansions

-- whether what is pending is done, or why not
abbrev pub answer : {K : Type 0} → PendingAct → Stored K → Reader → Result (Unit {0}) Refusal
answer d v r = answer_to (asking d v r) (act d v r).stored r

-- ---- where a refused call stays

-- what is stored and read after a call, and its answer
pub record Called (K A : Type 0) : Type 0 where
  pub stored : Stored K
  pub reader : Reader
  pub answer : A

-- the same, as the program has it
abbrev pub called : {K A : Type 0} → Stored K → Reader → A → Called K A
called v r a = record { stored = v; reader = r; answer = a }

-- Where a call is allowed it leads to `new` and `after`. Above the limit of splices the level that was opened stays, and the same is
-- refused from then on; above another limit nothing has changed.
abbrev pub stored_by : {K : Type 0} → Result (Unit {0}) Refusal → Stored K → Stored K → Stored K
stored_by (Ok x) new v = new
stored_by (Err refusals.Expansions) new v = new
stored_by (Err e) new v = v

abbrev pub reader_by : Result (Unit {0}) Refusal → Reader → Reader → Reader
reader_by (Ok x) after r = after
reader_by (Err refusals.Expansions) after r = then_pending pending_acts.Expanded r
reader_by (Err e) after r = r

-- what it answers then
abbrev pub answered : {A : Type 0} → Result (Unit {0}) Refusal → A → Result A Refusal
answered (Ok x) a = Ok a
answered (Err e) a = Err e

-- what comes of a call that is allowed or not
abbrev pub called_by : {K A : Type 0} → Result (Unit {0}) Refusal → Stored K → Reader → A → Stored K → Reader
    → Called K (Result A Refusal)
called_by x new after a v r = called (stored_by x new v) (reader_by x after r) (answered x a)

abbrev pub acted_by : {K : Type 0} → Result (Unit {0}) Refusal → Acted K → Stored K → Reader
    → Called K (Result Event Refusal)
acted_by x a v r = called_by x a.stored a.reader a.event v r

-- what comes of what is pending
abbrev pub acted : {K : Type 0} → PendingAct → Stored K → Reader → Called K (Result Event Refusal)
acted d v r = acted_by (answer d v r) (act d v r) v r

-- ---- the place of the input that is reported

-- A string's text is charged before its first element is taken. Where that element begins with a `\`, what stands after the `\`
-- tells so: this byte was read, and counts with its element. One that a level gave is no byte of the input: there is a level
-- only after a splice, and none was made since the last byte.
abbrev pub uncounted_by : PendingAct → Escape → ℕ → ℕ
uncounted_by pending_acts.Begin escapes.Begun burst = if burst == 0 then 1 else 0
uncounted_by d e burst = 0

abbrev pub uncounted : Reader → ℕ
uncounted r = uncounted_by r.half.reading.pending_act r.half.reading.escape r.burst

-- where a limit is reported, so many bytes having been read
abbrev pub place_reported : ℕ → Reader → ℕ
place_reported taken r = taken - uncounted r

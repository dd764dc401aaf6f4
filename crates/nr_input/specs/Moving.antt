-- The machine that reads: one small move after the other.
use Rattle.std.specs.Prelude.{◌≡◌, ℕ, ◌==◌, Bool, true, false, if◌then◌else◌, Option, Result, Ok, Err}
use Rattle.nr_units.specs.Source.{Supply}
use Rattle.nr_store.specs.Store.{Stored, shown, left}
use Rattle.nr_store.specs.declared.request.Request.TheVariants as requests
use Rattle.nr_store.specs.declared.shown.Shown.{Shown}
use Rattle.nr_store.specs.declared.shown.Shown.TheVariants as shows
use Rattle.nr_reading.specs.declared.event.Event.{Event}
use Rattle.nr_reading.specs.Half.{TakenIn, take_in, nothing_half}
use Rattle.nr_input.specs.declared.reader.Reader.{Reader}
use Rattle.nr_input.specs.declared.refusal.Refusal.{Refusal}
use Rattle.nr_input.specs.declared.emitted.Emitted.{Emitted}
use Rattle.nr_input.specs.declared.emitted.Emitted.TheVariants as tells
use Rattle.nr_input.specs.Acting.{Acted, act, is_look}
use Rattle.nr_input.specs.Refusal.{answer, stored_by, reader_by}
use Rattle.nr_input.specs.Place.{Coming, Reached, HoldsComing, next_item, afterwards, MayLook, RefusesLook}

-- nothing was read, under a limit of so many splices
abbrev pub nothing_read : ℕ → Reader
nothing_read most = record { half = nothing_half; request = requests.Br; burst = 0; most = most }

-- what is stored, what is to come, and what is half read
pub record Situation (K : Type 0) : Type 0 where
  pub stored : Stored K
  pub coming : Coming
  pub reader : Reader

abbrev pub situation : {K : Type 0} → Stored K → Coming → Reader → Situation K
situation stored coming reader = record { stored = stored; coming = coming; reader = reader }

-- where a move leads, and what it tells
pub record Move (K : Type 0) : Type 0 where
  pub situation : Situation K
  pub emitted : Emitted K

-- ---- an item

-- After a byte of the input nothing was spliced. The newline that is added is no byte of it.
abbrev pub burst_past : ℕ → ℕ → ℕ → ℕ
burst_past before taken burst = if taken == before then burst else 0

abbrev pub burst_after : Coming → Coming → ℕ → ℕ
burst_after before after burst = burst_past before.taken after.taken burst

-- what is emitted: a resume mark that is taken resumes what was under way
abbrev pub emitted_of : {K : Type 0} → Shown K → Event → Emitted K
emitted_of (shows.Resume k) e = tells.Resume k
emitted_of s e = tells.Event e

-- the next item has come to what is half read, and is taken
abbrev pub taken_at : {K : Type 0} → TakenIn → Situation K → Move K
taken_at m s = record {
  situation = situation (left s.stored.levels s.stored) (afterwards (shown s.stored.levels) s.coming)
      (record s.reader {
        half = m.half;
        burst = burst_after s.coming (afterwards (shown s.stored.levels) s.coming)
            s.reader.burst;
      });
  emitted = emitted_of (shown s.stored.levels) m.event;
}

-- it stays
abbrev pub stays_at : {K : Type 0} → TakenIn → Situation K → Move K
stays_at m s =
    record { situation = record s { reader = record s.reader { half = m.half } }; emitted = tells.Event m.event }

abbrev pub taken_in_at : {K : Type 0} → TakenIn → Situation K → Move K
taken_in_at m s = if m.takes then taken_at m s else stays_at m s

abbrev pub look : {K : Type 0} → Situation K → Move K
look s = taken_in_at (take_in (next_item (shown s.stored.levels) s.coming) s.reader.half) s

-- ---- what is pending

abbrev pub acting : {K : Type 0} → Situation K → Acted K
acting s = act s.reader.half.reading.pending_act s.stored s.reader

-- it is done
abbrev pub acted_at : {K : Type 0} → Situation K → Move K
acted_at s =
    record {
      situation = situation (acting s).stored s.coming (acting s).reader;
      emitted = tells.Event (acting s).event;
    }

-- ---- a move

abbrev pub looks : {K : Type 0} → Situation K → Bool
looks s = is_look s.reader.half.reading.pending_act

-- one move, whatever limits it passes
abbrev pub move : {K : Type 0} → Situation K → Move K
move s = if looks s then look s else acted_at s

-- ---- which moves are made

-- whether what is pending is done, or why not
abbrev pub answer_at : {K : Type 0} → Situation K → Result (Unit {0}) Refusal
answer_at s = answer s.reader.half.reading.pending_act s.stored s.reader

abbrev pub GoesBy : {K : Type 0} → Bool → Situation K → Type 0
GoesBy true s = MayLook (shown s.stored.levels) s.coming
GoesBy false s = answer_at s ≡ Ok tt

abbrev pub Goes : {K : Type 0} → Situation K → Type 0
Goes s = GoesBy (looks s) s

abbrev pub RefusesBy : {K : Type 0} → Bool → Situation K → Refusal → Type 0
RefusesBy true s r = RefusesLook (shown s.stored.levels) s.coming r
RefusesBy false s r = answer_at s ≡ Err r

abbrev pub Refuses : {K : Type 0} → Situation K → Refusal → Type 0
Refuses s r = RefusesBy (looks s) s r

-- where it stays once a move was refused so: the same is refused from then on
abbrev pub stuck : {K : Type 0} → Refusal → Situation K → Situation K
stuck r s =
    situation (stored_by (Err r) (acting s).stored s.stored) s.coming
    (reader_by (Err r) (acting s).reader s.reader)

-- the program stands where the machine does
pub record Stands {K : Type 0} (s : Situation K) (v : Stored K) (r : Reader) (p : Reached)
    (supply : Option Supply) : Type 0 where
  pub stored : v ≡ s.stored
  pub reader : r ≡ s.reader
  pub coming : HoldsComing s.coming p supply

-- a move was made, or why not
abbrev pub AfterMove : {K : Type 0} → Situation K → Result (Emitted K) Refusal → Stored K → Reader → Reached
    → Option Supply → Type 0
AfterMove s (Ok t) v r p supply = (t ≡ (move s).emitted) × Stands (move s).situation v r p supply × Goes s
AfterMove s (Err e) v r p supply = Refuses s e × Stands (stuck e s) v r p supply

-- A move that reads is made only where the splices stay within their limit.
use Rattle.std.proofs.Common.{◌≡◌, ℕ, ◌≤◌, Bool, true, false, if◌then◌else◌, Ok, refl, arith}
use Rattle.nr_store.specs.Store.{Stored}
use Rattle.nr_reading.specs.Half.{TakenIn}
use Rattle.nr_reading.specs.declared.ask.Sign.TheVariants as signs
use Rattle.nr_reading.specs.declared.mode.PendingAct.{PendingAct}
use Rattle.nr_reading.specs.declared.mode.PendingAct.TheVariants as pending_acts
use Rattle.nr_input.specs.declared.reader.Reader.{Reader}
use Rattle.nr_input.specs.Acting.{act, expanded, idle, has_text, name_in}
use Rattle.nr_input.specs.Refusal.{answer, splicing_answer}
use Rattle.nr_input.specs.Moving.{Situation, taken_in_at, look, move, acted_at, looks, Goes, GoesBy}
use Rattle.nr_input.proofs.Spending.{splicing-fits}

-- the splices stay within their limit
abbrev pub IsShort : Reader → Type 0
IsShort r = r.burst ≤ r.most

-- a splice that is allowed keeps them so
splice-short : {K : Type 0} (is_text : Bool) (new : Stored K) (r : Reader) → IsShort r → splicing_answer is_text new r ≡ Ok tt → IsShort (if is_text then expanded r else idle r)
splice-short true new r h ok = let few = (splicing-fits new r ok).burst in omega (arith, few)
splice-short false new r h ok = h

-- so does all that is pending, where it is done
act-short : {K : Type 0} (d : PendingAct) (v : Stored K) (r : Reader) → IsShort r → answer d v r ≡ Ok tt → IsShort (act d v r).reader
act-short pending_acts.CallEnding v r h ok = splice-short (has_text r.half.notes.defining.ending v) (act pending_acts.CallEnding v r).stored r h ok
act-short pending_acts.Splice v r h ok = splice-short (has_text r.half.notes.asked v) (act pending_acts.Splice v r).stored r h ok
act-short (pending_acts.Register signs.None) v r h ok = splice-short true (act (pending_acts.Register signs.None) v r).stored r h ok
act-short (pending_acts.Register signs.Plus) v r h ok = h
act-short (pending_acts.Register signs.Minus) v r h ok = h
act-short (pending_acts.Argument n) v r h ok = splice-short true (act (pending_acts.Argument n) v r).stored r h ok
act-short pending_acts.Call v r h ok = splice-short (has_text (name_in r) v) (act pending_acts.Call v r).stored r h ok
act-short d v r h ok = h

past-short : (b : Bool) (burst most : ℕ) → burst ≤ most → (if b then burst else 0) ≤ most
past-short true burst most h = h
past-short false burst most h = omega arith

taken_in-short : {K : Type 0} (b : Bool) (m : TakenIn) (s : Situation K) → m.takes ≡ b → IsShort s.reader → IsShort (taken_in_at m s).situation.reader
taken_in-short true m s e h = rw e (past-short _ s.reader.burst s.reader.most h)
taken_in-short false m s e h = rw e h

look-short : {K : Type 0} (s : Situation K) → IsShort s.reader → IsShort (look s).situation.reader
look-short s h = taken_in-short _ _ s refl h

move_by : {K : Type 0} (b : Bool) (s : Situation K) → looks s ≡ b → GoesBy b s → IsShort s.reader → IsShort (if b then look s else acted_at s).situation.reader
move_by true s e goes h = look-short s h
move_by false s e goes h = act-short s.reader.half.reading.pending_act s.stored s.reader h goes

pub move-short : {K : Type 0} (s : Situation K) → Goes s → IsShort s.reader → IsShort (move s).situation.reader
move-short s goes h = move_by (looks s) s refl goes h

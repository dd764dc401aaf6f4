-- What is pending while blanks wait leaves them waiting, or there are none.
use Rattle.std.specs.Prelude.{nat_lt, slice_get}
use Rattle.std.proofs.Common.{◌≡◌, ℕ, ◌+◌, ◌≤◌, Bool, true, false, if◌then◌else◌, Option, None, Some, refl, arith}
use Rattle.nr_store.specs.Store.{Stored}
use Rattle.nr_reading.specs.declared.ask.Sign.TheVariants as signs
use Rattle.nr_reading.specs.declared.event.Event.TheVariants as events
use Rattle.nr_reading.specs.declared.half.Half.{Half}
use Rattle.nr_reading.specs.declared.mode.Calls.{Calls}
use Rattle.nr_reading.specs.declared.mode.Calls.TheVariants as calls
use Rattle.nr_reading.specs.declared.mode.PendingAct.{PendingAct}
use Rattle.nr_reading.specs.declared.mode.PendingAct.TheVariants as pending_acts
use Rattle.nr_reading.specs.declared.mode.Mode.TheVariants as modes
use Rattle.nr_reading.specs.Conditionals.{part_mode, answer_of, else_mode}
use Rattle.nr_reading.specs.Seeking.{sought, sought_event}
use Rattle.nr_reading.specs.Spelled.{is_empty}
use Rattle.nr_reading.specs.Weights.{blanks_of_mode, blanks_of_pending, is_lead}
use Rattle.nr_input.specs.Acting.{act, after_held, has_text, next, idle, expanded, name_in, meaning_in, calls_of}
use Rattle.nr_input.specs.declared.reader.Reader.{Reader}
use Rattle.nr_laws.proofs.BlanksReads.{After, Wait, Few}

held-none : (held n : ℕ) (b : Option ℕ) → blanks_of_pending (after_held held n b) ≡ 0
held-none held n (Some b) = by (nat_lt (n + 1) held)
  where
    by : (c : Bool) → blanks_of_pending (if c then pending_acts.Release held (n + 1) (Some b) else pending_acts.Add b) ≡ 0
    by true = refl
    by false = refl
held-none held n None = by (nat_lt (n + 1) held)
  where
    by : (c : Bool) → blanks_of_pending (if c then pending_acts.Release held (n + 1) None else pending_acts.Look) ≡ 0
    by true = refl
    by false = refl

ending-none : (c : Bool) → blanks_of_pending (if c then pending_acts.Look else pending_acts.CallEnding) ≡ 0
ending-none true = refl
ending-none false = refl

part-none : (c : Bool) → blanks_of_mode (part_mode c) ≡ 0
part-none true = refl
part-none false = refl

else-none : (o : Option Bool) → blanks_of_mode (else_mode o) ≡ 0
else-none None = refl
else-none (Some true) = refl
else-none (Some false) = refl

sought-few : (c : Calls) (h : Half) → blanks_of_mode (sought c (next pending_acts.Look h)).reading.mode + blanks_of_pending (sought c (next pending_acts.Look h)).reading.pending_act ≤ 1
sought-few calls.Nothing h = omega arith
sought-few calls.Macro h = omega arith
sought-few calls.Request h = omega arith
sought-few calls.NewString h = omega arith
sought-few calls.MoreString h = omega arith
sought-few calls.If h = omega arith
sought-few calls.IfElse h = omega arith
sought-few calls.Else h = omega (arith, else-none (slice_get h.notes.answers 0))
sought-few calls.Title h = omega arith

module _ {K : Type 0} (n : ℕ) (v : Stored K) (r : Reader) (mode : r.half.reading.mode ≡ modes.Leading n) (none : blanks_of_pending r.half.reading.pending_act ≡ 0) where
  splices : (c : Bool) → After events.Nothing (if c then expanded r else idle r).half.reading
  splices true = Wait n mode refl tt
  splices false = Wait n mode refl tt

  pub act-after : (d : PendingAct) → blanks_of_pending d ≡ 0 → After (act d v r).event (act d v r).reader.half.reading
  act-after pending_acts.Look is = Wait n mode none tt
  act-after pending_acts.Expanded is = Wait n mode none tt
  act-after pending_acts.Begin is = Wait n mode refl tt
  act-after (pending_acts.Add b) is = Wait n mode refl tt
  act-after (pending_acts.Release held k b) is = Wait n mode (held-none held k b) tt
  act-after pending_acts.Define is = Wait n mode refl tt
  act-after pending_acts.DefineAndCall is = Wait n mode (ending-none (is_empty r.half.notes.defining.ending)) tt
  act-after pending_acts.CallEnding is = splices (has_text r.half.notes.defining.ending v)
  act-after pending_acts.Splice is = splices (has_text r.half.notes.asked v)
  act-after (pending_acts.Register signs.None) is = Wait n mode refl tt
  act-after (pending_acts.Register signs.Plus) is = Wait n mode refl tt
  act-after (pending_acts.Register signs.Minus) is = Wait n mode refl tt
  act-after (pending_acts.Argument k) is = Wait n mode refl tt
  act-after (pending_acts.Put b) is = Wait n mode refl tt
  act-after pending_acts.EndArgument is = Wait n mode refl tt
  act-after pending_acts.Call is = splices (has_text (name_in r) v)
  act-after pending_acts.Seek is = Few (sought-few (calls_of (meaning_in v r)) r.half)
  act-after (pending_acts.Judge b) is = Few (omega (arith, part-none (answer_of b r.half.notes)))
  act-after (pending_acts.Lead k) is = absurd (omega (arith, is))

  pub act-silent : (d : PendingAct) → blanks_of_pending d ≡ 0 → is_lead (act d v r).event ≡ false
  act-silent pending_acts.Seek is = by (calls_of (meaning_in v r))
    where
      by : (c : Calls) → is_lead (sought_event c) ≡ false
      by calls.Title = refl
      by c = refl
  act-silent (pending_acts.Register signs.None) is = refl
  act-silent (pending_acts.Register signs.Plus) is = refl
  act-silent (pending_acts.Register signs.Minus) is = refl
  act-silent (pending_acts.Lead k) is = absurd (omega (arith, is))
  act-silent d is = refl

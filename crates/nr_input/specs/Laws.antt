-- What is half read weighs no more than this, whatever it is; and all bytes count where the source fails.
use Rattle.std.specs.Prelude.{◌≡◌, ℕ, ◌+◌, ◌*◌, ◌≤◌, List, [], ◌∷◌, length, sum_by, Result, Ok, Err}
use Rattle.std.proofs.Common.{refl, sym, ap, ◌∙◌, subst, arith}
use Rattle.std.proofs.lemmas.List.Sums.{sum_by-cons}
use Rattle.nr_reading.specs.declared.ask.Ask.{Ask}
use Rattle.nr_reading.specs.declared.ask.Sign.TheVariants as signs
use Rattle.nr_reading.specs.declared.ask.Stage.{Stage}
use Rattle.nr_reading.specs.declared.ask.Stage.TheVariants as stages
use Rattle.nr_reading.specs.declared.half.Half.{Half}
use Rattle.nr_reading.specs.declared.mode.PendingAct.{PendingAct}
use Rattle.nr_reading.specs.declared.mode.PendingAct.TheVariants as pending_acts
use Rattle.nr_reading.specs.declared.mode.Escape.{Escape}
use Rattle.nr_reading.specs.declared.mode.Escape.TheVariants as escapes
use Rattle.nr_reading.specs.declared.mode.Mode.{Mode}
use Rattle.nr_reading.specs.declared.mode.Mode.TheVariants as modes
use Rattle.nr_store.specs.Store.{afforded}
use Rattle.nr_store.specs.declared.refusal.StoredBytes.{StoredBytes}
use Rattle.nr_input.specs.declared.refusal.Refusal.TheVariants as refusals
use Rattle.nr_input.specs.Acting.{base_of, is_look}
use Rattle.nr_input.specs.Moving.{Situation, RefusesBy, Refuses}
use Rattle.nr_input.specs.Refusal.{answer, storing_by, uncounted_by, place_reported}
use Rattle.nr_reading.specs.Weights.{backslash_elsewhere, weight_of_argument, weight_by, weight_of_escape, weight_of_backslash, weight_of_mode, weight_of_pending_act, held_by_mode, weight_of_stage, weight_of_ask, weight_of_half}

-- how many bytes of a definition's line are held back, or are still to be added
abbrev pub held_by_pending : PendingAct → ℕ
held_by_pending (pending_acts.Release held n b) = held
held_by_pending d = 0

abbrev pub held_back : Half → ℕ
held_back h = held_by_mode h.reading.mode + held_by_pending h.reading.pending_act

pub weight_of_mode-le : (m : Mode) → weight_of_mode m ≤ weight_of_mode modes.Control + held_by_mode m
weight_of_mode-le (modes.BodyStart held) = omega arith
weight_of_mode-le m = omega arith

pub weight_of_backslash-le : (m : Mode) → weight_of_backslash m ≤ backslash_elsewhere
weight_of_backslash-le modes.Text = omega arith
weight_of_backslash-le modes.Interrupted = omega arith
weight_of_backslash-le modes.Continued = omega arith
weight_of_backslash-le (modes.Leading n) = omega arith
weight_of_backslash-le modes.TitleBefore = omega arith
weight_of_backslash-le (modes.Title d n) = omega arith
weight_of_backslash-le modes.Diverted = omega arith
weight_of_backslash-le m = omega arith

weight_of_escape-le : (w : ℕ) (e : Escape) → weight_of_escape w e ≤ w
weight_of_escape-le w escapes.Plain = omega arith
weight_of_escape-le w escapes.Begun = omega arith
weight_of_escape-le w escapes.Comment = omega arith

weight_of_pending_act-le : (d : PendingAct) → weight_of_pending_act d ≤ 2 + held_by_pending d
weight_of_pending_act-le (pending_acts.Register signs.None) = omega arith
weight_of_pending_act-le (pending_acts.Register signs.Plus) = omega arith
weight_of_pending_act-le (pending_acts.Register signs.Minus) = omega arith
weight_of_pending_act-le d = omega arith

-- what is half read outside of arguments, bytes that are held back aside: a mode, what is pending, and a `\` that is begun
abbrev pub most_of_reading : ℕ
most_of_reading = weight_of_mode modes.Control + 2 + backslash_elsewhere

weight_by-le : (d : PendingAct) (m : Mode) (e : Escape)
    → weight_by d m e ≤ most_of_reading + held_by_mode m + held_by_pending d
weight_by-le pending_acts.Seek m e = omega (arith, weight_of_escape-le backslash_elsewhere e)
weight_by-le (pending_acts.Judge b) m e = omega (arith, weight_of_escape-le backslash_elsewhere e)
weight_by-le d m e =
    omega (
      arith,
      weight_of_pending_act-le d,
      weight_of_mode-le m,
      weight_of_backslash-le m,
      weight_of_escape-le (weight_of_backslash m) e,
    )

weight_of_stage-le : (s : Stage) → weight_of_stage s ≤ weight_of_argument
weight_of_stage-le stages.Sign = omega arith
weight_of_stage-le s = omega arith

weight_of_asks-le : (asks : List Ask) → sum_by weight_of_ask asks ≤ weight_of_argument * length asks
weight_of_asks-le [] = omega arith
weight_of_asks-le (a ∷ asks) =
    omega (arith, sum_by-cons weight_of_ask a asks, weight_of_stage-le a.stage, weight_of_asks-le asks)

pub weight_of_half-le : (h : Half)
    → weight_of_half h ≤ most_of_reading + weight_of_argument * length h.asks + held_back h
weight_of_half-le h =
    omega (arith, weight_by-le h.reading.pending_act h.reading.mode h.reading.escape, weight_of_asks-le h.asks)

-- ---- the place that is reported

-- a text that can't be stored is no read fault
storing_reported : (x : Result (Unit {0}) StoredBytes) → storing_by x ≡ Err refusals.ReadFault → ⊥
storing_reported (Ok x) is = cc
storing_reported (Err e) is = cc

nothing_uncounted : {K : Type 0} (d : PendingAct) (e : Escape) (burst : ℕ) (s : Situation K)
    → s.reader.half.reading.pending_act ≡ d → Refuses s refusals.ReadFault → uncounted_by d e burst ≡ 0
nothing_uncounted pending_acts.Begin e burst s is h =
    let refused = subst (λ d. RefusesBy (is_look d) s refusals.ReadFault) is h in
    let answered = sym (ap (λ d. answer d s.stored s.reader) is) ∙ refused in
    absurd (storing_reported (afforded (base_of s.reader s.stored) tt) answered)
nothing_uncounted d e burst s is h = refl

-- where the source fails, all bytes that were there count
pub all_counted : {K : Type 0} (s : Situation K) → Refuses s refusals.ReadFault
    → place_reported s.coming.taken s.reader ≡ s.coming.taken
all_counted s h =
    let none =
    nothing_uncounted s.reader.half.reading.pending_act s.reader.half.reading.escape s.reader.burst
    s refl h in
    omega (arith, none)

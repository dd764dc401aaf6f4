use Rattle.std.proofs.Common.{◌≡◌, ◌+◌, Bool, true, false, refl, sym, ap, ap₂, ◌∙◌, subst, arith}
use Rattle.std.specs.Prelude.{Option, Result, Ok}
use Rattle.nr_units.specs.Source.{Supply}
use Rattle.nr_store.specs.Store.{Stored, stepped}
use Rattle.nr_reading.specs.declared.ask.Sign.TheVariants as signs
use Rattle.nr_reading.specs.declared.event.Event.{Event}
use Rattle.nr_reading.specs.declared.event.Event.TheVariants as events
use Rattle.nr_reading.specs.declared.mode.PendingAct.{PendingAct}
use Rattle.nr_reading.specs.declared.mode.PendingAct.TheVariants as pending_acts
use Rattle.nr_input.specs.declared.reader.Reader.{Reader}
use Rattle.nr_input.specs.declared.refusal.Refusal.{Refusal}
use Rattle.nr_input.specs.Acting.{is_look, then_pending}
use Rattle.nr_input.specs.Place.{Coming, Reached, HoldsComing}
use Rattle.fast_input.specs.Interpolations.{stepping}
use Rattle.nr_input.specs.Moving.{situation}
use Rattle.nr_input.specs.Refusal.{Called, called, acted}
use Rattle.fast_input.specs.Runs.{HasRead, PaysMany}
use Rattle.fast_input.proofs.ControlLines.{done_read}
use Rattle.fast_input.proofs.LevelParts.{many_of_one, many_then, read_on}
use Rattle.nr_input.proofs.Spending.{act_pays}
use Rattle.nr_input.proofs.Staying.{act_begins_none}
use Rattle.fast_input.proofs.interpolations.read_stepped.Goals as goal

-- a step is what such a sign has pending
steps : {K : Type 0} (up : Bool) (v : Stored K) (r : Reader) → called (stepped r.half.notes.asked up v) (then_pending (pending_acts.Register signs.None) r) (Ok events.Nothing) ≡ acted (pending_acts.Register (stepping up)) v r
steps true v r = refl
steps false v r = refl

waits_so : (up : Bool) → is_look (pending_acts.Register (stepping up)) ≡ false
waits_so true = refl
waits_so false = refl

module _ {K : Type 0} (up : Bool) (v w : Stored K) (r s : Reader) (x : Result Event Refusal) (pending_act : r.half.reading.pending_act ≡ pending_acts.Register (stepping up))
    (is : called w s x ≡ called (stepped r.half.notes.asked up v) (then_pending (pending_acts.Register signs.None) r) (Ok events.Nothing)) where
  acts : called w s (Ok events.Nothing) ≡ acted r.half.reading.pending_act v r
  acts =
      ap₂ (λ (y : Stored K) (z : Reader). called y z (Ok events.Nothing)) (ap (λ (a : Called K (Result Event Refusal)). a.stored) is) (ap (λ (a : Called K (Result Event Refusal)). a.reader) is)
      ∙ steps up v r
      ∙ ap (λ (d : PendingAct). acted d v r) (sym pending_act)

  waits : is_look r.half.reading.pending_act ≡ false
  waits = ap is_look pending_act ∙ waits_so up

  pub step_read : (c : Coming) (p : Reached) (supply : Option Supply) → HoldsComing c p supply → HasRead 1 (situation v c r) events.Nothing w s p supply
  step_read c p supply holds = done_read v w c r s events.Nothing waits acts p supply holds

  pub step_paid : (p : Reached) → PaysMany 1 v p r events.Nothing w p s
  step_paid p =
      many_of_one v w p p r s events.Nothing refl (act_begins_none v w r s (Ok events.Nothing) acts)
      (act_pays v w p r s events.Nothing (λ look. let wrong : true ≡ false = sym (ap is_look look) ∙ waits in cc) acts)

pub returns-clause-read : goal.returns-clause-read
returns-clause-read g c = λ k p supply holds.
    let spliced = c.read_register-spliced.result in
    let v = c.args.store.now in
    let r = c.args.reader.now in
    let w = c.step.new.store in
    let s = c.step.new.self in
    let count : 1 + spliced.moves ≡ spliced.moves + 1 = omega arith in
    subst (λ n. HasRead n (situation v k r) spliced.event c.read_register-spliced.new.store c.read_register-spliced.new.reader p supply) count
    (read_on 1 spliced.moves v w c.read_register-spliced.new.store r s c.read_register-spliced.new.reader k p supply spliced.event
    (step_read c.args.up v w r s c.step.result c.requires.pending_act c.step.ensures k p supply holds)
    (λ d there. c.read_register-spliced.ensures.read d p supply there))

pub returns-clause-pays : goal.returns-clause-pays
returns-clause-pays g c = λ p.
    let spliced = c.read_register-spliced.result in
    let v = c.args.store.now in
    let r = c.args.reader.now in
    let w = c.step.new.store in
    let s = c.step.new.self in
    let count : 1 + spliced.moves ≡ spliced.moves + 1 = omega arith in
    subst (λ n. PaysMany n v p r spliced.event c.read_register-spliced.new.store p c.read_register-spliced.new.reader) count
    (many_then spliced.moves 1 v w c.read_register-spliced.new.store p p p r s c.read_register-spliced.new.reader spliced.event
    (step_paid c.args.up v w r s c.step.result c.requires.pending_act c.step.ensures p)
    (c.read_register-spliced.ensures.pays p))

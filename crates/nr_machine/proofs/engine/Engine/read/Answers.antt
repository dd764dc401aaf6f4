use Rattle.std.proofs.Common.{◌≡◌, ◌≤◌, [], refl, sym, ap, ◌∙◌, subst}
use Rattle.nr_reading.specs.declared.event.Event.TheVariants as events
use Rattle.nr_store.specs.Store.{Stored}
use Rattle.nr_input.specs.Moving.{move}
use Rattle.nr_input.specs.Emitted.{emitted_as}
use Rattle.nr_input.specs.Weights.{Pays, diversions_in}
use Rattle.nr_input.specs.declared.reader.Reader.{Reader}
use Rattle.nr_formatter.specs.declared.tasks.Task.TheVariants as tasks
use Rattle.nr_formatter.specs.Limits as formatter
use Rattle.nr_formatter.specs.Weights.{Falls}
use Rattle.nr_formatter.specs.declared.formatter.Formatter.{Formatter}
use Rattle.nr_formatter.specs.declared.tasks.Resume.{Resume}
use Rattle.nr_input.specs.declared.emitted.Emitted.{Emitted}
use Rattle.nr_input.specs.declared.emitted.Emitted.TheVariants as tells
use Rattle.nr_formatter.proofs.LimitsStay.{input-limits}
use Rattle.nr_machine.specs.State.{State}
use Rattle.nr_machine.specs.Machine.{read, situation_of, emitted}
use Rattle.nr_machine.specs.Measures.{IsWithin}
use Rattle.nr_machine.specs.Run.{GoesBy}
use Rattle.nr_input.specs.Refusal.{place_reported}
use Rattle.nr_machine.specs.Holding.{Shape, shape, at, Holds, Spends}
use Rattle.nr_machine.proofs.Bursts.{move-short}
use Rattle.nr_machine.proofs.LimitsStay.{formatter-limits}
use Rattle.nr_machine.proofs.NextMoves.{step-read, kind-read}
use Rattle.nr_machine.proofs.Spending.{emitted_spends, resumed_spends}
use Rattle.nr_machine.proofs.Standing.{wrote_nothing}
use Rattle.nr_machine.proofs.Working.{holds_of, refused_stops, refused_left}
use Rattle.nr_machine.proofs.engine.Engine.read.Goals as goal

-- what is emitted leaves the splices as they were
emitted-burst : (t : Emitted Resume) (f : Formatter) → f.reader.burst ≤ f.reader.most → (emitted t f).reader.burst ≤ (emitted t f).reader.most
emitted-burst (tells.Event e) f h = h
emitted-burst (tells.Resume k) f h = h

-- a move that reads is paid
emitted_read : (e f : Shape) (t : Emitted Resume) (v : Stored Resume) (r : Reader) → e.formatter.event ≡ events.Nothing → e.formatter.task ≡ tasks.Read
    → Pays e.formatter.store e.place e.formatter.reader t v f.place r → diversions_in v.building ≤ diversions_in e.formatter.store.building
    → f.formatter ≡ emitted t (record e.formatter { store = v; reader = r })
    → ((k : Resume) → t ≡ tells.Resume k → Falls 0 510 (record e.formatter { store = v; reader = r }) f.formatter) → Spends e f
emitted_read e f (tells.Event x) v r idle task pays fewer is falls = record {
  limit = ap (λ x. x.store.limit) is ∙ pays.limit;
  most = ap (λ x. x.reader.most) is ∙ pays.most;
  spends = rw is (emitted_spends e.place f.place e.formatter v r x idle task pays fewer);
}
emitted_read e f (tells.Resume k) v r idle task pays fewer is falls = record {
  limit = (falls k refl).limit ∙ pays.limit;
  most = (falls k refl).most ∙ pays.most;
  spends = resumed_spends e.place f.place e.formatter f.formatter v r k idle task pays fewer (falls k refl);
}

pub returns-in-Ok-clause-moves : goal.returns-in-Ok-clause-moves
returns-in-Ok-clause-moves g c = λ held. record {
  advances = λ s h.
      let before : Shape = shape c.args.self.now in
      let now : State = at before s in
      let after : Shape = shape c.tell.new.self in
      let m = c.in-Ok.ensures.moved s.coming h.coming in
      let is = step-read now h.chosen_is c.requires.springs c.requires.event c.requires.task in
      let kinds = kind-read now h.chosen_is c.requires.springs c.requires.event c.requires.task in
      let formatter_is : after.formatter ≡ (read now).formatter = ap (λ e. e.formatter) c.tell.ensures.is ∙ rw (m.0, m.1.stored, m.1.reader) refl in
      let short = emitted-burst (move (situation_of now)).emitted (record before.formatter { store = (move (situation_of now)).situation.stored; reader = (move (situation_of now)).situation.reader })
      (move-short (situation_of now) m.2 h.within.formatter.burst) in
      let fits : formatter.FitsMemory (read now).formatter = subst (λ f. formatter.FitsMemory f) formatter_is c.fit_memory.ensures in
      let within : IsWithin (read now) = record {
        formatter = record { stored = fits.stored; depth = fits.depth; line = fits.line; burst = short };
        page = h.within.page;
      }
      in
      let holds : Holds [] _ (read now) after = holds_of _ (read now) after formatter_is h.chosen_is
      (rw (ap (λ e. e.place) c.tell.ensures.is) m.1.coming) (rw (ap (λ e. e.row) c.tell.ensures.is) h.row) (rw (ap (λ e. e.page) c.tell.ensures.is) h.page)
      (ap (λ e. e.page.limit) c.tell.ensures.is ∙ h.page_limit) (ap (λ e. e.select) c.tell.ensures.is ∙ h.select) (ap (λ e. e.faces) c.tell.ensures.is ∙ h.faces) within
      in
      record {
        goes = subst (λ k. GoesBy k now) (sym kinds) m.2;
        holds = rw is holds;
        wrote = rw is (wrote_nothing now (read now) held refl);
      };
  spends =
      let after : Shape = shape c.tell.new.self in
      emitted_read (shape c.args.self.now) after (emitted_as c.advance.new.mode c.in-Ok.heard) c.advance.new.store c.advance.new.reader c.requires.event c.requires.task
      (rw (ap (λ e. e.place) c.tell.ensures.is) c.in-Ok.ensures.pays) c.in-Ok.ensures.diversions (ap (λ e. e.formatter) c.tell.ensures.is)
      (λ k is. c.tell.ensures.falls k is c.requires.event c.requires.task);
}

pub returns-in-Err-clause-moves : goal.returns-in-Err-clause-moves
returns-in-Err-clause-moves g c = λ held. record {
  advances = λ s h.
      let now : State = at (shape c.args.self.now) s in
      let kinds = kind-read now h.chosen_is c.requires.springs c.requires.event c.requires.task in
      let m = c.in-Err.ensures.moved s.coming h.coming in
      let emitted = ap (λ n. place_reported n c.args.self.now.formatter.reader) h.coming.taken in
      (refused_stops now kinds _ emitted c.in-Err.refusal m.0, refused_left now _ held c.in-Err.refusal);
  spends = tt;
}

pub returns-in-Ok-clause-limits : goal.returns-in-Ok-clause-limits
returns-in-Ok-clause-limits g c =
    let e : Shape = shape c.args.self.now in
    let f : Formatter = record e.formatter { store = c.advance.new.store; reader = c.advance.new.reader } in
    c.tell.ensures.limits ∙ formatter-limits e f (input-limits e.formatter c.advance.new.store c.advance.new.reader c.advance.ensures.limits)

pub returns-in-Err-clause-limits : goal.returns-in-Err-clause-limits
returns-in-Err-clause-limits g c =
    let e : Shape = shape c.args.self.now in
    let f : Formatter = record e.formatter { store = c.advance.new.store; reader = c.advance.new.reader } in
    formatter-limits e f (input-limits e.formatter c.advance.new.store c.advance.new.reader c.advance.ensures.limits)

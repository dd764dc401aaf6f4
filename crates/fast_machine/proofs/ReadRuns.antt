-- Many moves that read, of which only the last may tell something.
use Rattle.std.proofs.Common.{◌≡◌, ℕ, zero, suc, ◌<◌, ◌≤◌, [], Option, refl, sym, ap, ◌∙◌, subst, arith}
use Rattle.nr_units.specs.Source.{Supply}
use Rattle.nr_store.specs.Store.{Stored}
use Rattle.nr_reading.specs.declared.event.Event.{Event}
use Rattle.nr_reading.specs.declared.event.Event.TheVariants as events
use Rattle.nr_input.specs.declared.reader.Reader.{Reader}
use Rattle.nr_input.specs.declared.emitted.Emitted.{Emitted}
use Rattle.nr_input.specs.declared.emitted.Emitted.TheVariants as tells
use Rattle.nr_input.specs.Place.{Reached, HoldsComing}
use Rattle.nr_input.specs.Limits as limits
use Rattle.nr_input.specs.Moving.{Situation, Move, situation, move}
use Rattle.nr_input.specs.Moving as input
use Rattle.fast_input.specs.Runs.{HasRead, PaysMany, moves, emitted_last}
use Rattle.nr_formatter.specs.Limits as formatter
use Rattle.nr_formatter.specs.declared.tasks.Resume.{Resume}
use Rattle.nr_formatter.proofs.LimitsStay.{input-limits}
use Rattle.nr_machine.specs.State.{State}
use Rattle.nr_machine.specs.Machine.{step, state_after, read, situation_of, with_situation}
use Rattle.nr_machine.specs.Measures.{IsWithin}
use Rattle.nr_machine.specs.Run.{Goes, GoesBy}
use Rattle.nr_machine.specs.Holding.{Shape, at, Holds, ReadsNext}
use Rattle.fast_machine.specs.Running.{Makes}
use Rattle.nr_machine.proofs.Bursts.{move-short}
use Rattle.nr_machine.proofs.LimitsStay.{formatter-limits}
use Rattle.nr_machine.proofs.NextMoves.{step-read, kind-read}
use Rattle.fast_machine.proofs.Gliding.{Glides}
use Rattle.fast_machine.proofs.Spending.{emitted_all}
use Rattle.nr_machine.proofs.Standing.{wrote_nothing}
use Rattle.nr_machine.proofs.Working.{holds_of}

-- the state with this read, and this emitted
abbrev pub reached : Situation Resume → Event → State → State
reached m e s = record s { coming = m.coming; formatter = record s.formatter { store = m.stored; reader = m.reader; event = e } }

module _ (s : State) (chosen : s.chosen ≡ []) (reads : ReadsNext s.formatter) where
  begins : s ≡ reached (situation_of s) events.Nothing s
  begins = ap (λ e. record s { formatter = record s.formatter { event = e } }) reads.event

  step_is : (m : Situation Resume) → step (reached m events.Nothing s) ≡ with_situation (move m) (reached m events.Nothing s)
  step_is m = step-read (reached m events.Nothing s) chosen reads.springs refl reads.task

  tells_event : (m : Move Resume) (n : Situation Resume) (e : Event) → m.emitted ≡ tells.Event e → with_situation m (reached n events.Nothing s) ≡ reached m.situation e s
  tells_event m n e is = ap (λ (t : Emitted Resume). with_situation (record { situation = m.situation; emitted = t }) (reached n events.Nothing s)) is

  module _ (n : ℕ) (quiet : (k : ℕ) → k < n → emitted_last k (situation_of s) ≡ tells.Event events.Nothing) where
    -- where they emitted nothing the input is read next
    quiet_leads : (k : ℕ) → k < n → state_after k s ≡ reached (moves k (situation_of s)) events.Nothing s
    quiet_leads zero below = begins
    quiet_leads (suc k) below =
        ap step (quiet_leads k (omega (arith, below))) ∙ step_is (moves k (situation_of s))
        ∙ tells_event (move (moves k (situation_of s))) (moves k (situation_of s)) events.Nothing (quiet (suc k) below)

  leads_by : (n : ℕ) (e : Event) → ((k : ℕ) → k < n → emitted_last k (situation_of s) ≡ tells.Event events.Nothing) → emitted_last n (situation_of s) ≡ tells.Event e
      → state_after n s ≡ reached (moves n (situation_of s)) e s
  leads_by zero e quiet emitted =
      let none : events.Nothing ≡ e = cc in
      subst (λ x. s ≡ reached (situation_of s) x s) none begins
  leads_by (suc k) e quiet emitted =
      ap step (quiet_leads (suc k) quiet k (omega arith)) ∙ step_is (moves k (situation_of s)) ∙ tells_event (move (moves k (situation_of s))) (moves k (situation_of s)) e emitted

  goes_by : (n k : ℕ) → k < n → ((j : ℕ) → j < n → emitted_last j (situation_of s) ≡ tells.Event events.Nothing) → input.Goes (moves k (situation_of s)) → Goes (state_after k s)
  goes_by n k below quiet goes =
      let there = reached (moves k (situation_of s)) events.Nothing s in
      let reads_there = kind-read there chosen reads.springs refl reads.task in
      subst Goes (sym (quiet_leads n quiet k below)) (subst (λ (x : _). GoesBy x there) (sym reads_there) goes)

  pub glides_reading : (n : ℕ) (e : Event) (v : Stored Resume) (r : Reader) (p : Reached) (supply : Option Supply) → HasRead n (situation_of s) e v r p supply
      → Glides s n (reached (moves n (situation_of s)) e s)
  glides_reading n e v r p supply read = record {
    runs = λ k below. goes_by n k below read.quiet (read.goes k below);
    leads = leads_by n e read.quiet read.tells;
  }

-- the splices stay within their limit
short_after : (n : ℕ) (m : Situation Resume) → ((k : ℕ) → k < n → input.Goes (moves k m)) → m.reader.burst ≤ m.reader.most → (moves n m).reader.burst ≤ (moves n m).reader.most
short_after zero m goes short = short
short_after (suc n) m goes short = move-short (moves n m) (goes n (omega arith)) (short_after n m (λ k below. goes k (omega (arith, below))) short)

-- the engine with this read, and this emitted
abbrev pub read_shape : Stored Resume → Reader → Event → Reached → Shape → Shape
read_shape v r x p e = record e { formatter = record e.formatter { store = v; reader = r; event = x }; place = p }

pub makes_reading : (n : ℕ) (x : Event) (v : Stored Resume) (r : Reader) (p : Reached) (e : Shape) (supply supply' : Option Supply) → ReadsNext e.formatter
    → ((c : _) → HoldsComing c e.place supply → HasRead n (situation e.formatter.store c e.formatter.reader) x v r p supply')
    → PaysMany n e.formatter.store e.place e.formatter.reader x v p r → limits.limits_of v r ≡ limits.limits_of e.formatter.store e.formatter.reader
    → formatter.FitsMemory (read_shape v r x p e).formatter → Makes n e (read_shape v r x p e) supply supply'
makes_reading n x v r p e supply supply' reads read pays same fits = record {
  makes = λ held s h.
      let now = at e s in
      let there = read s.coming h.coming in
      let glides = glides_reading now h.chosen_is reads n x v r p supply' there in
      let end = reached (moves n (situation_of now)) x now in
      let formatter_is : (read_shape v r x p e).formatter ≡ end.formatter =
      ap (λ (w : Stored Resume). record e.formatter { store = w; reader = r; event = x }) there.stands.stored
      ∙ ap (λ (q : Reader). record e.formatter { store = (moves n (situation_of now)).stored; reader = q; event = x }) there.stands.reader in
      let few : formatter.FitsMemory end.formatter = subst (λ f. formatter.FitsMemory f) formatter_is fits in
      let within : IsWithin end = record {
        formatter = record { stored = few.stored; depth = few.depth; line = few.line; burst = short_after n (situation_of now) there.goes h.within.formatter.burst };
        page = h.within.page;
      }
      in
      let holds : Holds [] supply' end (read_shape v r x p e) =
      holds_of supply' end (read_shape v r x p e) formatter_is h.chosen_is there.stands.coming h.row h.page h.page_limit h.select h.faces within in
      record {
        runs = glides.runs;
        holds = rw glides.leads holds;
        wrote = wrote_nothing now _ held (ap (λ t. t.pages) glides.leads);
      };
  limit = pays.limit;
  most = pays.most;
  limits = formatter-limits e (record e.formatter { store = v; reader = r }) (input-limits e.formatter v r same);
  spends = emitted_all n e.place p e.formatter v r x reads.event reads.task pays;
}

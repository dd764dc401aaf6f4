-- A blank after a word: two moves where the line is full, and else three.
use Prim.Native.Char.{code}
use Rattle.std.proofs.Common.{◌≡◌, ℕ, ◌+◌, ◌<◌, ◌^◌, true, false, List, [], ◌∷◌, length, Option, refl, ap, arith}
use Rattle.std.specs.Prelude.{get_or}
use Rattle.nr_units.specs.Source.{Supply, MayGive}
use Rattle.nr_reading.specs.declared.event.Event.TheVariants as events
use Rattle.fast_input.specs.AtHand.{ComeNext}
use Rattle.nr_input.specs.Place.{Coming, HoldsComing}
use Rattle.nr_input.specs.Weights.{expansions_worth}
use Rattle.nr_formatter.specs.Access.{collected}
use Rattle.nr_formatter.specs.Lines.{fits_line}
use Rattle.nr_formatter.specs.Many.Runs.{IsGap, IsInLine, gapped, gap_put, gap_flows, is_in_line}
use Rattle.nr_formatter.specs.Weights as weights
use Rattle.nr_formatter.specs.Weights.{weight_of_agenda, owed_by_event, owed_by_task}
use Rattle.nr_formatter.specs.declared.formatter.Formatter.{Formatter}
use Rattle.nr_formatter.specs.declared.tasks.After.TheVariants as afters
use Rattle.nr_formatter.specs.declared.tasks.Task.TheVariants as tasks
use Rattle.nr_formatter.proofs.PlainText.{weight-gap, in_line}
use Rattle.nr_machine.specs.State.{State}
use Rattle.nr_machine.specs.Machine.{step}
use Rattle.nr_machine.specs.Measures.{IsWithin}
use Rattle.nr_machine.specs.Run.{Goes}
use Rattle.nr_machine.specs.Holding.{Shape, at, Stands, Holds, Made}
use Rattle.fast_machine.specs.Running.{Makes, Saves, unburst}
use Rattle.fast_machine.proofs.Gliding.{Glides, glides_flows, glides_gap, made_of, emitted, within_flows, within_gap}
use Rattle.fast_machine.proofs.PlainText.{IsTyping, after_byte, after_many, prefix_more, goes_byte, line_after, may_give_one, paid, passed_many, reads_byte, stands_typing}
use Rattle.nr_machine.proofs.Standing.{wrote_nothing}
use Rattle.nr_machine.proofs.Working.{holds_of}

-- the blank of the source is read
record IsBlankNext (s : State) : Type 0 where
  goes : Goes s
  reads : step s ≡ emitted (code " ") (after_byte s)
  gap : IsGap (after_byte s).formatter
  within : IsWithin (after_byte s)

blank_next : (rest : List ℕ) (s : State) → IsTyping s → IsGap s.formatter → s.coming.supply.bytes ≡ code " " ∷ rest → MayGive s.coming.supply.faults → s.coming.taken + 1 < 2 ^ 40 → IsBlankNext s
blank_next rest s typing gap next gives few = record {
  goes = goes_byte (code " ") rest s typing refl refl next gives few;
  reads = reads_byte (code " ") rest s typing refl refl next gives few;
  gap = record { plain = gap.plain; within = gap.within };
  within = record {
    formatter = record { stored = typing.within.formatter.stored; depth = typing.within.formatter.depth; line = typing.within.formatter.line; burst = omega arith };
    page = typing.within.page;
  };
}

-- ---- the engine

abbrev pub gone_shape : (Formatter → Formatter) → Shape → Shape
gone_shape g e = record e { formatter = g (unburst e.formatter); place = passed_many 1 e.place }

-- the moves lead where the engine stands
pub made_gone : (n : ℕ) (g : Formatter → Formatter) (e : Shape) (supply supply' : Option Supply) (held : Option (List ℕ)) (s : State) → Stands [] supply s e
    → HoldsComing (after_many 1 s.coming) (passed_many 1 e.place) supply' → IsWithin (made_of g (after_byte (at e s))) → Glides (at e s) n (made_of g (after_byte (at e s)))
    → Made [] (at e s) n (gone_shape g e) supply' held held
made_gone n g e supply supply' held s h afterwards within glides =
    let holds : Holds [] supply' (made_of g (after_byte (at e s))) (gone_shape g e) =
    holds_of supply' (made_of g (after_byte (at e s))) (gone_shape g e) refl h.chosen_is afterwards h.row h.page h.page_limit h.select h.faces within in
    record {
      runs = glides.runs;
      holds = rw glides.leads holds;
      wrote = wrote_nothing (at e s) _ held (ap (λ t. t.pages) glides.leads);
    }

-- the first byte that comes next
pub record First (b : ℕ) (c : Coming) : Type 0 where
  pub rest : List ℕ
  pub is : c.supply.bytes ≡ b ∷ rest
  pub gives : MayGive c.supply.faults
  pub few : c.taken + 1 < 2 ^ 40

pub first : (b : ℕ) (bs : List ℕ) (c : Coming) → ComeNext (b ∷ bs) c → First b c
first b bs c next =
    let prefix = prefix_more c.supply.bytes b bs next.bytes in
    record { rest = prefix.0; is = prefix.1; gives = may_give_one (length bs) c.supply.faults next.faults; few = omega (arith, next.few) }

-- 20 moves more are paid
pub saves_flows : (e : Shape) → e.formatter.event ≡ events.Nothing → e.formatter.task ≡ tasks.Read → Saves 20 2 e (gone_shape gap_flows e)
unfolding weights.weight weights.steps_left weights.owed
saves_flows e event task =
    let before : weight_of_agenda e.formatter.event e.formatter.task e.formatter.step ≡ 4 = rw (event, task) refl in
    let owed_before : owed_by_event e.formatter.event + owed_by_task e.formatter.task e.formatter.reader.half ≡ 0 = rw (event, task) refl in
    let afterwards : weight_of_agenda e.formatter.event (tasks.Flow afters.Text false) e.formatter.step ≡ 8 = rw event refl in
    let owed_afterwards : owed_by_event e.formatter.event + owed_by_task (tasks.Flow afters.Text false) e.formatter.reader.half ≡ 0 = rw event refl in
    omega (
      arith,
      before,
      owed_before,
      afterwards,
      owed_afterwards,
      weight-gap (collected e.formatter),
      paid (expansions_worth e.formatter.reader.most 0 e.formatter.store.limit) 1 e.place.taken (omega arith),
    )

-- and where the line is not full
pub saves_put : (e : Shape) → Saves 20 3 e (gone_shape gap_put e)
unfolding weights.weight weights.steps_left weights.owed
saves_put e =
    omega (
      arith,
      weight-gap (collected e.formatter),
      paid (expansions_worth e.formatter.reader.most 0 e.formatter.store.limit) 1 e.place.taken (omega arith),
    )

module _ (bs : List ℕ) (e : Shape) (supply supply' : Option Supply) (is : is_in_line e.formatter ≡ true) (levels : e.formatter.store.levels ≡ []) (gap : IsGap e.formatter)
    (next : (c : Coming) → HoldsComing c e.place supply → ComeNext (code " " ∷ bs) c)
    (afterwards : (c : Coming) → HoldsComing c e.place supply → HoldsComing (after_many 1 c) (passed_many 1 e.place) supply') where
  blank : (s : State) → Stands [] supply s e → IsBlankNext (at e s)
  blank s h =
      let x = first (code " ") bs s.coming (next s.coming h.coming) in
      blank_next x.rest (at e s) (stands_typing supply s e h is levels) gap x.is x.gives x.few

  line_in : (s : State) → Stands [] supply s e → IsInLine (after_byte (at e s)).formatter
  line_in s h = line_after (at e s) (stands_typing supply s e h is levels)

  made_flows : (held : Option (List ℕ)) (s : State) → Stands [] supply s e → Made [] (at e s) 2 (gone_shape gap_flows e) supply' held held
  made_flows held s h =
      let x = blank s h in
      made_gone 2 gap_flows e supply supply' held s h (afterwards s.coming h.coming)
      (within_flows (at e s) (after_byte (at e s)) h.chosen_is (line_in s h) x.goes x.reads x.gap x.within)
      (glides_flows (at e s) (after_byte (at e s)) h.chosen_is (line_in s h) x.goes x.reads x.gap x.within)

  made_put : fits_line (gapped (collected e.formatter)) ≡ true → (held : Option (List ℕ)) (s : State) → Stands [] supply s e → Made [] (at e s) 3 (gone_shape gap_put e) supply' held held
  made_put fits held s h =
      let x = blank s h in
      made_gone 3 gap_put e supply supply' held s h (afterwards s.coming h.coming)
      (within_gap (at e s) (after_byte (at e s)) h.chosen_is (line_in s h) x.goes x.reads x.gap x.within)
      (glides_gap (at e s) (after_byte (at e s)) h.chosen_is (line_in s h) x.goes x.reads x.gap x.within fits)

  pub makes_flows : Makes 2 e (gone_shape gap_flows e) supply supply'
  makes_flows =
      let line = in_line e.formatter is in
      record { makes = made_flows; limit = refl; most = refl; limits = refl; spends = (let saves = saves_flows e line.event line.task in omega (arith, saves)) }

  pub makes_put : fits_line (gapped (collected e.formatter)) ≡ true → Makes 3 e (gone_shape gap_put e) supply supply'
  makes_put fits = record { makes = made_put fits; limit = refl; most = refl; limits = refl; spends = (let saves = saves_put e in omega (arith, saves)) }

-- bytes of which the first is known
pub first_of : (bs : List ℕ) (b : ℕ) → 0 < length bs → get_or bs 0 0 ≡ b → (rest : List ℕ) × (bs ≡ b ∷ rest)
first_of [] b some is = absurd (omega (arith, some))
first_of (x ∷ xs) b some is = (xs, ap (λ y. y ∷ xs) is)

-- Empty lines that are at hand: three moves for the one that was read, and four for each after it.
use Prim.Native.Char.{code}
use Rattle.std.proofs.Common.{◌≡◌, ℕ, zero, suc, ◌+◌, ◌*◌, ◌<◌, ◌≤◌, ◌^◌, true, false, List, [], ◌∷◌, length, take, drop, replicate, Option, None, refl, sym, ap, ◌∙◌, subst, arith}
use Rattle.std.specs.Prelude.{◌==◌}
use Rattle.std.proofs.lemmas.Bool.{eqb-false, lt-ltb, ne_eqb}
use Rattle.nr_units.specs.Source.{Faults, MayGive, Supply, later}
use Rattle.nr_reading.specs.declared.event.Event.{Event}
use Rattle.nr_reading.specs.declared.event.Event.TheVariants as events
use Rattle.nr_reading.specs.declared.next_item.NextItem.TheVariants as next_items
use Rattle.nr_reading.specs.declared.half.Half.{Half}
use Rattle.nr_reading.specs.Half.{take_in}
use Rattle.fast_input.specs.AtHand.{ComeNext, after_last}
use Rattle.nr_input.specs.Place.{Coming, HoldsComing, next_item, passed_run}
use Rattle.nr_input.specs.Moving.{taken_in_at, situation}
use Rattle.nr_input.specs.Moving.{move as input_move}
use Rattle.nr_input.specs.Moving as input
use Rattle.nr_input.specs.Weights.{expansions_worth}
use Rattle.nr_input.specs.declared.reader.Reader.{Reader}
use Rattle.nr_input.specs.declared.emitted.Emitted.TheVariants as tells
use Rattle.nr_store.specs.Store.{shown}
use Rattle.nr_formatter.specs.Access.{spacing}
use Rattle.nr_formatter.specs.Many.EmptyLines.{IsAtLine, gone_down}
use Rattle.nr_formatter.specs.Lines.{break_done}
use Rattle.nr_formatter.specs.Moves.{heard}
use Rattle.nr_formatter.specs.Spacing.{spaced}
use Rattle.nr_formatter.specs.Weights as weights
use Rattle.nr_formatter.specs.Weights.{weight_of_agenda, weight_of_page}
use Rattle.nr_formatter.specs.declared.formatter.Formatter.{Formatter}
use Rattle.nr_formatter.specs.declared.tasks.Task.TheVariants as tasks
use Rattle.nr_formatter.specs.declared.tasks.Then.TheVariants as thens
use Rattle.nr_formatter.proofs.EmptyLines.{GoesDown, HasRoom, at_line, falls_gone, line_gone, lines_gone, room_on, weigh_gone}
use Rattle.nr_machine.specs.State.{State, plainly}
use Rattle.nr_machine.specs.Machine.{situation_of, step, with_situation, work}
use Rattle.nr_machine.specs.Measures.{IsWithin}
use Rattle.nr_machine.specs.Run.{Goes, GoesBy}
use Rattle.fast_machine.specs.EmptyLines.{NewlinesNext}
use Rattle.nr_machine.specs.Holding.{Holds, Made, Shape, Stands, at, weight, worth}
use Rattle.fast_machine.specs.Running.{Makes, unburst}
use Rattle.fast_machine.proofs.Gliding.{Glides, glides-add, glides-by, glides-one}
use Rattle.nr_machine.proofs.NextMoves.{kind-hear, kind-read, kind-work, step-hear, step-read, step-work}
use Rattle.fast_machine.proofs.PlainText.{drop-more, prefix_more, later-more, later-one, may_give_more, may_give_one, paid}
use Rattle.nr_machine.proofs.Standing.{wrote_nothing}
use Rattle.fast_machine.proofs.Running.{makes-add}
use Rattle.nr_machine.proofs.Working.{holds_of}

-- ---- an empty line that was read

-- it is heard
abbrev begun : State → State
begun s = plainly (heard events.Empty) s

-- the break, at which nothing goes out
abbrev broken : State → State
broken s = plainly (break_done thens.Space) (begun s)

-- the space
abbrev down : State → State
down s = plainly (spaced (spacing s.formatter)) (broken s)

-- nothing is collected, so nothing goes out
breaks_is : (s : State) → GoesDown s.formatter → work (tasks.Break thens.Space) (begun s) ≡ broken s
breaks_is s goes = rw (goes.word, goes.state, goes.pieces) refl

-- the open page has room for the space
spaces_is : (s : State) → GoesDown s.formatter → (spacing s.formatter == 0) ≡ false → work (tasks.Space (spacing s.formatter)) (broken s) ≡ down s
spaces_is s goes positive =
    rw (goes.no_space, positive, goes.diversion, goes.state, lt-ltb s.formatter.paper.place s.formatter.settings.pages.page_length goes.room) refl

-- within the limits as before: what is stored and the line stay, and so does the burst or it is none
pub within_kept : (s : State) (c : Coming) (f : Formatter) → f.store ≡ s.formatter.store → f.line ≡ s.formatter.line → f.reader.burst ≤ f.reader.most → IsWithin s
    → IsWithin (record s { coming = c; formatter = f })
within_kept s c f store line burst within = record {
  formatter = record { stored = rw store within.formatter.stored; depth = rw store within.formatter.depth; line = rw line within.formatter.line; burst = burst };
  page = within.page;
}

module _ (s : State) (chosen : s.chosen ≡ []) (empty : s.formatter.event ≡ events.Empty) (room : HasRoom 1 s.formatter) (within : IsWithin s) where
  burst : s.formatter.reader.burst ≤ s.formatter.reader.most
  burst = within.formatter.burst

  hears : Glides s 1 (begun s)
  hears =
      glides-by (heard events.Empty) s (kind-hear s events.Empty chosen room.down.springs empty (λ e. let wrong : ⊥ = cc in wrong))
      (step-hear s events.Empty chosen room.down.springs empty) (within_kept s s.coming (begun s).formatter refl refl burst within)

  breaks : Glides (begun s) 1 (broken s)
  breaks =
      glides-by (break_done thens.Space) (begun s) (kind-work (begun s) (tasks.Break thens.Space) chosen room.down.springs refl refl)
      (step-work (begun s) (tasks.Break thens.Space) chosen room.down.springs refl refl ∙ breaks_is s room.down) (within_kept s s.coming (broken s).formatter refl refl burst within)

  positive : (spacing s.formatter == 0) ≡ false
  positive = ne_eqb (spacing s.formatter) 0 (λ e. omega (arith, e, room.height))

  spaces : Glides (broken s) 1 (down s)
  spaces =
      glides-by (spaced (spacing s.formatter)) (broken s) (kind-work (broken s) (tasks.Space (spacing s.formatter)) chosen room.down.springs refl refl)
      (step-work (broken s) (tasks.Space (spacing s.formatter)) chosen room.down.springs refl refl ∙ spaces_is s room.down positive) (within_kept s s.coming (down s).formatter refl refl burst within)

  leads : down s ≡ plainly (gone_down 1) s
  leads = ap (λ f. record s { formatter = f }) (line_gone s.formatter room)

  -- its three moves
  glides_empty : Glides s 3 (plainly (gone_down 1) s)
  glides_empty = subst (λ t. Glides s 3 t) leads (glides-add s 2 1 (broken s) (down s) (glides-add s 1 1 (begun s) (broken s) hears breaks) spaces)

-- whatever is half read, there is as much room
room_kept : (n : ℕ) (f : Formatter) (r : Reader) (e : Event) → HasRoom n f → HasRoom n (record f { reader = r; event = e })
room_kept n f r e room = record {
  down = record {
    springs = room.down.springs;
    pieces = room.down.pieces;
    word = room.down.word;
    diversion = room.down.diversion;
    state = room.down.state;
    room = room.down.room;
    no_space = room.down.no_space;
  };
  height = room.height;
  below = room.below;
}

-- ---- a newline at a line's beginning

-- the next item is read at the beginning of a line
record IsStarting (f : Formatter) : Type 0 where
  springs : f.springs ≡ None
  event : f.event ≡ events.Nothing
  task : f.task ≡ tasks.Read
  half : IsAtLine f.reader.half
  continued : f.reader.half.reading.continued ≡ false
  levels : f.store.levels ≡ []

-- it is emitted
abbrev emitted_empty : State → State
emitted_empty t = record t { formatter = record t.formatter { event = events.Empty } }

-- after it
abbrev past_newline : State → State
past_newline s = record s { coming = after_last (code "\n") 1 s.coming; formatter = unburst s.formatter }

-- after so many of them, which went down
abbrev lines_down : ℕ → State → State
lines_down n s = record s { coming = after_last (code "\n") n s.coming; formatter = unburst (gone_down n s.formatter) }

-- the same the other way round
other : (n : ℕ) → (n == code "\n") ≡ false → (code "\n" == n) ≡ false
other n is = ne_eqb (code "\n") n (λ e. eqb-false n (code "\n") is (sym e))

-- it is an empty line, and nothing else changes
take_in-newline : (h : Half) → IsAtLine h → h.reading.continued ≡ false → take_in (next_items.Byte (code "\n")) h ≡ record { half = h; event = events.Empty; takes = true }
take_in-newline h is continued = rw (is.asks, is.mode, is.escape, other h.signs.control is.control, other h.signs.no_break is.no_break, continued) refl

module _ (rest : List ℕ) (s : State) (chosen : s.chosen ≡ []) (start : IsStarting s.formatter) (within : IsWithin s) (next : s.coming.supply.bytes ≡ code "\n" ∷ rest)
    (gives : MayGive s.coming.supply.faults) (few : s.coming.taken + 1 < 2 ^ 40) where
  further : (s.coming.taken + 1 == s.coming.taken) ≡ false
  further = ne_eqb (s.coming.taken + 1) s.coming.taken (λ e. omega (arith, e))

  looks : input_move (situation_of s) ≡ taken_in_at (take_in (next_item (shown s.formatter.store.levels) s.coming) s.formatter.reader.half) (situation_of s)
  looks = rw start.half.pending_act refl

  takes_in : take_in (next_item (shown s.formatter.store.levels) s.coming) s.formatter.reader.half ≡ record { half = s.formatter.reader.half; event = events.Empty; takes = true }
  takes_in = rw (start.levels, next, take_in-newline s.formatter.reader.half start.half start.continued) refl

  takes : taken_in_at (record { half = s.formatter.reader.half; event = events.Empty; takes = true }) (situation_of s)
      ≡ record { situation = situation s.formatter.store (after_last (code "\n") 1 s.coming) (record s.formatter.reader { burst = 0 }); emitted = tells.Event events.Empty }
  takes = rw (start.levels, next, further, later-one s.coming.supply.faults) refl

  reads : step s ≡ emitted_empty (past_newline s)
  reads =
      step-read s chosen start.springs start.event start.task
      ∙ ap (λ m. with_situation m s) (looks ∙ ap (λ m. taken_in_at m (situation_of s)) takes_in ∙ takes)

  goes : Goes s
  goes =
      let reads_next = kind-read s chosen start.springs start.event start.task in
      let sees : input.Goes (situation_of s) = rw (start.half.pending_act, start.levels, next) (gives, λ many. omega (arith, many, few)) in
      subst (λ k. GoesBy k s) (sym reads_next) sees

  -- four moves
  glides_newline : HasRoom 1 s.formatter → Glides s 4 (lines_down 1 s)
  glides_newline room =
      let t = emitted_empty (past_newline s) in
      glides-add s 1 3 t (lines_down 1 s) (glides-one s t goes reads) (glides_empty t chosen refl
      (room_kept 1 s.formatter (record s.formatter.reader { burst = 0 }) events.Empty room)
      (within_kept s (after_last (code "\n") 1 s.coming) t.formatter refl refl (omega arith) within))

-- ---- many newlines

-- within the limits as before
within_lines : (n : ℕ) (s : State) → IsWithin s → IsWithin (lines_down n s)
within_lines n s within = within_kept s (after_last (code "\n") n s.coming) (lines_down n s).formatter refl refl (omega arith) within

-- after a line that went down another begins
starting_on : (f : Formatter) → IsAtLine f.reader.half → f.springs ≡ None → f.store.levels ≡ [] → IsStarting (gone_down 1 f)
starting_on f half springs levels = record {
  springs = springs;
  event = refl;
  task = refl;
  half = record { mode = half.mode; escape = half.escape; pending_act = half.pending_act; asks = half.asks; control = half.control; no_break = half.no_break };
  continued = refl;
  levels = levels;
}

-- whatever was spliced before it
starting_unburst : (f : Formatter) → IsStarting f → IsStarting (unburst f)
starting_unburst f start = record {
  springs = start.springs;
  event = start.event;
  task = start.task;
  half = start.half;
  continued = start.continued;
  levels = start.levels;
}

-- room for many is room for one
room_first : (n : ℕ) (f : Formatter) → HasRoom (1 + n) f → HasRoom 1 f
room_first n f room =
    let all : (1 + n) * spacing f ≡ spacing f + n * spacing f = grind arith in
    record { down = room.down; height = room.height; below = omega (arith, all, room.below) }

-- the same number, written in another way
room_all : (n : ℕ) (f : Formatter) → HasRoom n f → HasRoom (n + 0) f
room_all n f room = let same : n ≡ n + 0 = omega arith in subst (λ k. HasRoom k f) same room

room_more : (n : ℕ) (f : Formatter) → HasRoom (suc n) f → HasRoom (1 + n) f
room_more n f room = let same : suc n ≡ 1 + n = omega arith in subst (λ k. HasRoom k f) same room

abbrev coming_of : List ℕ → Faults → ℕ → Coming
coming_of bs f n = record { supply = record { bytes = bs; faults = f }; taken = n; inside = false }

-- after a newline and then others
afterwards-more : (n : ℕ) (c : Coming) → after_last (code "\n") n (after_last (code "\n") 1 c) ≡ after_last (code "\n") (suc n) c
afterwards-more n c =
    let counts : c.taken + 1 + n ≡ c.taken + suc n = omega arith in
    ap (λ bs. coming_of bs (later n (later 1 c.supply.faults)) (c.taken + 1 + n)) (drop-more n c.supply.bytes)
    ∙ ap (λ f. coming_of (drop (suc n) c.supply.bytes) f (c.taken + 1 + n)) (later-more n c.supply.faults)
    ∙ ap (λ k. coming_of (drop (suc n) c.supply.bytes) (later (suc n) c.supply.faults) k) counts

-- a line and then others
lines-more : (n : ℕ) (s : State) → lines_down n (lines_down 1 s) ≡ lines_down (suc n) s
lines-more n s =
    let counts : 1 + n ≡ suc n = omega arith in
    ap (λ c. record s { coming = c; formatter = unburst (gone_down n (gone_down 1 s.formatter)) }) (afterwards-more n s.coming)
    ∙ ap (λ f. record s { coming = after_last (code "\n") (suc n) s.coming; formatter = unburst f }) (lines_gone 1 n s.formatter)
    ∙ ap (λ k. record s { coming = after_last (code "\n") (suc n) s.coming; formatter = unburst (gone_down k s.formatter) }) counts

-- the others come next
next_more : (bs rest : List ℕ) (c : Coming) → c.supply.bytes ≡ code "\n" ∷ rest → take (length bs) rest ≡ bs → ComeNext (code "\n" ∷ bs) c → ComeNext bs (after_last (code "\n") 1 c)
next_more bs rest c is others next = record {
  bytes = rw is others;
  faults = may_give_more (length bs) c.supply.faults next.faults;
  few = omega (arith, next.few);
}

-- four moves for each
glides_lines : (n : ℕ) (s : State) → s.chosen ≡ [] → IsStarting s.formatter → IsWithin s → HasRoom (suc n) s.formatter → ComeNext (replicate (suc n) (code "\n")) s.coming
    → Glides s (4 * suc n) (lines_down (suc n) s)
glides_lines zero s chosen start within room next =
    let prefix = prefix_more s.coming.supply.bytes (code "\n") [] next.bytes in
    glides_newline prefix.0 s chosen start within prefix.1 (may_give_one 0 s.coming.supply.faults next.faults) (omega (arith, next.few)) room
glides_lines (suc n) s chosen start within room next =
    let bs : List ℕ = replicate (suc n) (code "\n") in
    let prefix = prefix_more s.coming.supply.bytes (code "\n") bs next.bytes in
    let one = glides_newline prefix.0 s chosen start within prefix.1 (may_give_one (length bs) s.coming.supply.faults next.faults) (omega (arith, next.few)) (room_first (suc n) s.formatter (room_more (suc n) s.formatter room)) in
    let f = s.formatter in
    let more = glides_lines n (lines_down 1 s) chosen (starting_unburst (gone_down 1 f) (starting_on f start.half start.springs start.levels)) (within_lines 1 s within)
    (room_kept (suc n) (gone_down 1 f) (record (gone_down 1 f).reader { burst = 0 }) events.Nothing (room_on 1 (suc n) f (room_more (suc n) f room))) (next_more bs prefix.0 s.coming prefix.1 prefix.2 next) in
    let count : 4 + 4 * suc n ≡ 4 * suc (suc n) = omega arith in
    subst (λ t. Glides s (4 * suc (suc n)) t) (lines-more (suc n) s)
    (subst (λ k. Glides s k (lines_down (suc n) (lines_down 1 s))) count
    (glides-add s 4 (4 * suc n) (lines_down 1 s) (lines_down (suc n) (lines_down 1 s)) one more))

-- ---- the engine

-- the line that was read went down
abbrev pub down_shape : Shape → Shape
down_shape e = record e { formatter = gone_down 1 e.formatter }

-- so many newlines were read, and their lines went down
abbrev pub lines_shape : ℕ → Shape → Shape
lines_shape n e = record e { formatter = unburst (gone_down n e.formatter); place = passed_run (code "\n") n e.place }

-- the moves of the line that was read
made_empty : (e : Shape) (supply : Option Supply) (held : Option (List ℕ)) (s : State) → Stands [] supply s e → e.formatter.event ≡ events.Empty → HasRoom 1 e.formatter
    → Made [] (at e s) 3 (down_shape e) supply held held
made_empty e supply held s h empty room =
    let glides = glides_empty (at e s) h.chosen_is empty room h.within in
    let within = within_kept (at e s) s.coming (gone_down 1 e.formatter) refl refl h.within.formatter.burst h.within in
    let holds : Holds [] supply (plainly (gone_down 1) (at e s)) (down_shape e) =
    holds_of supply (plainly (gone_down 1) (at e s)) (down_shape e) refl h.chosen_is h.coming h.row h.page h.page_limit h.select h.faces within in
    record {
      runs = glides.runs;
      holds = rw glides.leads holds;
      wrote = wrote_nothing (at e s) _ held (ap (λ t. t.pages) glides.leads);
    }

-- the empty line that was read
pub makes_empty : (e : Shape) (supply : Option Supply) → e.formatter.event ≡ events.Empty → HasRoom 1 e.formatter → Makes 3 e (down_shape e) supply supply
makes_empty e supply empty room =
    let falls = falls_gone e.formatter empty room in
    record {
      makes = λ held s h. made_empty e supply held s h empty room;
      limit = falls.limit;
      most = falls.most;
      limits = refl;
      spends = let less = falls.falls e.place in omega (arith, less);
    }

-- the moves of the others
made_lines : (n : ℕ) (e : Shape) (supply supply' : Option Supply) (held : Option (List ℕ)) (s : State) → Stands [] supply s e → IsStarting e.formatter → HasRoom (suc n) e.formatter
    → ((c : Coming) → HoldsComing c e.place supply → ComeNext (replicate (suc n) (code "\n")) c)
    → ((c : Coming) → HoldsComing c e.place supply → HoldsComing (after_last (code "\n") (suc n) c) (passed_run (code "\n") (suc n) e.place) supply')
    → Made [] (at e s) (4 * suc n) (lines_shape (suc n) e) supply' held held
made_lines n e supply supply' held s h start room next afterwards =
    let t = lines_down (suc n) (at e s) in
    let glides = glides_lines n (at e s) h.chosen_is start h.within room (next s.coming h.coming) in
    let holds : Holds [] supply' t (lines_shape (suc n) e) =
    holds_of supply' t (lines_shape (suc n) e) refl h.chosen_is (afterwards s.coming h.coming) h.row h.page h.page_limit h.select h.faces (within_lines (suc n) (at e s) h.within) in
    record {
      runs = glides.runs;
      holds = rw glides.leads holds;
      wrote = wrote_nothing (at e s) _ held (ap (λ t. t.pages) glides.leads);
    }

-- each newline pays for its moves
spends_lines : (n : ℕ) (e : Shape) → IsStarting e.formatter → HasRoom (suc n) e.formatter
    → weight (lines_shape (suc n) e) + 4 * suc n + worth e * e.place.taken ≤ weight e + worth e * (e.place.taken + suc n)
unfolding weights.weight weights.steps_left weights.owed
spends_lines n e start room =
    let before : weight_of_agenda e.formatter.event e.formatter.task e.formatter.step ≡ 4 = rw (start.event, start.task) refl in
    let none : weight_of_page (gone_down (suc n) e.formatter) ≡ 0 = weigh_gone (gone_down (suc n) e.formatter) (room_on (suc n) 0 e.formatter (room_all (suc n) e.formatter room)).down in
    omega (
      arith,
      before,
      none,
      paid (expansions_worth e.formatter.reader.most 0 e.formatter.store.limit) (suc n) e.place.taken (omega arith),
    )

-- newlines that come next
makes_lines : (n : ℕ) (e : Shape) (supply supply' : Option Supply) → 0 < n → IsStarting e.formatter → HasRoom n e.formatter
    → ((c : Coming) → HoldsComing c e.place supply → ComeNext (replicate n (code "\n")) c)
    → ((c : Coming) → HoldsComing c e.place supply → HoldsComing (after_last (code "\n") n c) (passed_run (code "\n") n e.place) supply')
    → Makes (4 * n) e (lines_shape n e) supply supply'
makes_lines zero e supply supply' some start room next afterwards = absurd (omega (arith, some))
makes_lines (suc n) e supply supply' some start room next afterwards = record {
  makes = λ held s h. made_lines n e supply supply' held s h start room next afterwards;
  limit = refl;
  most = refl;
  limits = refl;
  spends = spends_lines n e start room;
}

-- and the newlines after it
pub makes_more : (n : ℕ) (e : Shape) (supply supply' : Option Supply) → e.formatter.event ≡ events.Empty → 0 < n → HasRoom (1 + n) e.formatter → NewlinesNext n e supply
    → ((c : Coming) → HoldsComing c e.place supply → HoldsComing (after_last (code "\n") n c) (passed_run (code "\n") n e.place) supply')
    → Makes (3 + 4 * n) e (lines_shape n (down_shape e)) supply supply'
makes_more n e supply supply' empty some room next afterwards =
    let f = e.formatter in
    makes-add 3 (4 * n) e (down_shape e) (lines_shape n (down_shape e)) supply supply supply' (makes_empty e supply empty (room_first n f room))
    (makes_lines n (down_shape e) supply supply' some (starting_on f (at_line f.reader.half next.at_line) room.down.springs next.has.levels) (room_on 1 n f room) next.has.next afterwards)

-- Runs of plain bytes in a text line that has begun: two moves a byte.
use Prim.Native.Char.{code}
use Rattle.std.proofs.Common.{◌≡◌, ℕ, zero, suc, ◌+◌, ◌*◌, ◌<◌, ◌≤◌, ◌^◌, true, false, List, [], ◌∷◌, length, take, drop, Option, refl, sym, ap, ◌∙◌, subst, arith, take-take, length-take-le}
use Rattle.std.specs.Prelude.{◌==◌, All}
use Rattle.std.proofs.lemmas.Bool.{ne_eqb}
use Rattle.std.proofs.lemmas.Nat.{mul-le}
use Rattle.nr_units.specs.Source.{Faults, Never, After, Anytime, Supply, MayGive, MayGiveAll, one_later, later, skipped}
use Rattle.nr_fill.specs.Piece.{line_cells}
use Rattle.nr_fill.specs.Plain.{IsPlain, run_cell}
use Rattle.nr_reading.specs.declared.event.Event.TheVariants as events
use Rattle.nr_reading.specs.Many.InText.{IsInText}
use Rattle.nr_reading.proofs.InText.{in_text, take_in-plain}
use Rattle.fast_input.specs.AtHand.{ComeNext}
use Rattle.nr_input.specs.Place.{Coming, HoldsComing, Reached, next_item}
use Rattle.nr_input.specs.Moving.{move as input_move, situation, taken_in_at}
use Rattle.nr_input.specs.Moving as input
use Rattle.nr_input.specs.declared.place.Ahead.TheVariants.{Unseen}
use Rattle.nr_input.specs.declared.emitted.Emitted.TheVariants as tells
use Rattle.nr_store.specs.Store.{shown}
use Rattle.nr_reading.specs.Half.{take_in}
use Rattle.nr_settings.specs.Fonts.{present_look}
use Rattle.nr_formatter.specs.Access.{collected, margins}
use Rattle.nr_formatter.specs.Many.Runs.{IsInLine, is_in_line, run_put}
use Rattle.nr_formatter.specs.Weights as weights
use Rattle.nr_input.specs.Weights.{expansions_worth}
use Rattle.nr_formatter.proofs.PlainText.{begun-cell, line_cells-run, weight-run, in_line}
use Rattle.nr_machine.specs.State.{State}
use Rattle.nr_machine.specs.Machine.{step, read, situation_of, with_situation}
use Rattle.nr_machine.specs.Measures.{IsWithin}
use Rattle.nr_machine.specs.Run.{Goes, GoesBy}
use Rattle.nr_machine.specs.Holding.{Shape, at, Stands, Holds, Made}
use Rattle.fast_machine.specs.Running.{Makes, Saves, unburst}
use Rattle.fast_machine.proofs.Gliding.{Glides, glides-add, glides_plain, emitted}
use Rattle.nr_machine.proofs.NextMoves.{step-read, kind-read}
use Rattle.nr_machine.proofs.Standing.{wrote_nothing}
use Rattle.nr_machine.proofs.Working.{holds_of}

-- ---- bytes that come next

-- after the next n bytes, the last of them no newline
abbrev pub after_many : ℕ → Coming → Coming
after_many n c = record { supply = skipped n c.supply; taken = c.taken + n; inside = true }

abbrev pub passed_many : ℕ → Reached → Reached
passed_many n p = record { ahead = Unseen; taken = p.taken + n; inside = true }

-- a prefix of one byte more
pub prefix_more : (xs : List ℕ) (b : ℕ) (bs : List ℕ) → take (suc (length bs)) xs ≡ b ∷ bs → (rest : List ℕ) × (xs ≡ b ∷ rest) × (take (length bs) rest ≡ bs)
prefix_more [] b bs is = absurd (let wrong : [] ≡ b ∷ bs = is in cc)
prefix_more (x ∷ xs) b bs is =
    let first : x ≡ b = cc in
    let others : take (length bs) xs ≡ bs = cc in
    (xs, ap (λ y. y ∷ xs) first, others)

pub may_give_one : (n : ℕ) (f : Faults) → MayGiveAll (suc n) f → MayGive f
may_give_one n Never h = tt
may_give_one n (After m) h = omega (arith, h)
may_give_one n Anytime h = tt

pub may_give_more : (n : ℕ) (f : Faults) → MayGiveAll (suc n) f → MayGiveAll n (later 1 f)
may_give_more n Never h = tt
may_give_more n (After m) h = omega (arith, h)
may_give_more n Anytime h = tt

pub later-one : (f : Faults) → later 1 f ≡ one_later f
later-one Never = refl
later-one (After m) = refl
later-one Anytime = refl

pub later-more : (n : ℕ) (f : Faults) → later n (later 1 f) ≡ later (suc n) f
later-more n Never = refl
later-more n (After m) = ap After (omega arith)
later-more n Anytime = refl

pub drop-more : (n : ℕ) (xs : List ℕ) → drop n (drop 1 xs) ≡ drop (suc n) xs
drop-more n (x ∷ xs) = refl
drop-more zero [] = refl
drop-more (suc n) [] = refl

abbrev coming_of : List ℕ → Faults → ℕ → Coming
coming_of bs f n = record { supply = record { bytes = bs; faults = f }; taken = n; inside = true }

after_many-more : (n : ℕ) (c : Coming) → after_many n (after_many 1 c) ≡ after_many (suc n) c
after_many-more n c =
    let counts : c.taken + 1 + n ≡ c.taken + suc n = omega arith in
    ap (λ bs. coming_of bs (later n (later 1 c.supply.faults)) (c.taken + 1 + n)) (drop-more n c.supply.bytes)
    ∙ ap (λ f. coming_of (drop (suc n) c.supply.bytes) f (c.taken + 1 + n)) (later-more n c.supply.faults)
    ∙ ap (λ k. coming_of (drop (suc n) c.supply.bytes) (later (suc n) c.supply.faults) k) counts

-- ---- one byte

-- after one byte of the source
abbrev pub after_byte : State → State
after_byte s = record s { coming = after_many 1 s.coming; formatter = unburst s.formatter }

-- the bytes were read, and are cells of the word
abbrev pub typed : List ℕ → State → State
typed bs s = record s { coming = after_many (length bs) s.coming; formatter = run_put bs (unburst s.formatter) }

-- the next bytes of the source are read in a text line that has begun
pub record IsTyping (s : State) : Type 0 where
  pub chosen : s.chosen ≡ []
  pub line : IsInLine s.formatter
  pub levels : s.formatter.store.levels ≡ []
  pub within : IsWithin s

pub newline : (b : ℕ) → IsPlain b → (b == code "\n") ≡ false
newline b plain = ne_eqb b (code "\n") (λ e. omega (arith, plain.0, e))

pub escape : (b : ℕ) → IsPlain b → (b == code "\\") ≡ false
escape b plain = ne_eqb b (code "\\") plain.2

module _ (b : ℕ) (rest : List ℕ) (s : State) (typing : IsTyping s) (line : (b == code "\n") ≡ false) (plain : (b == code "\\") ≡ false) (next : s.coming.supply.bytes ≡ b ∷ rest)
    (gives : MayGive s.coming.supply.faults) (few : s.coming.taken + 1 < 2 ^ 40) where
  half : IsInText s.formatter.reader.half
  half = in_text s.formatter.reader.half typing.line.half

  further : (s.coming.taken + 1 == s.coming.taken) ≡ false
  further = ne_eqb (s.coming.taken + 1) s.coming.taken (λ e. omega (arith, e))

  looks : input_move (situation_of s) ≡ taken_in_at (take_in (next_item (shown s.formatter.store.levels) s.coming) s.formatter.reader.half) (situation_of s)
  looks = rw half.pending_act refl

  takes_in : take_in (next_item (shown s.formatter.store.levels) s.coming) s.formatter.reader.half ≡ record { half = s.formatter.reader.half; event = events.Byte b; takes = true }
  takes_in = rw (typing.levels, next) (take_in-plain b s.formatter.reader.half half line plain)

  takes : taken_in_at (record { half = s.formatter.reader.half; event = events.Byte b; takes = true }) (situation_of s)
      ≡ record { situation = situation s.formatter.store (after_many 1 s.coming) (record s.formatter.reader { burst = 0 }); emitted = tells.Event (events.Byte b) }
  takes = rw (typing.levels, next, further, line, later-one s.coming.supply.faults) refl

  read_is : read s ≡ emitted b (after_byte s)
  read_is = ap (λ m. with_situation m s) (looks ∙ ap (λ m. taken_in_at m (situation_of s)) takes_in ∙ takes)

  -- the byte is read
  pub reads_byte : step s ≡ emitted b (after_byte s)
  reads_byte = step-read s typing.chosen typing.line.springs typing.line.event typing.line.task ∙ read_is

  pub goes_byte : Goes s
  goes_byte =
      let reads = kind-read s typing.chosen typing.line.springs typing.line.event typing.line.task in
      let sees : input.Goes (situation_of s) = rw (half.pending_act, typing.levels, next) (gives, λ many. omega (arith, many, few)) in
      subst (λ k. GoesBy k s) (sym reads) sees

-- it is read in the same line
pub line_after : (s : State) → IsTyping s → IsInLine (after_byte s).formatter
line_after s typing = record {
  springs = typing.line.springs;
  event = typing.line.event;
  task = typing.line.task;
  half = typing.line.half;
  begun = typing.line.begun;
}

glides_byte : (b : ℕ) (rest : List ℕ) (s : State) → IsTyping s → IsPlain b → s.coming.supply.bytes ≡ b ∷ rest → MayGive s.coming.supply.faults → s.coming.taken + 1 < 2 ^ 40
    → IsWithin (typed (b ∷ []) s) → Glides s 2 (typed (b ∷ []) s)
glides_byte b rest s typing plain next gives few within =
    glides_plain s (after_byte s) b typing.chosen (line_after s typing) (goes_byte b rest s typing (newline b plain) (escape b plain) next gives few)
    (reads_byte b rest s typing (newline b plain) (escape b plain) next gives few) plain within

-- ---- a run

-- each byte is plain
abbrev pub ArePlain : List ℕ → Type 0
ArePlain bs = All IsPlain bs

pub first_plain : (b : ℕ) (bs : List ℕ) → ArePlain (b ∷ bs) → IsPlain b
first_plain b bs plain = plain 0 0 (omega arith)

pub others_plain : (b : ℕ) (bs : List ℕ) → ArePlain (b ∷ bs) → ArePlain bs
others_plain b bs plain = λ k d below. plain (suc k) d (omega (arith, below))

-- a run within the limits is so before its end
within_prefix : (b : ℕ) (bs : List ℕ) (s : State) → IsWithin s → line_cells (collected (typed (b ∷ bs) s).formatter) ≤ s.formatter.line.limit → IsWithin (typed (b ∷ []) s)
within_prefix b bs s w fits = record {
  formatter = record {
    stored = w.formatter.stored;
    depth = w.formatter.depth;
    line = omega (
      arith,
      fits,
      line_cells-run (margins s.formatter) (present_look s.formatter.settings.fonts) b bs (collected s.formatter),
      line_cells-run (margins s.formatter) (present_look s.formatter.settings.fonts) b [] (collected s.formatter),
    );
    burst = omega arith;
  };
  page = w.page;
}

typing_on : (b : ℕ) (s : State) → IsTyping s → IsWithin (typed (b ∷ []) s) → IsTyping (typed (b ∷ []) s)
typing_on b s typing within = record {
  chosen = typing.chosen;
  line = record {
    springs = typing.line.springs;
    event = typing.line.event;
    task = typing.line.task;
    half = typing.line.half;
    begun = begun-cell (margins s.formatter) (run_cell (present_look s.formatter.settings.fonts) b) (collected s.formatter);
  };
  levels = typing.levels;
  within = within;
}

typed-more : (b : ℕ) (bs : List ℕ) (s : State) → typed bs (typed (b ∷ []) s) ≡ typed (b ∷ bs) s
typed-more b bs s = ap (λ c. record s { coming = c; formatter = run_put (b ∷ bs) (unburst s.formatter) }) (after_many-more (length bs) s.coming)

next_more : (b : ℕ) (bs rest : List ℕ) (c : Coming) → c.supply.bytes ≡ b ∷ rest → take (length bs) rest ≡ bs → ComeNext (b ∷ bs) c → ComeNext bs (after_many 1 c)
next_more b bs rest c is others next = record {
  bytes = rw is others;
  faults = may_give_more (length bs) c.supply.faults next.faults;
  few = omega (arith, next.few);
}

glides_last : (b : ℕ) (s : State) → IsTyping s → ArePlain (b ∷ []) → ComeNext (b ∷ []) s.coming
    → line_cells (collected (typed (b ∷ []) s).formatter) ≤ s.formatter.line.limit → Glides s 2 (typed (b ∷ []) s)
glides_last b s typing plain next fits =
    let prefix = prefix_more s.coming.supply.bytes b [] next.bytes in
    glides_byte b prefix.0 s typing (first_plain b [] plain) prefix.1 (may_give_one 0 s.coming.supply.faults next.faults) (omega (arith, next.few))
    (within_prefix b [] s typing.within fits)

pub glides_run : (b : ℕ) (bs : List ℕ) (s : State) → IsTyping s → ArePlain (b ∷ bs) → ComeNext (b ∷ bs) s.coming
    → line_cells (collected (typed (b ∷ bs) s).formatter) ≤ s.formatter.line.limit → Glides s (2 * length (b ∷ bs)) (typed (b ∷ bs) s)
glides_run b [] s typing plain next fits = glides_last b s typing plain next fits
glides_run b (x ∷ xs) s typing plain next fits =
    let prefix = prefix_more s.coming.supply.bytes b (x ∷ xs) next.bytes in
    let within = within_prefix b (x ∷ xs) s typing.within fits in
    let one = glides_byte b prefix.0 s typing (first_plain b (x ∷ xs) plain) prefix.1 (may_give_one (length (x ∷ xs)) s.coming.supply.faults next.faults) (omega (arith, next.few)) within in
    let more = glides_run x xs (typed (b ∷ []) s) (typing_on b s typing within) (others_plain b (x ∷ xs) plain)
    (next_more b (x ∷ xs) prefix.0 s.coming prefix.1 prefix.2 next) fits in
    let count : 2 + 2 * length (x ∷ xs) ≡ 2 * length (b ∷ x ∷ xs) = omega arith in
    subst (λ t. Glides s (2 * length (b ∷ x ∷ xs)) t) (typed-more b (x ∷ xs) s)
    (subst (λ n. Glides s n (typed (x ∷ xs) (typed (b ∷ []) s))) count
    (glides-add s 2 (2 * length (x ∷ xs)) (typed (b ∷ []) s) (typed (x ∷ xs) (typed (b ∷ []) s)) one more))

-- ---- the engine

may_give_prefix : (n m : ℕ) (f : Faults) → n ≤ m → MayGiveAll m f → MayGiveAll n f
may_give_prefix n m Never less h = tt
may_give_prefix n m (After k) less h = omega (arith, less, h)
may_give_prefix n m Anytime less h = tt

-- a prefix of the bytes that come next
pub come_prefix : (n : ℕ) (bs : List ℕ) (c : Coming) → n ≤ length bs → ComeNext bs c → ComeNext (take n bs) c
come_prefix n bs c less next =
    let count : length (take n bs) ≡ n = length-take-le n bs less in
    record {
      bytes = ap (λ k. take k c.supply.bytes) count ∙ sym (take-take n (length bs) c.supply.bytes less) ∙ ap (take n) next.bytes;
      faults = may_give_prefix (length (take n bs)) (length bs) c.supply.faults (omega (arith, count, less)) next.faults;
      few = omega (arith, count, less, next.few);
    }

-- the bytes were read and put
abbrev pub run_shape : List ℕ → Shape → Shape
run_shape bs e = record e { formatter = run_put bs (unburst e.formatter); place = passed_many (length bs) e.place }

pub stands_typing : (supply : Option Supply) (s : State) (e : Shape) → Stands [] supply s e → is_in_line e.formatter ≡ true → e.formatter.store.levels ≡ [] → IsTyping (at e s)
stands_typing supply s e h line levels = record { chosen = h.chosen_is; line = in_line e.formatter line; levels = levels; within = h.within }

within_run : (b : ℕ) (bs : List ℕ) (s : State) → IsWithin s → line_cells (collected (typed (b ∷ bs) s).formatter) ≤ s.formatter.line.limit → IsWithin (typed (b ∷ bs) s)
within_run b bs s w fits = record {
  formatter = record { stored = w.formatter.stored; depth = w.formatter.depth; line = fits; burst = omega arith };
  page = w.page;
}

-- the moves
glided : (b : ℕ) (bs : List ℕ) (e : Shape) (supply supply' : Option Supply) (held : Option (List ℕ)) (s : State) → Stands [] supply s e
    → is_in_line e.formatter ≡ true → e.formatter.store.levels ≡ [] → ArePlain (b ∷ bs)
    → ((c : Coming) → HoldsComing c e.place supply → ComeNext (b ∷ bs) c)
    → line_cells (collected (run_put (b ∷ bs) e.formatter)) ≤ e.formatter.line.limit
    → ((c : Coming) → HoldsComing c e.place supply → HoldsComing (after_many (length (b ∷ bs)) c) (passed_many (length (b ∷ bs)) e.place) supply')
    → Made [] (at e s) (2 * length (b ∷ bs)) (run_shape (b ∷ bs) e) supply' held held
glided b bs e supply supply' held s h line levels plain next fits afterwards =
    let glides = glides_run b bs (at e s) (stands_typing supply s e h line levels) plain (next s.coming h.coming) fits in
    let within = within_run b bs (at e s) h.within fits in
    let holds : Holds [] supply' (typed (b ∷ bs) (at e s)) (run_shape (b ∷ bs) e) =
    holds_of supply' (typed (b ∷ bs) (at e s)) (run_shape (b ∷ bs) e) refl h.chosen_is (afterwards s.coming h.coming) h.row h.page h.page_limit h.select h.faces within in
    record {
      runs = glides.runs;
      holds = rw glides.leads holds;
      wrote = wrote_nothing (at e s) _ held (ap (λ t. t.pages) glides.leads);
    }

-- ---- what the moves cost

-- each byte pays 512, and the first what splices may cost
pub paid : (w n t : ℕ) → 0 < n → (w + 512) * t + (w + 512 * n) ≤ (w + 512) * (t + n)
paid w n t some =
    let once = mul-le w 1 w n (omega arith) some in
    let all : (w + 512) * (t + n) ≡ (w + 512) * t + (w * n + 512 * n) = grind arith in
    omega (arith, once, all)

-- 20 moves more are paid
pub run_saves : (bs : List ℕ) (e : Shape) → 0 < length bs → Saves 20 (2 * length bs) e (run_shape bs e)
unfolding weights.weight weights.steps_left weights.owed
run_saves bs e some =
    omega (
      arith,
      some,
      weight-run (margins e.formatter) (present_look e.formatter.settings.fonts) bs (collected e.formatter),
      paid (expansions_worth e.formatter.reader.most 0 e.formatter.store.limit) (length bs) e.place.taken some,
    )

-- bytes at hand that are plain, in a line that has begun
pub makes_run : (bs : List ℕ) (e : Shape) (supply supply' : Option Supply) → 0 < length bs → is_in_line e.formatter ≡ true → e.formatter.store.levels ≡ [] → ArePlain bs
    → ((c : Coming) → HoldsComing c e.place supply → ComeNext bs c)
    → line_cells (collected (run_put bs e.formatter)) ≤ e.formatter.line.limit
    → ((c : Coming) → HoldsComing c e.place supply → HoldsComing (after_many (length bs) c) (passed_many (length bs) e.place) supply')
    → Makes (2 * length bs) e (run_shape bs e) supply supply'
makes_run [] e supply supply' some line levels plain next fits afterwards = absurd (omega (arith, some))
makes_run (b ∷ bs) e supply supply' some line levels plain next fits afterwards = record {
  makes = λ held s h. glided b bs e supply supply' held s h line levels plain next fits afterwards;
  limit = refl;
  most = refl;
  limits = refl;
  spends = (let saves = run_saves (b ∷ bs) e some in omega (arith, saves));
}

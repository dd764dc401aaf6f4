-- Bytes that are spliced and read with no level opened for them, as moves of the machine that reads: a level that brings them is
-- opened, they are read, and its end is taken.
use Rattle.std.specs.Prelude.{map, nat_le, nat_lt, OnOk}
use Rattle.std.proofs.Common.{◌≡◌, ◌==◌, ℕ, ◌+◌, ◌*◌, ◌<◌, ◌≤◌, Bool, true, false, List, [], ◌∷◌, length, take, drop, All, Option, None, Ok, inl, inr, sum_by, refl, ap, ap₂, sym, ◌∙◌, subst, length-append, arith, Result, Err, if◌then◌else◌}
use Rattle.std.proofs.lemmas.Bool.{cases_lt, cases_Bool, le-ltb, lt-leb, eq-eqb}
use Rattle.std.proofs.lemmas.List.{length-map, length-take, take_all, drop_all}
use Rattle.std.proofs.lemmas.List.Sums.{sum_by-cons}
use Rattle.nr_units.specs.Source.{Supply}
use Rattle.nr_levels.specs.Gathering.{Gathered, gathered_len, with_bytes}
use Rattle.nr_levels.specs.Laws.{with_bytes-full, with_bytes-more}
use Rattle.nr_store.specs.Store.{Stored, Built, Level, Read, Shared, charge_of, checked, level_charge, text_charge, own_text, reading, reading_bytes, weight, longer, on_newest}
use Rattle.nr_store.specs.Windows.{rest_of, left_times}
use Rattle.nr_store.specs.Laws.{left_times-run}
use Rattle.nr_store.specs.declared.element.Element.{Element}
use Rattle.nr_store.specs.declared.element.Element.TheVariants as elements
use Rattle.nr_store.specs.declared.refusal.Refusal as stored
use Rattle.nr_store.specs.declared.refusal.Refusal.TheVariants as stores
use Rattle.nr_reading.specs.declared.event.Event.{Event}
use Rattle.nr_reading.specs.declared.event.Event.TheVariants as events
use Rattle.nr_reading.specs.declared.next_item.NextItem.TheVariants as next_items
use Rattle.nr_reading.specs.declared.mode.PendingAct.TheVariants as pending_acts
use Rattle.nr_reading.specs.Many.InArgument.{ending_of, IsPlain}
use Rattle.nr_reading.specs.Half.{TakenIn, take_in, silent}
use Rattle.nr_reading.specs.Many.Runs.{Spot, HasTakenIn}
use Rattle.nr_reading.proofs.Marks.{take_in-mark}
use Rattle.nr_input.specs.declared.reader.Reader.{Reader}
use Rattle.fast_input.specs.declared.target.Target.{Target}
use Rattle.fast_input.specs.declared.target.Target.TheVariants.{Argument, Text}
use Rattle.nr_input.specs.declared.emitted.Emitted.TheVariants as tells
use Rattle.nr_input.specs.declared.refusal.Refusal.{Refusal}
use Rattle.nr_input.specs.Acting.{Acted, expanded, is_look}
use Rattle.nr_input.specs.Place.{Coming, Reached, HoldsComing, element_item}
use Rattle.fast_input.specs.Interpolations.{HasRoom, IsSplice}
use Rattle.nr_input.specs.Moving.{Situation, situation, taken_in_at, move, Goes}
use Rattle.nr_input.specs.Refusal.{called, acted, acted_by, splicing_by, splicing_answer}
use Rattle.fast_input.specs.Runs.{HasRead, PaysAll, moves, emitted_last}
use Rattle.fast_input.specs.Target.{is_read_for, with_more}
use Rattle.nr_input.specs.Weights.{items_in}
use Rattle.fast_input.proofs.ControlLines.{then_read, quietly_add, done_quietly, pays_then, pays_once}
use Rattle.fast_input.proofs.Putting.{Quietly, quiet, one_more, no_moves, has_read_quietly}
use Rattle.fast_input.proofs.PuttingLevel.{ArePrefix, level_added, level_added_pays}
use Rattle.fast_input.proofs.StretchMoves.{reads_nothing}
use Rattle.fast_input.proofs.StretchesRead.{level_read, level_pays, bytes_are}
use Rattle.nr_input.proofs.Spending.{act_pays}
use Rattle.fast_input.proofs.Targets.{limit-with_more, nothing_added}

-- ---- moves that tell nothing, from what was read

-- where what was read leads
pub record LedTo {K : Type 0} (n : ℕ) (s : Situation K) (v : Stored K) (r : Reader) (p : Reached) (supply : Option Supply) : Type 0 where
  pub coming : Coming
  pub quietly : Quietly n s (situation v coming r)
  pub holds : HoldsComing coming p supply

pub led_to : {K : Type 0} (n : ℕ) (s : Situation K) (v : Stored K) (r : Reader) (p : Reached) (supply : Option Supply) → HasRead n s events.Nothing v r p supply → LedTo n s v r p supply
led_to {K} n s v r p supply read = record {
  coming = (moves n s).coming;
  quietly = record {
    goes = read.goes;
    silent = λ k few. elim (cases_lt k n) [
      | inl below ↦ read.quiet k below
      | inr last ↦ let same : n ≡ k = omega (arith, few, last) in subst (λ j. emitted_last j s ≡ tells.Event events.Nothing) same read.tells
    ];
    leads = ap₂ (λ (x : Stored K) (y : Reader). situation x (moves n s).coming y) (sym read.stands.stored) (sym read.stands.reader);
  };
  holds = read.stands.coming;
}

-- what is read after what was read and emitted nothing
pub read_then : {K : Type 0} (m n : ℕ) (s : Situation K) (e : Event) (v w : Stored K) (r q : Reader) (p o : Reached) (supply rest : Option Supply)
    → HasRead n s events.Nothing v r p supply → ((c : Coming) → HoldsComing c p supply → HasRead m (situation v c r) e w q o rest) → HasRead (n + m) s e w q o rest
read_then m n s e v w r q p o supply rest first more =
    let led = led_to n s v r p supply first in
    let same : m + n ≡ n + m = omega arith in
    subst (λ k. HasRead k s e w q o rest) same (then_read m n s (situation v led.coming r) e w q o rest led.quietly (more led.coming led.holds))

-- no move
pub pays_nothing : {K : Type 0} (v : Stored K) (p : Reached) (r : Reader) → PaysAll 0 v p r events.Nothing v p r
pays_nothing v p r = record { limit = refl; diversions = refl; most = refl; pays = λ worth enough. omega arith; tells = refl }

-- ---- a level is opened

-- what it is charged
pub charge-reading : {K : Type 0} (bytes : List ℕ) (v : Stored K) → charge_of (reading_bytes bytes v) ≡ charge_of v + (32 + length bytes)
charge-reading {K} bytes v =
    let level : Level K = Read (record { rest = map elements.Byte bytes; old = v.arguments; charge = 32 + length bytes; resume = None }) in
    omega (arith, sum_by-cons level_charge level v.levels, sum_by-cons text_charge own_text v.texts)

-- whether it is, by the tests that it meets
allowed : (charged deep : Bool) (r : Reader) → charged ≡ false → deep ≡ false → nat_le r.most r.burst ≡ false
    → splicing_by (if charged then Err stores.Stored else (if deep then Err stores.Depth else Ok true)) r ≡ Ok tt
allowed charged deep r few shallow less = rw (few, shallow, less) refl

pub splicing-fits : {K : Type 0} (w : Stored K) (r : Reader) → charge_of w ≤ w.limit → length w.levels ≤ w.deepest → r.burst < r.most → splicing_answer true w r ≡ Ok tt
splicing-fits w r charge depth burst =
    allowed (nat_lt w.limit (charge_of w)) (nat_lt w.deepest (length w.levels)) r (le-ltb w.limit (charge_of w) charge) (le-ltb w.deepest (length w.levels) depth) (lt-leb r.most r.burst burst)

pub splicing-allowed : {K : Type 0} (bytes : List ℕ) (v : Stored K) (r : Reader) → HasRoom bytes v r → splicing_answer true (reading_bytes bytes v) r ≡ Ok tt
splicing-allowed bytes v r room =
    let is = charge-reading bytes v in
    let charge = room.charge in
    let depth = room.depth in
    splicing-fits (reading_bytes bytes v) r (omega (arith, is, charge)) (omega (arith, depth)) room.burst

-- the same, as the program opens it
opens_by : {X : Type 0} (charged deep : Bool) (x : X) → charged ≡ false → deep ≡ false → (if charged then Err stores.Stored else (if deep then Err stores.Depth else Ok x)) ≡ Ok x
opens_by charged deep x few shallow = rw (few, shallow) refl

pub checked-ok : {K X : Type 0} (y : Stored K) (x : X) → charge_of y ≤ y.limit → length y.levels ≤ y.deepest → checked y x ≡ Ok x
checked-ok y x charge depth = opens_by (nat_lt y.limit (charge_of y)) (nat_lt y.deepest (length y.levels)) x (le-ltb y.limit (charge_of y) charge) (le-ltb y.deepest (length y.levels) depth)

pub entered_bytes : {K : Type 0} (bytes : List ℕ) (w u : Stored K) (x : Result (Unit {0}) stored.Refusal) → charge_of w + (32 + length bytes) ≤ w.limit → length w.levels < w.deepest
    → x ≡ checked (reading_bytes bytes w) tt → OnOk x (u ≡ reading_bytes bytes w) → u ≡ reading_bytes bytes w
entered_bytes bytes w u x charge depth is ok =
    let y = reading_bytes bytes w in
    let charged = charge-reading bytes w in
    let opens : checked y tt ≡ Ok tt = checked-ok y tt (omega (arith, charged, charge)) (omega (arith, depth)) in
    subst (λ (z : Result (Unit {0}) stored.Refusal). OnOk z (u ≡ y)) (is ∙ opens) ok

module _ {K : Type 0} (bytes : List ℕ) (v : Stored K) (r : Reader) (splice : IsSplice bytes v r) (room : HasRoom bytes v r) where
  acts_so : called (reading_bytes bytes v) (expanded r) (Ok events.Nothing) ≡ acted r.half.reading.pending_act v r
  acts_so = sym (ap₂ (λ (x : Result (Unit {0}) Refusal) (a : Acted K). acted_by x a v r) (splice.answers ∙ splicing-allowed bytes v r room) splice.acts)

  pub opened_quietly : (c : Coming) → Quietly 1 (situation v c r) (situation (reading_bytes bytes v) c (expanded r))
  opened_quietly c = done_quietly v (reading_bytes bytes v) c r (expanded r) events.Nothing splice.waits acts_so refl

  looks_not : r.half.reading.pending_act ≡ pending_acts.Look → ⊥
  looks_not look = let wrong : true ≡ false = sym (ap is_look look) ∙ splice.waits in cc

  pub opened_pays : (q : Reached) → PaysAll 1 v q r events.Nothing (reading_bytes bytes v) q (expanded r)
  opened_pays q = pays_once v (reading_bytes bytes v) q q r (expanded r) events.Nothing refl refl (act_pays v (reading_bytes bytes v) q r (expanded r) events.Nothing looks_not acts_so)

-- ---- its end is taken

-- with a level of bytes, whatever is in force in it and it is charged
abbrev pub level_of : {K : Type 0} → List ℕ → List (List ℕ) → ℕ → Shared → Stored K → Stored K
level_of bytes arguments charge shared v = reading (map elements.Byte bytes) arguments charge None shared v

module _ {K : Type 0} (n : ℕ) (bytes : List ℕ) (arguments : List (List ℕ)) (charge : ℕ) (shared : Shared) (v : Stored K) (all : n ≡ length bytes) where
  abbrev level : Stored K
  level = level_of bytes arguments charge shared v

  abbrev emptied : Stored K
  emptied = record level { levels = Read (record { rest = []; old = v.arguments; charge = charge; resume = None }) ∷ v.levels }

  -- all of the text was read
  all_left : left_times n level ≡ emptied
  all_left =
      let few : n ≤ length (rest_of level.levels) = omega (arith, all, length-map bytes elements.Byte) in
      let none : drop n (map elements.Byte bytes) ≡ [] = drop_all n (map elements.Byte bytes) (omega (arith, all, length-map bytes elements.Byte)) in
      left_times-run n level few
      ∙ ap (λ (xs : List Element). let l : Level K = Read (record { rest = xs; old = v.arguments; charge = charge; resume = None }) in record level { levels = l ∷ v.levels }) none

  module _ (r : Reader) (pending_act : r.half.reading.pending_act ≡ pending_acts.Look) where
    end_taken : (c : Coming) → move (situation emptied c r) ≡ quiet (situation v c r)
    end_taken c =
        let s = situation emptied c r in
        let looks : move s ≡ taken_in_at (take_in next_items.Mark r.half) s = rw pending_act refl in
        let taken : taken_in_at (silent r.half) s ≡ quiet (situation v c r) = rw (eq-eqb c.taken c.taken refl) refl in
        looks ∙ ap (λ (m : TakenIn). taken_in_at m s) (take_in-mark r.half) ∙ taken

    end_goes : (c : Coming) → Goes (situation emptied c r)
    end_goes c = rw pending_act tt

    pub end_quietly : (c : Coming) → Quietly 1 (situation (left_times n level) c r) (situation v c r)
    end_quietly c =
        subst (λ (w : Stored K). Quietly 1 (situation w c r) (situation v c r)) (sym all_left)
        (one_more 0 (situation emptied c r) (situation emptied c r) (situation v c r) (no_moves (situation emptied c r)) (end_goes c) (end_taken c))

    pub end_pays : (q : Reached) → PaysAll 1 (left_times n level) q r events.Nothing v q r
    end_pays q =
        let ended : Level K = Read (record { rest = []; old = v.arguments; charge = charge; resume = None }) in
        subst (λ (w : Stored K). PaysAll 1 w q r events.Nothing v q r) (sym all_left)
        (record {
          limit = refl;
          diversions = refl;
          most = refl;
          pays = λ worth enough. omega (arith, sum_by-cons items_in ended v.levels);
          tells = refl;
        })

-- ---- a level is opened, its bytes are read, and its end is taken, or not

module _ {K : Type 0} (n m : ℕ) (bytes : List ℕ) (v w : Stored K) (r r1 r2 : Reader) (e : Event) (splice : IsSplice bytes v r) (room : HasRoom bytes v r) (counted : r1 ≡ expanded r)
    (reads : (c : Coming) (p : Reached) (supply : Option Supply) → HoldsComing c p supply → HasRead m (situation (reading_bytes bytes v) c r1) e (left_times n (reading_bytes bytes w)) r2 p supply)
    (pays : (p : Reached) → PaysAll m (reading_bytes bytes v) p r1 e (left_times n (reading_bytes bytes w)) p r2) where
  pub spliced_read : (c : Coming) (p : Reached) (supply : Option Supply) → HoldsComing c p supply → HasRead (m + 1) (situation v c r) e (left_times n (reading_bytes bytes w)) r2 p supply
  spliced_read c p supply holds =
      then_read m 1 (situation v c r) (situation (reading_bytes bytes v) c (expanded r)) e (left_times n (reading_bytes bytes w)) r2 p supply (opened_quietly bytes v r splice room c)
      (subst (λ (q : Reader). HasRead m (situation (reading_bytes bytes v) c q) e (left_times n (reading_bytes bytes w)) r2 p supply) counted (reads c p supply holds))

  pub spliced_pays : (p : Reached) → PaysAll (m + 1) v p r e (left_times n (reading_bytes bytes w)) p r2
  spliced_pays p = pays_then m 1 v (reading_bytes bytes v) (left_times n (reading_bytes bytes w)) p p p r (expanded r) r2 e (opened_pays bytes v r splice room p)
      (subst (λ (q : Reader). PaysAll m (reading_bytes bytes v) p q e (left_times n (reading_bytes bytes w)) p r2) counted (pays p))

  module _ (emitted : e ≡ events.Nothing) (all : n ≡ length bytes) (pending_act : r2.half.reading.pending_act ≡ pending_acts.Look) where
    pub whole_read : (c : Coming) (p : Reached) (supply : Option Supply) → HoldsComing c p supply → HasRead (m + 2) (situation v c r) events.Nothing w r2 p supply
    whole_read c p supply holds =
        let first = subst (λ (x : Event). HasRead (m + 1) (situation v c r) x (left_times n (reading_bytes bytes w)) r2 p supply) emitted (spliced_read c p supply holds) in
        let led = led_to (m + 1) (situation v c r) (left_times n (reading_bytes bytes w)) r2 p supply first in
        let same : 1 + (m + 1) ≡ m + 2 = omega arith in
        subst (λ k. HasRead k (situation v c r) events.Nothing w r2 p supply) same
        (has_read_quietly (1 + (m + 1)) (situation v c r) (situation w led.coming r2) w r2 p supply
        (quietly_add 1 (m + 1) (situation v c r) (situation (left_times n (reading_bytes bytes w)) led.coming r2) (situation w led.coming r2) led.quietly (end_quietly n bytes w.arguments (32 + length bytes) own_text w all r2 pending_act led.coming))
        (record { stored = refl; reader = refl; coming = led.holds }))

    pub whole_pays : (p : Reached) → PaysAll (m + 2) v p r events.Nothing w p r2
    whole_pays p =
        let first = subst (λ (x : Event). PaysAll (m + 1) v p r x (left_times n (reading_bytes bytes w)) p r2) emitted (spliced_pays p) in
        let same : 1 + (m + 1) ≡ m + 2 = omega arith in
        subst (λ k. PaysAll k v p r events.Nothing w p r2) same
        (pays_then 1 (m + 1) v (left_times n (reading_bytes bytes w)) w p p p r r2 r2 events.Nothing first (end_pays n bytes w.arguments (32 + length bytes) own_text w all r2 pending_act p))

-- ---- its bytes are taken in

module _ {K : Type 0} (m : ℕ) (bytes : List ℕ) (v : Stored K) (r : Reader) (p : Spot) (taken_in : HasTakenIn m (map next_items.Byte bytes) r.half p) where
  taken_in_level : HasTakenIn m (map element_item (rest_of (reading_bytes bytes v).levels)) r.half p
  taken_in_level = subst (λ fs. HasTakenIn m fs r.half p) (bytes_are bytes) taken_in

  pub taken_in_read : (c : Coming) (q : Reached) (supply : Option Supply) → HoldsComing c q supply
      → HasRead m (situation (reading_bytes bytes v) c r) p.event (left_times p.taken (reading_bytes bytes v)) (record r { half = p.half }) q supply
  taken_in_read c q supply holds = level_read (reading_bytes bytes v) c r q supply m p taken_in_level holds

  pub taken_in_pays : (q : Reached) → PaysAll m (reading_bytes bytes v) q r p.event (left_times p.taken (reading_bytes bytes v)) q (record r { half = p.half })
  taken_in_pays q = level_pays m (reading_bytes bytes v) (left_times p.taken (reading_bytes bytes v)) q r p taken_in_level refl

  pub taken_in_within : p.taken ≤ length bytes
  taken_in_within = omega (arith, taken_in.within, length-map bytes next_items.Byte)

-- ---- they are added

gathered_len-most : (xs : List ℕ) (g : Gathered) → gathered_len (with_bytes xs g) ≤ gathered_len g + length xs
gathered_len-most xs g = elim (cases_Bool (length g.kept == 9)) [
  | inl full ↦ let x = ap gathered_len (with_bytes-full xs g full) in omega (arith, x)
  | inr more ↦ let x = ap gathered_len (with_bytes-more xs g more) in omega (arith, x, length-append g.last xs)
]

longer-most : (xs : List Element) (bs : List Built) → sum_by (λ (b : Built). weight b.text) (on_newest (longer xs) bs) ≤ sum_by (λ (b : Built). weight b.text) bs + length xs
longer-most xs [] = omega arith
longer-most xs (b ∷ bs) =
    let cost = λ (d : Built). weight d.text in omega (arith, sum_by-cons cost (longer xs b) bs, sum_by-cons cost b bs, length-append b.text xs)

-- what they are charged
pub charge-more : {K : Type 0} (t : Target) (bs : List ℕ) (v : Stored K) → charge_of (with_more t bs v) ≤ charge_of v + length bs
charge-more Argument bs v = let most = gathered_len-most bs v.gathered in omega (arith, most)
charge-more Text bs v = let most = longer-most (map elements.Byte bs) v.building in omega (arith, most, length-map bs elements.Byte)

-- a level is nothing to what is added
more-reading : {K : Type 0} (t : Target) (xs bytes : List ℕ) (v : Stored K) → with_more t xs (reading_bytes bytes v) ≡ reading_bytes bytes (with_more t xs v)
more-reading Argument xs bytes v = refl
more-reading Text xs bytes v = refl

module _ {K : Type 0} (t : Target) (n : ℕ) (bytes : List ℕ) (v w : Stored K) (r : Reader) (added : w ≡ with_more t (take n bytes) v) (within : n ≤ length bytes) where
  -- after the bytes that were added, in their level
  after_added : left_times n (with_more t (take n bytes) (reading_bytes bytes v)) ≡ left_times n (reading_bytes bytes w)
  after_added = ap (left_times n) (more-reading t (take n bytes) bytes v ∙ ap (reading_bytes bytes) (sym added))

  pub added_room : charge_of v + (32 + 2 * length bytes) ≤ v.limit → charge_of w + (32 + length bytes) ≤ w.limit
  added_room room =
      let is = ap (λ (x : Stored K). charge_of x) added in
      let limits = ap (λ (x : Stored K). x.limit) added ∙ limit-with_more t (take n bytes) v in
      omega (arith, room, is, limits, charge-more t (take n bytes) v, length-take n bytes, within)

  pub added_pays : (q : Reached) → PaysAll (2 * n) (reading_bytes bytes v) q r events.Nothing (left_times n (reading_bytes bytes w)) q r
  added_pays q =
      level_added_pays t n (take n bytes) (reading_bytes bytes v) (left_times n (reading_bytes bytes w)) q r (omega (arith, within, length-map bytes elements.Byte)) (sym after_added)

  module _ (reads : is_read_for t r.half ≡ true) (plain : All (IsPlain (ending_of r.half.reading.mode)) (take n bytes)) (room : charge_of v + (32 + 2 * length bytes) ≤ v.limit) where
    fits_there : charge_of (with_more t (take n bytes) (reading_bytes bytes v)) ≤ (reading_bytes bytes v).limit
    fits_there = omega (arith, room, charge-more t (take n bytes) (reading_bytes bytes v), charge-reading bytes v, length-take n bytes, within)

    prefix : ArePrefix bytes (rest_of (reading_bytes bytes v).levels)
    prefix = sym (take_all (length bytes) (map elements.Byte bytes) (omega (arith, length-map bytes elements.Byte)))

    none_added : n ≡ 0 → (c : Coming) (q : Reached) (supply : Option Supply) → HoldsComing c q supply → HasRead (2 * n) (situation (reading_bytes bytes v) c r) events.Nothing (left_times n (reading_bytes bytes w)) r q supply
    none_added none c q supply holds =
        let zero_moves : 0 ≡ 2 * n = omega (arith, none) in
        let same : left_times n (reading_bytes bytes w) ≡ reading_bytes bytes v =
        ap (λ k. left_times k (reading_bytes bytes w)) none ∙ ap (reading_bytes bytes) (nothing_added t n bytes v w none added) in
        subst (λ k. HasRead k (situation (reading_bytes bytes v) c r) events.Nothing (left_times n (reading_bytes bytes w)) r q supply) zero_moves
        (reads_nothing (situation (reading_bytes bytes v) c r) (left_times n (reading_bytes bytes w)) r q supply (record { stored = same; reader = refl; coming = holds }))

    pub added_read : (c : Coming) (q : Reached) (supply : Option Supply) → HoldsComing c q supply → HasRead (2 * n) (situation (reading_bytes bytes v) c r) events.Nothing (left_times n (reading_bytes bytes w)) r q supply
    added_read c q supply holds = elim (cases_lt 0 n) [
      | inl some ↦
          subst (λ (x : Stored K). HasRead (2 * n) (situation (reading_bytes bytes v) c r) events.Nothing x r q supply) after_added
          (level_added t n (reading_bytes bytes v) c r bytes reads some within plain fits_there q supply holds prefix)
      | inr few ↦ none_added (omega (arith, few)) c q supply holds
    ]

-- What is gathered of a text line, as moves of the machine that reads.
use Rattle.std.specs.Prelude.{map, slice_get, slice_index}
use Rattle.std.specs.Option.{option_map}
use Rattle.std.proofs.Common.{◌≡◌, ℕ, zero, suc, ◌+◌, ◌-◌, ◌*◌, ◌<◌, ◌≤◌, true, List, [], ◌∷◌, ◌++◌, length, take, drop, get_or, Option, None, Some, inl, inr, refl, ap, ap₂, sym, ◌∙◌, subst, length-append, length-drop, arith, Bool, false}
use Rattle.std.proofs.Math.Seq.{take-append_seam, drop-append_seam}
use Rattle.std.proofs.lemmas.Bool.{cases_lt}
use Rattle.std.proofs.lemmas.List.{drop-append-le, get_or_append_left, get_or-append-add, length-map, length-take, length-take-le, take-append-le, take_all}
use Rattle.std.proofs.lemmas.Option.{slice_get-get_or, slice_get-map, slice_get_past, slice_get_within}
use Rattle.nr_levels.specs.Levels.{argument}
use Rattle.nr_symbol_tables.specs.Table.{find}
use Rattle.nr_store.specs.Store.{Stored, Level, Read, Mark, charge_of, register_of, words}
use Rattle.nr_store.specs.Windows.{rest_of, left_times, levels_after, run_left}
use Rattle.nr_store.specs.Laws.{left_times-run}
use Rattle.nr_store.specs.declared.element.Element.{Element}
use Rattle.nr_store.specs.declared.element.Element.TheVariants as elements
use Rattle.nr_reading.specs.declared.ask.Sign.TheVariants as signs
use Rattle.nr_reading.specs.declared.event.Event.TheVariants as events
use Rattle.nr_reading.specs.declared.next_item.NextItem.{NextItem}
use Rattle.nr_reading.specs.declared.next_item.NextItem.TheVariants as next_items
use Rattle.nr_reading.specs.declared.half.Half.{Half}
use Rattle.nr_reading.specs.declared.mode.PendingAct.{PendingAct}
use Rattle.nr_reading.specs.declared.mode.PendingAct.TheVariants as pending_acts
use Rattle.nr_reading.specs.Many.Interpolations.{AsksOnly}
use Rattle.nr_reading.specs.Many.Runs.{HasTakenIn}
use Rattle.fast_input.specs.declared.gathering.Gathered.{Gathered}
use Rattle.nr_input.specs.declared.reader.Reader.{Reader}
use Rattle.fast_input.specs.declared.splices.Splice.{Splice}
use Rattle.nr_input.specs.Acting.{expanded, register_text}
use Rattle.nr_input.specs.Place.{element_item}
use Rattle.fast_input.specs.Stretches.{AreBytes, EndsRun}
use Rattle.fast_input.specs.Gathering.{AreGathered, AreItems, IsGathering, IsSpliced, LeadsInText, Leaves, StopsGathering, bytes_before, last_asked, own_bytes, passed, spliced}
use Rattle.fast_input.specs.Interpolations.{HasRoom, MaySplice, OpensLevel, brings_text, opened, opened_pending}
use Rattle.nr_input.specs.Moving.{situation}
use Rattle.fast_input.specs.Runs.{PaysAll}
use Rattle.fast_input.proofs.ControlLines.{pays_then}
use Rattle.fast_input.proofs.Interpolated.{read_then}
use Rattle.fast_input.proofs.LevelStretches.{left_times-add, rest-left_times, stretch_after}
use Rattle.fast_input.proofs.Putting.{has_read_quietly}
use Rattle.fast_input.proofs.PuttingLevel.{charge-afterwards}
use Rattle.fast_input.proofs.StretchesRead.{level_read, level_pays, taken-le}
use Rattle.fast_input.proofs.SplicesLie.{last_asked-more}
use Rattle.fast_input.proofs.TextBytes.{AreNext, leaves_all, leaves_nothing, leaves_on, slice_get-drop}
use Rattle.fast_input.proofs.TextOpened.{charge-opened, deepest-opened, depth-opened, ended_leads, limit-opened, opens_pays, opens_quietly, stored-opened}
use Rattle.fast_input.proofs.TextLeft.{next_within, own_next, spliced_none, take_split}

-- ---- what is to be spliced

pub argument_splice : {K : Type 0} (n : ℕ) (bytes : List ℕ) (v : Stored K) (r : Reader) → r.half.reading.pending_act ≡ pending_acts.Argument n → bytes ≡ argument v.arguments n → OpensLevel bytes v r
argument_splice n bytes v r pending_act is = record { waits = rw pending_act refl; acts = rw (pending_act, is) refl; answers = rw (pending_act, is) refl; text = λ wrong. absurd (let no : false ≡ true = sym (ap brings_text pending_act) ∙ wrong in cc) }

pub register_splice : {K : Type 0} (bytes : List ℕ) (v : Stored K) (r : Reader) → r.half.reading.pending_act ≡ pending_acts.Register signs.None → bytes ≡ register_text (register_of (find r.half.notes.asked v.registers)) → OpensLevel bytes v r
register_splice bytes v r pending_act is = record { waits = rw pending_act refl; acts = rw (pending_act, is) refl; answers = rw (pending_act, is) refl; text = λ wrong. absurd (let no : false ≡ true = sym (ap brings_text pending_act) ∙ wrong in cc) }

pub string_splice : {K : Type 0} (bytes : List ℕ) (v : Stored K) (r : Reader) → r.half.reading.pending_act ≡ pending_acts.Splice → words (find r.half.notes.asked v.names) ≡ Some (map elements.Byte bytes) → OpensLevel bytes v r
string_splice bytes v r pending_act is = record { waits = rw pending_act refl; acts = rw (pending_act, is) refl; answers = rw (pending_act, is) refl; text = λ named. is }

pub depth-afterwards : {K : Type 0} (n : ℕ) (levels : List (Level K)) → length (levels_after n levels) ≡ length levels
depth-afterwards n [] = refl
depth-afterwards n (Read l ∷ ls) = refl
depth-afterwards n (Mark mode ∷ ls) = refl

-- it may be, wherever the newest level stands
module _ {K : Type 0} (n : ℕ) (bytes : List ℕ) (v : Stored K) (r : Reader) (few : n ≤ length (rest_of v.levels)) (charge : charge_of v + (32 + 2 * length bytes) ≤ v.limit) (depth : length v.levels < v.deepest) (burst : r.burst < r.most) where
  room_after : HasRoom bytes (run_left n v) r
  room_after = record { charge = omega (arith, charge, charge-afterwards n v.levels); depth = omega (arith, depth, depth-afterwards n v.levels); burst = burst }

  pub argument_may : (k : ℕ) → r.half.reading.pending_act ≡ pending_acts.Argument k → bytes ≡ argument v.arguments k → MaySplice bytes (left_times n v) r
  argument_may k pending_act is = subst (λ (w : Stored K). MaySplice bytes w r) (sym (left_times-run n v few)) (record { splice = argument_splice k bytes (run_left n v) r pending_act is; room = room_after })

  pub register_may : r.half.reading.pending_act ≡ pending_acts.Register signs.None → bytes ≡ register_text (register_of (find r.half.notes.asked v.registers)) → MaySplice bytes (left_times n v) r
  register_may pending_act is = subst (λ (w : Stored K). MaySplice bytes w r) (sym (left_times-run n v few)) (record { splice = register_splice bytes (run_left n v) r pending_act is; room = room_after })

  pub string_may : r.half.reading.pending_act ≡ pending_acts.Splice → words (find r.half.notes.asked v.names) ≡ Some (map elements.Byte bytes) → MaySplice bytes (left_times n v) r
  string_may pending_act is = subst (λ (w : Stored K). MaySplice bytes w r) (sym (left_times-run n v few)) (record { splice = string_splice bytes (run_left n v) r pending_act is; room = room_after })

-- ---- an escape leads into a level of bytes

module _ {K : Type 0} (n : ℕ) (own : List ℕ) (x : Stored K) (q : Reader) (t : ℕ) (h : Half) (taken_in : HasTakenIn n (map element_item (rest_of x.levels)) q.half (record { taken = t; half = h; event = events.Nothing }))
    (asks : AsksOnly q.half h) (look : q.half.reading.pending_act ≡ pending_acts.Look) (may : MaySplice own (left_times t x) (record q { half = h })) where
  abbrev there : Stored K
  there = left_times t x

  abbrev pending_act : Reader
  pending_act = record q { half = h }

  pub taken_in_within : t ≤ length (rest_of x.levels)
  taken_in_within = let within = taken_in.within in omega (arith, within, length-map (rest_of x.levels) element_item)

  pub expanded_is : expanded pending_act ≡ record q { half = record q.half { notes = record q.half.notes { asked = h.notes.asked } }; burst = q.burst + 1 }
  expanded_is =
      ap (λ (g : Half). record q { half = record g { reading = record g.reading { pending_act = pending_acts.Look } }; burst = q.burst + 1 }) asks
      ∙ ap (λ (d : PendingAct). record q { half = record q.half { reading = record q.half.reading { pending_act = d }; notes = record q.half.notes { asked = h.notes.asked } }; burst = q.burst + 1 }) (sym look)

  abbrev named : Bool
  named = brings_text h.reading.pending_act

  abbrev level_pending : Stored K
  level_pending = opened_pending own there pending_act

  pub escape_leads : LeadsInText (n + 1) x q level_pending (expanded pending_act)
  escape_leads =
      let same : 1 + n ≡ n + 1 = omega arith in
      let room = may.room in
      let charge = room.charge in
      let depth = room.depth in
      record {
        reads = λ c p supply holds.
            read_then 1 n (situation x c q) events.Nothing there level_pending pending_act (expanded pending_act) p p supply supply (level_read x c q p supply n (record { taken = t; half = h; event = events.Nothing }) taken_in holds)
            (λ d here. has_read_quietly 1 (situation there d pending_act) (situation level_pending d (expanded pending_act)) level_pending (expanded pending_act) p supply (opens_quietly own there pending_act may.splice room d)
            (record { stored = refl; reader = refl; coming = here }));
        pays = λ p.
            subst (λ k. PaysAll k x p q events.Nothing level_pending p (expanded pending_act)) same
            (pays_then 1 n x there level_pending p p p q pending_act (expanded pending_act) events.Nothing (level_pays n x there p q (record { taken = t; half = h; event = events.Nothing }) taken_in refl)
            (opens_pays own there pending_act may.splice room p));
        stored = subst (λ (w : Stored K). opened_pending own w pending_act ≡ record x { levels = (opened_pending own w pending_act).levels; texts = (opened_pending own w pending_act).texts; arguments = (opened_pending own w pending_act).arguments }) (sym (left_times-run t x taken_in_within))
            (stored-opened named own h.notes.asked (run_left t x));
        reader = expanded_is;
        charge = λ fits. omega (arith, charge, charge-opened named own h.notes.asked there, limit-opened named own h.notes.asked there);
        depth = λ fits. omega (arith, depth, depth-opened named own h.notes.asked there, deepest-opened named own h.notes.asked there);
      }

-- ---- a run of bytes of the level is gathered

-- bytes that stand after so many items
abbrev pub StandAfter : ℕ → List ℕ → List Element → Type 0
StandAfter items cs rest = (n : ℕ) → n < length cs → slice_get rest (items + n) ≡ Some (elements.Byte (slice_index cs n))

-- items up to the next splice stay as they are where more bytes come
items_kept : (item from items more : ℕ) (old next : Option Splice) (bytes cs : List ℕ) (rest : List Element) → AreItems item from old bytes items rest → bytes_before next (length (bytes ++ cs)) ≡ bytes_before old (length bytes)
    → bytes_before old (length bytes) ≤ length bytes → (next ≡ None → ⊥) → AreItems item from next (bytes ++ cs) more rest
items_kept item from items more old next bytes cs rest are same within some = record {
  each = λ n less.
      let before : from + n < bytes_before old (length bytes) = omega (arith, less, same) in
      are.each n before ∙ ap (λ b. Some (elements.Byte b)) (sym (get_or_append_left bytes cs 0 (from + n) (omega (arith, before, within))));
  last = λ none. absurd (some none);
}

-- those up to the last byte go on
items_more : (item from items : ℕ) (bytes cs : List ℕ) (rest : List Element) → AreItems item from None bytes items rest → StandAfter items cs rest → AreItems item from None (bytes ++ cs) (items + length cs) rest
items_more item from items bytes cs rest are stand =
    let last = are.last refl in
    record {
      each = λ n less. elim (cases_lt (from + n) (length bytes)) [
        | inl below ↦ are.each n below ∙ ap (λ b. Some (elements.Byte b)) (sym (get_or_append_left bytes cs 0 (from + n) below))
        | inr past ↦
            let j = (from + n) - length bytes in
            let place : item + n ≡ items + j = omega (arith, last, past) in
            let byte : length bytes + j ≡ from + n = omega (arith, past) in
            ap (slice_get rest) place ∙ stand j (omega (arith, less, past, length-append bytes cs)) ∙ ap (λ b. Some (elements.Byte b)) (sym (ap (slice_index (bytes ++ cs)) (sym byte) ∙ get_or-append-add bytes cs j 0))
      ];
      last = λ none. omega (arith, last, length-append bytes cs);
    }

items_on : (item from items : ℕ) (next : Option Splice) (bytes cs : List ℕ) (rest : List Element) → bytes_before next (length bytes) ≤ length bytes → AreItems item from next bytes items rest → StandAfter items cs rest
    → AreItems item from next (bytes ++ cs) (items + length cs) rest
items_on item from items None bytes cs rest within are stand = items_more item from items bytes cs rest are stand
items_on item from items (Some s) bytes cs rest within are stand = items_kept item from items (items + length cs) (Some s) (Some s) bytes cs rest are refl within (λ none. cc)

-- the bytes of a splice stay
own_kept : (s : Splice) (bytes cs : List ℕ) → s.before + s.count ≤ length bytes → own_bytes s (bytes ++ cs) ≡ own_bytes s bytes
own_kept s bytes cs within =
    ap (take s.count) (drop-append-le s.before bytes cs (omega (arith, within))) ∙ take-append-le s.count (drop s.before bytes) cs (omega (arith, within, length-drop s.before bytes))

spliced_kept : {K : Type 0} (k : ℕ) (s : Splice) (old next : Option Splice) (bytes cs : List ℕ) (items more : ℕ) (v : Stored K) (r : Reader) → IsSpliced k s old bytes items v r
    → AreItems s.afterwards (s.before + s.count) next (bytes ++ cs) more (rest_of v.levels) → IsSpliced k s next (bytes ++ cs) more v r
spliced_kept {K} k s old next bytes cs items more v r is run =
    let within = is.within in
    let there = left_times s.afterwards v in
    record {
      few = is.few;
      short = is.short;
      within = omega (arith, within, length-append bytes cs);
      there = is.there;
      opens = subst (λ bs. Leaves true s.moves (take s.before (bytes ++ cs)) v r (opened s.named bs s.asked there) (spliced (k + 1) s.asked r)) (sym (own_kept s bytes cs within))
          (subst (λ bs. Leaves true s.moves bs v r (opened s.named (own_bytes s bytes) s.asked there) (spliced (k + 1) s.asked r)) (sym (take-append-le s.before bytes cs (omega (arith, within)))) is.opens);
      text = λ named. is.text named ∙ ap (λ bs. Some (map elements.Byte bs)) (sym (own_kept s bytes cs within));
      ends = subst (λ bs. Leaves true (s.moves + 1) bs v r there (spliced (k + 1) s.asked r)) (sym (take-append-le (s.before + s.count) bytes cs within)) is.ends;
      charge = is.charge;
      depth = is.depth;
      burst = is.burst;
      run = run;
    }

module _ {K : Type 0} (bytes : List ℕ) (items moves : ℕ) (splices : List Splice) (v : Stored K) (r : Reader) (gathered : AreGathered bytes items moves splices v r) where
  before_by : (k : ℕ) (o : Option Splice) → slice_get splices k ≡ o → bytes_before o (length bytes) ≤ length bytes
  before_by k None is = omega arith
  before_by k (Some s) is = let within = (gathered.each k s is).within in omega (arith, within)

  pub before_within : (k : ℕ) → bytes_before (slice_get splices k) (length bytes) ≤ length bytes
  before_within k = before_by k (slice_get splices k) refl

  abbrev name : List ℕ
  name = last_asked splices r.half.notes.asked

  abbrev reader : Reader
  reader = spliced (length splices) name r

  pub run_gathered : (cs : List ℕ) → StandAfter items cs (rest_of v.levels) → length bytes + length cs ≤ 4096 → AreGathered (bytes ++ cs) (items + length cs) moves splices v r
  run_gathered cs stand fits =
      let here = gathered.there in
      let short = gathered.short in
      let next : AreNext cs (left_times items v).levels = λ n less. ap (λ (xs : List Element). slice_get xs n) (rest-left_times items v here) ∙ slice_get-drop items n (rest_of v.levels) ∙ stand n less in
      let some = next_within cs (left_times items v).levels next in
      let left = ap length (rest-left_times items v here) in
      record {
        few = omega (arith, fits, length-append bytes cs);
        most = gathered.most;
        there = omega (arith, here, some, left, length-drop items (rest_of v.levels));
        short = omega (arith, short, length-append bytes cs);
        cheap = gathered.cheap;
        whole = subst (λ (w : Stored K). Leaves true moves (bytes ++ cs) v r w reader) (left_times-add items (length cs) v) (leaves_all moves cs bytes v (left_times items v) r reader gathered.whole next);
        first = items_on 0 0 items (slice_get splices 0) bytes cs (rest_of v.levels) (before_within 0) gathered.first stand;
        each = λ k s is.
            let old = gathered.each k s is in
            spliced_kept k s (slice_get splices (suc k)) (slice_get splices (suc k)) bytes cs items (items + length cs) v r old
            (items_on s.afterwards (s.before + s.count) items (slice_get splices (suc k)) bytes cs (rest_of v.levels) (before_within (suc k)) old.run stand);
      }

-- ---- what an escape brings is gathered

more_left : (xs : List Splice) (y : Splice) (k : ℕ) → k < length xs → slice_get (xs ++ y ∷ []) k ≡ slice_get xs k
more_left [] y k less = absurd (omega (arith, less))
more_left (x ∷ xs) y zero less = refl
more_left (x ∷ xs) y (suc k) less = more_left xs y k (omega (arith, less))

more_seam : (xs : List Splice) (y : Splice) → slice_get (xs ++ y ∷ []) (length xs) ≡ Some y
more_seam [] y = refl
more_seam (x ∷ xs) y = more_seam xs y

module _ {K : Type 0} (bytes : List ℕ) (items moves : ℕ) (splices : List Splice) (v : Stored K) (r : Reader) (gathered : AreGathered bytes items moves splices v r) (t m : ℕ) (own asked : List ℕ) (named : Bool) where
  abbrev made : Splice
  made = record { afterwards = items + t; before = length bytes; count = length own; moves = moves + m + 1; asked = asked; named = named }

  abbrev made_splices : List Splice
  made_splices = splices ++ made ∷ []

  abbrev level : Stored K
  level = left_times (items + t) v

  abbrev opened_level : Stored K
  opened_level = opened named own asked level

  abbrev afterwards : Reader
  afterwards = spliced (length splices + 1) asked r

  pub made_count : length made_splices ≡ length splices + 1
  made_count = length-append splices (made ∷ [])

  items_next : (item from j : ℕ) → j ≤ length splices → AreItems item from (slice_get splices j) bytes items (rest_of v.levels) → AreItems item from (slice_get made_splices j) (bytes ++ own) (items + t) (rest_of v.levels)
  items_next item from j within are = elim (cases_lt j (length splices)) [
    | inl less ↦
        let e = get_or splices j made in
        let is : slice_get splices j ≡ Some e = slice_get-get_or splices j made less in
        let is_now : slice_get made_splices j ≡ Some e = more_left splices made j less ∙ is in
        items_kept item from items (items + t) (slice_get splices j) (slice_get made_splices j) bytes own (rest_of v.levels) are
        (ap (λ (z : Option Splice). bytes_before z (length (bytes ++ own))) is_now ∙ sym (ap (λ (z : Option Splice). bytes_before z (length bytes)) is)) (before_within bytes items moves splices v r gathered j)
        (λ none. let wrong : Some e ≡ None = sym is_now ∙ none in cc)
    | inr past ↦
        let same : length splices ≡ j = omega (arith, past, within) in
        let is : slice_get splices j ≡ None = slice_get_past splices j past in
        let is_now : slice_get made_splices j ≡ Some made = ap (slice_get made_splices) (sym same) ∙ more_seam splices made in
        items_kept item from items (items + t) (slice_get splices j) (slice_get made_splices j) bytes own (rest_of v.levels) are
        (ap (λ (z : Option Splice). bytes_before z (length (bytes ++ own))) is_now ∙ sym (ap (λ (z : Option Splice). bytes_before z (length bytes)) is)) (before_within bytes items moves splices v r gathered j)
        (λ none. let wrong : Some made ≡ None = sym is_now ∙ none in cc)
  ]

  module _ (leads : LeadsInText (m + 1) (left_times items v) (reader bytes items moves splices v r gathered) opened_level afterwards) (text : named ≡ true → words (find asked v.names) ≡ Some (map elements.Byte own)) (look : r.half.reading.pending_act ≡ pending_acts.Look) (charge : charge_of level + (32 + length own) ≤ level.limit)
      (depth : length level.levels < level.deepest) (burst : r.burst + length splices < r.most) (less : length splices < 8) (few : t ≤ 6) (cheap : m ≤ 6) (there : items + t ≤ length (rest_of v.levels)) (fits : length bytes + length own ≤ 4096) where
    opened_there : Leaves true (moves + m + 1) bytes v r opened_level afterwards
    opened_there =
        let same : moves + (m + 1) ≡ moves + m + 1 = omega arith in
        subst (λ k. Leaves true k bytes v r opened_level afterwards) same (leaves_on moves (m + 1) bytes v (left_times items v) opened_level r (reader bytes items moves splices v r gathered) afterwards gathered.whole leads)

    own_all : AreNext own opened_level.levels
    own_all = subst (λ xs. AreNext xs opened_level.levels) (take_all (length own) own (omega arith)) (own_next (length own) named own asked level)

    ended : Leaves true (moves + m + 1 + 1) (bytes ++ own) v r level afterwards
    ended =
        leaves_on (moves + m + 1) 1 (bytes ++ own) v (left_times (length own) opened_level) level r afterwards afterwards (leaves_all (moves + m + 1) own bytes v opened_level r afterwards opened_there own_all)
        (ended_leads named own asked level afterwards look (omega (arith, charge)) (omega (arith, depth)))

    made_last : IsSpliced (length splices) made None (bytes ++ own) (items + t) v r
    made_last =
        let short = gathered.short in
        let paid = gathered.cheap in
        let own_is : own_bytes made (bytes ++ own) ≡ own = ap (take (length own)) (drop-append_seam bytes own) ∙ take_all (length own) own (omega arith) in
        let all : take (length bytes + length own) (bytes ++ own) ≡ bytes ++ own = take_all (length bytes + length own) (bytes ++ own) (omega (arith, length-append bytes own)) in
        record {
          few = omega (arith, paid, cheap);
          short = omega (arith, short, few);
          within = omega (arith, length-append bytes own);
          there = there;
          opens = subst (λ bs. Leaves true (moves + m + 1) (take (length bytes) (bytes ++ own)) v r (opened named bs asked level) afterwards) (sym own_is)
              (subst (λ bs. Leaves true (moves + m + 1) bs v r opened_level afterwards) (sym (take-append_seam bytes own)) opened_there);
          text = λ is. text is ∙ ap (λ bs. Some (map elements.Byte bs)) (sym own_is);
          ends = subst (λ bs. Leaves true (moves + m + 1 + 1) bs v r level afterwards) (sym all) ended;
          charge = charge;
          depth = depth;
          burst = burst;
          run = record {
            each = λ n past. absurd (omega (arith, past, length-append bytes own));
            last = λ none. omega (arith, length-append bytes own);
          };
        }

    made_each : (k : ℕ) (s : Splice) → slice_get made_splices k ≡ Some s → IsSpliced k s (slice_get made_splices (suc k)) (bytes ++ own) (items + t) v r
    made_each k s is = elim (cases_lt k (length splices)) [
      | inl before ↦
          let old = gathered.each k s (sym (more_left splices made k before) ∙ is) in
          spliced_kept k s (slice_get splices (suc k)) (slice_get made_splices (suc k)) bytes own items (items + t) v r old (items_next s.afterwards (s.before + s.count) (suc k) (omega (arith, before)) old.run)
      | inr past ↦
          let inside = slice_get_within made_splices k s is in
          let same : length splices ≡ k = omega (arith, past, inside, made_count) in
          let both : Some made ≡ Some s = sym (ap (slice_get made_splices) (sym same) ∙ more_seam splices made) ∙ is in
          let equal : made ≡ s = cc in
          let none : slice_get made_splices (suc (length splices)) ≡ None = slice_get_past made_splices (suc (length splices)) (omega (arith, made_count)) in
          subst (λ (j : ℕ). IsSpliced j s (slice_get made_splices (suc j)) (bytes ++ own) (items + t) v r) same
          (subst (λ (z : Splice). IsSpliced (length splices) z (slice_get made_splices (suc (length splices))) (bytes ++ own) (items + t) v r) equal
          (subst (λ (o : Option Splice). IsSpliced (length splices) made o (bytes ++ own) (items + t) v r) (sym none) made_last))
    ]

    pub splice_gathered : AreGathered (bytes ++ own) (items + t) (moves + m + 2) made_splices v r
    splice_gathered =
        let short = gathered.short in
        let paid = gathered.cheap in
        let count : moves + m + 1 + 1 ≡ moves + m + 2 = omega arith in
        let name_is : asked ≡ last_asked made_splices r.half.notes.asked = sym (last_asked-more splices made r.half.notes.asked) in
        record {
          few = omega (arith, fits, length-append bytes own);
          most = omega (arith, less, made_count);
          there = there;
          short = omega (arith, short, few, made_count, length-append bytes own);
          cheap = omega (arith, paid, cheap, made_count);
          whole = subst (λ k. Leaves true k (bytes ++ own) v r level (spliced (length made_splices) (last_asked made_splices r.half.notes.asked) r)) count
              (subst (λ k. Leaves true (moves + m + 1 + 1) (bytes ++ own) v r level (spliced k (last_asked made_splices r.half.notes.asked) r)) (sym made_count)
              (subst (λ (name : List ℕ). Leaves true (moves + m + 1 + 1) (bytes ++ own) v r level (spliced (length splices + 1) name r)) name_is ended));
          first = items_next 0 0 0 (omega arith) gathered.first;
          each = made_each;
        }

-- an escape that was taken in of a stretch
module _ {K : Type 0} (bytes : List ℕ) (items moves : ℕ) (splices : List Splice) (v : Stored K) (r q : Reader) (gathered : AreGathered bytes items moves splices v r) (is : q ≡ spliced (length splices) (last_asked splices r.half.notes.asked) r)
    (look : q.half.reading.pending_act ≡ pending_acts.Look) (n t : ℕ) (own : List ℕ) (h : Half) (fs : List NextItem) (stretch : fs ≡ drop items (map element_item (rest_of v.levels))) (taken_in : HasTakenIn n fs q.half (record { taken = t; half = h; event = events.Nothing }))
    (asks : AsksOnly q.half h) (may : (k : ℕ) → k ≤ length (rest_of v.levels) → MaySplice own (left_times k v) (record q { half = h })) (few : n ≤ 6) (less : length splices < 8) (fits : length bytes + length own ≤ 4096) where
  abbrev start : Stored K
  start = left_times items v

  taken_in_there : HasTakenIn n (map element_item (rest_of start.levels)) q.half (record { taken = t; half = h; event = events.Nothing })
  taken_in_there = subst (λ (xs : List NextItem). HasTakenIn n xs q.half (record { taken = t; half = h; event = events.Nothing })) (stretch ∙ stretch_after items (map element_item (rest_of v.levels)) v gathered.there refl) taken_in

  pub taken_within : items + t ≤ length (rest_of v.levels)
  taken_within =
      let within = taken_in_there.within in
      let here = gathered.there in
      omega (arith, within, here, length-map (rest_of start.levels) element_item, ap length (rest-left_times items v here), length-drop items (rest_of v.levels))

  pub taken_few : t ≤ 6
  taken_few = omega (arith, few, taken-le n (map element_item (rest_of start.levels)) q.half (record { taken = t; half = h; event = events.Nothing }) taken_in_there)

  at_level : left_times t start ≡ left_times (items + t) v
  at_level = left_times-add items t v

  may_there : MaySplice own (left_times t start) (record q { half = h })
  may_there = subst (λ (w : Stored K). MaySplice own w (record q { half = h })) (sym at_level) (may (items + t) taken_within)

  pub after_is : expanded (record q { half = h }) ≡ spliced (length splices + 1) h.notes.asked r
  after_is =
      let name = h.notes.asked in
      let count : r.burst + length splices + 1 ≡ r.burst + (length splices + 1) = omega arith in
      expanded_is n own start q t h taken_in_there asks look may_there
      ∙ ap (λ (z : Reader). record z { half = record z.half { notes = record z.half.notes { asked = name } }; burst = z.burst + 1 }) is
      ∙ ap (λ (k : ℕ). record r { half = record r.half { notes = record r.half.notes { asked = name } }; burst = k }) count

  pub escape_gathered : AreGathered (bytes ++ own) (items + t) (moves + n + 2) (splices ++ record { afterwards = items + t; before = length bytes; count = length own; moves = moves + n + 1; asked = h.notes.asked; named = brings_text h.reading.pending_act } ∷ []) v r
  escape_gathered =
      let leads : LeadsInText (n + 1) start q (opened_pending own (left_times t start) (record q { half = h })) (expanded (record q { half = h })) = escape_leads n own start q t h taken_in_there asks look may_there in
      let here : LeadsInText (n + 1) start (spliced (length splices) (last_asked splices r.half.notes.asked) r) (opened_pending own (left_times (items + t) v) (record q { half = h })) (spliced (length splices + 1) h.notes.asked r) =
      subst (λ (z : Reader). LeadsInText (n + 1) start z (opened_pending own (left_times (items + t) v) (record q { half = h })) (spliced (length splices + 1) h.notes.asked r)) is
      (subst (λ (z : Reader). LeadsInText (n + 1) start q (opened_pending own (left_times (items + t) v) (record q { half = h })) z) after_is (subst (λ (w : Stored K). LeadsInText (n + 1) start q (opened_pending own w (record q { half = h })) (expanded (record q { half = h }))) at_level leads)) in
      let room = (may (items + t) taken_within).room in
      let spent = room.burst in
      let names_are = ap (λ (w : Stored K). w.names) (left_times-run (items + t) v taken_within) in
      let text : brings_text h.reading.pending_act ≡ true → words (find h.notes.asked v.names) ≡ Some (map elements.Byte own) = λ named. ap (λ ns. words (find h.notes.asked ns)) (sym names_are) ∙ (may (items + t) taken_within).splice.text named in
      let burst_is = ap (λ (z : Reader). z.burst) is in
      let most_is = ap (λ (z : Reader). z.most) is in
      splice_gathered bytes items moves splices v r gathered t n own h.notes.asked (brings_text h.reading.pending_act) here text (sym (ap (λ (z : Reader). z.half.reading.pending_act) is) ∙ look) room.charge room.depth (omega (arith, spent, burst_is, most_is)) less taken_few few taken_within fits

-- ---- as the program has it

-- the reader after one more
pub after_made : (ss : List Splice) (s : Splice) (name : List ℕ) (r : Reader) → spliced (length ss + 1) s.asked r ≡ spliced (length (ss ++ s ∷ [])) (last_asked (ss ++ s ∷ []) name) r
after_made ss s name r = ap₂ (λ (k : ℕ) (n : List ℕ). spliced k n r) (sym (length-append ss (s ∷ []))) (sym (last_asked-more ss s name))

-- nothing yet
pub nothing_is : {K : Type 0} (v : Stored K) (r : Reader) → AreGathered [] 0 0 [] v r
nothing_is v r = record {
  few = omega arith;
  most = omega arith;
  there = omega arith;
  short = omega arith;
  cheap = omega arith;
  whole = subst (λ (q : Reader). Leaves true 0 [] v r v q) (sym (spliced_none r.half.notes.asked r refl)) (leaves_nothing true v r);
  first = record { each = λ n less. absurd (omega (arith, less)); last = λ none. refl };
  each = λ k s is. absurd (let wrong : None ≡ Some s = is in cc);
}

-- an element that shows a byte is that byte
pub byte_at : (o : Option Element) (b : ℕ) → option_map element_item o ≡ Some (next_items.Byte b) → o ≡ Some (elements.Byte b)
byte_at None b is = absurd (let wrong : None ≡ Some (next_items.Byte b) = is in cc)
byte_at (Some (elements.Byte x)) b is = let shows : Some (next_items.Byte x) ≡ Some (next_items.Byte b) = is in (let same : x ≡ b = cc in ap (λ y. Some (elements.Byte y)) same)
byte_at (Some (elements.Cell x)) b is = absurd (let wrong : Some (next_items.Cell x) ≡ Some (next_items.Byte b) = is in cc)
byte_at (Some (elements.LineEnd x)) b is = absurd (let wrong : Some (next_items.LineEnd x) ≡ Some (next_items.Byte b) = is in cc)

-- a text whose elements show these bytes
pub all_bytes : (bytes : List ℕ) (text : List Element) → AreBytes bytes (map element_item text) → length bytes ≡ length text → text ≡ map elements.Byte bytes
all_bytes [] [] are same = refl
all_bytes [] (x ∷ xs) are same = absurd (omega (arith, same))
all_bytes (b ∷ bs) [] are same = absurd (omega (arith, same))
all_bytes (b ∷ bs) (x ∷ xs) are same =
    let first : Some x ≡ Some (elements.Byte b) = byte_at (Some x) b (are 0 (omega arith)) in
    let is : x ≡ elements.Byte b = cc in
    ap₂ (λ (y : Element) (ys : List Element). y ∷ ys) is (all_bytes bs xs (λ n less. are (suc n) (omega (arith, less))) (omega (arith, same)))

-- a stretch of the level from an item on
pub stretch_at : (items n : ℕ) (fs : List NextItem) (rest : List Element) → fs ≡ drop items (map element_item rest) → slice_get fs n ≡ option_map element_item (slice_get rest (items + n))
stretch_at items n fs rest stretch = ap (λ (xs : List NextItem). slice_get xs n) stretch ∙ slice_get-drop items n (map element_item rest) ∙ slice_get-map element_item rest (items + n)

module _ {K : Type 0} (g : Gathered) (n : ℕ) (old new : List ℕ) (fs : List NextItem) (v : Stored K) (stretch : fs ≡ drop g.items (map element_item (rest_of v.levels))) where
  -- a run was copied
  pub run_copied : (r q : Reader) → IsGathering (take g.count old) v r q g → take g.count new ≡ take g.count old → AreBytes (take n (drop g.count new)) fs → g.count + n ≤ length new → length new ≤ 4096
      → IsGathering (take (g.count + n) new) v r q (passed n g)
  run_copied r q before kept bytes fits most =
      let cs = take n (drop g.count new) in
      let bs = take g.count old in
      let long : length cs ≡ n = omega (arith, fits, length-take n (drop g.count new), length-drop g.count new) in
      let count : length bs ≡ g.count = ap length (sym kept) ∙ length-take-le g.count new (omega (arith, fits)) in
      let all : bs ++ cs ≡ take (g.count + n) new = ap (λ xs. xs ++ cs) (sym kept) ∙ take_split g.count n new in
      let stand : StandAfter g.items cs (rest_of v.levels) = λ j less. byte_at (slice_get (rest_of v.levels) (g.items + j)) (slice_index cs j) (sym (stretch_at g.items j fs (rest_of v.levels) stretch) ∙ bytes j less) in
      let run = run_gathered bs g.items g.moves g.splices v r before.gathered cs stand (omega (arith, count, long, fits, most)) in
      record {
        gathered = subst (λ k. AreGathered (take (g.count + n) new) (g.items + k) g.moves g.splices v r) long (subst (λ xs. AreGathered xs (g.items + length cs) g.moves g.splices v r) all run);
        reader = before.reader;
      }

  -- it stops there
  pub run_stops : 64 ≤ length new → (g.count + n < length new → EndsRun (slice_get fs n)) → StopsGathering (rest_of v.levels) (g.items + n) (g.count + n)
  run_stops room longest = λ b is other escape. elim (cases_lt (g.count + n) (length new)) [
    | inl less ↦ absurd (longest less b (stretch_at g.items n fs (rest_of v.levels) stretch ∙ ap (option_map element_item) is) other escape)
    | inr past ↦ omega (arith, past, room)
  ]

-- the reader as it was
pub put_back : (k : ℕ) (name : List ℕ) (r q : Reader) → q ≡ spliced k name r → record q { half = record q.half { notes = record q.half.notes { asked = r.half.notes.asked } }; burst = r.burst } ≡ r
put_back k name r q is = ap (λ (z : Reader). record z { half = record z.half { notes = record z.half.notes { asked = r.half.notes.asked } }; burst = r.burst }) is

drop-nil : {X : Type 0} (n : ℕ) → drop {A = X} n [] ≡ []
drop-nil zero = refl
drop-nil (suc n) = refl

drop_on : {X : Type 0} (m n : ℕ) (xs : List X) → drop n (drop m xs) ≡ drop (m + n) xs
drop_on zero n xs = let same : n ≡ 0 + n = omega arith in ap (λ k. drop k xs) same
drop_on (suc m) n [] = drop-nil n ∙ sym (drop-nil (suc m + n))
drop_on (suc m) n (x ∷ xs) = let same : suc (m + n) ≡ suc m + n = omega arith in drop_on m n xs ∙ ap (λ k. drop k (x ∷ xs)) same

-- what is left of a stretch of the level after more of it
pub stretch_on : (items n more : ℕ) (fs gs : List NextItem) (rest : List Element) → fs ≡ drop items (map element_item rest) → gs ≡ drop n fs → more ≡ items + n → gs ≡ drop more (map element_item rest)
stretch_on items n more fs gs rest stretch afterwards is = afterwards ∙ ap (drop n) stretch ∙ drop_on items n (map element_item rest) ∙ ap (λ k. drop k (map element_item rest)) (sym is)

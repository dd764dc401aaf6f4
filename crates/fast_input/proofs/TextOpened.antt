-- Levels of the bytes that are gathered, as moves of the machine that reads: a level is opened, and its end is taken.
use Rattle.std.specs.Prelude.{map, is_some, OnOk}
use Rattle.std.proofs.Common.{◌≡◌, ℕ, suc, ◌+◌, ◌<◌, ◌≤◌, Bool, true, false, List, [], length, Option, None, Some, Result, Ok, refl, ap, ap₂, sym, ◌∙◌, subst, arith}
use Rattle.std.proofs.lemmas.List.{length-map}
use Rattle.std.proofs.lemmas.List.Sums.{sum_by-cons}
use Rattle.nr_symbol_tables.specs.Table.{find}
use Rattle.nr_store.specs.Store.{Stored, Level, Read, Shared, charge_of, checked, entered, level_charge, own_text, shared_by, text_charge, words}
use Rattle.nr_store.specs.Windows.{rest_of, left_times}
use Rattle.nr_store.specs.Laws.{left_times-run}
use Rattle.nr_store.specs.declared.element.Element.{Element}
use Rattle.nr_store.specs.declared.element.Element.TheVariants as elements
use Rattle.nr_store.specs.declared.refusal.Refusal as stored
use Rattle.nr_reading.specs.declared.event.Event.TheVariants as events
use Rattle.nr_reading.specs.declared.mode.PendingAct.TheVariants as pending_acts
use Rattle.nr_input.specs.declared.reader.Reader.{Reader}
use Rattle.nr_input.specs.declared.refusal.Refusal.{Refusal}
use Rattle.nr_input.specs.Acting.{Acted, expanded, is_look}
use Rattle.nr_input.specs.Place.{Coming, Reached}
use Rattle.fast_input.specs.Gathering.{LeadsInText}
use Rattle.fast_input.specs.Interpolations.{HasRoom, OpensLevel, brings_text, opened, opened_pending}
use Rattle.nr_input.specs.Moving.{situation}
use Rattle.nr_input.specs.Refusal.{called, acted, acted_by}
use Rattle.fast_input.specs.Runs.{PaysAll}
use Rattle.nr_input.specs.Weights.{diversions_in}
use Rattle.fast_input.proofs.ControlLines.{done_quietly, pays_once}
use Rattle.fast_input.proofs.Interpolated.{charge-reading, checked-ok, end_pays, end_quietly, level_of, splicing-fits}
use Rattle.fast_input.proofs.Putting.{Quietly, has_read_quietly}
use Rattle.nr_input.proofs.Spending.{act_pays}

-- ---- what a level of bytes changes

-- its bytes are what comes next
pub rest-opened : {K : Type 0} (named : Bool) (bytes name : List ℕ) (v : Stored K) → rest_of (opened named bytes name v).levels ≡ map elements.Byte bytes
rest-opened false bytes name v = refl
rest-opened true bytes name v = refl

-- it is charged no more than this
pub charge-opened : {K : Type 0} (named : Bool) (bytes name : List ℕ) (v : Stored K) → charge_of (opened named bytes name v) ≤ charge_of v + (32 + length bytes)
charge-opened false bytes name v = omega (arith, charge-reading bytes v)
charge-opened {K} true bytes name v =
    let level : Level K = Read (record { rest = map elements.Byte bytes; old = v.arguments; charge = 16; resume = None }) in
    omega (arith, sum_by-cons level_charge level v.levels, sum_by-cons text_charge (shared_by name (map elements.Byte bytes) v.texts) v.texts)

-- a level more
pub depth-opened : {K : Type 0} (named : Bool) (bytes name : List ℕ) (v : Stored K) → length (opened named bytes name v).levels ≡ suc (length v.levels)
depth-opened false bytes name v = refl
depth-opened true bytes name v = refl

-- only levels, with their texts and the arguments in force
pub stored-opened : {K : Type 0} (named : Bool) (bytes name : List ℕ) (v : Stored K) → let w = opened named bytes name v in w ≡ record v { levels = w.levels; texts = w.texts; arguments = w.arguments }
stored-opened false bytes name v = refl
stored-opened true bytes name v = refl

-- as many may be charged
pub limit-opened : {K : Type 0} (named : Bool) (bytes name : List ℕ) (v : Stored K) → (opened named bytes name v).limit ≡ v.limit
limit-opened named bytes name v = ap (λ (w : Stored _). w.limit) (stored-opened named bytes name v)

-- as many may be read
pub deepest-opened : {K : Type 0} (named : Bool) (bytes name : List ℕ) (v : Stored K) → (opened named bytes name v).deepest ≡ v.deepest
deepest-opened named bytes name v = ap (λ (w : Stored _). w.deepest) (stored-opened named bytes name v)

-- the program opens that of a name's text
pub entered_text : {K : Type 0} (bytes name : List ℕ) (w u : Stored K) (x : Result Bool stored.Refusal) → charge_of w + (32 + length bytes) ≤ w.limit → length w.levels < w.deepest → words (find name w.names) ≡ Some (map elements.Byte bytes)
    → x ≡ checked (entered name (words (find name w.names)) None w) (is_some (words (find name w.names))) → OnOk {E = stored.Refusal} x (u ≡ entered name (words (find name w.names)) None w) → u ≡ opened true bytes name w
entered_text {K} bytes name w u x charge depth text is ok =
    let y = opened true bytes name w in
    let same : entered name (words (find name w.names)) None w ≡ y = ap (λ (o : Option (List Element)). entered name o None w) text in
    let opens : checked y true ≡ Ok true =
    checked-ok y true (omega (arith, charge, charge-opened true bytes name w)) (omega (arith, depth)) in
    let answer : x ≡ Ok true = is ∙ ap (λ (o : Option (List Element)). checked (entered name o None w) (is_some o)) text ∙ opens in
    let entered_so : u ≡ entered name (words (find name w.names)) None w = subst (λ (z : Result Bool stored.Refusal). OnOk z (u ≡ entered name (words (find name w.names)) None w)) answer ok in
    entered_so ∙ same

-- ---- a level is opened

module _ {K : Type 0} (bytes : List ℕ) (v : Stored K) (r : Reader) (splice : OpensLevel bytes v r) (room : HasRoom bytes v r) where
  abbrev named : Bool
  named = brings_text r.half.reading.pending_act

  abbrev name : List ℕ
  name = r.half.notes.asked

  abbrev there : Stored K
  there = opened_pending bytes v r

  fits : charge_of there ≤ there.limit
  fits = let charge = room.charge in omega (arith, charge, charge-opened named bytes name v, limit-opened named bytes name v)

  within : length there.levels ≤ there.deepest
  within = let depth = room.depth in omega (arith, depth, depth-opened named bytes name v, deepest-opened named bytes name v)

  does : called there (expanded r) (Ok events.Nothing) ≡ acted r.half.reading.pending_act v r
  does = sym (ap₂ (λ (x : Result (Unit {0}) Refusal) (a : Acted K). acted_by x a v r) (splice.answers ∙ splicing-fits there r fits within room.burst) splice.acts)

  pub opens_quietly : (c : Coming) → Quietly 1 (situation v c r) (situation there c (expanded r))
  opens_quietly c = done_quietly v there c r (expanded r) events.Nothing splice.waits does refl

  looks_not : r.half.reading.pending_act ≡ pending_acts.Look → ⊥
  looks_not look = let wrong : true ≡ false = sym (ap is_look look) ∙ splice.waits in cc

  pub opens_pays : (q : Reached) → PaysAll 1 v q r events.Nothing there q (expanded r)
  opens_pays q =
      pays_once v there q q r (expanded r) events.Nothing refl (ap (λ (x : Stored K). diversions_in x.building) (stored-opened named bytes name v))
      (act_pays v there q r (expanded r) events.Nothing looks_not does)

-- ---- its end is taken

module _ {K : Type 0} (bytes : List ℕ) (arguments : List (List ℕ)) (charge : ℕ) (shared : Shared) (v : Stored K) (r : Reader) (look : r.half.reading.pending_act ≡ pending_acts.Look) (stored : charge_of v ≤ v.limit) (depth : length v.levels ≤ v.deepest) where
  abbrev level : Stored K
  level = level_of bytes arguments charge shared v

  level_ended : LeadsInText 1 (left_times (length bytes) level) r v r
  level_ended =
      let n = length bytes in
      let few : n ≤ length (rest_of level.levels) = omega (arith, length-map bytes elements.Byte) in
      record {
        reads = λ c p supply holds.
            has_read_quietly 1 (situation (left_times n level) c r) (situation v c r) v r p supply (end_quietly n bytes arguments charge shared v refl r look c) (record { stored = refl; reader = refl; coming = holds });
        pays = λ p. end_pays n bytes arguments charge shared v refl r look p;
        stored = subst (λ (u : Stored K). v ≡ record u { levels = v.levels; texts = v.texts; arguments = v.arguments }) (sym (left_times-run n level few)) refl;
        reader = refl;
        charge = λ fits. stored;
        depth = λ fits. depth;
      }

-- after all of its bytes
pub ended_leads : {K : Type 0} (named : Bool) (own asked : List ℕ) (w : Stored K) (q : Reader) → q.half.reading.pending_act ≡ pending_acts.Look → charge_of w ≤ w.limit → length w.levels ≤ w.deepest
    → LeadsInText 1 (left_times (length own) (opened named own asked w)) q w q
ended_leads false own asked w q look stored depth = level_ended own w.arguments (32 + length own) own_text w q look stored depth
ended_leads true own asked w q look stored depth = level_ended own [] 16 (shared_by asked (map elements.Byte own) w.texts) w q look stored depth

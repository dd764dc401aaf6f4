-- What is pending is paid when it is done.
use Rattle.std.specs.Prelude.{nat_le, nat_lt, is_some, map, drop, slice_get, slice_index, sum_by}
use Rattle.std.specs.Option.{option_and_then}
use Rattle.std.proofs.Common.{◌≡◌, ℕ, ◌+◌, ◌-◌, ◌*◌, ◌<◌, ◌≤◌, Bool, true, false, if◌then◌else◌, List, [], ◌∷◌, length, Option, None, Some, Result, Ok, Err, refl, ap, sym, ◌∙◌, subst, arith}
use Rattle.std.proofs.lemmas.Bool.{ltb-false, ltb-true, leb-false, leb-true}
use Rattle.std.proofs.lemmas.List.{length-map}
use Rattle.std.proofs.lemmas.List.Sums.{sum_by-cons}
use Rattle.nr_symbol_tables.specs.Table.{Named, find}
use Rattle.nr_store.specs.Laws.{named_weighs}
use Rattle.nr_levels.specs.Gathering.{bytes_in}
use Rattle.nr_levels.specs.Levels.{argument}
use Rattle.nr_store.specs.Store.{Stored, Level, Read, Built, Shared, Means, weight, weight_of, own_text, shared_by, afforded, charge_of, level_charge, begun, text_of, added, defined, named_newest, words, reading, entered, called as called_text, reading_bytes, gathering, gathered_whole, ungathered, register_of, stepped, written, gone_on}
use Rattle.nr_store.specs.declared.element.Element.{Element}
use Rattle.nr_store.specs.declared.element.Element.TheVariants as elements
use Rattle.nr_store.specs.declared.named.Meaning.{Meaning}
use Rattle.nr_store.specs.declared.named.Meaning.TheVariants as meanings
use Rattle.nr_store.specs.declared.refusal.Refusal.TheVariants as stores
use Rattle.nr_store.specs.declared.register.Register.{Register}
use Rattle.nr_store.specs.declared.request.Request.{Request}
use Rattle.nr_reading.specs.declared.ask.Sign.TheVariants as signs
use Rattle.nr_reading.specs.declared.event.Event.{Event}
use Rattle.nr_reading.specs.declared.event.Event.TheVariants as events
use Rattle.nr_reading.specs.declared.half.Half.{Half}
use Rattle.nr_reading.specs.declared.mode.Calls.{Calls}
use Rattle.nr_reading.specs.declared.mode.Calls.TheVariants as calls
use Rattle.nr_reading.specs.declared.mode.PendingAct.{PendingAct}
use Rattle.nr_reading.specs.declared.mode.PendingAct.TheVariants as pending_acts
use Rattle.nr_reading.specs.declared.mode.Escape.{Escape}
use Rattle.nr_reading.specs.declared.mode.Escape.TheVariants as escapes
use Rattle.nr_reading.specs.declared.mode.Mode.{Mode}
use Rattle.nr_reading.specs.declared.mode.Mode.TheVariants as modes
use Rattle.nr_reading.specs.declared.notes.Notes.{Notes}
use Rattle.nr_reading.specs.Conditionals.{part_mode, in_mode, answer_of, remembering, else_mode}
use Rattle.nr_reading.specs.Definitions.{last_line}
use Rattle.nr_reading.specs.Seeking.{sought, sought_event}
use Rattle.nr_reading.specs.Spelled.{is_empty}
use Rattle.nr_reading.specs.Weights.{cost_of_event, weight_by, weight_of_escape, weight_of_backslash, weight_of_half, blanks_owed, blanks_of_pending}
use Rattle.nr_input.specs.declared.reader.Reader.{Reader}
use Rattle.nr_input.specs.declared.refusal.Refusal.{Refusal}
use Rattle.nr_input.specs.declared.refusal.Refusal.TheVariants as refusals
use Rattle.nr_input.specs.declared.emitted.Emitted.TheVariants as tells
use Rattle.nr_input.specs.Acting.{Acted, done, then_pending, idle, splicing, name_in, base_of, after_held, naming, splicing_bytes, register_text, calls_of, request_of, meaning_in, after_meaning, act}
use Rattle.nr_input.specs.Refusal.{answer, splicing_by, splicing_answer, called, acted}
use Rattle.nr_input.specs.Place.{Reached}
use Rattle.nr_input.specs.Laws.{weight_of_mode-le, weight_of_backslash-le}
use Rattle.nr_input.specs.Weights.{IfLead, Pays, risen, items_in, items_left, expansions_worth}
use Rattle.nr_input.proofs.Items.{expansions_worth-spent}
use Rattle.nr_input.proofs.Refusals.{acted-ok}

-- ---- what is half read, with nothing pending

weight_of_escape-le : (w : ℕ) (e : Escape) → w ≤ 156 → weight_of_escape w e ≤ weight_of_escape 156 e
weight_of_escape-le w escapes.Plain few = omega arith
weight_of_escape-le w escapes.Begun few = few
weight_of_escape-le w escapes.Comment few = omega arith

-- nothing pending weighs little more than anything pending
pub idle-le : (d : PendingAct) (m : Mode) (e : Escape) → weight_by pending_acts.Look m e ≤ weight_by d m e + 188
idle-le pending_acts.Seek m e = omega (arith, weight_of_mode-le m, weight_of_escape-le (weight_of_backslash m) e (weight_of_backslash-le m))
idle-le (pending_acts.Judge b) m e = omega (arith, weight_of_mode-le m, weight_of_escape-le (weight_of_backslash m) e (weight_of_backslash-le m))
idle-le d m e = omega arith

-- ---- what is stored keeps its levels

record Keeps {K : Type 0} (v w : Stored K) : Type 0 where
  pub levels : w.levels ≡ v.levels
  pub limit : w.limit ≡ v.limit

-- what is pending is paid
abbrev Spends : {K : Type 0} → Stored K → Reached → Reader → Acted K → Type 0
Spends v p r a = Pays v p r (tells.Event a.event) a.stored p a.reader

-- another half is read, and what is stored keeps its levels
kept : {K : Type 0} (v w : Stored K) (p : Reached) (r : Reader) (k : Half) (q : Request) (e : Event) → Keeps v w
    → weight_of_half k + cost_of_event e + 178 * risen r.half k ≤ weight_of_half r.half → IfLead {K = K} (tells.Event e) (blanks_owed k + 1 ≡ blanks_owed r.half)
    → Spends v p r (done e w (record { half = k; request = q; burst = r.burst; most = r.most }))
kept v w p r k q e keeps weighs lead =
    let items = ap items_left keeps.levels in
    let worths = ap (λ n. expansions_worth r.most r.burst n) keeps.limit in
    record { limit = keeps.limit; most = refl; pays = λ worth enough. omega arith; lead = lead }

-- ---- splices

-- a level more: its items are fewer than a splice is worth, by 16 items
pub record Opens {K : Type 0} (v w : Stored K) : Type 0 where
  pub items : items_left w.levels + 13 ≤ items_left v.levels + v.limit
  pub limit : w.limit ≡ v.limit

-- it is counted
splice_spends : {K : Type 0} (v w : Stored K) (p : Reached) (d : PendingAct) (r : Reader) → Opens v w → r.burst < r.most → Spends v p (then_pending d r) (splicing true w (then_pending d r))
splice_spends v w p d r opens few =
    let items = opens.items in
    let spent = expansions_worth-spent r.most r.burst v.limit few in
    let worths = ap (λ n. expansions_worth r.most (r.burst + 1) n) opens.limit in
    record { limit = opens.limit; most = refl; pays = λ worth enough. omega (arith, idle-le d r.half.reading.mode r.half.reading.escape); lead = tt }

-- a text that is charged, with its level or under a name, is shorter than all that may be stored
pub opened : {K : Type 0} (text : List Element) (arguments : List (List ℕ)) (charge : ℕ) (resume : Option K) (t : Shared) (v : Stored K) → length text + 16 ≤ charge + sum_by (λ (n : Named Means). weight_of n.value) v.names
    → let w = reading text arguments charge resume t v in charge_of w ≤ w.limit → items_left w.levels + 13 ≤ items_left v.levels + v.limit
opened {K} text arguments charge None t v long afforded =
    let level : Level K = Read (record { rest = text; old = v.arguments; charge = charge; resume = None }) in
    omega (arith, sum_by-cons items_in level v.levels, sum_by-cons level_charge level v.levels)
opened {K} text arguments charge (Some mode) t v long afforded =
    let level : Level K = Read (record { rest = text; old = v.arguments; charge = charge; resume = Some mode }) in
    omega (arith, sum_by-cons items_in level v.levels, sum_by-cons level_charge level v.levels)

pub bytes_open : {K : Type 0} (bytes : List ℕ) (v : Stored K) → let w = reading_bytes bytes v in charge_of w ≤ w.limit → Opens v w
bytes_open bytes v afforded = record {
  items = opened (map elements.Byte bytes) v.arguments (32 + length bytes) None own_text v (omega (arith, length-map bytes elements.Byte)) afforded;
  limit = refl;
}

-- what a splice that is allowed keeps within
pub record Fits {K : Type 0} (w : Stored K) (r : Reader) : Type 0 where
  pub charge : charge_of w ≤ w.limit
  pub burst : r.burst < r.most

-- whether it is allowed, by the tests that it meets
abbrev allowed_by : Bool → Bool → Bool → Result (Unit {0}) Refusal
allowed_by charged deep full = if charged then Err refusals.Stored else (if deep then Err refusals.Depth else (if full then Err refusals.Expansions else Ok tt))

fits_by : {K : Type 0} (charged deep full : Bool) (w : Stored K) (r : Reader) → (charged ≡ false → charge_of w ≤ w.limit) → (full ≡ false → r.burst < r.most)
    → allowed_by charged deep full ≡ Ok tt → Fits w r
fits_by true deep full w r charge burst ok = cc
fits_by false true full w r charge burst ok = cc
fits_by false false true w r charge burst ok = cc
fits_by false false false w r charge burst ok = record { charge = charge refl; burst = burst refl }

splicing_same : (charged deep : Bool) (r : Reader)
    → splicing_by (if charged then Err stores.Stored else (if deep then Err stores.Depth else Ok true)) r ≡ allowed_by charged deep (nat_le r.most r.burst)
splicing_same true deep r = refl
splicing_same false true r = refl
splicing_same false false r = refl

pub splicing-fits : {K : Type 0} (w : Stored K) (r : Reader) → splicing_answer true w r ≡ Ok tt → Fits w r
splicing-fits w r ok =
    let charged = nat_lt w.limit (charge_of w) in
    let deep = nat_lt w.deepest (length w.levels) in
    fits_by charged deep (nat_le r.most r.burst) w r (ltb-false w.limit (charge_of w)) (leb-false r.most r.burst) (sym (splicing_same charged deep r) ∙ ok)

-- nothing is spliced
unspliced : {K : Type 0} (v w : Stored K) (p : Reached) (d : PendingAct) (r : Reader) → Keeps v w
    → weight_by pending_acts.Look r.half.reading.mode r.half.reading.escape + 1 ≤ weight_by d r.half.reading.mode r.half.reading.escape
    → Spends v p (then_pending d r) (splicing false w (then_pending d r))
unspliced v w p d r keeps less = kept v w p (then_pending d r) (idle (then_pending d r)).half r.request events.Nothing keeps (omega arith) tt

-- the text of a name, or none
name_spends : {K : Type 0} (name : List ℕ) (text : Option (List Element)) (v : Stored K) (p : Reached) (d : PendingAct) (r : Reader) → words (find name v.names) ≡ text
    → weight_by pending_acts.Look r.half.reading.mode r.half.reading.escape + 1 ≤ weight_by d r.half.reading.mode r.half.reading.escape
    → let w = entered name text None v in splicing_answer (is_some text) w (then_pending d r) ≡ Ok tt → Spends v p (then_pending d r) (splicing (is_some text) w (then_pending d r))
name_spends name None v p d r is less ok = unspliced v v p d r (record { levels = refl; limit = refl }) less
name_spends name (Some text) v p d r is less ok =
    let w = reading text [] 16 None (shared_by name text v.texts) v in
    let held = named_weighs name text v.names is in
    let fits = splicing-fits w (then_pending d r) ok in
    splice_spends v w p d r (record { items = opened text [] 16 None (shared_by name text v.texts) v (omega (arith, held)) fits.charge; limit = refl }) fits.burst

called_items : {K : Type 0} (name : List ℕ) (text : List Element) (v : Stored K) → weight text ≤ sum_by (λ (n : Named Means). weight_of n.value) v.names
    → let w = called_text name (Some text) v in charge_of w ≤ w.limit → items_left w.levels + 13 ≤ items_left v.levels + v.limit
called_items {K} name text v held afforded =
    let level : Level K = Read (record { rest = text; old = v.arguments; charge = 16 + bytes_in v.gathered.kept; resume = None }) in
    omega (arith, held, sum_by-cons items_in level v.levels, sum_by-cons level_charge level v.levels)

call_spends : {K : Type 0} (name : List ℕ) (text : Option (List Element)) (v : Stored K) (p : Reached) (d : PendingAct) (r : Reader) → words (find name v.names) ≡ text
    → weight_by pending_acts.Look r.half.reading.mode r.half.reading.escape + 1 ≤ weight_by d r.half.reading.mode r.half.reading.escape
    → let w = called_text name text v in splicing_answer (is_some text) w (then_pending d r) ≡ Ok tt → Spends v p (then_pending d r) (splicing (is_some text) w (then_pending d r))
call_spends name None v p d r is less ok = unspliced v (ungathered v) p d r (record { levels = refl; limit = refl }) less
call_spends name (Some text) v p d r is less ok =
    let w = called_text name (Some text) v in
    let fits = splicing-fits w (then_pending d r) ok in
    splice_spends v w p d r (record { items = called_items name text v (named_weighs name text v.names is) fits.charge; limit = refl }) fits.burst

bytes_spend : {K : Type 0} (bytes : List ℕ) (v : Stored K) (p : Reached) (d : PendingAct) (r : Reader)
    → splicing_answer true (reading_bytes bytes v) (then_pending d r) ≡ Ok tt → Spends v p (then_pending d r) (splicing_bytes bytes v (then_pending d r))
bytes_spend bytes v p d r ok =
    let w = reading_bytes bytes v in
    let fits = splicing-fits w (then_pending d r) ok in
    splice_spends v w p d r (bytes_open bytes v fits.charge) fits.burst

-- ---- what is added to what is stored

stored_spends : {K : Type 0} (v w : Stored K) (p : Reached) (d t : PendingAct) (r : Reader) → Keeps v w
    → weight_by t r.half.reading.mode r.half.reading.escape + 1 + 178 * blanks_of_pending t ≤ weight_by d r.half.reading.mode r.half.reading.escape
    → Spends v p (then_pending d r) (done events.Nothing w (then_pending t (then_pending d r)))
stored_spends v w p d t r keeps less = kept v w p (then_pending d r) (then_pending t (then_pending d r)).half r.request events.Nothing keeps (omega arith) tt

base_keeps : {K : Type 0} (appends : Bool) (name : List ℕ) (v : Stored K) → Keeps v (if appends then begun (text_of name v) None v else begun [] None v)
base_keeps true name v = record { levels = refl; limit = refl }
base_keeps false name v = record { levels = refl; limit = refl }

named_keeps : {K : Type 0} (building : List Built) (name : List ℕ) (v : Stored K) → Keeps v (named_newest building name v)
named_keeps [] name v = record { levels = refl; limit = refl }
named_keeps (b ∷ bs) name v = record { levels = refl; limit = refl }

naming_keeps : {K : Type 0} (keeps : Bool) (name : List ℕ) (v : Stored K) → Keeps v (if keeps then defined name v else v)
naming_keeps true name v = named_keeps v.building name v
naming_keeps false name v = record { levels = refl; limit = refl }

written_keeps : {K : Type 0} (x : Option Register) (name : List ℕ) (v : Stored K) → Keeps v (written x name v)
written_keeps None name v = record { levels = refl; limit = refl }
written_keeps (Some x) name v = record { levels = refl; limit = refl }

-- a byte that was held back
release_weighs : (held n : ℕ) (b : Option ℕ) (m : Mode) (e : Escape) → weight_by (after_held held n b) m e + 1 + 178 * blanks_of_pending (after_held held n b) ≤ weight_by (pending_acts.Release held n b) m e
release_weighs held n (Some b) m e = more (nat_lt (n + 1) held) (ltb-true (n + 1) held)
  where
    more : (t : Bool) → (t ≡ true → n + 1 < held)
        → let d = if t then pending_acts.Release held (n + 1) (Some b) else pending_acts.Add b in weight_by d m e + 1 + 178 * blanks_of_pending d ≤ weight_by (pending_acts.Release held n (Some b)) m e
    more true less = let few = less refl in omega arith
    more false less = omega arith
release_weighs held n None m e = more (nat_lt (n + 1) held) (ltb-true (n + 1) held)
  where
    more : (t : Bool) → (t ≡ true → n + 1 < held)
        → let d = if t then pending_acts.Release held (n + 1) None else pending_acts.Look in weight_by d m e + 1 + 178 * blanks_of_pending d ≤ weight_by (pending_acts.Release held n None) m e
    more true less = let few = less refl in omega arith
    more false less = omega arith

-- the text of lines takes its name
definition_spends : {K : Type 0} (none : Bool) (v w : Stored K) (p : Reached) (r : Reader) → Keeps v w
    → Spends v p (then_pending pending_acts.DefineAndCall r) (done events.Nothing w (then_pending (if none then pending_acts.Look else pending_acts.CallEnding) (then_pending pending_acts.DefineAndCall r)))
definition_spends true v w p r keeps = kept v w p (then_pending pending_acts.DefineAndCall r) (idle r).half r.request events.Nothing keeps (omega arith) tt
definition_spends false v w p r keeps = kept v w p (then_pending pending_acts.DefineAndCall r) (then_pending pending_acts.CallEnding r).half r.request events.Nothing keeps (omega arith) tt

-- ---- what a control line calls

title_weighs : (e : Escape) → weight_of_escape 115 e ≤ weight_of_escape 156 e
title_weighs e = weight_of_escape-le 115 e (omega arith)

-- the half after a name that was looked up, with other notes
abbrev found : Notes → Reader → Half
found n r = record (idle r).half { notes = n }

else_spends : {K : Type 0} (o : Option Bool) (n : Notes) (v w : Stored K) (p : Reached) (r : Reader) (q : Request) → Keeps v w
    → Spends v p (then_pending pending_acts.Seek r) (done events.Nothing w (record { half = in_mode (else_mode o) (found n r); request = q; burst = r.burst; most = r.most }))
else_spends None n v w p r q keeps = kept v w p (then_pending pending_acts.Seek r) (in_mode (modes.Skip 0) (found n r)) q events.Nothing keeps (omega arith) tt
else_spends (Some true) n v w p r q keeps = kept v w p (then_pending pending_acts.Seek r) (in_mode (modes.Skip 0) (found n r)) q events.Nothing keeps (omega arith) tt
else_spends (Some false) n v w p r q keeps = kept v w p (then_pending pending_acts.Seek r) (in_mode modes.Accepted (found n r)) q events.Nothing keeps (omega arith) tt

seeking_spends : {K : Type 0} (c : Calls) (v w : Stored K) (p : Reached) (r : Reader) (q : Request) → Keeps v w
    → let h = (idle r).half in Spends v p (then_pending pending_acts.Seek r) (done (sought_event c) w (record { half = sought c h; request = q; burst = r.burst; most = r.most }))
seeking_spends calls.Nothing v w p r q keeps = kept v w p (then_pending pending_acts.Seek r) (sought calls.Nothing (idle r).half) q events.Nothing keeps (omega arith) tt
seeking_spends calls.Macro v w p r q keeps = kept v w p (then_pending pending_acts.Seek r) (sought calls.Macro (idle r).half) q events.Nothing keeps (omega arith) tt
seeking_spends calls.Request v w p r q keeps = kept v w p (then_pending pending_acts.Seek r) (sought calls.Request (idle r).half) q events.Nothing keeps (omega arith) tt
seeking_spends calls.NewString v w p r q keeps = kept v w p (then_pending pending_acts.Seek r) (sought calls.NewString (idle r).half) q events.Nothing keeps (omega arith) tt
seeking_spends calls.MoreString v w p r q keeps = kept v w p (then_pending pending_acts.Seek r) (sought calls.MoreString (idle r).half) q events.Nothing keeps (omega arith) tt
seeking_spends calls.If v w p r q keeps = kept v w p (then_pending pending_acts.Seek r) (sought calls.If (idle r).half) q events.Nothing keeps (omega arith) tt
seeking_spends calls.IfElse v w p r q keeps = kept v w p (then_pending pending_acts.Seek r) (sought calls.IfElse (idle r).half) q events.Nothing keeps (omega arith) tt
seeking_spends calls.Else v w p r q keeps =
    else_spends (slice_get r.half.notes.answers 0) (record r.half.notes { answers = drop 1 r.half.notes.answers }) v w p r q keeps
seeking_spends calls.Title v w p r q keeps =
    kept v w p (then_pending pending_acts.Seek r) (sought calls.Title (idle r).half) q events.Title keeps (omega (arith, title_weighs r.half.reading.escape)) tt

meaning_keeps : {K : Type 0} (m : Meaning) (v : Stored K) → Keeps v (after_meaning m v)
meaning_keeps meanings.Text v = record { levels = refl; limit = refl }
meaning_keeps m v = record { levels = refl; limit = refl }

-- ---- conditions

judged_by : {K : Type 0} (holds found : Bool) (n : Notes) (b : Bool) (v : Stored K) (p : Reached) (r : Reader)
    → Spends v p (then_pending (pending_acts.Judge b) r) (done events.Nothing v (record (idle r) { half = in_mode (part_mode holds) (record (idle r).half { notes = n }) }))
judged_by true found n b v p r =
    kept v v p (then_pending (pending_acts.Judge b) r) (in_mode modes.Accepted (record (idle r).half { notes = n })) r.request events.Nothing (record { levels = refl; limit = refl }) (omega arith) tt
judged_by false found n b v p r =
    kept v v p (then_pending (pending_acts.Judge b) r) (in_mode (modes.Skip 0) (record (idle r).half { notes = n })) r.request events.Nothing (record { levels = refl; limit = refl }) (omega arith) tt

-- ---- blanks of a line's beginning

lead_spends : {K : Type 0} (few : Bool) (n : ℕ) (v : Stored K) (p : Reached) (r : Reader) → (few ≡ true → n ≤ 1) → (few ≡ false → 1 < n)
    → Spends v p (then_pending (pending_acts.Lead n) r) (done events.Lead v (then_pending (if few then pending_acts.Look else pending_acts.Lead (n - 1)) (then_pending (pending_acts.Lead n) r)))
lead_spends true n v p r one more =
    let few = one refl in
    kept v v p (then_pending (pending_acts.Lead n) r) (idle r).half r.request events.Lead (record { levels = refl; limit = refl }) (omega arith) (omega arith)
lead_spends false n v p r one more =
    let many = more refl in
    kept v v p (then_pending (pending_acts.Lead n) r) (then_pending (pending_acts.Lead (n - 1)) r).half r.request events.Lead (record { levels = refl; limit = refl }) (omega arith) (omega arith)

-- ---- all of it

pending_spends : {K : Type 0} (d : PendingAct) (v : Stored K) (p : Reached) (r : Reader) → (d ≡ pending_acts.Look → ⊥) → answer d v (then_pending d r) ≡ Ok tt → Spends v p (then_pending d r) (act d v (then_pending d r))
pending_spends pending_acts.Look v p r some ok = absurd (some refl)
pending_spends pending_acts.Begin v p r some ok = stored_spends v (base_of r v) p pending_acts.Begin pending_acts.Look r (base_keeps r.half.notes.defining.appends (name_in r) v) (omega arith)
pending_spends (pending_acts.Add b) v p r some ok = stored_spends v (added (elements.Byte b ∷ []) v) p (pending_acts.Add b) pending_acts.Look r (record { levels = refl; limit = refl }) (omega arith)
pending_spends (pending_acts.Release held n b) v p r some ok =
    let w = added (elements.Byte (slice_index (last_line r.half.notes.defining) n) ∷ []) v in
    stored_spends v w p (pending_acts.Release held n b) (after_held held n b) r (record { levels = refl; limit = refl }) (release_weighs held n b r.half.reading.mode r.half.reading.escape)
pending_spends pending_acts.Define v p r some ok =
    kept v (naming r v) p (then_pending pending_acts.Define r) (idle r).half r.request events.Nothing (naming_keeps r.half.notes.defining.keeps (name_in r) v) (omega arith) tt
pending_spends pending_acts.DefineAndCall v p r some ok =
    definition_spends (is_empty r.half.notes.defining.ending) v (naming r v) p r (naming_keeps r.half.notes.defining.keeps (name_in r) v)
pending_spends pending_acts.CallEnding v p r some ok =
    let name = r.half.notes.defining.ending in name_spends name (words (find name v.names)) v p pending_acts.CallEnding r refl (omega arith) ok
pending_spends pending_acts.Splice v p r some ok = let name = r.half.notes.asked in name_spends name (words (find name v.names)) v p pending_acts.Splice r refl (omega arith) ok
pending_spends (pending_acts.Register signs.None) v p r some ok = bytes_spend (register_text (register_of (find r.half.notes.asked v.registers))) v p (pending_acts.Register signs.None) r ok
pending_spends (pending_acts.Register signs.Plus) v p r some ok =
    kept v (stepped r.half.notes.asked true v) p (then_pending (pending_acts.Register signs.Plus) r) (then_pending (pending_acts.Register signs.None) r).half r.request events.Nothing
    (written_keeps (option_and_then (gone_on true) (find r.half.notes.asked v.registers)) r.half.notes.asked v) (omega arith) tt
pending_spends (pending_acts.Register signs.Minus) v p r some ok =
    kept v (stepped r.half.notes.asked false v) p (then_pending (pending_acts.Register signs.Minus) r) (then_pending (pending_acts.Register signs.None) r).half r.request events.Nothing
    (written_keeps (option_and_then (gone_on false) (find r.half.notes.asked v.registers)) r.half.notes.asked v) (omega arith) tt
pending_spends (pending_acts.Argument n) v p r some ok = bytes_spend (argument v.arguments n) v p (pending_acts.Argument n) r ok
pending_spends (pending_acts.Put b) v p r some ok = stored_spends v (gathering b v) p (pending_acts.Put b) pending_acts.Look r (record { levels = refl; limit = refl }) (omega arith)
pending_spends pending_acts.EndArgument v p r some ok =
    kept v (gathered_whole v) p (then_pending pending_acts.EndArgument r) (idle r).half r.request events.Nothing (record { levels = refl; limit = refl }) (omega arith) tt
pending_spends pending_acts.Call v p r some ok = let name = name_in r in call_spends name (words (find name v.names)) v p pending_acts.Call r refl (omega arith) ok
pending_spends pending_acts.Seek v p r some ok =
    let m = meaning_in v r in seeking_spends (calls_of m) v (after_meaning m v) p r (request_of m r.request) (meaning_keeps m v)
pending_spends (pending_acts.Judge b) v p r some ok =
    let h = (idle r).half in judged_by (answer_of b h.notes) b (remembering b h).notes b v p r
pending_spends (pending_acts.Lead n) v p r some ok = lead_spends (nat_le n 1) n v p r (leb-true n 1) (leb-false n 1)
pending_spends pending_acts.Expanded v p r some ok = cc

pub act_pays : {K : Type 0} (v w : Stored K) (p : Reached) (r s : Reader) (e : Event) → (r.half.reading.pending_act ≡ pending_acts.Look → ⊥)
    → called w s (Ok e) ≡ acted r.half.reading.pending_act v r → Pays v p r (tells.Event e) w p s
act_pays {K} v w p r s e some is =
    let d = r.half.reading.pending_act in
    let done = acted-ok (answer d v r) (act d v r) v w r s e is in
    subst (λ (a : Acted K). Pays v p r (tells.Event a.event) a.stored p a.reader) (sym done.1) (pending_spends d v p r some done.0)

-- What those who read events set, splice and spring is paid, or costs little.
use Rattle.std.specs.Prelude.{is_some}
use Rattle.std.proofs.Common.{◌≡◌, ℕ, ◌+◌, ◌-◌, ◌*◌, ◌<◌, ◌≤◌, Bool, true, false, List, [], Option, None, Some, Result, Ok, Err, refl, ap, arith}
use Rattle.nr_symbol_tables.specs.Table.{find}
use Rattle.nr_store.specs.Store.{Stored, begun, words, reading, shared_by, entered, reading_bytes}
use Rattle.nr_store.specs.Laws.{named_weighs}
use Rattle.nr_store.specs.declared.element.Element.{Element}
use Rattle.nr_reading.specs.declared.half.Half.{Half}
use Rattle.nr_reading.specs.declared.mode.PendingAct.{PendingAct}
use Rattle.nr_reading.specs.declared.mode.PendingAct.TheVariants as pending_acts
use Rattle.nr_reading.specs.declared.mode.Escape.{Escape}
use Rattle.nr_reading.specs.declared.mode.Escape.TheVariants as escapes
use Rattle.nr_reading.specs.declared.mode.Mode.{Mode}
use Rattle.nr_reading.specs.declared.mode.Mode.TheVariants as modes
use Rattle.nr_reading.specs.declared.mode.Standing.{Standing}
use Rattle.nr_reading.specs.declared.notes.Notes.{Notes}
use Rattle.nr_reading.specs.declared.mode.Standing.TheVariants as standings
use Rattle.nr_reading.specs.Conditionals.{in_mode, part_mode, answer_of, remembering, judged}
use Rattle.nr_reading.specs.Setting.{sprung, resumed}
use Rattle.nr_reading.specs.Weights.{weight_of_text, weight_of_judged, weight_by, weight_of_mode, weight_of_backslash, weight_of_half, held_by_mode, blanks_owed}
use Rattle.nr_input.specs.declared.reader.Reader.{Reader}
use Rattle.nr_input.specs.declared.refusal.Refusal.{Refusal}
use Rattle.nr_input.specs.Acting.{on_half, idle, expanded}
use Rattle.nr_input.specs.Refusal.{called, splicing_answer}
use Rattle.nr_input.specs.Splicing.{giving, springing, springing_text, base_answer, defining_lines}
use Rattle.nr_input.specs.Weights.{CostsAtMost, cost_of_standing, Splices, Springs, expansions_worth}
use Rattle.nr_input.proofs.Items.{expansions_worth-spent}
use Rattle.nr_input.proofs.Refusals.{called-ok}
use Rattle.nr_input.proofs.Spending.{Opens, opened, bytes_open, splicing-fits, idle-le}

-- ---- modes that are set

-- whatever mode it was, with a `\` that is begun or not
mode-ge : (m : Mode) → 155 ≤ weight_of_mode m + weight_of_backslash m
mode-ge modes.Text = omega arith
mode-ge modes.Interrupted = omega arith
mode-ge modes.Continued = omega arith
mode-ge (modes.Leading n) = omega arith
mode-ge modes.TitleBefore = omega arith
mode-ge (modes.Title d n) = omega arith
mode-ge modes.Diverted = omega arith
mode-ge m = omega arith

-- in another mode that weighs so much, and so much with a `\`
in_mode-le : (d : PendingAct) (m k : Mode) (e : Escape) (w : ℕ) → weight_of_mode k ≤ w → weight_of_mode k + weight_of_backslash k ≤ w + 155 → held_by_mode k ≡ 0 → weight_by d k e ≤ weight_by d m e + w
in_mode-le pending_acts.Seek m k e w few begun none = omega arith
in_mode-le (pending_acts.Judge b) m k e w few begun none = omega arith
in_mode-le d m k escapes.Begun w few begun none = omega (arith, mode-ge m)
in_mode-le d m k e w few begun none = omega arith

pub title_costs : (h : Half) → CostsAtMost weight_of_text h (in_mode modes.TitleBefore h)
title_costs h = omega (arith, in_mode-le h.reading.pending_act h.reading.mode modes.TitleBefore h.reading.escape 40 (omega arith) (omega arith) refl)

pub diverting_costs : (h : Half) → CostsAtMost 1 h (in_mode modes.Diverting h)
diverting_costs h = omega (arith, in_mode-le h.reading.pending_act h.reading.mode modes.Diverting h.reading.escape 1 (omega arith) (omega arith) refl)

pub stand_costs : (s : Standing) (h : Half) → CostsAtMost cost_of_standing h (resumed s h)
stand_costs standings.Start h = omega (arith, in_mode-le h.reading.pending_act h.reading.mode modes.Start h.reading.escape 21 (omega arith) (omega arith) refl)
stand_costs standings.Leading h = omega (arith, in_mode-le h.reading.pending_act h.reading.mode (modes.Leading 1) h.reading.escape 41 (omega arith) (omega arith) refl)
stand_costs standings.Text h = omega (arith, in_mode-le h.reading.pending_act h.reading.mode modes.Text h.reading.escape 40 (omega arith) (omega arith) refl)
stand_costs standings.Continued h = omega (arith, in_mode-le h.reading.pending_act h.reading.mode modes.Continued h.reading.escape 41 (omega arith) (omega arith) refl)

part_costs : (holds : Bool) (n : Notes) (h : Half) → CostsAtMost weight_of_judged h (in_mode (part_mode holds) (record h { notes = n }))
part_costs true n h = omega (arith, in_mode-le h.reading.pending_act h.reading.mode modes.Accepted h.reading.escape 22 (omega arith) (omega arith) refl)
part_costs false n h = omega (arith, in_mode-le h.reading.pending_act h.reading.mode (modes.Skip 0) h.reading.escape 22 (omega arith) (omega arith) refl)

pub judged_costs : (b : Bool) (h : Half) → CostsAtMost weight_of_judged h (judged b h)
judged_costs b h = part_costs (answer_of b h.notes) (remembering b h).notes h

-- ---- splices

splices : {K : Type 0} (v w : Stored K) (r : Reader) (k : Half) → Opens v w → r.burst < r.most → weight_of_half k + 178 * (blanks_owed k - blanks_owed r.half) ≤ weight_of_half r.half + 188
    → Splices v r w (record r { half = k; burst = r.burst + 1 })
splices v w r k opens few weighs =
    let items = opens.items in
    let worths = ap (λ n. expansions_worth r.most (r.burst + 1) n) opens.limit in
    record { limit = opens.limit; most = refl; pays = λ p. omega (arith, expansions_worth-spent r.most r.burst v.limit few) }

-- bytes that are given
pub bytes_splice : {K : Type 0} (bytes : List ℕ) (v w : Stored K) (r s : Reader) → called w s (Ok tt) ≡ giving bytes v r → Splices v r w s
bytes_splice bytes v w r s is =
    let n = reading_bytes bytes v in
    let leads = called-ok (splicing_answer true n r) n (expanded r) tt v w r s tt is in
    let fits = splicing-fits n r leads.allowed in
    rw (leads.stored, leads.reader) (splices v n r (idle r).half (bytes_open bytes v fits.charge) fits.burst (omega (arith, idle-le r.half.reading.pending_act r.half.reading.mode r.half.reading.escape)))

-- ---- springs

text_springs : {K : Type 0} (name : List ℕ) (text : Option (List Element)) (mode : K) (v w : Stored K) (r s : Reader) (b : Bool) → words (find name v.names) ≡ text
    → called w s (Ok b) ≡ springing_text (is_some text) (entered name text (Some mode) v) v r → Springs v r (Ok b) w s
text_springs name None mode v w r s b found is =
    let leads = called-ok (splicing_answer false v r) v r false v w r s b is in rw leads.answer (leads.stored, leads.reader)
text_springs name (Some text) mode v w r s b found is =
    let n = reading text [] 16 (Some mode) (shared_by name text v.texts) v in
    let leads = called-ok (splicing_answer true n r) n (on_half sprung (expanded r)) true v w r s b is in
    let fits = splicing-fits n r leads.allowed in
    let held = named_weighs name text v.names found in
    let opens : Opens v n = record { items = opened text [] 16 (Some mode) (shared_by name text v.texts) v (omega (arith, held)) fits.charge; limit = refl } in
    rw (leads.answer, leads.stored, leads.reader) (splices v n r (sprung r.half) opens fits.burst (omega arith))

pub springing_springs : {K : Type 0} (name : List ℕ) (mode : K) (v w : Stored K) (r s : Reader) (x : Result Bool Refusal)
    → called w s x ≡ springing name mode v r → Springs v r x w s
springing_springs name mode v w r s (Ok b) is = text_springs name (words (find name v.names)) mode v w r s b refl is
springing_springs name mode v w r s (Err e) is = tt

-- A move that is refused at a limit would lead above it.
use Rattle.std.specs.Prelude.{nat_le, nat_lt, length}
use Rattle.std.proofs.lemmas.Bool.{le-ltb, lt-ltb, leb-true}
use Rattle.std.proofs.Common.{◌≡◌, ◌+◌, Bool, true, false, if◌then◌else◌, Option, None, Some, Result, Ok, Err, refl, ap, sym, subst, ◌∙◌, arith}
use Rattle.nr_fill.specs.Piece.{line_cells}
use Rattle.nr_page.specs.Grid.{page_charge}
use Rattle.nr_store.specs.Store.{Stored, charge_of, shown}
use Rattle.nr_store.specs.declared.refusal.Refusal.TheVariants as stores
use Rattle.nr_reading.specs.declared.ask.Sign.TheVariants as signs
use Rattle.nr_reading.specs.declared.mode.PendingAct.{PendingAct}
use Rattle.nr_reading.specs.declared.mode.PendingAct.TheVariants as pending_acts
use Rattle.nr_input.specs.Acting.{splicing, act, has_text, name_in}
use Rattle.nr_input.specs.Moving.{Situation, looks, look, acted_at, acting, answer_at}
use Rattle.nr_input.specs.Moving as input
use Rattle.nr_input.specs.Refusal.{Asking, Nothing, Bytes, Splice, Refused, asking, answer_to, storing_by, splicing_by}
use Rattle.nr_input.specs.declared.reader.Reader.{Reader}
use Rattle.nr_input.specs.declared.refusal.Refusal.{Refusal}
use Rattle.nr_input.specs.declared.refusal.Refusal.TheVariants as refusals
use Rattle.nr_formatter.specs.Access.{collected}
use Rattle.nr_formatter.specs.declared.tasks.Resume.{Resume}
use Rattle.nr_machine.specs.State.{State}
use Rattle.nr_machine.specs.Machine.{step, situation_of, with_situation}
use Rattle.nr_machine.specs.Measures.{IsWithin, passed}
use Rattle.nr_machine.specs.Run.{Kind, Reads, Works, Over, kind, IsRefusal, PassesBy}
use Rattle.nr_machine.specs.declared.outcome.Measure.{Measure}
use Rattle.nr_machine.specs.declared.outcome.Measure.TheVariants as measures
use Rattle.nr_laws.proofs.SingleMoves.{RefusedIsAbove}
use Rattle.nr_laws.proofs.ReadMoves.{reads-step}
use Rattle.nr_laws.proofs.Stopping.{for_limit, no_sight}

-- ---- which limit is passed first

abbrev five : Bool → Bool → Bool → Bool → Bool → Option Measure
five a b c p d =
    if a then Some measures.Stored
    else (if b then Some measures.Depth
    else (if c then Some measures.LineCells
    else (if p then Some measures.PageCells
    else (if d then Some measures.Expansions else None))))

named_stored : (m : Measure) → IsRefusal m refusals.Stored → m ≡ measures.Stored
named_stored measures.Stored is = refl
named_stored measures.Depth is = cc
named_stored measures.Expansions is = cc
named_stored measures.LineCells is = absurd is
named_stored measures.PageCells is = absurd is
named_stored measures.Moves is = absurd is

named_depth : (m : Measure) → IsRefusal m refusals.Depth → m ≡ measures.Depth
named_depth measures.Stored is = cc
named_depth measures.Depth is = refl
named_depth measures.Expansions is = cc
named_depth measures.LineCells is = absurd is
named_depth measures.PageCells is = absurd is
named_depth measures.Moves is = absurd is

named_expansions : (m : Measure) → IsRefusal m refusals.Expansions → m ≡ measures.Expansions
named_expansions measures.Stored is = cc
named_expansions measures.Depth is = cc
named_expansions measures.Expansions is = refl
named_expansions measures.LineCells is = absurd is
named_expansions measures.PageCells is = absurd is
named_expansions measures.Moves is = absurd is

-- the refusal is this one
is_this : (x y : Refusal) (m : Measure) → x ≡ y → IsRefusal m y → IsRefusal m x
is_this x y m same is = subst (λ (r : Refusal). IsRefusal m r) (sym same) is

-- ---- what is asked, and what is passed

storing_passes : (charged deep over : Bool) (x : Refusal) (m : Measure) → storing_by (if charged then Err (record {}) else Ok tt) ≡ Err x → IsRefusal m x → five charged deep false false over ≡ Some m
storing_passes true deep over x m is refused =
    let same : refusals.Stored ≡ x = cc in ap Some (sym (named_stored m (is_this refusals.Stored x m same refused)))
storing_passes false deep over x m is refused = let wrong : ⊥ = cc in absurd wrong

-- by the tests that a splice meets
abbrev pub text_answer : Bool → Bool → Bool → Result (Unit {0}) Refusal
text_answer charged deep full = if charged then Err refusals.Stored else (if deep then Err refusals.Depth else (if full then Err refusals.Expansions else Ok tt))

pub text_same : (charged deep : Bool) (r : Reader)
    → splicing_by (if charged then Err stores.Stored else (if deep then Err stores.Depth else Ok true)) r ≡ text_answer charged deep (nat_le r.most r.burst)
text_same true deep r = refl
text_same false true r = refl
text_same false false r = refl

none_same : (charged deep : Bool) (r : Reader)
    → splicing_by (if charged then Err stores.Stored else (if deep then Err stores.Depth else Ok false)) r ≡ text_answer charged deep false
none_same true deep r = refl
none_same false true r = refl
none_same false false r = refl

text_passes : (charged deep full over : Bool) (x : Refusal) (m : Measure) → (full ≡ true → over ≡ true) → text_answer charged deep full ≡ Err x → IsRefusal m x
    → five charged deep false false over ≡ Some m
text_passes true deep full over x m more is refused =
    let same : refusals.Stored ≡ x = cc in ap Some (sym (named_stored m (is_this refusals.Stored x m same refused)))
text_passes false true full over x m more is refused =
    let same : refusals.Depth ≡ x = cc in ap Some (sym (named_depth m (is_this refusals.Depth x m same refused)))
text_passes false false true over x m more is refused =
    let same : refusals.Expansions ≡ x = cc in
    rw (more refl) (ap Some (sym (named_expansions m (is_this refusals.Expansions x m same refused))))
text_passes false false false over x m more is refused = let wrong : ⊥ = cc in absurd wrong

-- a splice is counted
abbrev Counts : Asking → Reader → Reader → Type 0
Counts (Splice true) r s = (s.burst ≡ r.burst + 1) × (s.most ≡ r.most)
Counts Refused r s = ⊥
Counts a r s = Unit {0}

counts_splice : {K : Type 0} (is_text : Bool) (w : Stored K) (r : Reader) → Counts (Splice is_text) r (splicing is_text w r).reader
counts_splice true w r = (refl, refl)
counts_splice false w r = tt

counts : {K : Type 0} (d : PendingAct) (v : Stored K) (r : Reader) → (d ≡ pending_acts.Expanded → ⊥) → Counts (asking d v r) r (act d v r).reader
counts pending_acts.CallEnding v r some = counts_splice (has_text r.half.notes.defining.ending v) (act pending_acts.CallEnding v r).stored r
counts pending_acts.Splice v r some = counts_splice (has_text r.half.notes.asked v) (act pending_acts.Splice v r).stored r
counts (pending_acts.Register signs.None) v r some = (refl, refl)
counts (pending_acts.Register signs.Plus) v r some = tt
counts (pending_acts.Register signs.Minus) v r some = tt
counts (pending_acts.Argument n) v r some = (refl, refl)
counts pending_acts.Call v r some = counts_splice (has_text (name_in r) v) (act pending_acts.Call v r).stored r
counts pending_acts.Expanded v r some = absurd (some refl)
counts d v r some = tt

full_over : (r s : Reader) → s.burst ≡ r.burst + 1 → s.most ≡ r.most → nat_le r.most r.burst ≡ true → nat_lt s.most s.burst ≡ true
full_over r s burst most full = let few = leb-true r.most r.burst full in lt-ltb s.most s.burst (omega (arith, burst, most, few))

answer_passes : (a : Asking) (w : Stored Resume) (r s : Reader) (x : Refusal) (m : Measure) → Counts a r s → answer_to a w r ≡ Err x → IsRefusal m x
    → five (nat_lt w.limit (charge_of w)) (nat_lt w.deepest (length w.levels)) false false (nat_lt s.most s.burst) ≡ Some m
answer_passes Nothing w r s x m counted is refused = let wrong : ⊥ = cc in absurd wrong
answer_passes Bytes w r s x m counted is refused =
    storing_passes (nat_lt w.limit (charge_of w)) (nat_lt w.deepest (length w.levels)) (nat_lt s.most s.burst) x m is refused
answer_passes (Splice true) w r s x m counted is refused =
    let charged = nat_lt w.limit (charge_of w) in
    let deep = nat_lt w.deepest (length w.levels) in
    text_passes charged deep (nat_le r.most r.burst) (nat_lt s.most s.burst) x m (full_over r s counted.0 counted.1) (sym (text_same charged deep r) ∙ is) refused
answer_passes (Splice false) w r s x m counted is refused =
    let charged = nat_lt w.limit (charge_of w) in
    let deep = nat_lt w.deepest (length w.levels) in
    text_passes charged deep false (nat_lt s.most s.burst) x m (λ full. let wrong : ⊥ = cc in absurd wrong) (sym (none_same charged deep r) ∙ is) refused
answer_passes Refused w r s x m counted is refused = absurd counted

-- ---- a move that reads

-- the state that what is pending leads to
abbrev acted_state : State → State
acted_state s = with_situation (acted_at (situation_of s)) s

passed_five : (s : State) → IsWithin s → let a = acting (situation_of s) in
    passed (acted_state s) ≡ five (nat_lt a.stored.limit (charge_of a.stored)) (nat_lt a.stored.deepest (length a.stored.levels)) false false (nat_lt a.reader.most a.reader.burst)
passed_five s within =
    let f = s.formatter in
    rw (le-ltb f.line.limit (line_cells (collected f)) within.formatter.line, le-ltb s.page_limit (page_charge s.lines) within.page) refl

pending_passes : (s : State) (x : Refusal) (m : Measure) → IsWithin s → (s.formatter.reader.half.reading.pending_act ≡ pending_acts.Expanded → ⊥) → answer_at (situation_of s) ≡ Err x → IsRefusal m x
    → passed (acted_state s) ≡ Some m
pending_passes s x m within some is refused =
    let f = s.formatter in
    let d = f.reader.half.reading.pending_act in
    passed_five s within
    ∙ answer_passes (asking d f.store f.reader) (act d f.store f.reader).stored f.reader (act d f.store f.reader).reader x m (counts d f.store f.reader some) is refused

read_by : (b : Bool) (s : State) (x : Refusal) (m : Measure) → IsWithin s → (s.formatter.reader.half.reading.pending_act ≡ pending_acts.Expanded → ⊥) → input.RefusesBy b (situation_of s) x → IsRefusal m x
    → passed (with_situation (if b then look (situation_of s) else acted_at (situation_of s)) s) ≡ Some m
read_by true s x m within some is refused = absurd (no_sight (shown s.formatter.store.levels) s.coming x (for_limit m x refused) is)
read_by false s x m within some is refused = pending_passes s x m within some is refused

passes_by : (k : Kind) (s : State) (m : Measure) → kind s ≡ k → IsWithin s → (s.formatter.reader.half.reading.pending_act ≡ pending_acts.Expanded → ⊥) → PassesBy k s m → passed (step s) ≡ Some m
passes_by Reads s m is within some h =
    ap passed (reads-step s is) ∙ read_by (looks (situation_of s)) s h.0 m within some h.1 h.2
passes_by Works s m is within some h = h
passes_by Over s m is within some h = absurd h

pub refused_is_above : RefusedIsAbove
refused_is_above s which within some passes = passes_by (kind s) s which refl within some passes

-- In a run the line is within its limit, and the texts that are being built are few.
use Rattle.std.specs.Prelude.{nat_lt}
use Rattle.std.specs.Option.{option_and_then}
use Rattle.std.proofs.lemmas.Bool.{ltb-false}
use Rattle.std.proofs.lemmas.List.Sums.{sum_by-cons}
use Rattle.std.proofs.Common.{◌≡◌, ℕ, zero, suc, ◌*◌, ◌≤◌, Bool, true, false, if◌then◌else◌, List, [], ◌∷◌, length, sum_by, Option, None, Some, Ok, Err, refl, sym, subst, ap, arith}
use Rattle.nr_fill.specs.Piece.{line_cells}
use Rattle.nr_page.specs.Grid.{page_charge}
use Rattle.nr_symbol_tables.specs.Table.{find}
use Rattle.nr_store.specs.Store.{Stored, Built, Level, Read, Mark, Reading, charge_of, weight, words, entered, called, written, gone_on, defined, named_newest, on_newest, longer, shown, left, left_of}
use Rattle.nr_store.specs.declared.element.Element.{Element}
use Rattle.nr_store.specs.declared.element.Element.TheVariants as elements
use Rattle.nr_store.specs.declared.named.Meaning.{Meaning}
use Rattle.nr_store.specs.declared.named.Meaning.TheVariants as meanings
use Rattle.nr_store.specs.declared.register.Register.{Register}
use Rattle.nr_reading.specs.Half.{TakenIn, take_in}
use Rattle.nr_reading.specs.declared.ask.Sign.TheVariants as signs
use Rattle.nr_reading.specs.declared.mode.PendingAct.{PendingAct}
use Rattle.nr_reading.specs.declared.mode.PendingAct.TheVariants as pending_acts
use Rattle.nr_input.specs.Acting.{act, name_in, after_meaning, meaning_in, base_of}
use Rattle.nr_input.specs.Moving.{Situation, looks, look, taken_at, stays_at, acted_at, answer_at, move as input_move}
use Rattle.nr_input.specs.Moving as input
use Rattle.nr_input.specs.Place.{next_item}
use Rattle.nr_input.specs.Refusal.{answer, storing_by}
use Rattle.nr_input.specs.declared.reader.Reader.{Reader}
use Rattle.nr_input.specs.declared.emitted.Emitted.{Emitted}
use Rattle.nr_input.specs.declared.emitted.Emitted.TheVariants as tells
use Rattle.nr_formatter.specs.Access.{collected}
use Rattle.nr_formatter.specs.declared.formatter.Formatter.{Formatter}
use Rattle.nr_formatter.specs.declared.tasks.Resume.{Resume}
use Rattle.nr_machine.specs.State.{State}
use Rattle.nr_machine.specs.Machine.{step, state_after, read, emitted, situation_of}
use Rattle.nr_machine.specs.Measures.{passed}
use Rattle.nr_machine.specs.Run.{Kind, Reads, Works, Over, kind, GoesBy, Runs}
use Rattle.nr_machine.specs.declared.outcome.Measure.TheVariants as measures
use Rattle.nr_laws.proofs.ReadMoves.{reads-step}

-- each of the texts that are being built is charged 48
abbrev AreFew : Stored Resume → Type 0
AreFew v = 48 * length v.building ≤ v.limit

pub record IsKept (f : Formatter) : Type 0 where
  pub line : line_cells (collected f) ≤ f.line.limit
  pub few : 48 * length f.store.building ≤ f.store.limit

-- ---- by what is charged

built-le : (bs : List Built) → 48 * length bs ≤ sum_by (λ (b : Built). weight b.text) bs
built-le [] = omega arith
built-le (b ∷ bs) = omega (arith, built-le bs, sum_by-cons (λ (x : Built). weight x.text) b bs)

charged : (v : Stored Resume) → charge_of v ≤ v.limit → AreFew v
charged v within = omega (arith, within, built-le v.building)

-- ---- what is pending

stored_ok : (over : Bool) (v : Stored Resume) → (over ≡ false → charge_of v ≤ v.limit) → storing_by (if over then Err (record {}) else Ok tt) ≡ Ok tt → AreFew v
stored_ok true v within ok = let wrong : ⊥ = cc in absurd wrong
stored_ok false v within ok = charged v (within refl)

newest : (xs : List Element) (bs : List Built) → length (on_newest (longer xs) bs) ≡ length bs
newest xs [] = refl
newest xs (b ∷ bs) = refl

added : (xs : List Element) (v : Stored Resume) → AreFew v → 48 * length (on_newest (longer xs) v.building) ≤ v.limit
added xs v h = omega (arith, h, newest xs v.building)

named : (bs : List Built) (name : List ℕ) (v : Stored Resume) → v.building ≡ bs → AreFew v → AreFew (named_newest bs name v)
named [] name v is h = h
named (b ∷ bs) name v is h = let counted : length v.building ≡ length (b ∷ bs) = ap (λ (xs : List Built). length xs) is in omega (arith, h, counted)

naming : (keeps : Bool) (name : List ℕ) (v : Stored Resume) → AreFew v → AreFew (if keeps then defined name v else v)
naming true name v h = named v.building name v refl h
naming false name v h = h

opened : (name : List ℕ) (text : Option (List Element)) (v : Stored Resume) → AreFew v → AreFew (entered name text None v)
opened name None v h = h
opened name (Some text) v h = h

called_text : (name : List ℕ) (text : Option (List Element)) (v : Stored Resume) → AreFew v → AreFew (called name text v)
called_text name None v h = h
called_text name (Some text) v h = h

set : (x : Option Register) (name : List ℕ) (v : Stored Resume) → AreFew v → AreFew (written x name v)
set None name v h = h
set (Some x) name v h = h

meant : (m : Meaning) (v : Stored Resume) → AreFew v → AreFew (after_meaning m v)
meant meanings.Text v h = h
meant m v h = h

acted : (d : PendingAct) (v : Stored Resume) (r : Reader) → answer d v r ≡ Ok tt → AreFew v → AreFew (act d v r).stored
acted pending_acts.Begin v r ok h = let w = base_of r v in stored_ok (nat_lt w.limit (charge_of w)) w (ltb-false w.limit (charge_of w)) ok
acted (pending_acts.Add b) v r ok h = added (elements.Byte b ∷ []) v h
acted (pending_acts.Release held n b) v r ok h = added _ v h
acted pending_acts.Define v r ok h = naming r.half.notes.defining.keeps (name_in r) v h
acted pending_acts.DefineAndCall v r ok h = naming r.half.notes.defining.keeps (name_in r) v h
acted pending_acts.CallEnding v r ok h = opened r.half.notes.defining.ending (words (find r.half.notes.defining.ending v.names)) v h
acted pending_acts.Splice v r ok h = opened r.half.notes.asked (words (find r.half.notes.asked v.names)) v h
acted (pending_acts.Register signs.None) v r ok h = h
acted (pending_acts.Register signs.Plus) v r ok h = set (option_and_then (gone_on true) (find r.half.notes.asked v.registers)) r.half.notes.asked v h
acted (pending_acts.Register signs.Minus) v r ok h = set (option_and_then (gone_on false) (find r.half.notes.asked v.registers)) r.half.notes.asked v h
acted pending_acts.Call v r ok h = called_text (name_in r) (words (find (name_in r) v.names)) v h
acted pending_acts.Seek v r ok h = meant (meaning_in v r) v h
acted d v r ok h = h

-- ---- a look

text_left : (xs : List Element) (l : Reading Resume) (ls : List (Level Resume)) (v : Stored Resume) → AreFew v → AreFew (left_of xs l ls v)
text_left [] l ls v h = h
text_left (x ∷ xs) l ls v h = h

level_left : (ls : List (Level Resume)) (v : Stored Resume) → AreFew v → AreFew (left ls v)
level_left [] v h = h
level_left (Read l ∷ ls) v h = text_left l.rest l ls v h
level_left (Mark k ∷ ls) v h = h

taken_in : (b : Bool) (m : TakenIn) (q : Situation Resume) → AreFew q.stored → AreFew (if b then taken_at m q else stays_at m q).situation.stored
taken_in true m q h = level_left q.stored.levels q.stored h
taken_in false m q h = h

moved : (b : Bool) (q : Situation Resume) → input.GoesBy b q → AreFew q.stored → AreFew (if b then look q else acted_at q).situation.stored
moved true q goes h = let m = take_in (next_item (shown q.stored.levels) q.coming) q.reader.half in taken_in m.takes m q h
moved false q goes h = acted q.reader.half.reading.pending_act q.stored q.reader goes h

-- ---- a move

emitted_kept : (t : Emitted Resume) (f : Formatter) → IsKept f → IsKept (emitted t f)
emitted_kept (tells.Event e) f h = record { line = h.line; few = h.few }
emitted_kept (tells.Resume k) f h = record { line = h.line; few = h.few }

read_kept : (s : State) → input.Goes (situation_of s) → IsKept s.formatter → IsKept (read s).formatter
read_kept s goes h = emitted_kept (input_move (situation_of s)).emitted _ (record { line = h.line; few = moved (looks (situation_of s)) (situation_of s) goes h.few })

kept_by : (a b c p d : Bool) (f : Formatter) → (a ≡ false → charge_of f.store ≤ f.store.limit) → (c ≡ false → line_cells (collected f) ≤ f.line.limit)
    → (if a then Some measures.Stored else (if b then Some measures.Depth else (if c then Some measures.LineCells else (if p then Some measures.PageCells else (if d then Some measures.Expansions else None))))) ≡ None
    → IsKept f
kept_by true b c p d f x z none = let wrong : ⊥ = cc in absurd wrong
kept_by false true c p d f x z none = let wrong : ⊥ = cc in absurd wrong
kept_by false false true p d f x z none = let wrong : ⊥ = cc in absurd wrong
kept_by false false false p d f x z none = record { line = z refl; few = charged f.store (x refl) }

passed_none : (s : State) → passed s ≡ None → IsKept s.formatter
passed_none s none =
    let f = s.formatter in
    kept_by (nat_lt f.store.limit (charge_of f.store)) (nat_lt f.store.deepest (length f.store.levels)) (nat_lt f.line.limit (line_cells (collected f))) (nat_lt s.page_limit (page_charge s.lines))
    (nat_lt f.reader.most f.reader.burst) f (ltb-false f.store.limit (charge_of f.store)) (ltb-false f.line.limit (line_cells (collected f))) none

stepped : (k : Kind) (s : State) → kind s ≡ k → GoesBy k s → IsKept s.formatter → IsKept (step s).formatter
stepped Reads s is goes h = subst (λ (t : State). IsKept t.formatter) (sym (reads-step s is)) (read_kept s goes h)
stepped Works s is goes h = passed_none (step s) goes
stepped Over s is goes h = absurd goes

pub kept-after : (n : ℕ) (s : State) → Runs n s → IsKept s.formatter → IsKept (state_after n s).formatter
kept-after zero s runs h = h
kept-after (suc n) s runs h =
    stepped (kind (state_after n s)) (state_after n s) refl (runs n (omega arith)) (kept-after n s (λ m less. runs m (omega arith)) h)

-- What goes into a diversion leaves fewer moves to come.
use Rattle.std.proofs.Common.{◌≡◌, ℕ, ◌+◌, ◌<◌, ◌≤◌, Bool, true, false, if◌then◌else◌, List, [], ◌∷◌, ◌++◌, length, min, replicate, Option, None, Some, Result, Ok, Err, OnOk, refl, ap, sym, subst, arith, length-drop}
use Rattle.std.specs.List.{fold}
use Rattle.std.specs.Option.{option_map}
use Rattle.nr_vectors.specs.declared.cell.Cell.{Cell}
use Rattle.nr_fill.specs.Piece.{Collected}
use Rattle.nr_fill.specs.Setting.{cut_of}
use Rattle.nr_store.specs.declared.element.Element.{Element}
use Rattle.nr_store.specs.declared.element.Diversion.{Diversion}
use Rattle.nr_store.specs.declared.element.Element.TheVariants as elements
use Rattle.nr_store.specs.declared.refusal.StoredBytes.{StoredBytes}
use Rattle.nr_store.specs.Store.{Built, on_newest, longer, taken, line_of, blank_cell}
use Rattle.nr_reading.specs.Weights.{blanks_owed}
use Rattle.nr_input.specs.declared.reader.Reader.{Reader}
use Rattle.nr_input.specs.Weights.{weight_before_byte}
use Rattle.nr_formatter.specs.Places.{diversion_room}
use Rattle.nr_formatter.specs.Titles.{title_row}
use Rattle.nr_reading.specs.declared.event.Event.TheVariants as events
use Rattle.nr_formatter.specs.declared.tasks.Task.TheVariants as tasks
use Rattle.nr_formatter.specs.declared.lines.Going.{Going}
use Rattle.nr_formatter.specs.declared.formatter.Formatter.{Formatter}
use Rattle.nr_formatter.specs.Access.{collected, spacing, diversion}
use Rattle.nr_formatter.specs.DiversionRow.{diverted_cells}
use Rattle.nr_formatter.specs.Diversions.{divert_line, divert_title, trap_reached, with_diverted_cell, with_diverted_end, with_diverted_space}
use Rattle.nr_formatter.specs.Lines.{pieces_going, rest_after, row_going}
use Rattle.nr_formatter.specs.Weights.{Falls, weight, owed, steps_left, weight_of_built, weight_of_diversion, weight_of_diversions, weight_of_line, weight_of_name}

-- ---- the line

either-pos : (b : Bool) (m n : ℕ) → 0 < m → 0 < n → 0 < (if b then m else n)
either-pos true m n some more = some
either-pos false m n some more = more

-- a piece goes out at least
pieces_going-pos : (going : Going) (c : Collected) → 0 < length c.pieces → 0 < pieces_going going c
pieces_going-pos going c some = either-pos going.whole (length c.pieces) (cut_of c) some (omega arith)

pub rest_after-fewer : (going : Going) (f : Formatter) → 0 < length (collected f).pieces → length (rest_after going f).pieces < length (collected f).pieces
rest_after-fewer going f some =
    let out = pieces_going-pos going (collected f) some in
    omega (arith, length-drop (pieces_going going (collected f)) (collected f).pieces)

line-lighter : (going : Going) (f : Formatter) → 0 < length (collected f).pieces → weight_of_line (rest_after going f) + 5 ≤ weight_of_line (collected f)
line-lighter going f some = let fewer = rest_after-fewer going f some in omega arith

-- ---- the diversions

pub one_name : (name : Option (List ℕ)) → weight_of_name name ≤ 1
one_name None = omega arith
one_name (Some name) = omega arith

-- a change that leaves the newest text's diversion open
diversions-same : (change : Built → Built) → ((b : Built) → weight_of_built (change b) ≡ weight_of_built b)
    → (bs : List Built) → weight_of_diversions (on_newest change bs) ≡ weight_of_diversions bs
diversions-same change same [] = refl
diversions-same change same (b ∷ bs) = ap (λ n. fold (λ a (x : Built). a + weight_of_built x) (0 + n) bs) (same b)

still_open : (cells height : ℕ) (d : Option Diversion) → weight_of_diversion (option_map (taken cells height) d) ≡ weight_of_diversion d
still_open cells height None = refl
still_open cells height (Some d) = refl

-- a line more
pub diversions-longer_taken : (bs : List Built) (more : List Element) (cells height : ℕ)
    → weight_of_diversions (on_newest (λ b. record { text = b.text ++ more; diversion = option_map (taken cells height) b.diversion }) bs) ≡ weight_of_diversions bs
diversions-longer_taken bs more cells height =
    diversions-same (λ b. record { text = b.text ++ more; diversion = option_map (taken cells height) b.diversion }) (λ b. still_open cells height b.diversion) bs

pub diversions-longer : (bs : List Built) (more : List Element) → weight_of_diversions (on_newest (longer more) bs) ≡ weight_of_diversions bs
diversions-longer bs more = diversions-same (longer more) (λ b. refl) bs

-- ---- what goes in

-- the moves that come before more is read are all that changes
falls_steps : (down up : ℕ) (f g : Formatter) → g.store.limit ≡ f.store.limit → g.store.levels ≡ f.store.levels → g.reader ≡ f.reader → owed g ≤ owed f
    → steps_left g + down ≤ steps_left f + up → Falls down up f g
unfolding weight
falls_steps down up f g limit levels reader less steps = record {
  limit = limit;
  most = ap (λ (r : Reader). r.most) reader;
  falls = λ p.
      let before : weight_before_byte g.store p g.reader ≡ weight_before_byte f.store p f.reader = simp (limit, levels, reader) in
      let blanks : blanks_owed g.reader.half ≡ blanks_owed f.reader.half = ap (λ (r : Reader). blanks_owed r.half) reader in
      omega arith;
}

pub falls_along : {down up : ℕ} {f g h : Formatter} → Falls down up f g → h ≡ g → Falls down up f h
falls_along {down} {up} {f} falls same = subst (λ (k : Formatter). Falls down up f k) (sym same) falls

pub made_along : {down up : ℕ} {f g : Formatter} (h : Formatter) (r : Result (Unit {0}) StoredBytes) → Falls down up f g → OnOk r (h ≡ g) → OnOk r (Falls down up f h)
made_along h (Ok u) falls same = falls_along falls same
made_along h (Err e) falls same = tt

pub falls-divert_line : (going : Going) (f : Formatter) → 0 < length (collected f).pieces → Falls 1 0 f (divert_line going f)
unfolding owed steps_left
falls-divert_line going f some =
    let cells = diverted_cells (row_going going 0 f) in
    let lighter = line-lighter going f some in
    let springs = one_name (trap_reached (spacing f) (diversion f)) in
    let open_ = diversions-longer_taken f.store.building (line_of 0 cells (spacing f)) (0 + length cells) (spacing f) in
    falls_steps 1 0 f (divert_line going f) refl refl refl (omega arith) (omega arith)

pub falls-divert_title : (f : Formatter) → f.event ≡ events.Nothing → f.task ≡ tasks.Title → Falls 1 0 f (divert_title f)
unfolding owed steps_left
falls-divert_title f nothing task =
    let cells = diverted_cells (title_row 0 f) in
    let springs = one_name (trap_reached (spacing f) (diversion f)) in
    let open_ = diversions-longer_taken f.store.building (line_of 0 cells (spacing f)) (0 + length cells) (spacing f) in
    falls_steps 1 0 f (divert_title f) refl refl refl (rw (nothing, task) (omega arith)) (rw (nothing, task) (omega arith))

pub falls-diverted_space : (n : ℕ) (f : Formatter) → f.event ≡ events.Nothing → f.task ≡ tasks.Space n → Falls 1 0 f (with_diverted_space n f)
unfolding owed steps_left
falls-diverted_space n f nothing task =
    let height = min n (diversion_room f) in
    let springs = one_name (trap_reached height (diversion f)) in
    let open_ = diversions-longer_taken f.store.building (line_of 0 [] height) (0 + 0) height in
    falls_steps 1 0 f (with_diverted_space n f) refl refl refl (rw (nothing, task) (omega arith)) (rw (nothing, task) (omega arith))

pub falls-diverted_end : (cells height : ℕ) (f : Formatter) → f.event ≡ events.Nothing → f.task ≡ tasks.Line height → Falls 1 0 f (with_diverted_end cells height f)
unfolding owed steps_left
falls-diverted_end cells height f nothing task =
    let springs = one_name (trap_reached height (diversion f)) in
    let open_ = diversions-longer_taken f.store.building (elements.LineEnd height ∷ []) cells height in
    falls_steps 1 0 f (with_diverted_end cells height f) refl refl refl (rw (nothing, task) (omega arith)) (rw (nothing, task) (omega arith))

pub falls-diverted_cell : (indent : ℕ) (cell : Cell) (f : Formatter) → Falls 0 0 f (with_diverted_cell indent cell f)
unfolding owed steps_left
falls-diverted_cell indent cell f =
    let open_ = diversions-longer f.store.building (replicate indent blank_cell ++ elements.Cell cell ∷ []) in
    falls_steps 0 0 f (with_diverted_cell indent cell f) refl refl refl (omega arith) (omega arith)

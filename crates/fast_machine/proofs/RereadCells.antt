-- Cells of a diverted line that is read again: two moves a cell.
use Rattle.std.proofs.Common.{◌≡◌, ℕ, ◌+◌, ◌*◌, ◌≤◌, true, false, List, [], ◌∷◌, ◌++◌, length, take, drop, Option, None, Some, refl, sym, ap, ◌∙◌, subst, arith, append-nil, append_assoc, length-append, length-drop, drop_at, take-append-drop}
use Rattle.std.proofs.lemmas.Bool.{eq-eqb}
use Rattle.std.proofs.lemmas.List.Sums.{sum_by-cons}
use Rattle.nr_units.specs.Source.{Supply}
use Rattle.nr_vectors.specs.declared.cell.Cell.{Cell}
use Rattle.nr_fill.specs.Piece.{is_nil}
use Rattle.nr_fill.specs.CellRow.{Row, IsRow, AddsToRow}
use Rattle.nr_store.specs.Store.{Level, Read, Mark, Reading, level_charge}
use Rattle.nr_store.specs.Windows.{rest_of, levels_after, run_left}
use Rattle.nr_store.specs.declared.element.Element.{Element}
use Rattle.nr_store.specs.declared.element.Element.TheVariants as elements
use Rattle.nr_reading.specs.declared.event.Event.TheVariants as events
use Rattle.nr_reading.specs.declared.next_item.NextItem.TheVariants as next_items
use Rattle.nr_reading.specs.Half.{take_in}
use Rattle.nr_reading.specs.Many.Rereading.{IsRereading}
use Rattle.nr_reading.proofs.Rereading.{rereading, take_in-cell}
use Rattle.nr_input.specs.Moving.{move as input_move, situation, taken_in_at}
use Rattle.nr_input.specs.Moving as input
use Rattle.nr_input.specs.Weights.{items_in, items_left}
use Rattle.nr_input.specs.declared.emitted.Emitted.TheVariants as tells
use Rattle.nr_store.specs.declared.element.Diversion.{Diversion}
use Rattle.nr_reading.specs.declared.mode.PendingAct.TheVariants as pending_acts
use Rattle.nr_formatter.specs.Access.{diversion}
use Rattle.nr_formatter.specs.Places.{outlet, outlet_of, is_on_page}
use Rattle.nr_formatter.specs.Many.Runs.{IsRereadingLine, is_rereading_line}
use Rattle.nr_formatter.specs.Weights as weights
use Rattle.nr_formatter.specs.declared.formatter.Formatter.{Formatter}
use Rattle.nr_formatter.specs.declared.paper.Outlet.{Outlet}
use Rattle.nr_formatter.specs.declared.paper.Outlet.TheVariants as outlets
use Rattle.nr_formatter.specs.declared.tasks.Resume.{Resume}
use Rattle.nr_formatter.proofs.PlainText.{rereading_line}
use Rattle.nr_machine.specs.State.{State}
use Rattle.nr_machine.specs.Machine.{step, read, situation_of, with_situation, cell_to}
use Rattle.nr_machine.specs.Measures.{IsWithin, passed}
use Rattle.nr_machine.specs.Run.{Goes, GoesBy}
use Rattle.nr_machine.specs.Holding.{Shape, at, Stands, Holds, Made, weight, worth}
use Rattle.fast_machine.specs.Rereading.{AreCells, cells_of}
use Rattle.fast_machine.specs.Running.{Makes}
use Rattle.nr_machine.proofs.Going.{cells}
use Rattle.nr_machine.proofs.Measured.{passed_none}
use Rattle.nr_machine.proofs.NextMoves.{step-read, kind-read, step-hear, kind-hear}
use Rattle.fast_machine.proofs.Gliding.{Glides, glides-add, glides-one}
use Rattle.nr_machine.proofs.Standing.{wrote_nothing}
use Rattle.nr_machine.proofs.Working.{holds_of}

-- with so much left of the newest level's text, and this row
abbrev pub at_rest : Reading Resume → List (Level Resume) → List Element → List Cell → State → State
at_rest l ls xs row s = record s {
  formatter = record s.formatter { store = record s.formatter.store { levels = Read (record l { rest = xs }) ∷ ls } };
  row = row;
}

no_diversion : (o : Outlet) → is_on_page o ≡ true → o ≡ outlets.Diversion → ⊥
no_diversion outlets.Diversion on is = let wrong : false ≡ true = on in cc
no_diversion outlets.NoPage on is = cc
no_diversion outlets.Full on is = cc
no_diversion outlets.Room on is = cc

begun : (row : List Cell) (x : Cell) → is_nil (row ++ x ∷ []) ≡ false
begun [] x = refl
begun (y ∷ ys) x = refl

-- a cell was read
abbrev pub seen_at : Reading Resume → List (Level Resume) → Cell → List Element → List Cell → State → State
seen_at l ls x xs row s = record (at_rest l ls xs row s) { formatter = record (at_rest l ls xs row s).formatter { event = events.DivertedCell x } }

on_page : (d : Option Diversion) (f g : Formatter) → g.paper ≡ f.paper → g.settings ≡ f.settings → is_on_page (outlet_of d f) ≡ true → is_on_page (outlet_of d g) ≡ true
on_page None f g paper settings on = rw (paper, settings) on
on_page (Some d) f g paper settings on = on

module _ (l : Reading Resume) (ls : List (Level Resume)) (x : Cell) (xs : List Element) (row : List Cell) (s : State) where
  looks : s.formatter.reader.half.reading.pending_act ≡ pending_acts.Look
      → input_move (situation_of (at_rest l ls (elements.Cell x ∷ xs) row s)) ≡ taken_in_at (take_in (next_items.Cell x) s.formatter.reader.half) (situation_of (at_rest l ls (elements.Cell x ∷ xs) row s))
  looks pending_act = rw pending_act refl

  takes : taken_in_at (record { half = s.formatter.reader.half; event = events.DivertedCell x; takes = true }) (situation_of (at_rest l ls (elements.Cell x ∷ xs) row s))
      ≡ record { situation = situation (at_rest l ls xs row s).formatter.store s.coming s.formatter.reader; emitted = tells.Event (events.DivertedCell x) }
  takes = rw (eq-eqb s.coming.taken s.coming.taken refl) refl

  reads_cell : IsRereading s.formatter.reader.half → read (at_rest l ls (elements.Cell x ∷ xs) row s) ≡ seen_at l ls x xs row s
  reads_cell half =
      ap (λ m. with_situation m (at_rest l ls (elements.Cell x ∷ xs) row s))
      (looks half.pending_act ∙ ap (λ m. taken_in_at m (situation_of (at_rest l ls (elements.Cell x ∷ xs) row s))) (take_in-cell x s.formatter.reader.half half) ∙ takes)

  sees_by : s.formatter.reader.half.reading.pending_act ≡ pending_acts.Look → input.Goes (situation_of (at_rest l ls (elements.Cell x ∷ xs) row s))
  sees_by pending_act = rw pending_act tt

  sees_cell : IsRereading s.formatter.reader.half → input.Goes (situation_of (at_rest l ls (elements.Cell x ∷ xs) row s))
  sees_cell half = sees_by half.pending_act

  heard_cell : is_nil row ≡ false → cell_to outlets.Room x (seen_at l ls x xs row s)
      ≡ record (at_rest l ls xs (row ++ x ∷ []) s) { formatter = record (at_rest l ls xs row s).formatter { event = events.Nothing } }
  heard_cell some = rw some refl

module _ (l : Reading Resume) (ls : List (Level Resume)) (s : State) (chosen : s.chosen ≡ []) (line : IsRereadingLine s.formatter) where
  -- what is left of a text is charged nothing
  within_rest : (xs ys : List Element) (row row' : List Cell) → IsWithin (at_rest l ls xs row s) → IsWithin (at_rest l ls ys row' s)
  within_rest xs ys row row' w = record {
    formatter = record {
      stored = omega (arith, w.formatter.stored, sum_by-cons level_charge (Read (record l { rest = xs })) ls, sum_by-cons level_charge (Read (record l { rest = ys })) ls);
      depth = w.formatter.depth;
      line = w.formatter.line;
      burst = w.formatter.burst;
    };
    page = w.page;
  }

  module _ (x : Cell) (xs : List Element) (row : List Cell) (some : is_nil row ≡ false) (within : IsWithin (at_rest l ls (elements.Cell x ∷ xs) row s)) where
    half : IsRereading s.formatter.reader.half
    half = rereading s.formatter.reader.half line.half

    read_is : read (at_rest l ls (elements.Cell x ∷ xs) row s) ≡ seen_at l ls x xs row s
    read_is = reads_cell l ls x xs row s half

    goes_read : Goes (at_rest l ls (elements.Cell x ∷ xs) row s)
    goes_read =
        let reads = kind-read (at_rest l ls (elements.Cell x ∷ xs) row s) chosen line.springs line.event line.task in
        subst (λ k. GoesBy k (at_rest l ls (elements.Cell x ∷ xs) row s)) (sym reads) (sees_cell l ls x xs row s half)

    step_hear : step (seen_at l ls x xs row s) ≡ at_rest l ls xs (row ++ x ∷ []) s
    step_hear =
        step-hear (seen_at l ls x xs row s) (events.DivertedCell x) chosen line.springs refl
        ∙ cells (outlet (seen_at l ls x xs row s).formatter) x (seen_at l ls x xs row s)
        (no_diversion (outlet (seen_at l ls x xs row s).formatter) (on_page (diversion s.formatter) s.formatter (seen_at l ls x xs row s).formatter refl refl line.outlet))
        ∙ heard_cell l ls x xs row s some
        ∙ ap (λ e. record (at_rest l ls xs (row ++ x ∷ []) s) { formatter = record (at_rest l ls xs row s).formatter { event = e } }) (sym line.event)

    glides_cell : Glides (at_rest l ls (elements.Cell x ∷ xs) row s) 2 (at_rest l ls xs (row ++ x ∷ []) s)
    glides_cell =
        let hears = kind-hear (seen_at l ls x xs row s) (events.DivertedCell x) chosen line.springs refl (λ e. let wrong : ⊥ = cc in wrong) in
        let then_within = within_rest (elements.Cell x ∷ xs) xs row (row ++ x ∷ []) within in
        let goes = subst (λ k. GoesBy k (seen_at l ls x xs row s)) (sym hears) (ap passed step_hear ∙ passed_none (at_rest l ls xs (row ++ x ∷ []) s) then_within) in
        glides-add (at_rest l ls (elements.Cell x ∷ xs) row s) 1 1 (seen_at l ls x xs row s) (at_rest l ls xs (row ++ x ∷ []) s)
        (glides-one (at_rest l ls (elements.Cell x ∷ xs) row s) (seen_at l ls x xs row s) goes_read
        (step-read (at_rest l ls (elements.Cell x ∷ xs) row s) chosen line.springs line.event line.task ∙ read_is))
        (glides-one (seen_at l ls x xs row s) (at_rest l ls xs (row ++ x ∷ []) s) goes step_hear)

  glides_cells : (ys zs : List Element) (row : List Cell) → AreCells ys → is_nil row ≡ false → IsWithin (at_rest l ls (ys ++ zs) row s)
      → Glides (at_rest l ls (ys ++ zs) row s) (2 * length ys) (at_rest l ls zs (row ++ cells_of ys) s)
  glides_cells [] zs row are some within = record {
    runs = λ m below. absurd (omega (arith, below));
    leads = ap (λ r. at_rest l ls zs r s) (sym (append-nil row));
  }
  glides_cells (elements.Cell x ∷ ys) zs row are some within =
      let one = glides_cell x (ys ++ zs) row some within in
      let more = glides_cells ys zs (row ++ x ∷ []) are (begun row x) (within_rest (elements.Cell x ∷ ys ++ zs) (ys ++ zs) row (row ++ x ∷ []) within) in
      let count : 2 + 2 * length ys ≡ 2 * length (elements.Cell x ∷ ys) = omega arith in
      subst (λ r. Glides (at_rest l ls (elements.Cell x ∷ ys ++ zs) row s) (2 * length (elements.Cell x ∷ ys)) (at_rest l ls zs r s)) (append_assoc row (x ∷ []) (cells_of ys))
      (subst (λ n. Glides (at_rest l ls (elements.Cell x ∷ ys ++ zs) row s) n (at_rest l ls zs ((row ++ x ∷ []) ++ cells_of ys) s)) count
      (glides-add (at_rest l ls (elements.Cell x ∷ ys ++ zs) row s) 2 (2 * length ys) (at_rest l ls (ys ++ zs) (row ++ x ∷ []) s) (at_rest l ls zs ((row ++ x ∷ []) ++ cells_of ys) s) one more))
  glides_cells (elements.Byte b ∷ ys) zs row are some within = absurd are
  glides_cells (elements.LineEnd h ∷ ys) zs row are some within = absurd are

-- ---- the engine

-- so many elements of the newest level's text were read, and the row is this one
abbrev pub reread_shape : ℕ → Row → Shape → Shape
reread_shape n row e = record e { formatter = record e.formatter { store = run_left n e.formatter.store }; row = row }

pub items_fewer : (n : ℕ) (levels : List (Level Resume)) → n ≤ length (rest_of levels) → items_left (levels_after n levels) + n ≤ items_left levels
items_fewer n [] few = omega (arith, few)
items_fewer n (Mark mode ∷ ls) few = omega (arith, few)
items_fewer n (Read l ∷ ls) few =
    omega (arith, few, length-drop n l.rest, sum_by-cons items_in (Read l) ls, sum_by-cons items_in (Read (record l { rest = drop n l.rest })) ls)

reread_spends : (n : ℕ) (row : Row) (e : Shape) → n ≤ length (rest_of e.formatter.store.levels) → weight (reread_shape n row e) + 2 * n + worth e * e.place.taken ≤ weight e + worth e * e.place.taken
unfolding weights.weight weights.steps_left weights.owed
reread_spends n row e few = omega (arith, few, items_fewer n e.formatter.store.levels few)

no_elements : (ys zs : List Element) → ys ++ zs ≡ [] → ys ≡ []
no_elements [] zs is = refl
no_elements (y ∷ ys) zs is = absurd (let wrong : y ∷ (ys ++ zs) ≡ [] = is in cc)

module _ (ys zs : List Element) (row : Row) (e : Shape) (supply : Option Supply) (held : Option (List ℕ)) (s : State) (h : Stands [] supply s e)
    (is : is_rereading_line e.formatter ≡ true) (are : AreCells ys) (some : is_nil s.row ≡ false) (adds : AddsToRow e.row (cells_of ys) row) where
  -- nothing is left to be read of a level
  made_nothing : (levels : List (Level Resume)) → e.formatter.store.levels ≡ levels → levels_after (length ys) levels ≡ levels → ys ≡ []
      → Made [] (at e s) (2 * length ys) (reread_shape (length ys) row e) supply held held
  made_nothing levels levels_is same none =
      let formatter_is : record e.formatter { store = run_left (length ys) e.formatter.store } ≡ e.formatter =
      ap (λ v. record e.formatter { store = record e.formatter.store { levels = v } }) (ap (levels_after (length ys)) levels_is ∙ same ∙ sym levels_is) in
      let row_is : IsRow s.row row = subst (λ r. IsRow r row) (ap (λ y. s.row ++ cells_of y) none ∙ append-nil s.row) (adds.1 s.row h.row) in
      let holds : Holds [] supply (at e s) (reread_shape (length ys) row e) =
      holds_of supply (at e s) (reread_shape (length ys) row e) formatter_is h.chosen_is h.coming row_is h.page h.page_limit h.select h.faces h.within in
      let count : 2 * length ys ≡ 0 = ap (λ y. 2 * length y) none in
      subst (λ n. Made [] (at e s) n (reread_shape (length ys) row e) supply held held) (sym count)
      (record { runs = λ m below. absurd (omega (arith, below)); holds = holds; wrote = wrote_nothing (at e s) (at e s) held refl })

  made_cells : (l : Reading Resume) (ls : List (Level Resume)) → e.formatter.store.levels ≡ Read l ∷ ls → ys ++ zs ≡ l.rest
      → Made [] (at e s) (2 * length ys) (reread_shape (length ys) row e) supply held held
  made_cells l ls levels_is rest_is =
      let start : at_rest l ls (ys ++ zs) s.row (at e s) ≡ at e s =
      ap (λ r. at_rest l ls r s.row (at e s)) rest_is
      ∙ ap (λ v. record (at e s) { formatter = record e.formatter { store = record e.formatter.store { levels = v } } }) (sym levels_is) in
      let line = rereading_line e.formatter is in
      let within = subst IsWithin (sym start) h.within in
      let end : State = at_rest l ls zs (s.row ++ cells_of ys) (at e s) in
      let glides : Glides (at e s) (2 * length ys) end = subst (λ t. Glides t (2 * length ys) end) start (glides_cells l ls (at e s) h.chosen_is line ys zs s.row are some within) in
      let left : drop (length ys) l.rest ≡ zs = ap (drop (length ys)) (sym rest_is) ∙ drop_at ys zs (length ys) refl in
      let formatter_is : record e.formatter { store = run_left (length ys) e.formatter.store } ≡ end.formatter =
      ap (λ v. record e.formatter { store = record e.formatter.store { levels = v } }) (ap (levels_after (length ys)) levels_is ∙ ap (λ r. Read (record l { rest = r }) ∷ ls) left) in
      let holds : Holds [] supply end (reread_shape (length ys) row e) =
      holds_of supply end (reread_shape (length ys) row e) formatter_is h.chosen_is h.coming (adds.1 s.row h.row) h.page h.page_limit h.select h.faces
      (within_rest l ls (at e s) h.chosen_is line (ys ++ zs) zs s.row (s.row ++ cells_of ys) within) in
      record {
        runs = glides.runs;
        holds = rw glides.leads holds;
        wrote = wrote_nothing (at e s) _ held (ap (λ t. t.pages) glides.leads);
      }

  made_by : (levels : List (Level Resume)) → e.formatter.store.levels ≡ levels → ys ++ zs ≡ rest_of levels → Made [] (at e s) (2 * length ys) (reread_shape (length ys) row e) supply held held
  made_by [] levels_is rest_is = made_nothing [] levels_is refl (no_elements ys zs rest_is)
  made_by (Mark mode ∷ ls) levels_is rest_is = made_nothing (Mark mode ∷ ls) levels_is refl (no_elements ys zs rest_is)
  made_by (Read l ∷ ls) levels_is rest_is = made_cells l ls levels_is rest_is

-- cells that come next of a diverted line
pub makes_cells : (ys zs : List Element) (row : Row) (e : Shape) (supply : Option Supply) → is_rereading_line e.formatter ≡ true → AreCells ys
    → ((cells : List Cell) → IsRow cells e.row → is_nil cells ≡ false) → AddsToRow e.row (cells_of ys) row → ys ++ zs ≡ rest_of e.formatter.store.levels
    → Makes (2 * length ys) e (reread_shape (length ys) row e) supply supply
makes_cells ys zs row e supply is are some adds rest_is = record {
  makes = λ held s h. made_by ys zs row e supply held s h is are (some s.row h.row) adds e.formatter.store.levels refl rest_is;
  limit = refl;
  most = refl;
  limits = refl;
  spends = reread_spends (length ys) row e (let whole = ap length rest_is in omega (arith, whole, length-append ys zs));
}

-- ---- one element after another

pub are-push : (xs : List Element) (x : Cell) → AreCells xs → AreCells (xs ++ elements.Cell x ∷ [])
are-push [] x are = tt
are-push (elements.Cell y ∷ ys) x are = are-push ys x are
are-push (elements.Byte b ∷ ys) x are = absurd are
are-push (elements.LineEnd h ∷ ys) x are = absurd are

pub cells-push : (xs : List Element) (x : Cell) → cells_of (xs ++ elements.Cell x ∷ []) ≡ cells_of xs ++ x ∷ []
cells-push [] x = refl
cells-push (elements.Cell y ∷ ys) x = ap (λ zs. y ∷ zs) (cells-push ys x)
cells-push (elements.Byte b ∷ ys) x = cells-push ys x
cells-push (elements.LineEnd h ∷ ys) x = cells-push ys x

-- a prefix of a prefix, and what is after it
pub prefix-afterwards : (n m : ℕ) (xs : List Element) → take n (take m xs) ++ (drop n (take m xs) ++ drop m xs) ≡ xs
prefix-afterwards n m xs =
    sym (append_assoc (take n (take m xs)) (drop n (take m xs)) (drop m xs))
    ∙ ap (λ ys. ys ++ drop m xs) (take-append-drop n (take m xs))
    ∙ take-append-drop m xs

-- Cells of a title that are added one by one.
use Rattle.std.proofs.Common.{◌≡◌, ℕ, ◌+◌, ◌-◌, ◌≤◌, ◌<◌, zero, suc, List, [], ◌∷◌, length, replicate, map, drop, get_or, Option, None, Some, Result, Ok, Err, refl, ap, ap₂, sym, ◌∙◌, arith, inl, inr, length-append}
use Rattle.std.proofs.lemmas.Bool.{le-ltb, cases_lt}
use Rattle.std.proofs.lemmas.List.{drop_more}
use Rattle.nr_vectors.specs.declared.cell.Cell.{Cell}
use Rattle.nr_fill.specs.declared.line.LineCells.{LineCells}
use Rattle.nr_fill.specs.declared.title.TitlePart.{TitlePart}
use Rattle.nr_fill.specs.declared.title.TitlePart.TheVariants.{Left, Centre, Right}
use Rattle.nr_fill.specs.Line.{Lined, afforded}
use Rattle.nr_fill.specs.Title.{Title, title_cells, with_cell_in}
use Rattle.nr_fill.specs.Piece.{Collected, line_cells, with_title_cell}
use Rattle.nr_fill.proofs.Measures.{afforded_err}
use Rattle.nr_settings.specs.declared.fonts.Fonts.{Fonts}
use Rattle.nr_settings.specs.Fonts.{cell_of}
use Rattle.nr_formatter.specs.Titles.{with_title_cells}

-- one more of equal cells
pub titled_copy : (x : Cell) (k : ℕ) (c : Collected) → 0 < k → with_title_cells (replicate k x) c ≡ with_title_cells (replicate (k - 1) x) (with_title_cell x c)
titled_copy x zero c some = absurd (omega arith)
titled_copy x (suc k) c some = let same : k ≡ suc k - 1 = omega arith in ap (λ n. with_title_cells (replicate n x) (with_title_cell x c)) same

-- one more of these bytes
pub titled_byte : (fonts : Fonts) (bytes : List ℕ) (i : ℕ) (c : Collected) → i < length bytes
    → with_title_cells (map (λ b. cell_of b fonts) (drop i bytes)) c ≡ with_title_cells (map (λ b. cell_of b fonts) (drop (i + 1) bytes)) (with_title_cell (cell_of (get_or bytes i 0) fonts) c)
titled_byte fonts bytes i c below = ap (λ bs. with_title_cells (map (λ b. cell_of b fonts) bs) c) (drop_more bytes i 0 below)

length-with_cell_in : (part : TitlePart) (x : Cell) (t : Title) → title_cells (Some t) ≤ title_cells (Some (with_cell_in part x t))
length-with_cell_in Left x t = omega (arith, length-append t.left (x ∷ []))
length-with_cell_in Centre x t = omega (arith, length-append t.centre (x ∷ []))
length-with_cell_in Right x t = omega (arith, length-append t.right (x ∷ []))

line_cells-with_cell : (x : Cell) (title : Option Title) (c : Collected) → c.title ≡ title → line_cells c ≤ line_cells (with_title_cell x c)
line_cells-with_cell x None c e = rw e (omega arith)
line_cells-with_cell x (Some t) c e = rw e (let more = length-with_cell_in t.part x t in omega arith)

-- no cell takes away from the line
pub line_cells-with_title_cells : (xs : List Cell) (c : Collected) → line_cells c ≤ line_cells (with_title_cells xs c)
line_cells-with_title_cells [] c = omega arith
line_cells-with_title_cells (x ∷ xs) c =
    let one = line_cells-with_cell x c.title c refl in
    let rest = line_cells-with_title_cells xs (with_title_cell x c) in
    omega arith

-- what is refused is above the limit
above_from_afforded : (v : Lined) → ◌≡◌ {A = Result (Unit {0}) LineCells} (Err (record {})) (afforded v) → v.limit < line_cells v.collected
above_from_afforded v h = elim (cases_lt v.limit (line_cells v.collected)) [
  | inl above ↦ above
  | inr within ↦ absurd (let e : ◌≡◌ {A = Result (Unit {0}) LineCells} (Err (record {})) (Ok tt) = (rw (le-ltb v.limit (line_cells v.collected) within) at h) in cc)
]

-- where some of the cells are refused, all are
pub refused_later : (xs : List Cell) (v : Lined) → ◌≡◌ {A = Result (Unit {0}) LineCells} (Err (record {})) (afforded v)
    → ◌≡◌ {A = Result (Unit {0}) LineCells} (Err (record {})) (afforded (record v { collected = with_title_cells xs v.collected }))
refused_later xs v h =
    let above = above_from_afforded v h in
    let more = line_cells-with_title_cells xs v.collected in
    afforded_err (record v { collected = with_title_cells xs v.collected }) (omega arith)

-- where one of equal cells is refused, all are
pub refused_copy : (x : Cell) (n i : ℕ) (v w : Lined) → i < n → with_title_cells (replicate (n - i) x) v.collected ≡ with_title_cells (replicate n x) w.collected → v.limit ≡ w.limit
    → ◌≡◌ {A = Result (Unit {0}) LineCells} (Err (record {})) (afforded (record v { collected = with_title_cell x v.collected }))
    → ◌≡◌ {A = Result (Unit {0}) LineCells} (Err (record {})) (afforded (record w { collected = with_title_cells (replicate n x) w.collected }))
refused_copy x n i v w below rest limit refused =
    let all = refused_later (replicate (n - i - 1) x) (record v { collected = with_title_cell x v.collected }) refused in
    let is : with_title_cells (replicate (n - i - 1) x) (with_title_cell x v.collected) ≡ with_title_cells (replicate n x) w.collected =
    sym (titled_copy x (n - i) v.collected (omega arith)) ∙ rest in
    all ∙ ap₂ (λ (d : Collected) (l : ℕ). afforded (record { collected = d; limit = l })) is limit

-- where the cell of one of these bytes is refused, all are
pub refused_byte : (fonts : Fonts) (bytes : List ℕ) (i : ℕ) (v w : Lined) → i < length bytes
    → with_title_cells (map (λ b. cell_of b fonts) (drop i bytes)) v.collected ≡ with_title_cells (map (λ b. cell_of b fonts) bytes) w.collected → v.limit ≡ w.limit
    → ◌≡◌ {A = Result (Unit {0}) LineCells} (Err (record {})) (afforded (record v { collected = with_title_cell (cell_of (get_or bytes i 0) fonts) v.collected }))
    → ◌≡◌ {A = Result (Unit {0}) LineCells} (Err (record {})) (afforded (record w { collected = with_title_cells (map (λ b. cell_of b fonts) bytes) w.collected }))
refused_byte fonts bytes i v w below rest limit refused =
    let x = cell_of (get_or bytes i 0) fonts in
    let more = map (λ b. cell_of b fonts) (drop (i + 1) bytes) in
    let all = refused_later more (record v { collected = with_title_cell x v.collected }) refused in
    let is : with_title_cells more (with_title_cell x v.collected) ≡ with_title_cells (map (λ b. cell_of b fonts) bytes) w.collected =
    sym (titled_byte fonts bytes i v.collected below) ∙ rest in
    all ∙ ap₂ (λ (d : Collected) (l : ℕ). afforded (record { collected = d; limit = l })) is limit

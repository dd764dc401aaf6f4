use Prim.Native.Char.{code}
use Rattle.std.proofs.lemmas.Grind.{common_steps}
use Rattle.std.proofs.Common.{◌≡◌, ℕ, nat_lt, Bool, true, false, if◌then◌else◌, suc, List, [], ◌∷◌, ◌++◌, All as Each, map, refl, ap, sym, ◌∙◌, arith}
use Rattle.std.proofs.lemmas.Bool.{false≢true}
use Rattle.std.specs.List.{flat_map}
use Rattle.nr_vectors.specs.declared.cell.Cell.{Cell}
use Rattle.nr_vectors.specs.declared.cell.Look.{Look}
use Rattle.nr_vectors.specs.declared.cell.Look.TheVariants.{Plain, Under, Bold}
use Rattle.nr_page.specs.Faces.{cell_bytes, may_show, struck}
use Rattle.nr_page.specs.declared.faces.Faces.{Faces}
use Rattle.nr_page.specs.declared.faces.Faces.TheVariants.{Letters, All}
use Rattle.nr_page.proofs.gathering.gather_cells.Goals as goal

-- one that looks plain, whether it prints or not
plain_if : (prints : Bool) → (if prints then Plain else Plain) ≡ Plain
plain_if true = refl
plain_if false = refl

one_byte : (faces : Faces) (byte : ℕ) (look : Look) → may_show faces look ≡ false → cell_bytes faces (record { byte = byte; look = look }) ≡ byte ∷ []
one_byte Letters byte Plain none = refl
one_byte Letters byte Under none = absurd (false≢true (sym none))
one_byte Letters byte Bold none = refl
one_byte All byte Plain none = ap (λ (look : Look). struck look byte) (plain_if (nat_lt (code " ") byte))
one_byte All byte Under none = absurd (false≢true (sym none))
one_byte All byte Bold none = absurd (false≢true (sym none))

-- where none shows as more, each cell is its byte
plain_bytes : (faces : Faces) (cells : List Cell) → Each (λ (cell : Cell). may_show faces cell.look ≡ false) cells → flat_map (cell_bytes faces) cells ≡ map (λ (cell : Cell). cell.byte) cells
plain_bytes faces [] none = refl
plain_bytes faces (cell ∷ cells) none =
    let first = one_byte faces cell.byte cell.look (none 0 cell (omega arith)) in
    ap (λ (bs : List ℕ). bs ++ flat_map (cell_bytes faces) cells) first
    ∙ ap (λ (bs : List ℕ). cell.byte ∷ bs) (plain_bytes faces cells (λ k d i. none (suc k) d (omega (arith, i))))

pub returns-then-not-any_shown-clause-items : goal.returns-then-not-any_shown-clause-items
returns-then-not-any_shown-clause-items c =
    c.extend_bytes.ensures.items ∙ ap (λ bs. c.args.pending.now.items ++ bs) (sym (plain_bytes c.args.faces c.args.cells.now (c.any_shown.ensures c.if-not-any_shown.true)))

pub loop-cell-preserved : goal.loop-cell-preserved
loop-cell-preserved c = grind (arith, common_steps)

pub returns-clause-items : goal.returns-clause-items
returns-clause-items c = grind (arith, common_steps)

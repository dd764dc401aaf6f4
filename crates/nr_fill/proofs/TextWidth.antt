-- How wide the text of a set line is.
use Rattle.std.proofs.Common.{◌≡◌, ℕ, ◌+◌, ◌*◌, ◌≤◌, List, [], ◌∷◌, ◌++◌, length, replicate, nat_lt, nat_le, ◌&&◌, cond, ap, ◌∙◌, arith, length-append, inl, inr}
use Rattle.std.specs.Prelude.{count_by}
use Rattle.std.proofs.Math.Nat.{div-mul-le_self}
use Rattle.std.proofs.lemmas.Bool.{cases_Bool}
use Rattle.std.proofs.lemmas.List.{length-replicate}
use Rattle.std.proofs.lemmas.List.Sums.{sum_by-cons, count_by-le-length}
use Rattle.nr_vectors.specs.Cell.{blank}
use Rattle.nr_fill.specs.declared.margins.Turn.{Turn}
use Rattle.nr_fill.specs.declared.margins.Turn.TheVariants as turns
use Rattle.nr_fill.specs.declared.piece.Join.{Join}
use Rattle.nr_fill.specs.declared.piece.Join.TheVariants.{Gap, Soft, Hard}
use Rattle.nr_fill.specs.declared.setting.Extra.{Extra}
use Rattle.nr_fill.specs.Cutting.{join_width, piece_width, pieces_width}
use Rattle.nr_fill.specs.Piece.{Piece}
use Rattle.nr_fill.specs.Spreading.{is_gap, gaps, shared, extra_at, blanks_before, next_gap, cells_after, cells_in_line}

extra_at-le : (x : Extra) (i : ℕ) → extra_at x i ≤ x.each + 1
extra_at-le x i = elim (cases_Bool (nat_lt x.above i && nat_le i x.up_to)) [ inl wider ↦ rw wider (omega arith) | inr same ↦ rw same (omega arith) ]

blanks_before-le : (x : Extra) (i : ℕ) (j : Join) → blanks_before x i j ≤ join_width j + x.each * cond (is_gap j) 1 0 + cond (is_gap j) 1 0
blanks_before-le x i (Gap k) = let more = extra_at-le x i in omega arith
blanks_before-le x i Soft = omega arith
blanks_before-le x i Hard = omega arith

length-cells_after : (x : Extra) (i : ℕ) (ps : List Piece)
    → length (cells_after x i ps) ≤ pieces_width ps + x.each * count_by (λ (p : Piece). is_gap p.join) ps + count_by (λ (p : Piece). is_gap p.join) ps
length-cells_after x i [] = omega arith
length-cells_after x i (p ∷ ps) =
    let blanks = replicate (blanks_before x i p.join) blank in
    let rest = cells_after x (next_gap i p.join) ps in
    let more = length-cells_after x (next_gap i p.join) ps in
    let wide = sum_by-cons piece_width p ps in
    let count = sum_by-cons (λ (q : Piece). cond (is_gap q.join) 1 0) p ps in
    let here = blanks_before-le x i p.join in
    let long = length-append (blanks ++ p.cells) rest in
    let part = length-append blanks p.cells in
    let many = length-replicate (blanks_before x i p.join) blank in
    let g : ℕ = cond (is_gap p.join) 1 0 in
    let others : ℕ = count_by (λ (q : Piece). is_gap q.join) ps in
    let product : x.each * count_by (λ (q : Piece). is_gap q.join) (p ∷ ps) ≡ x.each * g + x.each * others =
    ap (λ k. x.each * k) count ∙ (let e : x.each * (g + others) ≡ x.each * g + x.each * others = omega arith in e) in
    omega arith

-- a line is no longer than its pieces and what is spread over their gaps
pub length-cells_in_line : (x : Extra) (ps : List Piece) → length (cells_in_line x ps) ≤ pieces_width ps + x.each * gaps ps + gaps ps
length-cells_in_line x [] = omega arith
length-cells_in_line x (p ∷ ps) =
    let more = length-cells_after x 1 ps in
    let wide = sum_by-cons piece_width p ps in
    omega (arith, length-append p.cells (cells_after x 1 ps))

-- fewer gaps than pieces
pub gaps-le : (ps : List Piece) → gaps ps ≤ length ps
gaps-le [] = omega arith
gaps-le (p ∷ ps) = let few = count_by-le-length (λ (q : Piece). is_gap q.join) ps in omega arith

-- no more is spread than is left over
pub shared-within : (turn : Turn) (e g : ℕ) → (shared turn e g).each * g ≤ e
shared-within turns.Left e g = div-mul-le_self e g
shared-within turns.Right e g = div-mul-le_self e g

-- how long a line is at most
pub text_within : (x : Extra) (ps : List Piece) (e : ℕ) → x.each * gaps ps ≤ e → length (cells_in_line x ps) ≤ pieces_width ps + e + gaps ps
text_within x ps e h = let long = length-cells_in_line x ps in omega arith

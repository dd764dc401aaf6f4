use Rattle.std.proofs.lemmas.Grind.{common_steps}
use Rattle.std.proofs.Common.{ℕ, List, [], ◌∷◌, ◌++◌, ap, sym, map, take, ◌∙◌, arith}
use Rattle.std.proofs.lemmas.List.{map_more}
use Rattle.tbl_drawing.specs.Pens.{Bytes}
use Rattle.tbl_drawing.specs.Lines.{in_line}
use Rattle.tbl_drawing.proofs.Tapes.{draws_both, draws_same}
use Rattle.tbl_drawing.proofs.lines.put_in_line.Goals as goal

pub loop-byte-preserved : goal.loop-byte-preserved
loop-byte-preserved g c =
    draws_same (draws_both c.loop-byte.invariant c.add.ensures)
    (ap (λ (l : List ℕ). Bytes l ∷ [])
    (map_more in_line c.args.text.now c.loop-byte.byte-index 0 c.loop-byte-test.true
    ∙ ap (λ (b : ℕ). map in_line (take c.loop-byte.byte-index c.args.text.now) ++ b ∷ []) (sym c.in_line.ensures)))

pub returns : goal.returns
returns g c = grind (arith, common_steps)

use Rattle.std.proofs.Common.{◌≡◌, ℕ, ◌+◌, ◌++◌, ◌∷◌, [], List, length, map, max, ap, sym, ◌∙◌, subst, arith}
use Rattle.std.specs.List.{range_with_len}
use Rattle.std.proofs.lemmas.List.FromFn.{map-range_with_len_more}
use Rattle.nr_vectors.specs.declared.cell.Cell.{Cell}
use Rattle.nr_fill.specs.Title.{cell_of}
use Rattle.nr_fill.proofs.title.TitleParts.set_each.Goals as goal

pub loop-column-init : goal.loop-column-init
loop-column-init g c = g.met.S.CellSink.adds_nothing c.args.out.now

pub loop-column-preserved : goal.loop-column-preserved
loop-column-preserved g c =
    let parts = c.args.self in
    let f = cell_of c.args.centre c.args.right parts.left.now parts.centre.now parts.right.now in
    let i = c.loop-column.column in
    let done = map f (range_with_len 0 i) in
    let pushed = g.met.S.CellSink.adds_both c.args.out.now c.loop-column.out c.push.new.self done (c.cell_at.result ∷ []) c.loop-column.invariant c.push.ensures in
    let same : done ++ c.cell_at.result ∷ [] ≡ map f (range_with_len 0 (i + 1)) =
    ap (λ x. done ++ x ∷ []) c.cell_at.ensures ∙ sym (map-range_with_len_more f 0 i i (omega arith)) in
    subst (λ (zs : List Cell). g.S.CellSink.Adds c.args.out.now zs c.push.new.self) same pushed

pub returns : goal.returns
returns g c =
    let parts = c.args.self in
    let f = cell_of c.args.centre c.args.right parts.left.now parts.centre.now parts.right.now in
    let end : c.loop-column.column ≡ c.max-reach.result = omega (arith, c.loop-column-test.false, c.loop-column.auto.column-end) in
    let reach : c.loop-column.column ≡ max (length parts.left.now) (max (c.args.centre + length parts.centre.now) (c.args.right + length parts.right.now)) =
    end ∙ c.max-reach.ensures ∙ ap (max (length parts.left.now)) c.max.ensures in
    subst (λ (k : ℕ). g.S.CellSink.Adds c.args.out.now (map f (range_with_len 0 k)) c.loop-column.out) reach c.loop-column.invariant

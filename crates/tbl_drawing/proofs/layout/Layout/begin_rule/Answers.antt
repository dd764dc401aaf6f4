use Rattle.std.proofs.Common.{◌==◌, ◌&&◌, not, ap, sym, ◌∙◌, ◌∷◌, []}
use Rattle.tbl_columns.specs.Frames.{bar_place, bars_seen, was_ruled}
use Rattle.tbl_drawing.specs.Pens.{To}
use Rattle.tbl_drawing.proofs.Chosen.{nothing_chosen, first_fails, last_fails, not_same}
use Rattle.tbl_drawing.proofs.layout.Layout.begin_rule.Goals as goal
use Rattle.tbl_drawing.proofs.layout.Layout.begin_rule.Goals.{else-not-was_ruled-via-then-not-was_ruled+else-bars_seen-eq0, else-not-was_ruled-via-else-not-was_ruled}

pub returns-else-not-was_ruled : goal.returns-else-not-was_ruled
returns-else-not-was_ruled g c =
    let t = c.args.self.now in
    let row = c.args.row in
    let place = c.args.column in
    nothing_chosen (not (was_ruled t.grid row place) && (bars_seen t.grid row place == 0)) (To (bar_place t.grid place) ∷ []) (elim c.else-not-was_ruled.branch [
      | else-not-was_ruled-via-then-not-was_ruled+else-bars_seen-eq0 w ↦ last_fails (not (was_ruled t.grid row place)) (bars_seen t.grid row place == 0)
          (ap (λ n. n == 0) (sym w.bars_seen.ensures) ∙ not_same w.bars_seen.result 0 w.if-bars_seen-eq0.false)
      | else-not-was_ruled-via-else-not-was_ruled w ↦ first_fails (not (was_ruled t.grid row place)) (bars_seen t.grid row place == 0)
          (ap not (sym c.was_ruled.ensures ∙ w.if-not-was_ruled.false))
    ])

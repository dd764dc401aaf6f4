use Rattle.std.proofs.Common.{◌≡◌, ℕ, ◌+◌, ◌<◌, ◌++◌, length, sym, ap, ◌∙◌, arith}
use Rattle.tbl_drawing.specs.Lines.{definition_at}
use Rattle.tbl_drawing.proofs.Definitions.{from_within, left_in, line_step, text_ends}
use Rattle.tbl_drawing.proofs.Joined.{bytes_as}
use Rattle.tbl_drawing.proofs.Tapes.{draws_both}
use Rattle.tbl_drawing.proofs.layout.Layout.put_definitions_in.Goals as goal

pub loop-at-init : goal.loop-at-init
loop-at-init g c = record { within = omega arith; draws = λ b d. d }

pub loop-at-preserved : goal.loop-at-preserved
loop-at-preserved g c =
    let text = c.args.text.now in
    let at = c.loop-at.at in
    let from = c.loop-at.from in
    let inside = c.loop-at.invariant.within in
    let here : at < length text = omega arith in
    record {
      within = omega (arith, c.put_definition_at-from.ensures.next, from_within text from at inside);
      draws = λ b d. c.loop-at.invariant.draws b
          (bytes_as (draws_both c.put_definition_at-from.ensures.draws d)
          (line_step text from at inside here
          ∙ ap (λ (k : ℕ). definition_at text from at ++ left_in k (at + 1) text) (sym c.put_definition_at-from.ensures.next)));
    }

pub returns : goal.returns
returns g c =
    let text = c.args.text.now in
    let at = c.loop-at.at in
    let end : at ≡ length text = omega arith in
    c.loop-at.invariant.draws _ (bytes_as c.put_definition.ensures (text_ends c.loop-at.from at text end))

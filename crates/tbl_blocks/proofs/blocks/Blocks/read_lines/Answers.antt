use Rattle.std.proofs.Common.{◌∙◌, ◌+◌, ap, arith, drop, slice_range}
use Rattle.tbl_blocks.specs.Words.{lines_from}
use Rattle.tbl_blocks.proofs.Lines.{last_line, line_goes_on, line_over}
use Rattle.tbl_blocks.proofs.blocks.Blocks.read_lines.Goals as goal
use Rattle.tbl_blocks.proofs.blocks.Blocks.read_lines.Goals.{then-byte-eq10, else-byte-eq10}

pub loop-at-preserved : goal.loop-at-preserved
loop-at-preserved c =
    let text = c.args.text.now in
    let at = c.loop-at.at in
    let before = c.loop-at.invariant.value in
    elim c.if-byte-eq10.branch [
      | then-byte-eq10 w ↦ record {
        value = line_over text c.loop-at.from c.if-byte-eq10.from at c.args.place c.loop-at.self c.if-byte-eq10.self _ c.loop-at.invariant.order
            c.loop-at-test.true w.if-byte-eq10.true w.from-is (w.self-is ∙ w.read_line.ensures) before;
        order = omega (arith, w.from-is);
      }
      | else-byte-eq10 w ↦ record {
        value = ap (λ q. lines_from (slice_range text q (at + 1)) (c.args.place + q) (drop (at + 1) text) c.if-byte-eq10.self) w.from-is
            ∙ (ap (λ q. lines_from (slice_range text c.loop-at.from (at + 1)) (c.args.place + c.loop-at.from) (drop (at + 1) text) q) w.self-is
            ∙ line_goes_on text c.loop-at.from at (c.args.place + c.loop-at.from) c.loop-at.self _ c.loop-at.invariant.order c.loop-at-test.true
            w.if-byte-eq10.false before);
        order = omega (arith, w.from-is, c.loop-at.invariant.order);
      }
    ]

pub returns-then-from-text : goal.returns-then-from-text
returns-then-from-text c =
    c.read_line-then-from-text.ensures
    ∙ last_line c.args.text.now c.loop-at.from c.loop-at.at (c.args.place + c.loop-at.from) c.loop-at.self _ c.if-from-text.true c.loop-at.auto.at-end
    c.loop-at-test.false c.loop-at.invariant.value

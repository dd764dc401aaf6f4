use Rattle.std.proofs.Common.{◌∙◌, arith}
use Rattle.tbl_reader.proofs.Cleaning.{none_here}
use Rattle.tbl_reader.proofs.rows.comment_in.Goals as goal

pub loop-at-preserved : goal.loop-at-preserved
loop-at-preserved c =
    none_here c.args.text.now c.loop-at.at c.is_comment.result (omega (arith, c.loop-at-test.true)) c.is_comment.ensures c.if-is_comment.false
    ∙ c.loop-at.invariant

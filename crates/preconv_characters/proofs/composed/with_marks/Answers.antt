use Rattle.std.proofs.Common.{sym, ◌∙◌, arith}
use Rattle.preconv_characters.proofs.MarksRead.{name_ends, name_goes_on, last_name}
use Rattle.preconv_characters.proofs.composed.with_marks.Goals as goal
use Rattle.preconv_characters.proofs.composed.with_marks.Goals.{then-separates, else-separates}

pub loop-i-preserved : goal.loop-i-preserved
loop-i-preserved c =
    let xs = c.args.marks.now in
    let same = c.loop-i.invariant in
    elim c.if-separates.branch [
      | then-separates w ↦ (
        omega (arith, w.start-is),
        rw (w.marked-is, w.start-is, w.with_mark-marked.ensures, w.mark_code.ensures)
            (name_ends c.loop-i.marked _ xs c.loop-i.start c.loop-i.i c.loop-i-test.true (sym c.separates.ensures ∙ w.if-separates.true) same.1),
      )
      | else-separates w ↦ (
        omega (arith, same.0, w.start-is),
        rw (w.marked-is, w.start-is)
            (name_goes_on c.loop-i.marked _ xs c.loop-i.start c.loop-i.i same.0 c.loop-i-test.true (sym c.separates.ensures ∙ w.if-separates.false) same.1),
      )
    ]

pub returns : goal.returns
returns c =
    rw (c.with_mark.ensures, c.mark_code-2.ensures)
    (last_name c.loop-i.marked _ c.args.marks.now c.loop-i.start c.loop-i.i c.loop-i-test.false c.loop-i.auto.i-end c.loop-i.invariant.1)

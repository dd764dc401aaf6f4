use Rattle.std.proofs.Common.{rules}
use Rattle.nr_units.proofs.Prefixes.{AppendsPrefix-append}
use Rattle.filters_complaints.specs.Lines.{more_lines}
use Rattle.filters_complaints.proofs.Written.{err_after, ok_after}
use Rattle.filters_complaints.proofs.lines.put_lines.Goals as goal

pub returns-in_err-put_complaints-clause-err : goal.returns-in_err-put_complaints-clause-err
returns-in_err-put_complaints-clause-err g c =
    let begun = rw c.first.ensures at c.in_err-put_complaints.ensures.err in
    let reported = AppendsPrefix-append _ _ _ (more_lines c.args.program.now c.args.name.now c.args.complaints.now.missed) begun in
    search rules

pub returns-clause-ok : goal.returns-clause-ok
returns-clause-ok g c =
    ok_after c.put_more.result _ _ _ _ _ (rw c.first.ensures at c.in_ok-put_complaints.ensures.ok) (rw c.has_missed.ensures at c.put_more.ensures.ok)

pub returns-clause-err : goal.returns-clause-err
returns-clause-err g c =
    err_after c.put_more.result _ _ _ _ _ (rw c.first.ensures at c.in_ok-put_complaints.ensures.ok) (rw c.has_missed.ensures at c.put_more.ensures.err)

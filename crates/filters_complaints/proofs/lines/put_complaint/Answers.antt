use Rattle.std.proofs.Common.{rules, decimal, ap, ◌∙◌}
use Rattle.nr_units.proofs.Prefixes.{AppendsPrefix-append}
use Rattle.filters_complaints.proofs.Written.{err_after, ok_after}
use Rattle.filters_complaints.proofs.lines.put_complaint.Goals as goal

pub returns-in_err-put_place-clause-err : goal.returns-in_err-put_place-clause-err
returns-in_err-put_place-clause-err g c =
    let begun = rw (c.format.ensures.text ∙ ap decimal c.line.ensures) at c.in_err-put_place.ensures.err in
    let reported = AppendsPrefix-append _ _ _ (g.C.Complains.says c.args.complaint.now) begun in
    search rules

pub returns-clause-ok : goal.returns-clause-ok
returns-clause-ok g c =
    ok_after c.put.result _ _ _ _ _ (rw (c.format.ensures.text ∙ ap decimal c.line.ensures) at c.in_ok-put_place.ensures.ok) c.put.ensures.ok

pub returns-clause-err : goal.returns-clause-err
returns-clause-err g c =
    err_after c.put.result _ _ _ _ _ (rw (c.format.ensures.text ∙ ap decimal c.line.ensures) at c.in_ok-put_place.ensures.ok) c.put.ensures.err

use Rattle.std.proofs.Common.{rules}
use Rattle.nr_units.proofs.Prefixes.{AppendsPrefix-append}
use Rattle.tbl_command.specs.Complaints.{report_lines}
use Rattle.tbl_command.proofs.Written.{err_after, ok_after}
use Rattle.tbl_command.proofs.complaints.put_reported.Goals as goal

pub returns-in_err-put_complaints-clause-err : goal.returns-in_err-put_complaints-clause-err
returns-in_err-put_complaints-clause-err g c =
    let reported = AppendsPrefix-append _ _ _ (report_lines c.args.program.now c.args.name.now c.args.report.missed c.args.report.uneven) c.in_err-put_complaints.ensures.err in
    search rules

pub returns-clause-ok : goal.returns-clause-ok
returns-clause-ok g c = ok_after c.put_report.result _ _ _ _ _ c.in_ok-put_complaints.ensures.ok c.put_report.ensures.ok

pub returns-clause-err : goal.returns-clause-err
returns-clause-err g c = err_after c.put_report.result _ _ _ _ _ c.in_ok-put_complaints.ensures.ok c.put_report.ensures.err

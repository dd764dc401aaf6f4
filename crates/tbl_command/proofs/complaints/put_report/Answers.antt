use Rattle.std.proofs.Common.{rules}
use Rattle.nr_units.proofs.Prefixes.{AppendsPrefix-append}
use Rattle.tbl_command.specs.Complaints.{UNEVEN, line_if}
use Rattle.tbl_command.proofs.Written.{err_after, ok_after}
use Rattle.tbl_command.proofs.complaints.put_report.Goals as goal

pub returns-in_err-put_if-clause-err : goal.returns-in_err-put_if-clause-err
returns-in_err-put_if-clause-err g c =
    let reported = AppendsPrefix-append _ _ _ (line_if c.args.report.uneven c.args.program.now c.args.name.now UNEVEN) c.in_err-put_if.ensures.err in
    search rules

pub returns-clause-ok : goal.returns-clause-ok
returns-clause-ok g c = ok_after c.put_if-2.result _ _ _ _ _ c.in_ok-put_if.ensures.ok c.put_if-2.ensures.ok

pub returns-clause-err : goal.returns-clause-err
returns-clause-err g c = err_after c.put_if-2.result _ _ _ _ _ c.in_ok-put_if.ensures.ok c.put_if-2.ensures.err

use Rattle.std.proofs.Common.{codes}
use Rattle.nr_units.proofs.Prefixes.{AppendsPrefix-append}
use Rattle.nr_command.specs.Faults.{place_text}
use Rattle.nr_command.proofs.Telling.{on_err_always, Appends-last, AppendsPrefix-last}
use Rattle.nr_command.proofs.faults.put_read_fault.Goals as goal

pub returns-in_err-put-clause-err : goal.returns-in_err-put-clause-err
returns-in_err-put-clause-err g c =
    on_err_always c.from_residual.result (AppendsPrefix-append _ _ (codes "nroff: read fault") (place_text c.args.at) c.in_err-put.ensures.err)

pub returns-clause-ok : goal.returns-clause-ok
returns-clause-ok g c =
    Appends-last c.put_place.result _ _ _ (codes "nroff: read fault") (place_text c.args.at) c.in_ok-put.ensures.ok c.put_place.ensures.ok

pub returns-clause-err : goal.returns-clause-err
returns-clause-err g c =
    AppendsPrefix-last c.put_place.result _ _ _ (codes "nroff: read fault") (place_text c.args.at) c.in_ok-put.ensures.ok c.put_place.ensures.err

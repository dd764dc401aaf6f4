use Rattle.std.proofs.Common.{◌++◌, codes}
use Rattle.std.proofs.KnownBytes.{Appends-trans}
use Rattle.nr_units.proofs.Prefixes.{AppendsPrefix-append, AppendsPrefix-after}
use Rattle.nr_command.specs.Faults.{limited_text, place_text}
use Rattle.nr_command.proofs.Telling.{on_err_always, Appends-last, AppendsPrefix-last}
use Rattle.nr_command.proofs.faults.put_limit.Goals as goal

pub returns-in_err-put-clause-err : goal.returns-in_err-put-clause-err
returns-in_err-put-clause-err g c =
    let text = limited_text c.args.which in
    let first = AppendsPrefix-append _ _ (codes "nroff: ") text c.in_err-put.ensures.err in
    let second = AppendsPrefix-append _ _ (codes "nroff: " ++ text) (codes " limit passed") first in
    on_err_always c.from_residual.result
    (AppendsPrefix-append _ _ (codes "nroff: " ++ text ++ codes " limit passed") (place_text c.args.at) second)

pub returns-in_err-put-2-clause-err : goal.returns-in_err-put-2-clause-err
returns-in_err-put-2-clause-err g c =
    let text = limited_text c.args.which in
    let prefix = rw c.limited.ensures at c.in_err-put-2.ensures.err in
    let first = AppendsPrefix-after _ _ _ (codes "nroff: ") text c.in_ok-put.ensures.ok prefix in
    let second = AppendsPrefix-append _ _ (codes "nroff: " ++ text) (codes " limit passed") first in
    on_err_always c.from_residual-in_err-put-2.result
    (AppendsPrefix-append _ _ (codes "nroff: " ++ text ++ codes " limit passed") (place_text c.args.at) second)

pub returns-in_err-put-3-clause-err : goal.returns-in_err-put-3-clause-err
returns-in_err-put-3-clause-err g c =
    let text = limited_text c.args.which in
    let named = rw c.limited.ensures at c.in_ok-put-2.ensures.ok in
    let first = Appends-trans _ _ _ (codes "nroff: ") text c.in_ok-put.ensures.ok named in
    let second = AppendsPrefix-after _ _ _ (codes "nroff: " ++ text) (codes " limit passed") first c.in_err-put-3.ensures.err in
    on_err_always c.from_residual-in_err-put-3.result
    (AppendsPrefix-append _ _ (codes "nroff: " ++ text ++ codes " limit passed") (place_text c.args.at) second)

pub returns-clause-ok : goal.returns-clause-ok
returns-clause-ok g c =
    let text = limited_text c.args.which in
    let named = rw c.limited.ensures at c.in_ok-put-2.ensures.ok in
    let first = Appends-trans _ _ _ (codes "nroff: ") text c.in_ok-put.ensures.ok named in
    let second = Appends-trans _ _ _ (codes "nroff: " ++ text) (codes " limit passed") first c.in_ok-put-3.ensures.ok in
    Appends-last c.put_place.result _ _ _ (codes "nroff: " ++ text ++ codes " limit passed") (place_text c.args.at) second c.put_place.ensures.ok

pub returns-clause-err : goal.returns-clause-err
returns-clause-err g c =
    let text = limited_text c.args.which in
    let named = rw c.limited.ensures at c.in_ok-put-2.ensures.ok in
    let first = Appends-trans _ _ _ (codes "nroff: ") text c.in_ok-put.ensures.ok named in
    let second = Appends-trans _ _ _ (codes "nroff: " ++ text) (codes " limit passed") first c.in_ok-put-3.ensures.ok in
    AppendsPrefix-last c.put_place.result _ _ _ (codes "nroff: " ++ text ++ codes " limit passed") (place_text c.args.at) second c.put_place.ensures.err

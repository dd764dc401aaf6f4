use Rattle.std.proofs.lemmas.Grind.{common_steps}
use Rattle.std.proofs.Common.{◌++◌, arith}
use Rattle.std.proofs.KnownBytes.{Appends-trans}
use Rattle.nr_units.proofs.Prefixes.{AppendsPrefix-append, AppendsPrefix-after}
use Rattle.program_options.proofs.Telling.{on_err_always, AppendsPrefix-last}
use Rattle.program_options.proofs.usage.put_parts.Goals as goal

pub returns-in_err-put-clause-err : goal.returns-in_err-put-clause-err
returns-in_err-put-clause-err g c =
    let prefix = c.args.prefix.now in
    let middle = c.args.middle.now in
    let begun = AppendsPrefix-append _ _ prefix middle c.in_err-put.ensures.err in
    on_err_always c.from_residual.result (AppendsPrefix-append _ _ (prefix ++ middle) c.args.back.now begun)

pub returns-in_err-put-2-clause-err : goal.returns-in_err-put-2-clause-err
returns-in_err-put-2-clause-err g c =
    let prefix = c.args.prefix.now in
    let middle = c.args.middle.now in
    let begun = AppendsPrefix-after _ _ _ prefix middle c.in_ok-put.ensures.ok c.in_err-put-2.ensures.err in
    on_err_always c.from_residual-in_err-put-2.result (AppendsPrefix-append _ _ (prefix ++ middle) c.args.back.now begun)

pub returns-clause-err : goal.returns-clause-err
returns-clause-err g c =
    let prefix = c.args.prefix.now in
    let middle = c.args.middle.now in
    let begun = Appends-trans _ _ _ prefix middle c.in_ok-put.ensures.ok c.in_ok-put-2.ensures.ok in
    AppendsPrefix-last c.put-3.result _ _ _ (prefix ++ middle) c.args.back.now begun c.put-3.ensures.err

pub returns-clause-ok : goal.returns-clause-ok
returns-clause-ok g c = grind (arith, common_steps)

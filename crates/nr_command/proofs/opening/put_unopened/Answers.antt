use Rattle.std.proofs.lemmas.Grind.{common_steps}
use Rattle.std.proofs.Common.{◌++◌, codes, arith}
use Rattle.std.proofs.KnownBytes.{Appends-trans}
use Rattle.nr_units.proofs.Prefixes.{AppendsPrefix-append, AppendsPrefix-after}
use Rattle.nr_command_options.specs.Inputs.{reading_of}
use Rattle.nr_command.specs.Opening.{name_of}
use Rattle.nr_command.proofs.Telling.{on_err_always, AppendsPrefix-last}
use Rattle.nr_command.proofs.opening.put_unopened.Goals as goal

pub returns-in_err-put-clause-err : goal.returns-in_err-put-clause-err
returns-in_err-put-clause-err g c =
    let prefix = codes "nroff: cannot open " in
    let name = name_of (reading_of c.args.input.now) in
    let begun = AppendsPrefix-append _ _ prefix name c.in_err-put.ensures.err in
    on_err_always c.from_residual.result (AppendsPrefix-append _ _ (prefix ++ name) (codes "\n") begun)

pub returns-in_err-put_name-clause-err : goal.returns-in_err-put_name-clause-err
returns-in_err-put_name-clause-err g c =
    let prefix = codes "nroff: cannot open " in
    let name = name_of (reading_of c.args.input.now) in
    let begun = AppendsPrefix-after _ _ _ prefix name c.in_ok-put.ensures.ok c.in_err-put_name.ensures.err in
    on_err_always c.from_residual-in_err-put_name.result (AppendsPrefix-append _ _ (prefix ++ name) (codes "\n") begun)

pub returns-clause-err : goal.returns-clause-err
returns-clause-err g c =
    let prefix = codes "nroff: cannot open " in
    let name = name_of (reading_of c.args.input.now) in
    let begun = Appends-trans _ _ _ prefix name c.in_ok-put.ensures.ok c.in_ok-put_name.ensures.ok in
    AppendsPrefix-last c.put-2.result _ _ _ (prefix ++ name) (codes "\n") begun c.put-2.ensures.err

pub returns-clause-ok : goal.returns-clause-ok
returns-clause-ok g c = grind (arith, common_steps)

use Rattle.std.proofs.lemmas.Grind.{common_steps}
use Rattle.std.proofs.Common.{◌≡◌, ◌∙◌, ◌++◌, codes, decimal, arith}
use Rattle.std.proofs.KnownBytes.{Appends-trans}
use Rattle.nr_units.proofs.Prefixes.{AppendsPrefix-append, AppendsPrefix-after}
use Rattle.nr_command.proofs.Telling.{on_err_always, AppendsPrefix-last}
use Rattle.nr_command.proofs.faults.put_place.Goals as goal

pub returns-in_err-put-clause-err : goal.returns-in_err-put-clause-err
returns-in_err-put-clause-err g c =
    let at = decimal c.args.at in
    let begun = AppendsPrefix-append _ _ (codes " at byte ") at c.in_err-put.ensures.err in
    on_err_always c.from_residual.result (AppendsPrefix-append _ _ (codes " at byte " ++ at) (codes "\n") begun)

pub returns-in_err-put-2-clause-err : goal.returns-in_err-put-2-clause-err
returns-in_err-put-2-clause-err g c =
    let at = decimal c.args.at in
    let digits : c.as_bytes.result.now ≡ at = c.as_bytes.ensures.value ∙ c.format.ensures.text in
    let prefix = rw digits at c.in_err-put-2.ensures.err in
    let begun = AppendsPrefix-after _ _ _ (codes " at byte ") at c.in_ok-put.ensures.ok prefix in
    on_err_always c.from_residual-in_err-put-2.result (AppendsPrefix-append _ _ (codes " at byte " ++ at) (codes "\n") begun)

pub returns-clause-err : goal.returns-clause-err
returns-clause-err g c =
    let at = decimal c.args.at in
    let digits : c.as_bytes.result.now ≡ at = c.as_bytes.ensures.value ∙ c.format.ensures.text in
    let whole = rw digits at c.in_ok-put-2.ensures.ok in
    let begun = Appends-trans _ _ _ (codes " at byte ") at c.in_ok-put.ensures.ok whole in
    AppendsPrefix-last c.put-3.result _ _ _ (codes " at byte " ++ at) (codes "\n") begun c.put-3.ensures.err

pub returns-clause-ok : goal.returns-clause-ok
returns-clause-ok g c = grind (arith, common_steps)

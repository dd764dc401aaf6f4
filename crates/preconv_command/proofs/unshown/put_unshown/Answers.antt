use Rattle.std.proofs.Common.{◌≡◌, ℕ, List, [], rules, arith}
use Rattle.std.proofs.lemmas.Grind.{common_steps}
use Rattle.filters.proofs.Telling.{Tells-put}
use Rattle.preconv_command.proofs.Reporting.{unshown_is}
use Rattle.preconv_command.proofs.unshown.put_unshown.Goals as goal

pub returns : goal.returns
returns g c =
    let some : c.args.names.now ≡ [] → ⊥ = λ none. grind (arith, common_steps) in
    Tells-put c.put_all.result _ _ _ _ _ _ (unshown_is _ _ c.args.names.now some c.as_bytes.ensures.value)
    c.put_all.ensures.ok c.put_all.ensures.err c.put_all.ensures.failures

use Rattle.std.proofs.Common.{◌*◌, ◌∙◌, Some, sym, ap, arith, w32}
use Rattle.std.proofs.lemmas.Int.{to_z_pos}
use Rattle.std.proofs.lemmas.Nat.{mul-le}
use Rattle.nr_settings.proofs.PlainNumbers.{scaled_whole}
use Rattle.nr_settings.proofs.plain_numbers.units_of.Goals as goal

pub returns-in-Some-clause-value : goal.returns-in-Some-clause-value
returns-in-Some-clause-value c =
    let n = c.args.number in
    let units = c.in-Some.units in
    let product = mul-le n units 9999 32760 c.requires c.in-Some.ensures.most in
    scaled_whole c.args.scale c.args.v units n c.in-Some.ensures c.requires ∙ ap Some (sym (to_z_pos w32 (n * units) (omega (arith, product))))

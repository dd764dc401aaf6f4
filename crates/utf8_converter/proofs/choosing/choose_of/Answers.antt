use Rattle.std.proofs.Common.{◌∙◌, List, ℕ, length, take, ap, arith}
use Rattle.std.proofs.lemmas.List.{length-take}
use Rattle.utf8_converter.specs.Choosing.{chosen}
use Rattle.utf8_converter.proofs.Choices.{chosen-same}
use Rattle.utf8_converter.proofs.choosing.choose_of.Goals as goal

pub count_all-requires : goal.count_all-requires
count_all-requires c =
    let same = ap length c.first_of.ensures in
    let few = length-take 65536 c.args.page.now in
    omega (arith, same, few)

pub returns : goal.returns
returns c =
    c.chosen.ensures ∙ chosen-same c.first_of.result.now c.count_all.new.counts c.count_all.ensures (c.count_all.auto.counts ∙ c.requires)
    ∙ ap (λ (xs : List ℕ). chosen xs) c.first_of.ensures

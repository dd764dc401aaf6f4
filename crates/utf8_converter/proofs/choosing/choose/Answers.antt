use Rattle.std.proofs.Common.{◌∙◌}
use Rattle.utf8_converter.proofs.Choices.{chooses}
use Rattle.utf8_converter.proofs.choosing.choose.Goals as goal

pub returns-clause-value : goal.returns-clause-value
returns-clause-value g c =
    chooses (g.R.Source.supply c.args.input.now) (g.R.Source.supply c.read_prefix.new.input) c.read_prefix.new.page.capacity c.read_prefix.new.page.items
    c.count_all.new.counts c.chosen.result
    (c.in_ok-read_prefix.ensures.room ∙ c.over-prefix.ensures.room ∙ c.requires.page) (rw c.as_slice.ensures.value at c.as_slice.ensures.within) c.in_ok-read_prefix.ensures.prefix
    (rw c.as_slice.ensures.value at c.count_all.ensures) (c.count_all.auto.counts ∙ c.requires.counts) c.chosen.ensures

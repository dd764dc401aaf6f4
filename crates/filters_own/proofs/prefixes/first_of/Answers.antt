use Rattle.std.proofs.Common.{ℕ, ◌≤◌, ◌∙◌, ap, subst}
use Rattle.preconv_coding.specs.UnderCoding.{text_supply}
use Rattle.filters.specs.Disk.{left_of}
use Rattle.filters_own.proofs.FirstBytes.{prefix-read}
use Rattle.filters_own.proofs.prefixes.first_of.Goals as goal

pub returns-in-Ok-read_prefix-clause-reads : goal.returns-in-Ok-read_prefix-clause-reads
returns-in-Ok-read_prefix-clause-reads g c =
    let left = left_of g.P.File.Read.remaining g.I.Read.remaining c.in-Ok.text.stream in
    record {
      left = left;
      opened = c.in-Ok.ensures.opens.comes;
      asks = c.in-Ok.ensures.opens.asks;
      is = prefix-read left _ _ _ _ (c.over-source.ensures.supply ∙ ap text_supply c.over.ensures.supply) (c.in-Ok-read_prefix.ensures.room ∙ c.requires.room)
          (subst (λ (n : ℕ). n ≤ c.read_prefix.new.prefix.capacity) c.len.ensures.value c.len.ensures.within) c.in-Ok-read_prefix.ensures.prefix;
    }

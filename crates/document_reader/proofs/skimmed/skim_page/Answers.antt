use Rattle.std.proofs.Common.{◌∙◌, ℕ, Option, ap, arith}
use Rattle.nr_units.specs.Source.{Supply}
use Rattle.document_stages.specs.Switch.{wants_if}
use Rattle.document_reader.proofs.Pipes.{over-both, piped, piped-whole, wide}
use Rattle.document_reader.proofs.skimmed.skim_page.Goals as goal

pub returns : goal.returns
returns g c q is kept short =
    let stages = c.args.stages in
    let table = c.args.characters in
    let first = c.requires.first in
    let second = c.requires.second in
    over-both _ _ _ stages table _ _ _ _ _ _ _ _ _ _ c.over-turned.ensures.supply c.over.ensures.supply
    (wide stages.mdoc _ 73984 _ (c.over-mdoc.ensures.wants ∙ ap (λ (k : ℕ). wants_if stages.mdoc k) c.over-turner.ensures.wants) first (omega (arith, first)))
    (wide stages.characters _ 1536 _ (c.over-switched.ensures.wants ∙ ap (λ (k : ℕ). wants_if stages.characters k) c.new-converter.ensures.wants) (omega (arith, second)) (omega (arith, second)))
    c.over-mdoc.ensures.says c.over-turner.ensures.says c.over-switched.ensures.says c.new-converter.ensures.says
    c.over-mdoc.ensures.fits c.over-turner.ensures.fits c.over-switched.ensures.fits c.new-converter.ensures.fits
    ∙ ap (λ (x : Option Supply). piped x stages table) is
    ∙ piped-whole q stages table kept short

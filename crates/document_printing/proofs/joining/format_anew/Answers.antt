use Rattle.std.proofs.Common.{◌∙◌, Option, ap}
use Rattle.nr_units.specs.Source.{Supply}
use Rattle.document_stages.specs.Joined.{preceded, joined}
use Rattle.document_printing.proofs.Carried.{carried}
use Rattle.document_printing.proofs.joining.format_anew.Goals as goal

pub returns-clause-answers : goal.returns-clause-answers
returns-clause-answers g c rest q =
    let s = c.args.setup.now in
    let supply = c.over-all.ensures.supply ∙ ap (λ (x : Option Supply). joined s.macros.now x) q in
    carried _ _ _ _ _ _ _ _ (c.format.ensures.answers (preceded s.macros.now rest) supply) c.lend.ensures.limits

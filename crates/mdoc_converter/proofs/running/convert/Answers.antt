use Rattle.std.proofs.Common.{refl}
use Rattle.mdoc_converter.proofs.Runs.{ran-of}
use Rattle.mdoc_converter.proofs.Steps.{steps_said-quick}
use Rattle.mdoc_converter.proofs.running.convert.Goals as goal

pub returns-clause-ran : goal.returns-clause-ran
returns-clause-ran g c =
    ran-of _ _ _ _ _ _ _ _ _ c.run-outcome.result c.over-page.ensures.says c.over-page.ensures.counts c.over-page.ensures.wants c.steps.ensures c.run-outcome.ensures.ran

pub returns-clause-whole : goal.returns-clause-whole
returns-clause-whole g c = λ bytes. refl

pub returns-clause-quick : goal.returns-clause-quick
returns-clause-quick g c = λ ends bytes. steps_said-quick ends bytes

use Rattle.std.proofs.Common.{ℕ, take, ap, ◌∙◌}
use Rattle.std.proofs.lemmas.List.{take_min}
use Rattle.program_command.proofs.plan.first_of.Goals as goal

pub returns : goal.returns
returns c = ap (λ (n : ℕ). take n c.args.page.now) c.min.ensures ∙ take_min 65536 c.args.page.now

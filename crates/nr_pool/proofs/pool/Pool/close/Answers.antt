use Rattle.std.proofs.Common.{ap, ◌∙◌}
use Rattle.nr_pool.specs.Texts.{Texts, without_text}
use Rattle.nr_pool.specs.Sharing.{seen}
use Rattle.nr_pool.specs.Laws.{open_after_removal}
use Rattle.nr_pool.proofs.pool.Pool.close.Goals as goal

pub returns-clause-closed : goal.returns-clause-closed
returns-clause-closed g c =
    ap (λ (q : Texts _). seen q c.removable-self-inside.result) c.close.ensures.closed ∙ c.removable-self-inside.ensures.removed ∙ ap (λ (q : Texts _). without_text q c.args.id) c.self.view_is

pub returns-clause-keeps : goal.returns-clause-keeps
returns-clause-keeps g c = λ other apart is_open. open_after_removal c.args.self.now _ _ other (returns-clause-closed g c) apart is_open

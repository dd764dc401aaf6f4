use Rattle.std.proofs.Common.{List, take, ap, ◌∙◌}
use Rattle.nr_pool.specs.Texts.{Texts, text, with_text}
use Rattle.nr_pool.specs.Sharing.{seen}
use Rattle.nr_pool.specs.Laws.{open_after_text}
use Rattle.nr_pool.proofs.Shared.{parted_written}
use Rattle.nr_pool.proofs.pool.Pool.truncate.Goals as goal

pub returns-clause-truncated : goal.returns-clause-truncated
returns-clause-truncated g c =
    let s = c.self.inside in
    let id = c.args.id in
    let parted = c.part_if-self-inside in
    let change : List g.row.T.Denot → List g.row.T.Denot = λ (xs : List g.row.T.Denot). take c.args.len xs in
    ap (λ (q : Texts _). seen q parted.result) c.truncate.ensures.truncated
    ∙ parted_written s.texts parted.new.texts s.share parted.result id change c.is_shared.result c.is_shared.ensures c.self.invariant parted.ensures.parted parted.ensures.same
    ∙ ap (λ (q : Texts _). with_text q id (change (text q id))) c.self.view_is

pub returns-clause-keeps : goal.returns-clause-keeps
returns-clause-keeps g c = open_after_text c.args.self.now _ _ _ (returns-clause-truncated g c)

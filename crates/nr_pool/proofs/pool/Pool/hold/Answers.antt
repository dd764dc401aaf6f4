use Rattle.std.proofs.Common.{◌+◌, sym, ap, ap₂, ◌∙◌}
use Rattle.nr_pool.specs.Texts.{Texts, holders, with_holders}
use Rattle.nr_pool.specs.Sharing.{seen}
use Rattle.nr_pool.proofs.Shared.{held, holders-seen}
use Rattle.nr_pool.proofs.pool.Pool.hold.Goals as goal

pub returns-clause-held : goal.returns-clause-held
returns-clause-held g c =
    let s = c.self.inside in
    let id = c.args.id in
    ap (λ (q : Texts _). seen q s.share) c.hold.ensures.held
    ∙ held s.texts s.share id (holders s.texts id + 1) c.self.invariant
    ∙ ap₂ (λ (q : Texts _) n. with_holders q id (n + 1)) c.self.view_is (sym (holders-seen s.texts s.share id) ∙ ap (λ (q : Texts _). holders q id) c.self.view_is)

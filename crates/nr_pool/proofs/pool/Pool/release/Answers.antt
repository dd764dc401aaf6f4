use Rattle.std.proofs.Common.{◌≡◌, ◌-◌, ◌<◌, sym, ap, ap₂, ◌∙◌, arith}
use Rattle.nr_pool.specs.Texts.{Texts, holders, with_holders}
use Rattle.nr_pool.specs.Sharing.{seen}
use Rattle.nr_pool.specs.Laws.{released-held}
use Rattle.nr_pool.proofs.Shared.{held, holders-seen}
use Rattle.nr_pool.proofs.pool.Pool.release.Goals as goal

pub returns-else-holders-eq1-clause-released : goal.returns-else-holders-eq1-clause-released
returns-else-holders-eq1-clause-released g c =
    let s = c.self.inside in
    let id = c.args.id in
    let same : holders s.texts id ≡ holders c.args.self.now id = sym (holders-seen s.texts s.share id) ∙ ap (λ (q : Texts _). holders q id) c.self.view_is in
    let many : 1 < holders c.args.self.now id = let is_open = c.requires in omega arith in
    ap (λ (q : Texts _). seen q s.share) (c.release.ensures.released ∙ released-held s.texts id (omega arith))
    ∙ held s.texts s.share id (holders s.texts id - 1) c.self.invariant
    ∙ ap₂ (λ (q : Texts _) n. with_holders q id (n - 1)) c.self.view_is same
    ∙ sym (released-held c.args.self.now id many)

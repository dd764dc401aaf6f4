use Rattle.std.proofs.Common.{◌≡◌, Option, Some, sym, ap, ◌∙◌, subst}
use Rattle.nr_pool.specs.Sharing.{seen, MayShare}
use Rattle.nr_pool.proofs.Shared.{part_element}
use Rattle.nr_pool.proofs.pool.Pool.get.Goals as goal

pub returns-in-Some : goal.returns-in-Some
returns-in-Some g c =
    let s = c.self.inside in
    let share = c.in-Some.share in
    let is_seen : seen s.texts (Some share) ≡ c.args.self.now = ap (λ (o : Option _). seen s.texts o) (sym c.in-Some.is) ∙ c.self.view_is in
    let shared = subst (λ (o : Option _). MayShare s.texts o) c.in-Some.is c.self.invariant in
    let here = part_element s.texts share c.args.id c.args.place shared (sym c.is.ensures ∙ c.if-is.true) (rw is_seen c.requires.within) in
    rw (← is_seen) (here.1 ∙ c.get.ensures)

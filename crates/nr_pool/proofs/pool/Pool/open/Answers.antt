use Rattle.std.proofs.Common.{Result, Ok, Err, IfOk, ap, ◌∙◌}
use Rattle.nr_pool.specs.Texts.{Texts, opened}
use Rattle.nr_pool.specs.Sharing.{seen}
use Rattle.std.proofs.lemmas.Result.{IfOk-weaker}
use Rattle.nr_pool.proofs.Shared.{all_seen, all_unseen, free_seen, opened_seen}
use Rattle.nr_pool.proofs.pool.Pool.open.Goals as goal

-- what follows of both for what came
both : {X Y : Type 0} (r : Result X Y) (P Q R : X → Type 0) → ((x : X) → P x → Q x → R x) → IfOk r P → IfOk r Q → IfOk r R
both (Ok x) P Q R f p q = f x p q
both (Err e) P Q R f p q = tt

pub returns-clause-full : goal.returns-clause-full
returns-clause-full g c =
    let s = c.self.inside in (
      λ err. rw (← c.self.view_is) (all_seen s.texts s.share (c.open.ensures.full.0 err)),
      λ all. c.open.ensures.full.1 (all_unseen s.texts s.share (rw c.self.view_is all)),
    )

pub returns-clause-unused : goal.returns-clause-unused
returns-clause-unused g c =
    let s = c.self.inside in
    rw (← c.self.view_is) (IfOk-weaker c.open.result _ _ (λ id free. free_seen s.texts s.share id c.self.invariant free) c.open.ensures.unused)

pub returns-clause-ok : goal.returns-clause-ok
returns-clause-ok g c =
    let s = c.self.inside in
    both c.open.result _ _ _ (λ id ok free. ap (λ (q : Texts _). seen q s.share) ok ∙ opened_seen s.texts s.share id c.self.invariant free ∙ ap (λ (q : Texts _). opened q id) c.self.view_is) c.open.ensures.ok c.open.ensures.unused

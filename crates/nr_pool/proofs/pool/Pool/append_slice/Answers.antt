use Rattle.std.proofs.Common.{◌++◌, ap, ◌∙◌}
use Rattle.nr_pool.specs.Texts.{Texts, text, with_text}
use Rattle.nr_pool.specs.Sharing.{seen}
use Rattle.std.proofs.lemmas.Result.{on_ok_weaker}
use Rattle.nr_pool.proofs.Shared.{added}
use Rattle.nr_pool.proofs.pool.Pool.append_slice.Goals as goal

pub returns-clause-ok : goal.returns-clause-ok
returns-clause-ok g c =
    let ready = c.in_ok-self-inside.ensures in
    let share = c.in_ok-self-inside.field-0 in
    let id = c.args.id in
    on_ok_weaker c.append_slice.result (λ is. ap (λ (q : Texts _). seen q share) is
    ∙ added c.ready_for.new.texts share id (c.args.elements.now) ready.may ready.whole
    ∙ ap (λ (q : Texts _). with_text q id (text q id ++ c.args.elements.now)) (ready.seen ∙ c.self.view_is)) c.append_slice.ensures.ok

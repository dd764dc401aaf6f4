use Rattle.std.proofs.Common.{◌≡◌, ap, ◌∙◌}
use Rattle.tbl_drawing.specs.declared.steps.Walk.{Walk}
use Rattle.tbl_drawing.specs.declared.layout.Layout.{Layout}
use Rattle.tbl_drawing.specs.Steps.{Walking, walk_begun, walk_ended, walked_items, walking, without_steps}
use Rattle.tbl_table.specs.Sums.{sum}
use Rattle.tbl_drawing.proofs.Pairs.{walking_of}
use Rattle.tbl_drawing.proofs.layout.Layout.take_steps.Goals as goal

pub returns-clause-value : goal.returns-clause-value
returns-clause-value c =
    let from : walking c.walk_begin-walk.new.self c.walk_begin-walk.result ≡ walk_begun (without_steps c.args.self.now) =
    walking_of _ _ (walk_begun (without_steps c.args.self.now))
    (c.walk_begin-walk.ensures.value ∙ ap (λ (t : Layout). (walk_begun t).layout) c.forget_steps.ensures.value)
    (c.walk_begin-walk.ensures.walk ∙ ap (λ (t : Layout). (walk_begun t).walk) c.forget_steps.ensures.value) in
    let to : walking c.walk_items-walk.new.self c.walk_items-walk.result ≡ walked_items (walk_begun (without_steps c.args.self.now)) =
    walking_of _ _ (walked_items (walk_begun (without_steps c.args.self.now)))
    (c.walk_items-walk.ensures.value ∙ ap (λ (w : Walking). (walked_items w).layout) from)
    (c.walk_items-walk.ensures.walk ∙ ap (λ (w : Walking). (walked_items w).walk) from) in
    c.walk_end-walk.ensures.value ∙ ap (λ (w : Walking). (walk_ended c.args.ends w).layout) to

pub returns-clause-lines : goal.returns-clause-lines
returns-clause-lines c =
    let from : walking c.walk_begin-walk.new.self c.walk_begin-walk.result ≡ walk_begun (without_steps c.args.self.now) =
    walking_of _ _ (walk_begun (without_steps c.args.self.now))
    (c.walk_begin-walk.ensures.value ∙ ap (λ (t : Layout). (walk_begun t).layout) c.forget_steps.ensures.value)
    (c.walk_begin-walk.ensures.walk ∙ ap (λ (t : Layout). (walk_begun t).walk) c.forget_steps.ensures.value) in
    let to : walking c.walk_items-walk.new.self c.walk_items-walk.result ≡ walked_items (walk_begun (without_steps c.args.self.now)) =
    walking_of _ _ (walked_items (walk_begun (without_steps c.args.self.now)))
    (c.walk_items-walk.ensures.value ∙ ap (λ (w : Walking). (walked_items w).layout) from)
    (c.walk_items-walk.ensures.walk ∙ ap (λ (w : Walking). (walked_items w).walk) from) in
    c.saturating_add.ensures ∙ ap (λ (w : Walk). sum w.line w.more) (c.walk_end-walk.ensures.walk ∙ ap (λ (w : Walking). (walk_ended c.args.ends w).walk) to)

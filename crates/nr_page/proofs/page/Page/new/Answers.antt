use Rattle.std.proofs.Common.{ap, ◌∙◌, arith}
use Rattle.nr_vectors.specs.Items.{Items}
use Rattle.nr_page.proofs.Beginning.{kept_new}
use Rattle.nr_page.proofs.page.Page.new.Goals as goal

pub invariant_of-result : goal.invariant_of-result
invariant_of-result c =
    let rows = c.in_ok-new-2.ensures.made in
    let room = ap (λ (v : Items _). v.capacity) rows ∙ c.room-room.ensures.rows in
    kept_new c.in_ok-new.field-0 c.in_ok-new-2.field-0 c.args.limit _ c.requires.in_range (c.in_ok-new.ensures.capacity ∙ c.room-room.ensures.cells) c.in_ok-new.ensures.empty c.room-room.ensures.texts
    (ap (λ (v : Items _). v.items) rows) (omega arith)

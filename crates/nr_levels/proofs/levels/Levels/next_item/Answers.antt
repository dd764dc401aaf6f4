use Rattle.std.proofs.Common.{Some, ap, ◌∙◌, arith}
use Rattle.nr_levels.proofs.Stacked.{next_item_is, newest_on, reads_below, next_item_none, next_item_some}
use Rattle.nr_levels.proofs.Going.{mark_comes}
use Rattle.nr_levels.proofs.levels.Levels.next_item.Goals as goal

pub returns-in-Text : goal.returns-in-Text
returns-in-Text g c = next_item_is _ _ _ _ _ _ _ _ _ _ c.self.view_is c.at.ensures c.in-Text.is

pub returns-then-span : goal.returns-then-span
returns-then-span g c =
    next_item_is _ _ _ _ _ _ _ _ _ _ c.self.view_is c.at.ensures c.in-Own.is ∙ ap Some (next_item_none _ _ c.if-span.true)

pub get-requires : goal.get-requires
get-requires g c =
    let on = newest_on _ _ _ _ _ c.self.invariant.0.stacked c.at.ensures in
    let below = reads_below _ _ _ c.in-Own.is on.0.reads in
    omega arith

pub returns-else-span : goal.returns-else-span
returns-else-span g c =
    let on = newest_on _ _ _ _ _ c.self.invariant.0.stacked c.at.ensures in
    let below = reads_below _ _ _ c.in-Own.is on.0.reads in
    next_item_is _ _ _ _ _ _ _ _ _ _ c.self.view_is c.at.ensures c.in-Own.is ∙ ap Some (next_item_some _ _ _ c.if-span.false below c.get.ensures)

pub returns-in-Mark : goal.returns-in-Mark
returns-in-Mark g c = mark_comes _ _ _ _ _ _ _ _ _ _ c.self.view_is c.at.ensures c.in-Mark.is c.self.invariant.1

use Rattle.std.proofs.lemmas.Grind.{common_steps}
use Rattle.std.proofs.Common.{ap, sym, ◌∙◌, length, drop, take, ◌-◌, arith}
use Rattle.std.proofs.lemmas.Slice.{between_is}
use Rattle.nr_levels.specs.Levels.{Own}
use Rattle.nr_levels.proofs.Stacked.{left_is, newest_on, reads_below, part_none, left_none}
use Rattle.nr_levels.specs.Frame.{mode_of}
use Rattle.nr_levels.proofs.levels.Levels.rest.Goals as goal

pub returns-then-span : goal.returns-then-span
returns-then-span g c = sym (left_is _ _ _ _ _ _ _ _ _ _ c.self.view_is c.at.ensures c.in-Own.is ∙ ap Own (part_none _ _ c.if-span.true))

pub slice_bounds-result-end-in-Own : goal.slice_bounds-result-end-in-Own
slice_bounds-result-end-in-Own g c =
    let on = newest_on _ _ _ _ _ c.self.invariant.0.stacked c.at.ensures in
    let below = reads_below _ _ _ c.in-Own.is on.0.reads in
    let same = ap length c.as_slice.ensures.value in
    omega arith

pub returns-in-Text : goal.returns-in-Text
returns-in-Text g c = sym (left_is _ _ _ _ _ _ _ _ _ _ c.self.view_is c.at.ensures c.in-Text.is)

pub returns-else-span : goal.returns-else-span
returns-else-span g c =
    let s = c.in-Own.span in
    ap Own (ap (λ bytes. take (s.last - s.first) (drop s.first bytes)) c.as_slice.ensures.value ∙ between_is _ s.first s.last)
    ∙ sym (left_is _ _ _ _ _ _ _ _ _ _ c.self.view_is c.at.ensures c.in-Own.is)

pub returns-in-Mark : goal.returns-in-Mark
returns-in-Mark g c = sym (left_is _ _ _ _ _ _ _ _ _ _ c.self.view_is c.at.ensures c.in-Mark.is ∙ left_none c.self.inside.bytes.items (mode_of c.at.result.now.has_mode c.self.inside.modes.items))

pub returns-then-is_empty : goal.returns-then-is_empty
returns-then-is_empty g c = grind (arith, common_steps)

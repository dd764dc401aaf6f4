use Rattle.std.proofs.Common.{◌-◌, length, take, drop, arith}
use Rattle.std.proofs.lemmas.Grind.{common_steps}
use Rattle.std.proofs.lemmas.List.Sums.{sum_by-drop_more}
use Rattle.nr_fill.specs.declared.piece.PieceSlot.{PieceSlot}
use Rattle.nr_fill.specs.Slots.{blank_slot}
use Rattle.nr_fill.proofs.SettingPieces.{cells_in_slots-le}
use Rattle.nr_fill.proofs.cutting.sums_of.Goals as goal

pub overflow_add-cells : goal.overflow_add-cells
overflow_add-cells c =
    let slots = c.args.slots.now in
    let others = take (length slots - 1) (drop 1 slots) in
    let more = sum_by-drop_more (λ (s : PieceSlot). s.len) others c.loop-slot.slot-index blank_slot c.loop-slot-test.true in
    let within = cells_in_slots-le slots in
    let sum = c.loop-slot.invariant.cells in
    let small = c.requires.wide in
    omega arith

pub loop-slot-init : goal.loop-slot-init
loop-slot-init c = grind (arith, common_steps)

pub overflow_add-gaps : goal.overflow_add-gaps
overflow_add-gaps c = grind (arith, common_steps)

pub loop-slot-preserved : goal.loop-slot-preserved
loop-slot-preserved c = grind (arith, common_steps)

pub returns-clause-cells : goal.returns-clause-cells
returns-clause-cells c = grind (arith, common_steps)

pub returns-clause-wide : goal.returns-clause-wide
returns-clause-wide c = grind (arith, common_steps)

pub returns-clause-gaps : goal.returns-clause-gaps
returns-clause-gaps c = grind (arith, common_steps)

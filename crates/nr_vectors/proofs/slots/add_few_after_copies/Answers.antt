use Rattle.std.proofs.Common.{◌≡◌, ◌+◌, ◌-◌, length, take, drop, arith, length-take, length-drop}
use Rattle.nr_vectors.proofs.Written.{take_written_after}
use Rattle.nr_vectors.proofs.slots.add_few_after_copies.Goals as goal

pub returns-then-slots-len-clause-items : goal.returns-then-slots-len-clause-items
returns-then-slots-len-clause-items g c written =
    let xs = c.args.slots.now in
    let a = c.args.len in
    let size = a + 16 - a in
    let m = c.args.copies in
    let free = c.if-slots-len.true in
    let rest : length (drop 8 (take size (drop a xs))) ≡ 8 = omega (arith, length-drop 8 (take size (drop a xs)), length-take size (drop a xs), length-drop a xs) in
    take_written_after xs _ _ _ c.args.more.now c.args.item a size (m + 8 - m) m c.args.n 8 (omega arith) (omega arith) (omega arith)
    c.copy_from_slice.ensures.after rest c.copy_from_slice-then-slots-len.ensures.after c.if-copies-le-CHUNK.true c.if-n-le-CHUNK.true c.if-more-ge-CHUNK.true

use Rattle.std.proofs.Common.{length, ap, ◌∙◌, arith}
use Rattle.std.proofs.lemmas.Grind.{common_steps}
use Rattle.nr_fill.specs.Laid.{Laid}
use Rattle.nr_fill.proofs.Lines.{is_line_untitled}
use Rattle.nr_fill.proofs.Pendings.{are_small}
use Rattle.nr_fill.proofs.line.Line.end_piece.Goals as goal

pub invariant_of-self-in_default-pending : goal.invariant_of-self-in_default-pending
invariant_of-self-in_default-pending c = let h = rw c.in-Some.is at (is_line_untitled c.self.invariant) in rw c.clear_title.ensures h

pub close-requires-clause-room : goal.close-requires-clause-room
close-requires-clause-room c =
    let h = rw c.in-Some.is at (is_line_untitled c.self.invariant) in
    let small = are_small h in
    let needed = rw c.in-AtPoint.is at small.needed in
    rw c.clear_title.ensures (omega (arith, small.room, small.text, small.parted, small.pieces_are))

pub overflow_add-word : goal.overflow_add-word
overflow_add-word c =
    let h = rw c.in-Some.is at (is_line_untitled c.self.invariant) in
    let small = are_small h in
    let len = c.last_len-len.ensures ∙ ap (λ (l : Laid). length l.last) c.clear_title.ensures in
    omega (arith, small.small, small.text, small.parted)

pub overflow_add-word-3 : goal.overflow_add-word-3
overflow_add-word-3 c =
    let h = rw c.in-Some.is at (is_line_untitled c.self.invariant) in
    let small = are_small h in
    let join = c.from.ensures ∙ c.width.ensures in
    let len = c.last_len-len.ensures ∙ ap (λ (l : Laid). length l.last) c.clear_title.ensures in
    omega (arith, small.widths, small.join, small.small, small.text, small.parted)

pub invariant_of-self-2 : goal.invariant_of-self-2
invariant_of-self-2 c = grind (arith, common_steps)

pub returns : goal.returns
returns c = grind (arith, common_steps)

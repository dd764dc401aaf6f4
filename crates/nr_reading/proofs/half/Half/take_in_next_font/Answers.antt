use Rattle.std.proofs.Common.{◌≡◌, ◌+◌, subst, arith}
use Rattle.std.proofs.lemmas.Option.{IfSome_then}
use Rattle.nr_reading.specs.Many.Runs.{HasTakenIn, spot}
use Rattle.nr_reading.proofs.Stretches.{nothing_taken_in}
use Rattle.nr_reading.proofs.half.Half.take_in_next_font.Goals as goal

pub returns-in-Some-eq92-Some-eq102-clause-taken_in : goal.returns-in-Some-eq92-Some-eq102-clause-taken_in
returns-in-Some-eq92-Some-eq102-clause-taken_in g c =
    let fs = g.I.Items.next_items c.args.items.now in
    let h = c.args.self.now in
    let new = c.take_in_font.new.self in
    IfSome_then c.take_in_font.result c.take_in_font.ensures.taken_in
    (λ run taken_in.
    let moves : 0 + run.moves ≡ run.moves = omega arith in
    let taken : 0 + run.taken ≡ run.taken = omega arith in
    subst (λ n. HasTakenIn n fs h (spot run new)) moves
    (subst (λ t. HasTakenIn (0 + run.moves) fs h (record { taken = t; half = new; event = run.event })) taken (taken_in h 0 (nothing_taken_in fs h))))

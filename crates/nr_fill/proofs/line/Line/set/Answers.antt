use Rattle.std.proofs.Common.{◌≤◌, List, ◌++◌, length, take, replicate, ap, sym, ◌∙◌, subst, arith}
use Rattle.std.proofs.lemmas.Grind.{common_steps}
use Rattle.std.proofs.lemmas.List.{length-take-le, take-take}
use Rattle.nr_vectors.specs.Cell.{blank}
use Rattle.nr_fill.specs.Line.{Lined}
use Rattle.nr_fill.specs.Piece.{Piece}
use Rattle.nr_fill.specs.Setting.{hyphens}
use Rattle.nr_fill.specs.Spreading.{cells_in_line}
use Rattle.nr_fill.proofs.line.Line.set.Goals as goal

pub set-extent-requires-clause-most : goal.set-extent-requires-clause-most
set-extent-requires-clause-most g c = grind (arith, common_steps)

pub overflow_add-result : goal.overflow_add-result
overflow_add-result g c = grind (arith, common_steps)

pub returns-then-plan-gt0-clause-out : goal.returns-then-plan-gt0-clause-out
returns-then-plan-gt0-clause-out g c =
    let s = c.self.inside in
    let x = c.args.plan.extra in
    let n = c.args.n in
    let both = g.met.S.CellSink.adds_both in
    let long = length-take-le s.pieces s.row.pieces c.self.invariant.pieces_within in
    let count = ap (λ (v : Lined). length v.collected.pieces) c.self.view_is in
    let within : n ≤ s.pieces = omega (arith, c.requires.within) in
    let prefix = sym (take-take n s.pieces s.row.pieces within) ∙ ap (λ (v : Lined). take n v.collected.pieces) c.self.view_is in
    let line = cells_in_line x (take n c.args.self.now.collected.pieces) in
    let set = subst (λ (ps : List Piece). g.S.CellSink.Adds c.blanks.new.self (cells_in_line x ps) c.set-extent.new.out) prefix c.set-extent.ensures.set in
    let afterwards = both c.blanks.new.self c.set-extent.new.out c.push_hyphens.new.out line (hyphens c.args.plan.hyphens) set c.push_hyphens.ensures in
    both c.args.out.now c.blanks.new.self c.push_hyphens.new.out (replicate c.args.plan.start blank) (line ++ hyphens c.args.plan.hyphens) c.blanks.ensures afterwards

pub returns-then-plan-gt0-clause-width : goal.returns-then-plan-gt0-clause-width
returns-then-plan-gt0-clause-width g c = grind (arith, common_steps)

pub returns-then-plan-gt0-clause-small : goal.returns-then-plan-gt0-clause-small
returns-then-plan-gt0-clause-small g c = grind (arith, common_steps)

pub returns-else-plan-gt0-clause-out : goal.returns-else-plan-gt0-clause-out
returns-else-plan-gt0-clause-out g c =
    let s = c.self.inside in
    let x = c.args.plan.extra in
    let n = c.args.n in
    let both = g.met.S.CellSink.adds_both in
    let long = length-take-le s.pieces s.row.pieces c.self.invariant.pieces_within in
    let count = ap (λ (v : Lined). length v.collected.pieces) c.self.view_is in
    let within : n ≤ s.pieces = omega (arith, c.requires.within) in
    let prefix = sym (take-take n s.pieces s.row.pieces within) ∙ ap (λ (v : Lined). take n v.collected.pieces) c.self.view_is in
    let line = cells_in_line x (take n c.args.self.now.collected.pieces) in
    let set = subst (λ (ps : List Piece). g.S.CellSink.Adds c.blanks.new.self (cells_in_line x ps) c.set-extent.new.out) prefix c.set-extent.ensures.set in
    let afterwards = both c.blanks.new.self c.set-extent.new.out c.push_hyphens.new.out line (hyphens c.args.plan.hyphens) set c.push_hyphens.ensures in
    both c.args.out.now c.blanks.new.self c.push_hyphens.new.out (replicate c.args.plan.start blank) (line ++ hyphens c.args.plan.hyphens) c.blanks.ensures afterwards

pub returns-else-plan-gt0-clause-width : goal.returns-else-plan-gt0-clause-width
returns-else-plan-gt0-clause-width g c = grind (arith, common_steps)

pub returns-else-plan-gt0-clause-small : goal.returns-else-plan-gt0-clause-small
returns-else-plan-gt0-clause-small g c = grind (arith, common_steps)

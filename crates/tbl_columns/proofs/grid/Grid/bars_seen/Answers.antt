use Rattle.std.proofs.Common.{◌≡◌, ℕ, ◌<◌, nat_lt, true, ap, sym, arith, ◌∙◌}
use Rattle.std.proofs.lemmas.Bool.Decides.{nat_tests}
use Rattle.tbl_columns.specs.Frames.{bars_beside, bars_of}
use Rattle.tbl_columns.proofs.Choices.{left, taken}
use Rattle.tbl_columns.proofs.grid.Grid.bars_seen.Goals as goal

above_none : (n : ℕ) → 0 < n → nat_lt 0 n ≡ true
above_none n h = grind (arith, nat_tests)

pub returns-then-bars-gt0 : goal.returns-then-bars-gt0
returns-then-bars-gt0 c =
    let t = c.args.self.now in
    let n = bars_of t c.args.row c.args.column in
    let some : 0 < n = omega (arith, c.bars_by-bars.ensures, c.if-bars-gt0.true) in
    c.bars_by-bars.ensures ∙ sym (taken (nat_lt 0 n) n (bars_beside t c.args.row c.args.column) (above_none n some))

pub returns : goal.returns
returns c =
    let t = c.args.self.now in
    let n = bars_of t c.args.row c.args.column in
    let none : n ≡ 0 = omega (arith, c.bars_by-bars.ensures, c.if-bars-gt0.false) in
    c.bars_beside.ensures ∙ sym (left (nat_lt 0 n) n (bars_beside t c.args.row c.args.column) (ap (λ (m : ℕ). nat_lt 0 m) none))

use Rattle.std.proofs.Common.{◌≡◌, ℕ, ◌+◌, ◌-◌, ◌≤◌, length, drop, sym, ap, ◌∙◌, arith}
use Rattle.tbl_columns.specs.declared.registers.Expression.{Expression}
use Rattle.tbl_columns.specs.Registers.{filled_from, waiting, written}
use Rattle.tbl_columns.proofs.Fillings.{byte_filled, byte_passed, register_filled}
use Rattle.tbl_columns.proofs.grid.Grid.filled_in.Goals as goal
use Rattle.tbl_columns.proofs.grid.Grid.filled_in.Goals.{then-more-gt0, else-more-gt0+then-byte-eq92, else-more-gt0+else-byte-eq92}

pub loop-at-preserved : goal.loop-at-preserved
loop-at-preserved c =
    let g = c.args.self.now in
    let text = c.args.text.now in
    let at = c.loop-at.at in
    let old = c.loop-at.filled in
    let more = c.loop-at.more in
    let i = c.loop-at.invariant in
    elim c.if-more-gt0.branch [
      | then-more-gt0 w ↦ record {
        value = ap (λ (m : ℕ). filled_from g (drop (at + 1) text) (waiting m (written c.if-more-gt0.filled))) w.more-is
            ∙ ap (λ (e : Expression). filled_from g (drop (at + 1) text) (waiting (more - 1) (written e))) w.filled-is
            ∙ byte_passed g text at more old c.loop-at-test.true w.if-more-gt0.true ∙ i.value;
        within = let e = ap (λ (e : Expression). e.len) w.filled-is in omega (arith, e, i.within);
      }
      | else-more-gt0+then-byte-eq92 w ↦ record {
        value = ap (λ (m : ℕ). filled_from g (drop (at + 1) text) (waiting m (written c.if-more-gt0.filled))) w.more-is
            ∙ ap (λ (e : Expression). filled_from g (drop (at + 1) text) (waiting w.fill_register-more.result (written e))) w.filled-is
            ∙ register_filled g text at more w.fill_register-more.result old w.fill_register-more.new.filled c.loop-at-test.true
            (omega (arith, w.if-more-gt0.false)) w.if-byte-eq92.true w.fill_register-more.ensures.value ∙ i.value;
        within = let e = ap (λ (e : Expression). e.len) w.filled-is in omega (arith, e, w.fill_register-more.ensures.within);
      }
      | else-more-gt0+else-byte-eq92 w ↦ record {
        value = ap (λ (m : ℕ). filled_from g (drop (at + 1) text) (waiting m (written c.if-more-gt0.filled))) w.more-is
            ∙ ap (λ (e : Expression). filled_from g (drop (at + 1) text) (waiting more (written e))) w.filled-is
            ∙ byte_filled g text at more old w.push.new.self c.loop-at-test.true (omega (arith, w.if-more-gt0.false)) w.if-byte-eq92.false w.push.ensures.value ∙ i.value;
        within = let e = ap (λ (e : Expression). e.len) w.filled-is in omega (arith, e, w.push.ensures.within);
      }
    ]

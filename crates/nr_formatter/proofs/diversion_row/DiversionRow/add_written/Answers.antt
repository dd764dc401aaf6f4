use Rattle.std.proofs.Common.{◌++◌, replicate, Bool, sym, subst}
use Rattle.nr_vectors.specs.Cell.{blank}
use Rattle.nr_store.specs.Store.{charge_of}
use Rattle.nr_formatter.specs.DiversionRow.{HoldsRow, with_cells}
use Rattle.nr_formatter.proofs.HeldRows.{holds_refused, holds_some, holds_no_more, refused_by}
use Rattle.nr_formatter.proofs.diversion_row.DiversionRow.add_written.Goals as goal

pub returns-then-self-clause-adds : goal.returns-then-self-clause-adds
returns-then-self-clause-adds c =
    λ before row h.
    let old = c.args.self.now in
    let cells = c.args.cells.now in
    subst (λ (r : Bool). HoldsRow before (row ++ cells) old.store.now old.blanks r) (sym c.if-self.true)
    (holds_refused cells c.requires h old.store.now old.blanks h.limits (h.passed c.if-self.true))

pub returns-in-Ok-clause-adds : goal.returns-in-Ok-clause-adds
returns-in-Ok-clause-adds c =
    λ before row h.
    let old = c.args.self.now in
    let cells = c.args.cells.now in
    let held = subst (λ (r : Bool). HoldsRow before row old.store.now old.blanks r) c.if-self.false h in
    subst (λ (r : Bool). HoldsRow before (row ++ cells) c.add_after.new.store 0 r) (sym c.if-self.false)
    (holds_some cells c.requires held c.add_after.new.store c.in-Ok.ensures.ok c.in-Ok.ensures.small)

pub returns-in-Err-clause-adds : goal.returns-in-Err-clause-adds
returns-in-Err-clause-adds c =
    λ before row h.
    let old = c.args.self.now in
    let cells = c.args.cells.now in
    let held = subst (λ (r : Bool). HoldsRow before row old.store.now old.blanks r) c.if-self.false h in
    let more = with_cells (replicate old.blanks blank ++ cells) old.store.now in
    holds_no_more cells c.requires held c.add_after.new.store old.blanks c.add_after.ensures.limits (refused_by more (charge_of more) c.in-Err.field-0 c.in-Err.ensures.result)

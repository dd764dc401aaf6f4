use Rattle.std.proofs.Common.{◌≡◌, ◌-◌, Bool, ap, ap₂, sym, ◌∙◌, subst}
use Rattle.std.specs.Prelude.{OnOk}
use Rattle.nr_store.specs.Store.{Stored, afforded, charge_of, diverted}
use Rattle.nr_store.proofs.Building.{unaffordable}
use Rattle.nr_formatter.specs.declared.tasks.Resume.{Resume}
use Rattle.nr_formatter.specs.DiversionRow.{HoldsRow, diverted_cells}
use Rattle.nr_formatter.proofs.HeldRows.{line_ended, line_passes}
use Rattle.nr_formatter.proofs.diversion_row.DiversionRow.end.Goals as goal

pub returns-then-self-clause-result : goal.returns-then-self-clause-result
returns-then-self-clause-result c =
    λ before row h is.
    let held = subst (λ (r : Bool). HoldsRow before row c.args.self.now.store.now c.args.self.now.blanks r) c.if-self.true h in
    sym (unaffordable (diverted 0 (diverted_cells row) c.args.height before) tt (line_passes c.args.height held))

pub returns-clause-result : goal.returns-clause-result
returns-clause-result c =
    λ before row h is.
    let held = subst (λ (r : Bool). HoldsRow before row c.args.self.now.store.now c.args.self.now.blanks r) c.if-self.false h in
    let n_is : c.saturating_sub-cells.result ≡ charge_of c.args.self.now.store.now - charge_of before = c.saturating_sub-cells.ensures ∙ ap₂ (λ a b. a - b) c.charge.ensures.value is in
    c.end_line.ensures.answer ∙ ap (λ (v : Stored Resume). afforded v tt) (line_ended c.saturating_sub-cells.result c.args.height held n_is)

pub returns-clause-ok : goal.returns-clause-ok
returns-clause-ok c =
    λ before row h is.
    let held = subst (λ (r : Bool). HoldsRow before row c.args.self.now.store.now c.args.self.now.blanks r) c.if-self.false h in
    let n_is : c.saturating_sub-cells.result ≡ charge_of c.args.self.now.store.now - charge_of before = c.saturating_sub-cells.ensures ∙ ap₂ (λ a b. a - b) c.charge.ensures.value is in
    subst (λ (v : Stored Resume). OnOk c.end_line.result (c.end_line.new.self ≡ v)) (line_ended c.saturating_sub-cells.result c.args.height held n_is) c.end_line.ensures.ok

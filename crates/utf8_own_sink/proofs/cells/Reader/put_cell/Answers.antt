use Rattle.std.proofs.Common.{ℕ, List, ◌++◌, sym, ◌∙◌, ap, append-nil}
use Rattle.utf8_own_sink.proofs.Plain.{holds-after, holds-said, passes-after, passes-said}
use Rattle.utf8_own_sink.proofs.cells.Reader.put_cell.Goals as goal

pub returns-then-passes-clause-items : goal.returns-then-passes-clause-items
returns-then-passes-clause-items c =
    c.push.ensures.items ∙ ap (λ (xs : List ℕ). c.args.out.now.items ++ xs) (sym (passes-said c.args.table.now c.args.cell c.args.self.now (sym c.passes.ensures ∙ c.if-passes.true)))

pub returns-then-passes-clause-reader : goal.returns-then-passes-clause-reader
returns-then-passes-clause-reader c = passes-after c.args.table.now c.args.cell c.args.self.now (sym c.passes.ensures ∙ c.if-passes.true)

pub returns-then-holds-clause-items : goal.returns-then-holds-clause-items
returns-then-holds-clause-items c =
    let xs = c.args.out.now.items in
    sym (append-nil xs) ∙ ap (λ (ys : List ℕ). xs ++ ys) (sym (holds-said c.args.table.now c.args.cell c.args.self.now (sym c.holds.ensures ∙ c.if-holds.true)))

pub returns-then-holds-clause-reader : goal.returns-then-holds-clause-reader
returns-then-holds-clause-reader c = holds-after c.args.table.now c.args.cell c.args.self.now (sym c.holds.ensures ∙ c.if-holds.true)

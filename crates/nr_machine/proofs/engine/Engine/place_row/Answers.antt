use Rattle.std.proofs.Common.{◌≡◌, ◌+◌, ◌≤◌, ◌∷◌, [], ◌++◌, length, true, false, refl, sym, ap, ◌∙◌, arith, inl, inr}
use Rattle.std.proofs.lemmas.Bool.{cases_lt}
use Rattle.nr_vectors.specs.Cell.{trimmed}
use Rattle.nr_fill.specs.CellRow.{row_of}
use Rattle.nr_page.specs.Grid.{Placed, page_charge}
use Rattle.nr_page.specs.Page.{Holds as HoldsPage}
use Rattle.nr_formatter.specs.Pages.{place_after}
use Rattle.nr_machine.specs.Machine.{placed, row_at}
use Rattle.nr_machine.proofs.Working.{page_charge-push}
use Rattle.nr_formatter.specs.Limits as formatter
use Rattle.nr_machine.specs.Holding.{shape}
use Rattle.nr_machine.proofs.LimitsStay.{page-limits}
use Rattle.nr_machine.proofs.engine.Engine.place_row.Goals as goal

pub returns-in-Ok-clause-places : goal.returns-in-Ok-clause-places
returns-in-Ok-clause-places c = λ cells is.
    let f = c.args.self.now.formatter in
    let limit = c.args.self.now.page.limit in
    let cells_is : c.in-Some.cells.now ≡ trimmed cells = c.in-Some.ensures cells is in
    let row_is : c.row_at-row.result ≡ row_at (place_after c.args.height f) = c.row_at-row.ensures ∙ ap row_at c.place_after.ensures in
    let x : Placed = placed cells c.args.height f in
    let clear : c.clear.new.self ≡ row_of c.clear.new.self.capacity [] = c.clear.ensures ∙ ap (λ r. row_of r []) (sym (ap (λ r. r.capacity) c.clear.ensures)) in (
      c.line_placed.ensures.is,
      refl,
      (refl, refl),
      clear,
      c.place.ensures.limit,
      λ lines page.
          let holds : HoldsPage (lines ++ x ∷ []) c.place.new.self = rw (sym cells_is, sym row_is) (c.in-Ok.ensures.ok lines page) in
          let fits = (c.in-Ok.ensures.full lines page).1 in
          let low : page_charge (lines ++ x ∷ []) ≤ limit =
          elim (cases_lt limit (page_charge lines + 1 + length c.in-Some.cells.now)) [
            | inl k ↦ absurd (let no : false ≡ true = fits k in cc)
            | inr k ↦ omega (arith, page_charge-push lines x, ap length cells_is)
          ]
          in
          (holds, low),
    )

pub returns-in-Ok-clause-limits : goal.returns-in-Ok-clause-limits
returns-in-Ok-clause-limits c =
    let e = shape c.args.self.now in
    page-limits e (record e { formatter = c.line_placed.new.self; page = c.place.new.self }) (ap formatter.limits_of c.line_placed.ensures.is) c.place.ensures.limit

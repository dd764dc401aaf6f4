use Rattle.std.proofs.Common.{◌≡◌, ◌+◌, [], ◌∷◌, ◌++◌, replicate, Ok, refl, ap, sym, ◌∙◌, arith}
use Rattle.nr_vectors.specs.Cell.{blank}
use Rattle.nr_fill.specs.CellRow.{IsRow}
use Rattle.nr_formatter.specs.Access.{done}
use Rattle.nr_formatter.specs.Weights.{Falls}
use Rattle.nr_formatter.specs.declared.paper.Outlet.TheVariants as outlets
use Rattle.nr_machine.specs.Machine.{cell_to, offset, indent, margin_in, with_cell}
use Rattle.nr_machine.specs.Measures.{IsWithin}
use Rattle.nr_machine.specs.Holding.{shape, at, ComesQuietly}
use Rattle.nr_machine.proofs.Going.{with_cell-is}
use Rattle.nr_machine.proofs.Lightening.{falls-cell}
use Rattle.nr_machine.proofs.Working.{holds_of}
use Rattle.nr_machine.specs.Limits.{limits_of}
use Rattle.nr_machine.proofs.engine.Engine.read_cell.Goals as goal

pub returns : goal.returns
returns c =
    let e = shape c.args.self.now in
    let rest = c.push.ensures.rest in
    let e' = record e { formatter = done c.push.new.self.formatter; place = c.push.new.self.place; row = c.push.new.self.row; page = c.push.new.self.page; select = c.push.new.self.select; faces = c.push.new.self.faces } in
    let comes : ComesQuietly (cell_to outlets.Room c.args.cell) e e' (Ok tt) = λ supply s h.
    let t = cell_to outlets.Room c.args.cell (at e s) in
    let margin : c.margin-blanks.result ≡ margin_in (offset e.formatter + indent e.formatter) s.row =
    c.margin-blanks.ensures s.row h.row ∙ ap (λ n. margin_in n s.row) (let n : c.offset.result + c.cells-indent.result ≡ offset e.formatter + indent e.formatter = omega (arith, c.offset.ensures.value, c.cells-indent.ensures.value) in n)
    in
    let added : IsRow (s.row ++ (replicate c.margin-blanks.result blank ++ c.args.cell ∷ [])) c.push.new.self.row = c.push.ensures.row.1 s.row h.row in
    let row : IsRow (with_cell (offset e.formatter + indent e.formatter) c.args.cell s.row) c.push.new.self.row =
    rw (with_cell-is (offset e.formatter + indent e.formatter) c.args.cell s.row, sym margin) added
    in
    let within : IsWithin t =
    record { formatter = record { stored = h.within.formatter.stored; depth = h.within.formatter.depth; line = h.within.formatter.line; burst = h.within.formatter.burst }; page = h.within.page }
    in (
      holds_of supply t e' (ap (λ x. done x.formatter) rest) h.chosen_is (rw (ap (λ x. x.place) rest) h.coming) row (rw (ap (λ x. x.page) rest) h.page)
          (ap (λ x. x.page.limit) rest ∙ h.page_limit) (ap (λ x. x.select) rest ∙ h.select) (ap (λ x. x.faces) rest ∙ h.faces) within,
      refl,
    )
    in
    let falls : Falls 1 0 c.args.self.now.formatter (done c.args.self.now.formatter) = falls-cell c.args.cell c.args.self.now.formatter c.requires in
    record {
      works = record {
        comes = comes;
        lightens = (rw (ap (λ x. x.formatter) rest) falls, ap (λ x. x.place) rest);
      };
      limits = ap limits_of rest;
    }

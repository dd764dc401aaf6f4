use Rattle.std.proofs.Common.{refl, sym, ◌∙◌, arith}
use Rattle.nr_machine.specs.Printing.{bytes_of}
use Rattle.nr_machine.specs.Machine.{end_page, page_of}
use Rattle.nr_machine.specs.Measures.{IsWithin}
use Rattle.nr_machine.specs.Holding.{shape, at}
use Rattle.nr_machine.proofs.Working.{holds_of, text-push}
use Rattle.std.proofs.Common.{ap}
use Rattle.nr_formatter.specs.Limits as formatter
use Rattle.nr_machine.proofs.LimitsStay.{page-limits}
use Rattle.nr_machine.proofs.engine.Engine.end_page.Goals as goal

pub returns-in-Err-clause-comes : goal.returns-in-Err-clause-comes
returns-in-Err-clause-comes g c = λ supply s h.
    let t = at (shape c.args.self.now) s in
    let within : IsWithin (end_page t) =
    record { formatter = record { stored = h.within.formatter.stored; depth = h.within.formatter.depth; line = h.within.formatter.line; burst = h.within.formatter.burst }; page = omega arith }
    in
    (within, record { page = page_of t; ends = refl; prefix = c.in-Err.ensures.err t h.page (sym h.select) (sym h.faces) refl })

pub returns-in-Ok-clause-comes : goal.returns-in-Ok-clause-comes
returns-in-Ok-clause-comes g c = λ supply s h.
    let t = at (shape c.args.self.now) s in
    let within : IsWithin (end_page t) =
    record { formatter = record { stored = h.within.formatter.stored; depth = h.within.formatter.depth; line = h.within.formatter.line; burst = h.within.formatter.burst }; page = omega arith }
    in
    let all = c.in-Ok.ensures.ok t h.page (sym h.select) (sym h.faces) refl in (
      holds_of supply (end_page t) (record (shape c.args.self.now) { formatter = c.page_ended.new.self; page = c.clear.new.self }) c.page_ended.ensures.is h.chosen_is h.coming h.row
          c.clear.ensures.empty (c.clear.ensures.limit ∙ h.page_limit) h.select h.faces within,
      record { wrote = (bytes_of (page_of t), record { grows = text-push s.pages (page_of t) }, all) },
    )

pub returns-in-Ok-clause-limits : goal.returns-in-Ok-clause-limits
returns-in-Ok-clause-limits g c =
    let e = shape c.args.self.now in
    page-limits e (record e { formatter = c.page_ended.new.self; page = c.clear.new.self }) (ap formatter.limits_of c.page_ended.ensures.is) c.clear.ensures.limit

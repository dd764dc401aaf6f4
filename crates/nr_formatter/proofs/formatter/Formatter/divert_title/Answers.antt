use Rattle.std.proofs.Common.{◌≡◌, ◌/◌, sym, ◌∙◌, arith}
use Rattle.nr_formatter.proofs.DivertedFalls.{falls_along, falls-divert_title}
use Rattle.nr_formatter.proofs.formatter.Formatter.divert_title.Goals as goal

pub returns-clause-result : goal.returns-clause-result
returns-clause-result c =
    let length : c.cells-length.result ≡ c.args.self.now.settings.indents.title_length.value / 24 = omega (arith, c.cells-length.ensures.value) in
    rw (length, c.units-height.ensures.value) at (sym c.in_ok-divert_titled.was ∙ c.divert_titled.ensures.result)

pub returns-clause-ok : goal.returns-clause-ok
returns-clause-ok c =
    let length : c.cells-length.result ≡ c.args.self.now.settings.indents.title_length.value / 24 = omega (arith, c.cells-length.ensures.value) in
    let stored = rw (length, c.units-height.ensures.value) at c.in_ok-divert_titled.ensures.ok in
    let springs = rw (c.units-height.ensures.value, c.diversion.ensures) at c.trap_reached-springs.ensures in
    rw (stored, springs, c.divert_titled.ensures.line)

pub returns-clause-falls : goal.returns-clause-falls
returns-clause-falls c = λ nothing task. falls_along (falls-divert_title c.args.self.now nothing task) (returns-clause-ok c)

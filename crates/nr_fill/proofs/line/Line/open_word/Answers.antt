use Rattle.std.proofs.lemmas.Grind.{common_steps}
use Rattle.std.proofs.Common.{sym, ◌∙◌, arith}
use Rattle.nr_fill.proofs.Lines.{is_line_untitled, is_line_opened, none_from_is_some, line_cells-le}
use Rattle.nr_fill.proofs.line.Line.open_word.Goals as goal

pub invariant_of-self : goal.invariant_of-self
invariant_of-self c = rw c.clear_title.ensures (is_line_untitled c.self.invariant)

pub invariant_of-self-2 : goal.invariant_of-self-2
invariant_of-self-2 c =
    let none = none_from_is_some c.self.inside.word (sym c.is_some.ensures ∙ c.if-is_some.false) in
    let h = rw none at (is_line_untitled c.self.invariant) in
    rw c.clear_title.ensures (is_line_opened c.new.result h c.new.ensures)

pub returns-then-is_some-clause-within : goal.returns-then-is_some-clause-within
returns-then-is_some-clause-within c = line_cells-le c.self.inside.barred c.self.inside.sentence c.self.inside.margins c.self.inside.turn (invariant_of-self c)

pub returns-clause-within : goal.returns-clause-within
returns-clause-within c = line_cells-le c.self.inside.barred c.self.inside.sentence c.self.inside.margins c.self.inside.turn (invariant_of-self-2 c)

pub returns-clause-opened : goal.returns-clause-opened
returns-clause-opened c = grind (arith, common_steps)

use Rattle.std.proofs.Common.{nat_lt, [], sym, ◌∙◌}
use Rattle.tbl_drawing.proofs.Chosen.{draws_chosen, none_asked}
use Rattle.tbl_drawing.specs.Drawing.{blanks_before}
use Rattle.tbl_drawing.proofs.layout.Layout.put_blanks_if.Goals as goal

pub returns-then-not-is_later : goal.returns-then-not-is_later
returns-then-not-is_later g c =
    none_asked (nat_lt c.args.line.first c.args.number) (blanks_before c.args.self.now c.args.number c.args.line c.args.gap)
    (sym c.is_later.ensures ∙ c.if-not-is_later.true)

pub returns : goal.returns
returns g c = draws_chosen (nat_lt c.args.line.first c.args.number) [] c.put_blanks.ensures (sym c.is_later.ensures ∙ c.if-not-is_later.false)

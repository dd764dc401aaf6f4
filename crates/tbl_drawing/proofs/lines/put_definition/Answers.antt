use Rattle.std.proofs.Common.{[], ◌∷◌, sym, ◌∙◌}
use Rattle.tbl_drawing.specs.Writing.{line}
use Rattle.tbl_table.specs.Requests.{defines}
use Rattle.tbl_drawing.proofs.Chosen.{draws_chosen, none_asked}
use Rattle.tbl_drawing.proofs.lines.put_definition.Goals as goal

pub returns-then-not-defines : goal.returns-then-not-defines
returns-then-not-defines g c = none_asked (defines c.args.line.now) (line (c.args.line.now ∷ [])) (sym c.defines.ensures ∙ c.if-not-defines.true)

pub returns : goal.returns
returns g c = draws_chosen (defines c.args.line.now) [] c.line.ensures (sym c.defines.ensures ∙ c.if-not-defines.false)

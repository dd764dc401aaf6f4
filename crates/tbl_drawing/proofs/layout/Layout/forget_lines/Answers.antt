use Rattle.std.proofs.Common.{refl, arith}
use Rattle.std.proofs.lemmas.Grind.{common_steps}
use Rattle.tbl_drawing.proofs.layout.Layout.forget_lines.Goals as goal

pub returns-clause-room : goal.returns-clause-room
returns-clause-room c = rw (c.clear.ensures.room, c.clear-2.ensures.room, c.clear-3.ensures.room) refl

pub returns-clause-value : goal.returns-clause-value
returns-clause-value c = grind (arith, common_steps)

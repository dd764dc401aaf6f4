use Rattle.std.proofs.Common.{arith}
use Rattle.std.proofs.lemmas.Grind.{common_steps}
use Rattle.fast_input.proofs.at_hand.window.Goals as goal

pub returns-clause-levels : goal.returns-clause-levels
returns-clause-levels g c = grind (arith, common_steps)

pub returns-then-window-room-clause-next : goal.returns-then-window-room-clause-next
returns-then-window-room-clause-next g c = grind (arith, common_steps)

pub returns-then-window-room-clause-levels : goal.returns-then-window-room-clause-levels
returns-then-window-room-clause-levels g c = grind (arith, common_steps)

pub returns-clause-all : goal.returns-clause-all
returns-clause-all g c = grind (arith, common_steps)

pub returns-clause-prefix : goal.returns-clause-prefix
returns-clause-prefix g c = grind (arith, common_steps)

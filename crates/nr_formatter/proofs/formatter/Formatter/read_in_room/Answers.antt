use Rattle.std.proofs.Common.{rules}
use Rattle.nr_formatter.specs.Moves.{read_in}
use Rattle.nr_formatter.proofs.Falling.{falls-is}
use Rattle.nr_formatter.proofs.InputFalls.{falls-read_in}
use Rattle.nr_formatter.proofs.formatter.Formatter.read_in_room.Goals as goal

pub returns-clause-falls : goal.returns-clause-falls
returns-clause-falls c = λ none room. let f = c.args.self.now in falls-is 1 0 f _ (read_in c.args.room f) (search rules) (falls-read_in c.args.room f none room)

use Rattle.utf8_converter.proofs.Undone.{turns-back}
use Rattle.utf8_converter.proofs.undoing.byte_for.Goals as goal

pub returns-clause-back : goal.returns-clause-back
returns-clause-back c = turns-back c.args.table

pub returns-then-is_shown-clause-back : goal.returns-then-is_shown-clause-back
returns-then-is_shown-clause-back c = turns-back c.args.table

use Rattle.utf8_characters.proofs.Laws.{answer_back, answer_fits}
use Rattle.utf8_characters.proofs.table.FixedTable.character.Goals as goal

pub returns-clause-back : goal.returns-clause-back
returns-clause-back c = answer_back c.args.self c.args.byte c.look.result c.look.ensures

pub returns-clause-shown : goal.returns-clause-shown
returns-clause-shown c = answer_fits c.args.self c.args.byte c.look.result c.look.ensures

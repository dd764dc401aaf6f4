use Rattle.utf8_characters.proofs.Laws.{byte_answer_back}
use Rattle.utf8_characters.proofs.table.FixedTable.byte.Goals as goal

pub returns-clause-back : goal.returns-clause-back
returns-clause-back c = byte_answer_back c.args.self c.args.code c.seek.result c.seek.ensures

use Rattle.utf8_own_characters.proofs.ChoiceLaws.{choice_is_good, none_is_lost, all_fit}
use Rattle.utf8_own_characters.proofs.NoneAfter.{first_come_first}
use Rattle.utf8_own_characters.proofs.laws.choices_are_good.Goals as goal

pub returns-clause-good : goal.returns-clause-good
returns-clause-good c = choice_is_good

pub returns-clause-none_lost : goal.returns-clause-none_lost
returns-clause-none_lost c = none_is_lost

pub returns-clause-all : goal.returns-clause-all
returns-clause-all c = all_fit

pub returns-clause-first : goal.returns-clause-first
returns-clause-first c = first_come_first

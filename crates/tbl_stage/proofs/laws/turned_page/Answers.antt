use Rattle.tbl_stage.proofs.Pages.{turns_prefix, turns_so_far, turns_whole}
use Rattle.tbl_stage.proofs.laws.turned_page.Goals as goal

pub returns-clause-whole : goal.returns-clause-whole
returns-clause-whole c = turns_whole

pub returns-clause-so_far : goal.returns-clause-so_far
returns-clause-so_far c = turns_so_far

pub returns-clause-prefix : goal.returns-clause-prefix
returns-clause-prefix c = turns_prefix

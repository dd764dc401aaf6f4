use Rattle.utf8_own_page.proofs.PagesCovered.{pages_are_covered}
use Rattle.utf8_own_page.proofs.laws.pages_that_fit_are_covered.Goals as goal

pub returns : goal.returns
returns c = pages_are_covered

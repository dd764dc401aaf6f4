use Rattle.tbl_setting.specs.Requests.{letters_request}
use Rattle.tbl_setting.proofs.requests.letters_request.Goals as goal

pub returns : goal.returns
unfolding letters_request
returns c = c.looked_up.ensures

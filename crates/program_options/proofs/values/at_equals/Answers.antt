use Rattle.std.proofs.Common.{lit<}
use Rattle.std.proofs.lemmas.Str.Pattern.{split_once_first}
use Rattle.program_options.proofs.Parting.{at_equals_is}
use Rattle.program_options.proofs.values.at_equals.Goals as goal

pub returns : goal.returns
returns c = at_equals_is c.args.text.now c.split_once.result (split_once_first 61 c.args.text.now c.split_once.result c.split_once.ensures.cases (lit< tt))

use Rattle.fast_input.proofs.SplicesLie.{lies_at}
use Rattle.fast_input.proofs.splices.Splices.at.Goals as goal

pub returns : goal.returns
returns c = lies_at c.self.inside.all c.args.self.now c.self.inside.len c.args.n c.index-self-n.result c.self.view_is c.requires.within

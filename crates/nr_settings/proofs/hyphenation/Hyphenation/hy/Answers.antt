use Rattle.std.proofs.Common.{rules}
use Rattle.nr_settings.proofs.hyphenation.Hyphenation.hy.Goals as goal

pub returns : goal.returns
returns c = search rules

use Rattle.preconv_coding.proofs.Named.{coded_is}
use Rattle.preconv_coding.proofs.under_coding.UnderCoding.under.Goals as goal

pub returns-clause-supply : goal.returns-clause-supply
returns-clause-supply g c = rw (c.new.ensures, c.decided.ensures) (coded_is c.args.coding _)

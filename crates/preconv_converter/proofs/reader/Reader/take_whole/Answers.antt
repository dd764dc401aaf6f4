use Rattle.preconv_converter.proofs.Taking.{Takes-none}
use Rattle.preconv_converter.proofs.reader.Reader.take_whole.Goals as goal

pub returns-clause-taken : goal.returns-clause-taken
returns-clause-taken c = Takes-none c.args.bytes.now c.args.self.now c.args.out.now.items

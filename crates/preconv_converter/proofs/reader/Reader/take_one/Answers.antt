use Rattle.preconv_converter.proofs.Taking.{Takes-byte}
use Rattle.preconv_converter.proofs.reader.Reader.take_one.Goals as goal

pub returns-clause-taken : goal.returns-clause-taken
returns-clause-taken c =
    Takes-byte c.args.bytes.now c.args.self.now c.read-steps.new.self c.args.out.now.items c.read-steps.new.out.items c.read-steps.result
    c.requires.some c.read-steps.ensures.reader c.read-steps.ensures.items c.read-steps.ensures.steps

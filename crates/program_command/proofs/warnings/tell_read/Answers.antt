use Rattle.program_options.specs.Job.{asked_of}
use Rattle.program_command.proofs.Warning.{TellsEach-one, TellsRead-cut, TellsRead-whole}
use Rattle.program_command.proofs.warnings.tell_read.Goals as goal

pub returns-then-read : goal.returns-then-read
returns-then-read g c =
    TellsRead-whole c.tell_bytes.result (asked_of c.args.job.now) c.args.looks.coding c.args.name.now c.args.read.now.whole c.args.read.now.bytes.items _ _ _ c.if-read.true
    c.deref.ensures.value c.tell_bytes.ensures

pub returns : goal.returns
returns g c =
    TellsRead-cut (asked_of c.args.job.now) c.args.looks.coding c.args.name.now c.args.read.now.whole c.args.read.now.bytes.items _ _ c.if-read.false
    (TellsEach-one _ _ _ _ _ c.tell_unlooked.ensures)

use Rattle.fast_input.proofs.MacroLines.{put_reads, put_left, end_reads}
use Rattle.fast_input.proofs.macro_lines.do_argument.Goals as goal

pub returns-in-Ok-clause-reads : goal.returns-in-Ok-clause-reads
returns-in-Ok-clause-reads g c = λ bs. put_reads bs c.args.store.now c.put.new.store c.args.reader.now c.put.new.self c.in-Put.byte c.in-Put.is c.in-Ok.field-0 c.in-Ok.ensures

pub returns-in-Err-clause-reads : goal.returns-in-Err-clause-reads
returns-in-Err-clause-reads g c = λ bs. put_left bs c.args.store.now c.put.new.store c.args.reader.now c.put.new.self c.in-Put.byte c.in-Put.is c.in-Err.field-0 c.in-Err.ensures

pub returns-in-EndArgument-clause-reads : goal.returns-in-EndArgument-clause-reads
returns-in-EndArgument-clause-reads g c = λ bs. end_reads bs c.args.store.now c.end_argument.new.store c.args.reader.now c.end_argument.new.self c.in-EndArgument.is c.end_argument.ensures

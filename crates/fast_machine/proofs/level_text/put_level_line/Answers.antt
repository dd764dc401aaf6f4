use Rattle.std.proofs.Common.{◌≡◌, true, take, sym, subst}
use Rattle.fast_input.specs.Gathering.{IsGathered}
use Rattle.nr_input.specs.declared.reader.Reader.{Reader}
use Rattle.nr_formatter.specs.Many.Runs.{is_in_line}
use Rattle.nr_machine.specs.Holding.{Shape, shape}
use Rattle.fast_machine.specs.Running.{LongestOfLevels, MakesInPlace}
use Rattle.fast_machine.proofs.level_text.put_level_line.Goals as goal

pub put_gathered-requires-clause-line : goal.put_gathered-requires-clause-line
put_gathered-requires-clause-line c = subst (λ (x : Reader). is_in_line (record c.args.engine.now.formatter { reader = x }) ≡ true) (sym c.gather.ensures.left) c.requires.line

pub put_gathered-requires-clause-gathered : goal.put_gathered-requires-clause-gathered
put_gathered-requires-clause-gathered c =
    let bytes = take c.gather.new.gathered.count c.gather.new.chunk in
    subst (λ (x : Reader). IsGathered bytes c.args.engine.now.formatter.store x c.gather.new.gathered) (sym c.gather.ensures.left) c.gather.ensures.gathered

pub returns-clause-puts : goal.returns-clause-puts
returns-clause-puts c =
    let e : Shape = shape c.args.engine.now in
    let f = c.args.engine.now.formatter in
    let n = c.put_gathered.result in
    subst (λ (x : Reader). MakesInPlace n (record e { formatter = record f { reader = x } }) (record e { formatter = c.put_gathered.new.formatter })) c.gather.ensures.left (c.put_gathered.ensures.puts e)

pub returns-clause-longest : goal.returns-clause-longest
returns-clause-longest c =
    let f = c.args.engine.now.formatter in
    subst (λ (x : Reader). LongestOfLevels f.store x c.put_gathered.new.formatter) c.gather.ensures.left c.put_gathered.ensures.longest

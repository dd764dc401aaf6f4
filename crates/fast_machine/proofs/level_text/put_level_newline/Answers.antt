use Rattle.std.proofs.Common.{refl, sym, subst}
use Rattle.nr_formatter.specs.declared.formatter.Formatter.{Formatter}
use Rattle.fast_machine.specs.Running.{MakesInText}
use Rattle.fast_machine.proofs.Flows.{text_none}
use Rattle.fast_machine.proofs.LevelLines.{ended_flows, ended_line, ended_not, text_ended, text_line}
use Rattle.fast_machine.proofs.level_text.put_level_newline.Goals as goal

pub returns-in-Left-clause-puts : goal.returns-in-Left-clause-puts
returns-in-Left-clause-puts c =
    let f = c.args.formatter.now in
    subst (λ (x : Formatter). MakesInText 0 f x) (sym c.in-Left.ensures.is) (text_none f)

pub returns-in-Left-clause-ends : goal.returns-in-Left-clause-ends
returns-in-Left-clause-ends c = ended_not c.args.formatter.now c.put_newline.new.self c.in-Left.ensures.is (c.in-Left.ensures.left refl)

pub returns-in-Flows-clause-puts : goal.returns-in-Flows-clause-puts
returns-in-Flows-clause-puts c =
    let is = c.in-Flows.ensures.is in
    text_ended c.args.formatter.now c.put_newline.new.self c.skip.new.self is.0 c.requires.next c.skip.ensures is.1

pub returns-in-Flows-clause-ends : goal.returns-in-Flows-clause-ends
returns-in-Flows-clause-ends c =
    let is = c.in-Flows.ensures.is in
    ended_flows c.args.formatter.now c.put_newline.new.self c.skip.new.self is.0 c.requires.next c.skip.ensures is.1

pub returns-in-Reads-clause-puts : goal.returns-in-Reads-clause-puts
returns-in-Reads-clause-puts c =
    let is = c.in-Reads.ensures.is in
    text_line c.args.formatter.now c.put_newline.new.self c.skip-in-Reads.new.self is.0 c.requires.next c.skip-in-Reads.ensures is.2 is.1

pub returns-in-Reads-clause-ends : goal.returns-in-Reads-clause-ends
returns-in-Reads-clause-ends c =
    let is = c.in-Reads.ensures.is in
    ended_line c.args.formatter.now c.put_newline.new.self c.skip-in-Reads.new.self is.0 c.requires.next c.skip-in-Reads.ensures is.2

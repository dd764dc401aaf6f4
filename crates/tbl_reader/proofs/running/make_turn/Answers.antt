use Rattle.std.proofs.Common.{arith}
use Rattle.tbl_reader.specs.Running.{Ended}
use Rattle.tbl_reader.proofs.Turning.{Took-byte, Took-after, Took-fault, Ended-after, Came-end}
use Rattle.tbl_reader.proofs.running.make_turn.Goals as goal

pub returns-in-Ok-Some-clause-turns : goal.returns-in-Ok-Some-clause-turns
returns-in-Ok-Some-clause-turns g c =
    let b = g.R.Source.supply c.take_at_hand-count.new.input in
    let d = g.R.Source.supply c.next.new.self in
    let q = c.take_at_hand-count.new.reader in
    let now = c.take_at_hand-count.new.setter in
    let n = c.take_at_hand-count.result in
    let gives = rw c.in-Ok-Some.field-0-is at c.in-Ok-Some.ensures.gives in
    let byte = Took-byte g.S.Setter.shows g.S.Setter.hears b d c.in-Ok-Some.byte c.read.result q c.read.new.self now c.read.new.setter gives c.read.ensures in
    Took-after g.S.Setter.shows g.S.Setter.hears (g.R.Source.supply c.args.input.now) b d c.args.reader.now q c.read.new.self c.args.setter.now now c.read.new.setter n 1
    (omega arith) c.take_at_hand-count.ensures.took byte

pub returns-in-Ok-None-clause-turns : goal.returns-in-Ok-None-clause-turns
returns-in-Ok-None-clause-turns g c =
    let b = g.R.Source.supply c.take_at_hand-count.new.input in
    let d = g.R.Source.supply c.next.new.self in
    let q = c.take_at_hand-count.new.reader in
    let now = c.take_at_hand-count.new.setter in
    let n = c.take_at_hand-count.result in
    let gives = rw c.in-Ok-None.field-0-is at c.in-Ok-None.ensures.gives in
    let end = Came-end b d gives in
    let ended : Ended g.S.Setter.shows g.S.Setter.hears b d q c.finish.new.self now c.finish.new.setter =
    record { came = end.0; ends = end.1; page = c.finish.ensures.page; emitted = c.finish.ensures.emitted } in
    Ended-after g.S.Setter.shows g.S.Setter.hears (g.R.Source.supply c.args.input.now) b d c.args.reader.now q c.finish.new.self c.args.setter.now now c.finish.new.setter n
    (omega arith) c.take_at_hand-count.ensures.took ended

pub returns-in-Err-clause-turns : goal.returns-in-Err-clause-turns
returns-in-Err-clause-turns g c =
    Took-fault g.S.Setter.shows g.S.Setter.hears (g.R.Source.supply c.args.input.now) (g.R.Source.supply c.take_at_hand-count.new.input) (g.R.Source.supply c.next.new.self)
    c.args.reader.now c.take_at_hand-count.new.reader c.args.setter.now c.take_at_hand-count.new.setter c.take_at_hand-count.result _
    (omega arith) c.take_at_hand-count.ensures.took c.in-Err.ensures.gives

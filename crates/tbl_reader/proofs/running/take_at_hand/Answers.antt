use Rattle.std.proofs.Common.{arith}
use Rattle.std.proofs.lemmas.List.{length-take}
use Rattle.tbl_reader.proofs.Turning.{Took-window}
use Rattle.tbl_reader.proofs.running.take_at_hand.Goals as goal

pub returns-clause-took : goal.returns-clause-took
returns-clause-took g c =
    let cut = length-take c.min-len.result c.window-window.result.now in
    Took-window g.S.Setter.shows g.S.Setter.hears (g.R.Source.supply c.args.input.now) (g.R.Source.supply c.skip.new.self) c.window-window.result.now
    c.min-len.result c.read-count.result c.args.reader.now c.read-count.new.self c.args.setter.now c.read-count.new.setter
    (omega (arith, cut)) c.window-window.ensures.offers c.skip.ensures.skips c.read-count.ensures

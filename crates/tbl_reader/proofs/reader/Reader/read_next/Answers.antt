use Rattle.tbl_reader.proofs.Keeping.{end_stays}
use Rattle.tbl_reader.proofs.Passed.{one_read}
use Rattle.tbl_reader.proofs.reader.Reader.read_next.Goals as goal

pub returns-in-Some-clause-goes_on : goal.returns-in-Some-clause-goes_on
returns-in-Some-clause-goes_on g c =
    let all = one_read g.S.Setter.shows g.S.Setter.hears c.in-Some.byte c.read.result c.args.self.now c.read.new.self c.args.setter.now c.read.new.setter c.requires.fits c.read.ensures in
    rw c.in-Some.is all.goes_on

pub returns-in-None-clause-goes_on : goal.returns-in-None-clause-goes_on
returns-in-None-clause-goes_on g c = rw c.in-None.is (end_stays c.args.self.now c.finish.new.self c.requires.fits c.finish.ensures.page)

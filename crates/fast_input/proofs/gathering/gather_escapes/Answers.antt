use Rattle.fast_input.proofs.gathering.gather_escapes.Goals as goal
use Rattle.std.proofs.Common.{length}
use Rattle.fast_input.specs.Gathering.{last_asked}
use Rattle.fast_input.proofs.TextGathered.{put_back}

pub returns-clause-left : goal.returns-clause-left
returns-clause-left g c =
    let r = c.args.reader.now in
    let splices = c.gather_more-rest.new.gathered.splices in
    put_back (length splices) (last_asked splices r.half.notes.asked) r c.gather_more-rest.new.reader c.gather_more-rest.ensures.gathered.reader

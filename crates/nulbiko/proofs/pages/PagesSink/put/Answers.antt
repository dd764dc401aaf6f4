use Rattle.std.proofs.Common.{◌-◌, take, drop, sym}
use Rattle.std.proofs.lemmas.List.{take-append-drop}
use Rattle.nulbiko.proofs.pages.PagesSink.put.Goals as goal

-- the prefix is what fits
pub returns-clause-err : goal.returns-clause-err
returns-clause-err c =
    let room = c.capacity.result - c.len.result in
    (take room c.args.bytes.now, drop room c.args.bytes.now, sym (take-append-drop room c.args.bytes.now), c.extend-2.ensures.items)

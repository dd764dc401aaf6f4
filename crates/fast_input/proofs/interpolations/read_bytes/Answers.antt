use Rattle.fast_input.proofs.Interpolated.{added_read, added_pays, added_room}
use Rattle.fast_input.proofs.interpolations.read_bytes.Goals as goal

pub returns-clause-read : goal.returns-clause-read
returns-clause-read g c =
    added_read c.in-Some.target c.add_prefix-taken.result c.args.bytes.now c.args.store.now c.add_prefix-taken.new.store c.args.reader.now c.add_prefix-taken.ensures.added c.add_prefix-taken.ensures.prefix
    c.in-Some.ensures.reads c.add_prefix-taken.ensures.plain c.requires.room

pub returns-clause-pays : goal.returns-clause-pays
returns-clause-pays g c =
    added_pays c.in-Some.target c.add_prefix-taken.result c.args.bytes.now c.args.store.now c.add_prefix-taken.new.store c.args.reader.now c.add_prefix-taken.ensures.added c.add_prefix-taken.ensures.prefix

pub returns-clause-room : goal.returns-clause-room
returns-clause-room g c =
    added_room c.in-Some.target c.add_prefix-taken.result c.args.bytes.now c.args.store.now c.add_prefix-taken.new.store c.args.reader.now c.add_prefix-taken.ensures.added c.add_prefix-taken.ensures.prefix c.requires.room

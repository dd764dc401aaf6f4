use Rattle.nr_store.proofs.Beginning.{put_few, one_request}
use Rattle.nr_store.proofs.store.beginning.name_requests.Goals as goal

pub loop-entry-preserved : goal.loop-entry-preserved
loop-entry-preserved c =
    let test = c.loop-entry-test.true in
    let few = c.loop-entry.invariant.few in
    rw (c.put.ensures.is, c.of.ensures) record {
      so_far = one_request c.args.requests.now c.loop-entry.entry-index _ c.loop-entry.names.entries _ test c.loop-entry.invariant.so_far;
      room = c.loop-entry.invariant.room;
      few = put_few _ _ c.loop-entry.names.entries _ _ few;
    }

use Rattle.std.proofs.Common.{◌+◌, take, sym, length-take-le, arith, rules}
use Rattle.nr_units.proofs.Prefixes.{prefix_grows, prefix_stays, passed_on_with-some}
use Rattle.nr_units.proofs.over_std.ToWriterSink.put.Goals as goal

pub loop-done-preserved : goal.loop-done-preserved
loop-done-preserved g c =
    let before = c.loop-done.invariant in
    let some = c.in-Ok.ensures.some in
    let more = prefix_grows _ _ _ _ c.loop-done.done c.in-Ok.count before.within c.in-Ok.ensures.bound before.appends c.in-Ok.ensures.bytes in
    let long = length-take-le (c.loop-done.done + c.in-Ok.count) c.args.bytes.now more.0 in
    record {
      within = more.0;
      appends = more.1;
      passed_on = sym (passed_on_with-some _ (take (c.loop-done.done + c.in-Ok.count) c.args.bytes.now) (omega arith));
      puts = before.puts;
      flushes = before.flushes;
    }

pub returns-in-Err-clause-err : goal.returns-in-Err-clause-err
returns-in-Err-clause-err g c = prefix_stays _ _ _ _ c.loop-done.done c.loop-done.invariant.appends c.in-Err.ensures.bytes

pub returns-in-Err-clause-failures : goal.returns-in-Err-clause-failures
returns-in-Err-clause-failures g c = search rules

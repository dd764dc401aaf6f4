-- Where a put failed nothing more goes out; else what waits and the end do.
use Rattle.std.proofs.Common.{sym, ◌∙◌, ap}
use Rattle.utf8_own_sink.proofs.Finishing.{ends, ends-broken, ends-short}
use Rattle.utf8_converter.specs.Showing.{ShownSoFar}
use Rattle.utf8_own_sink.specs.Showing.{Making}
use Rattle.utf8_own_sink.proofs.showing.Shown.finish.Goals as goal

pub returns-then-broken-clause-shown : goal.returns-then-broken-clause-shown
returns-then-broken-clause-shown g c m came is =
    let s = c.self.inside in
    let held = g.W.Sink.held in
    let failed = g.W.Sink.failures in
    let own : Making = record { table = s.table.now; escapes = s.escapes; begun = held s.begun.value; failed = (failed s.begun.value).puts } in
    ends-broken s.broken own m s.came.bytes came c.args.self.bytes (held s.output) (failed s.output).puts s.pending.reader s.pending.out.items
    c.if-broken.true s.stands (ap (λ (t : ShownSoFar). t.bytes) c.self.view_is) is

pub returns-then-broken-clause-broke : goal.returns-then-broken-clause-broke
returns-then-broken-clause-broke g c m came more is some =
    let s = c.self.inside in
    let held = g.W.Sink.held in
    let failed = g.W.Sink.failures in
    let own : Making = record { table = s.table.now; escapes = s.escapes; begun = held s.begun.value; failed = (failed s.begun.value).puts } in
    ends-short s.broken own m s.came.bytes came more c.args.self.bytes (held s.output) (failed s.output).puts s.pending.reader s.pending.out.items
    c.if-broken.true s.stands (ap (λ (t : ShownSoFar). t.bytes) c.self.view_is) is

pub returns-clause-shown : goal.returns-clause-shown
returns-clause-shown g c m came is =
    let s = c.self.inside in
    let held = g.W.Sink.held in
    let failed = g.W.Sink.failures in
    let own : Making = record { table = s.table.now; escapes = s.escapes; begun = held s.begun.value; failed = (failed s.begun.value).puts } in
    let e = c.close-ended.ensures in
    ends s.broken own m s.came.bytes came c.args.self.bytes (held s.output) (held c.close-ended.new.output) (failed s.output) (failed c.close-ended.new.output)
    s.pending.reader s.pending.out.items c.close-ended.result c.if-broken.false s.stands (ap (λ (t : ShownSoFar). t.bytes) c.self.view_is) is e.ok e.err e.failures

pub returns-clause-broke : goal.returns-clause-broke
returns-clause-broke g c m came more is some =
    absurd (some (sym (ap (λ (t : ShownSoFar). t.failures.puts) c.self.view_is) ∙ c.self.inside.counts c.if-broken.false))

pub returns-clause-fails : goal.returns-clause-fails
returns-clause-fails g c ok = sym (ap (λ (t : ShownSoFar). t.failures.puts) c.self.view_is) ∙ c.self.inside.counts c.if-broken.false

use Rattle.std.proofs.Common.{◌≡◌, [], true, false, refl, sym, ◌∙◌, ap, subst, append-nil}
use Rattle.nr_units.specs.Failures.{SinkFailures}
use Rattle.utf8_own_sink.proofs.Passing.{broken-more, call-breaks, call-flushed}
use Rattle.utf8_own_sink.specs.Showing.{Broke, Making}
use Rattle.utf8_own_sink.proofs.showing.ShownSink.flush.Goals as goal
use Rattle.utf8_own_sink.proofs.showing.ShownSink.flush.Goals.{then-self-via-then-self, then-self-via-else-self+then-is_err}

pub invariant_of-self-inside : goal.invariant_of-self-inside
invariant_of-self-inside g c =
    let s = c.self.inside in
    let held = g.W.Sink.held in
    let failed = g.W.Sink.failures in
    let m : Making = record { table = s.table.now; escapes = s.escapes; begun = held s.begun.value; failed = (failed s.begun.value).puts } in
    let P = λ (t : g.row.W.Denot). ∥ Broke m s.came.bytes (held t) (failed t).puts ∥₁ in
    elim c.then-self.branch [
      | then-self-via-then-self w ↦ (
        subst P (sym (ap (λ t. t.1.0) w.self-inside-is)) (broken-more s.broken m s.came.bytes s.came.bytes [] (held s.output) (held s.output) (failed s.output).puts (failed s.output).puts
            s.pending.reader s.pending.out.items w.if-self.true s.stands (sym (append-nil s.came.bytes)) refl refl),
        (λ e. absurd (let never : true ≡ false = e in cc), tt),
      )
      | then-self-via-else-self+then-is_err w ↦ (
        subst P (sym (ap (λ t. t.1.0) w.self-inside-is)) (call-breaks s.broken m s.came.bytes s.came.bytes [] (held s.output) (held w.pass_on.new.output) (failed s.output)
            (failed w.pass_on.new.output) s.pending.reader w.pass_on.new.self.reader s.pending.out.items w.pass_on.new.self.out.items w.pass_on.result
            w.if-self.false s.stands (sym (append-nil s.came.bytes)) (sym w.is_err.ensures.value ∙ w.if-is_err.true) (w.pass_on.ensures.takes s.table.now) w.pass_on.ensures.failures),
        (λ e. absurd (let never : true ≡ false = e in cc), tt),
      )
    ]

pub invariant_of-self-inside-then-is_err-2 : goal.invariant_of-self-inside-then-is_err-2
invariant_of-self-inside-then-is_err-2 g c =
    let s = c.self.inside in
    let held = g.W.Sink.held in
    let failed = g.W.Sink.failures in
    let m : Making = record { table = s.table.now; escapes = s.escapes; begun = held s.begun.value; failed = (failed s.begun.value).puts } in (
      call-flushed s.broken m s.came.bytes (held s.output) (held c.pass_on.new.output) (held c.flush.new.self) (failed s.output) (failed c.pass_on.new.output) (failed c.flush.new.self)
          s.pending.reader c.pass_on.new.self.reader s.pending.out.items c.pass_on.new.self.out.items c.pass_on.result
          c.if-self.false s.stands (sym c.is_err.ensures.value ∙ c.if-is_err.false) (c.pass_on.ensures.takes s.table.now) c.pass_on.ensures.failures c.flush.ensures.held (ap (λ (f : SinkFailures). f.puts) c.flush.ensures.failures),
      (s.counts, tt),
    )

pub invariant_of-self-inside-2 : goal.invariant_of-self-inside-2
invariant_of-self-inside-2 g c =
    let s = c.self.inside in
    let held = g.W.Sink.held in
    let failed = g.W.Sink.failures in
    let m : Making = record { table = s.table.now; escapes = s.escapes; begun = held s.begun.value; failed = (failed s.begun.value).puts } in (
      call-flushed s.broken m s.came.bytes (held s.output) (held c.pass_on.new.output) (held c.flush.new.self) (failed s.output) (failed c.pass_on.new.output) (failed c.flush.new.self)
          s.pending.reader c.pass_on.new.self.reader s.pending.out.items c.pass_on.new.self.out.items c.pass_on.result
          c.if-self.false s.stands (sym c.is_err.ensures.value ∙ c.if-is_err.false) (c.pass_on.ensures.takes s.table.now) c.pass_on.ensures.failures c.flush.ensures.held (ap (λ (f : SinkFailures). f.puts) c.flush.ensures.failures),
      (s.counts, tt),
    )

use Rattle.std.proofs.Common.{ℕ, List, [], Bool, true, false, ◌≡◌, ◌++◌, refl, sym, ◌∙◌, ap, subst, append-nil}
use Rattle.utf8_own_sink.proofs.Passing.{broken-more, call-breaks, call-on}
use Rattle.utf8_converter.specs.Showing.{ShownSoFar}
use Rattle.utf8_own_sink.specs.Showing.{Broke, Making, emitted}
use Rattle.utf8_own_sink.proofs.Finishing.{emitted-append}
use Rattle.utf8_own_sink.proofs.showing.ShownSink.put.Goals as goal
use Rattle.utf8_own_sink.proofs.showing.ShownSink.put.Goals.{then-self-via-then-self, then-self-via-else-self+then-is_err}

pub invariant_of-self-inside : goal.invariant_of-self-inside
invariant_of-self-inside g c =
    let s = c.self.inside in
    let held = g.W.Sink.held in
    let failed = g.W.Sink.failures in
    let m : Making = record { table = s.table.now; escapes = s.escapes; begun = held s.begun.value; failed = (failed s.begun.value).puts } in
    let P = λ (t : g.row.W.Denot). ∥ Broke m c.note.new.self.bytes (held t) (failed t).puts ∥₁ in
    elim c.then-self.branch [
      | then-self-via-then-self w ↦ (
        subst P (sym (ap (λ t. t.1.0) w.self-inside-is)) (broken-more s.broken m s.came.bytes c.note.new.self.bytes c.args.bytes.now (held s.output) (held s.output) (failed s.output).puts
            (failed s.output).puts s.pending.reader s.pending.out.items w.if-self.true s.stands c.note.ensures refl refl),
        (λ e. absurd (let never : true ≡ false = e in cc), tt),
      )
      | then-self-via-else-self+then-is_err w ↦ (
        subst P (sym (ap (λ t. t.1.0) w.self-inside-is)) (call-breaks s.broken m s.came.bytes c.note.new.self.bytes c.args.bytes.now (held s.output) (held w.take_all.new.output) (failed s.output)
            (failed w.take_all.new.output) s.pending.reader w.take_all.new.self.reader s.pending.out.items w.take_all.new.self.out.items w.take_all.result
            w.if-self.false s.stands c.note.ensures (sym w.is_err.ensures.value ∙ w.if-is_err.true) w.take_all.ensures.takes w.take_all.ensures.failures),
        (λ e. absurd (let never : true ≡ false = e in cc), tt),
      )
    ]

pub returns-then-self-clause-err : goal.returns-then-self-clause-err
returns-then-self-clause-err g c =
    let s = c.self.inside in
    let m : Making = record { table = s.table.now; escapes = s.escapes; begun = g.W.Sink.held s.begun.value; failed = (g.W.Sink.failures s.begun.value).puts } in (
      c.args.bytes.now,
      [],
      sym (append-nil c.args.bytes.now),
      ap (λ (xs : List ℕ). emitted m xs) c.note.ensures ∙ emitted-append m s.came.bytes c.args.bytes.now ∙ ap (λ (xs : List ℕ). xs ++ c.args.bytes.now) (ap (λ (t : ShownSoFar). t.bytes) c.self.view_is),
    )

pub invariant_of-self-inside-then-not-is_empty : goal.invariant_of-self-inside-then-not-is_empty
invariant_of-self-inside-then-not-is_empty g c =
    let s = c.self.inside in
    let held = g.W.Sink.held in
    let failed = g.W.Sink.failures in
    let m : Making = record { table = s.table.now; escapes = s.escapes; begun = held s.begun.value; failed = (failed s.begun.value).puts } in (
      call-on s.broken m s.came.bytes c.note.new.self.bytes c.args.bytes.now (held s.output) (held c.take_all.new.output) (failed s.output) (failed c.take_all.new.output)
          s.pending.reader c.take_all.new.self.reader s.pending.out.items c.take_all.new.self.out.items c.take_all.result
          c.if-self.false s.stands c.note.ensures (sym c.is_err.ensures.value ∙ c.if-is_err.false) c.take_all.ensures.takes c.take_all.ensures.failures,
      (s.counts, tt),
    )

pub invariant_of-self-inside-else-not-is_empty : goal.invariant_of-self-inside-else-not-is_empty
invariant_of-self-inside-else-not-is_empty g c =
    let s = c.self.inside in
    let held = g.W.Sink.held in
    let failed = g.W.Sink.failures in
    let m : Making = record { table = s.table.now; escapes = s.escapes; begun = held s.begun.value; failed = (failed s.begun.value).puts } in (
      call-on s.broken m s.came.bytes c.note.new.self.bytes c.args.bytes.now (held s.output) (held c.take_all.new.output) (failed s.output) (failed c.take_all.new.output)
          s.pending.reader c.take_all.new.self.reader s.pending.out.items c.take_all.new.self.out.items c.take_all.result
          c.if-self.false s.stands c.note.ensures (sym c.is_err.ensures.value ∙ c.if-is_err.false) c.take_all.ensures.takes c.take_all.ensures.failures,
      (s.counts, tt),
    )

pub returns-then-not-is_empty-clause-ok : goal.returns-then-not-is_empty-clause-ok
returns-then-not-is_empty-clause-ok g c =
    let s = c.self.inside in
    let m : Making = record { table = s.table.now; escapes = s.escapes; begun = g.W.Sink.held s.begun.value; failed = (g.W.Sink.failures s.begun.value).puts } in
    ap (λ (xs : List ℕ). emitted m xs) c.note.ensures ∙ emitted-append m s.came.bytes c.args.bytes.now ∙ ap (λ (xs : List ℕ). xs ++ c.args.bytes.now) (ap (λ (t : ShownSoFar). t.bytes) c.self.view_is)

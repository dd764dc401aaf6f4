use Rattle.std.proofs.Common.{◌≡◌, ℕ, List, [], Bool, true, false, Option, Result, refl, sym, ◌∙◌, ap, subst, append-nil}
use Rattle.std.specs.Io.KnownBytes.{Keeps}
use Rattle.std.specs.Result.{is_err}
use Rattle.nr_units.specs.Failures.{SinkFailures, put_counted}
use Rattle.nr_units.specs.declared.source.Fault.{Fault}
use Rattle.utf8_converter.proofs.Passing.{broken-more, call-breaks, call-on, kept-on}
use Rattle.utf8_converter.specs.Showing.{Broke, Making, StandsOr, TakesAll}
use Rattle.utf8_converter.specs.declared.reader.Reader.{Reader}
use Rattle.utf8_converter.proofs.showing.ShownSink.flush.Goals as goal
use Rattle.utf8_converter.proofs.showing.ShownSink.flush.Goals.{then-self-via-then-self, then-self-via-else-self+then-is_err}

-- a call that went, and then a flush
call_flushed : (z : Bool) (m : Making) (came : List ℕ) (a b c : Option (List ℕ)) (f g h : SinkFailures) (r s : Reader) (p left : List ℕ) (i j : ℕ) (x : Result (Unit {0}) Fault) → z ≡ false
    → ∥ StandsOr z m came a f.puts r p i ∥₁ → is_err x ≡ false → TakesAll a b r s p left i j [] x → g ≡ put_counted f x → Keeps b c → h.puts ≡ g.puts → ∥ StandsOr z m came c h.puts s left j ∥₁
call_flushed z m came a b c f g h r s p left i j x e st went takes failed kept same =
    kept-on z m came b c g.puts h.puts s left j e (call-on z m came came [] a b f g r s p left i j x e st (sym (append-nil came)) went takes failed) kept same

pub invariant_of-self-inside : goal.invariant_of-self-inside
invariant_of-self-inside g c =
    let s = c.self.inside in
    let held = g.W.Sink.held in
    let failed = g.W.Sink.failures in
    let m : Making = record { table = s.table; escapes = s.escapes; begun = held s.begun.value; failed = (failed s.begun.value).puts } in
    let P = λ (t : g.row.W.Denot). ∥ Broke m s.came.bytes (held t) (failed t).puts ∥₁ in
    elim c.then-self.branch [
      | then-self-via-then-self w ↦ (
        subst P (sym (ap (λ t. t.1.0) w.self-inside-is)) (broken-more s.broken m s.came.bytes s.came.bytes [] (held s.output) (held s.output) (failed s.output).puts (failed s.output).puts
            s.waiting.turner.reader s.waiting.out.items s.waiting.turner.strays w.if-self.true s.stands (sym (append-nil s.came.bytes)) refl refl),
        (λ e. absurd (let never : true ≡ false = e in cc), tt),
      )
      | then-self-via-else-self+then-is_err w ↦ (
        subst P (sym (ap (λ t. t.1.0) w.self-inside-is)) (call-breaks s.broken m s.came.bytes s.came.bytes [] (held s.output) (held w.pass_on.new.output) (failed s.output)
            (failed w.pass_on.new.output) s.waiting.turner.reader w.pass_on.new.self.turner.reader s.waiting.out.items w.pass_on.new.self.out.items s.waiting.turner.strays w.pass_on.new.self.turner.strays w.pass_on.result
            w.if-self.false s.stands (sym (append-nil s.came.bytes)) (sym w.is_err.ensures.value ∙ w.if-is_err.true) w.pass_on.ensures.takes w.pass_on.ensures.failures),
        (λ e. absurd (let never : true ≡ false = e in cc), tt),
      )
    ]

pub invariant_of-self-inside-then-is_err-2 : goal.invariant_of-self-inside-then-is_err-2
invariant_of-self-inside-then-is_err-2 g c =
    let s = c.self.inside in
    let held = g.W.Sink.held in
    let failed = g.W.Sink.failures in
    let m : Making = record { table = s.table; escapes = s.escapes; begun = held s.begun.value; failed = (failed s.begun.value).puts } in (
      call_flushed s.broken m s.came.bytes (held s.output) (held c.pass_on.new.output) (held c.flush.new.self) (failed s.output) (failed c.pass_on.new.output) (failed c.flush.new.self)
          s.waiting.turner.reader c.pass_on.new.self.turner.reader s.waiting.out.items c.pass_on.new.self.out.items s.waiting.turner.strays c.pass_on.new.self.turner.strays c.pass_on.result
          c.if-self.false s.stands (sym c.is_err.ensures.value ∙ c.if-is_err.false) c.pass_on.ensures.takes c.pass_on.ensures.failures c.flush.ensures.held (ap (λ (f : SinkFailures). f.puts) c.flush.ensures.failures),
      (s.counts, tt),
    )

pub invariant_of-self-inside-2 : goal.invariant_of-self-inside-2
invariant_of-self-inside-2 g c =
    let s = c.self.inside in
    let held = g.W.Sink.held in
    let failed = g.W.Sink.failures in
    let m : Making = record { table = s.table; escapes = s.escapes; begun = held s.begun.value; failed = (failed s.begun.value).puts } in (
      call_flushed s.broken m s.came.bytes (held s.output) (held c.pass_on.new.output) (held c.flush.new.self) (failed s.output) (failed c.pass_on.new.output) (failed c.flush.new.self)
          s.waiting.turner.reader c.pass_on.new.self.turner.reader s.waiting.out.items c.pass_on.new.self.out.items s.waiting.turner.strays c.pass_on.new.self.turner.strays c.pass_on.result
          c.if-self.false s.stands (sym c.is_err.ensures.value ∙ c.if-is_err.false) c.pass_on.ensures.takes c.pass_on.ensures.failures c.flush.ensures.held (ap (λ (f : SinkFailures). f.puts) c.flush.ensures.failures),
      (s.counts, tt),
    )

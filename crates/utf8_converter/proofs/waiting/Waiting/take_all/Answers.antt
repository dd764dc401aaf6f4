use Rattle.std.proofs.Common.{◌≡◌, ℕ, List, ◌++◌, ◌-◌, ◌≤◌, ap, drop, length, length-drop, refl, subst, sym, take, ◌∙◌, arith}
use Rattle.std.proofs.lemmas.List.{take-append-drop, take_all}
use Rattle.std.proofs.Math.Seq.{take-add}
use Rattle.nr_units.specs.Sink.{AppendsPrefix}
use Rattle.utf8_converter.specs.Reading.{fed}
use Rattle.utf8_converter.specs.Showing.{Reads}
use Rattle.utf8_converter.proofs.Goes.{rest-of}
use Rattle.utf8_converter.proofs.Passing.{All-err, Prefix-then, Reads-none, Reads-then, counted-err}
use Rattle.utf8_converter.proofs.waiting.Waiting.take_all.Goals as goal

pub loop-at-init : goal.loop-at-init
loop-at-init g c = record {
  takes = Reads-none (g.W.Sink.held c.args.output.now) c.args.self.now.turner.reader c.args.self.now.turner.reader c.args.self.now.out.items c.args.self.now.out.items c.args.self.now.turner.strays c.args.self.now.turner.strays
      c.args.self.now.turner.counts refl refl refl;
  within = omega arith;
  failures = refl;
}

pub returns-in_err-at-clause-takes : goal.returns-in_err-at-clause-takes
returns-in_err-at-clause-takes g c =
    let bytes = c.args.bytes.now in
    let at = c.loop-at.at in
    let held = g.W.Sink.held c.args.output.now in
    let new = g.W.Sink.held c.take_some.new.output in
    let waits = c.args.self.now.out.items in
    let P : List ℕ → Type 0 = λ xs. AppendsPrefix (g.W.Sink.held c.loop-at.output) new (c.loop-at.self.out.items ++ (fed c.loop-at.self.turner.reader xs).bytes) in
    let Q : List ℕ → Type 0 = λ xs. AppendsPrefix held new (waits ++ (fed c.args.self.now.turner.reader xs).bytes) in
    let prefix = subst P (rest-of bytes at) c.in_err-at.ensures.takes in
    All-err c.from_residual.result held new c.args.self.now.turner.reader c.take_some.new.self.turner.reader waits c.take_some.new.self.out.items c.args.self.now.turner.strays c.take_some.new.self.turner.strays bytes c.from_residual.ensures.0
    (subst Q (take-append-drop at bytes)
    (Prefix-then held (g.W.Sink.held c.loop-at.output) new c.args.self.now.turner.reader c.loop-at.self.turner.reader waits c.loop-at.self.out.items c.args.self.now.turner.strays c.loop-at.self.turner.strays (take at bytes) (drop at bytes)
    c.loop-at.invariant.takes prefix))

pub returns-in_err-at-clause-failures : goal.returns-in_err-at-clause-failures
returns-in_err-at-clause-failures g c =
    counted-err c.from_residual.result (g.W.Sink.failures c.args.output.now) (g.W.Sink.failures c.loop-at.output) (g.W.Sink.failures c.take_some.new.output) c.from_residual.ensures.0
    c.loop-at.invariant.failures c.in_err-at.ensures.failures

pub returns-clause-takes : goal.returns-clause-takes
returns-clause-takes g c =
    let bytes = c.args.bytes.now in
    let P : List ℕ → Type 0 = λ xs. Reads (g.W.Sink.held c.args.output.now) (g.W.Sink.held c.loop-at.output) c.args.self.now.turner.reader c.loop-at.self.turner.reader c.args.self.now.out.items c.loop-at.self.out.items
    c.args.self.now.turner.strays c.loop-at.self.turner.strays xs in
    subst P (take_all c.loop-at.at bytes c.loop-at-test.false) c.loop-at.invariant.takes

pub loop-at-preserved : goal.loop-at-preserved
loop-at-preserved g c =
    let bytes = c.args.bytes.now in
    let at = c.loop-at.at in
    let n = c.in_ok-at.field-0 in
    let rest = rest-of bytes at in
    let left = length-drop at bytes in
    let few : n ≤ length (take (length bytes - at) (drop at bytes)) = c.in_ok-at.ensures.takes.1 in
    let same : length (take (length bytes - at) (drop at bytes)) ≡ length (drop at bytes) = ap length rest in
    let within = c.loop-at.invariant.within in
    let P : List ℕ → Type 0 = λ xs. Reads (g.W.Sink.held c.loop-at.output) (g.W.Sink.held c.take_some.new.output) c.loop-at.self.turner.reader c.take_some.new.self.turner.reader c.loop-at.self.out.items c.take_some.new.self.out.items
    c.loop-at.self.turner.strays c.take_some.new.self.turner.strays (take n xs) in
    let Q : List ℕ → Type 0 = λ xs. Reads (g.W.Sink.held c.args.output.now) (g.W.Sink.held c.take_some.new.output) c.args.self.now.turner.reader c.take_some.new.self.turner.reader c.args.self.now.out.items c.take_some.new.self.out.items
    c.args.self.now.turner.strays c.take_some.new.self.turner.strays xs in
    record {
      takes = subst Q (sym (take-add at n bytes))
          (Reads-then (g.W.Sink.held c.args.output.now) (g.W.Sink.held c.loop-at.output) (g.W.Sink.held c.take_some.new.output) c.args.self.now.turner.reader c.loop-at.self.turner.reader c.take_some.new.self.turner.reader
          c.args.self.now.out.items c.loop-at.self.out.items c.take_some.new.self.out.items c.args.self.now.turner.strays c.loop-at.self.turner.strays c.take_some.new.self.turner.strays (take at bytes) (take n (drop at bytes))
          c.loop-at.invariant.takes (subst P rest c.in_ok-at.ensures.takes.2));
      within = omega (arith, few, same, left, within);
      failures = c.in_ok-at.ensures.failures ∙ c.loop-at.invariant.failures;
    }

use Rattle.std.proofs.Common.{◌≡◌, ◌∷◌, [], ◌++◌, map, length, sym, ap, ◌∙◌, append_assoc, arith}
use Rattle.std.proofs.lemmas.List.{map-append}
use Rattle.std.specs.Vec.Iter.{into_iter_items}
use Rattle.nr_units.specs.Failures.{SinkFailures, put_counted_if}
use Rattle.filters.specs.Disk.{opened_of}
use Rattle.filters.specs.Turning.{is_write_fault}
use Rattle.filters.specs.declared.endings.Ending.{Ending}
use Rattle.filters.proofs.Runs.{next-complained, next-done, stops-at}
use Rattle.filters.proofs.turning.turn_each.Goals as goal

pub loop-text-preserved-in-Done : goal.loop-text-preserved-in-Done
loop-text-preserved-in-Done g c =
    let at = c.loop-text in
    let text = c.in-Some.text in
    let shown = opened_of g.F.Read.remaining g.I.Read.remaining in
    let steps : into_iter_items at.text-iterator ≡ text ∷ into_iter_items c.next.new.self = c.in-Some.ensures.steps.0 in
    record {
      parted = append_assoc at.yielded (text ∷ []) _ ∙ rw (← steps) at.invariant.parted;
      count =
          let was = at.invariant.count in
          let gone = c.in-Some.ensures.steps.1 in
          let short = ap length steps in
          omega arith;
      went_out = next-done _ _ (map shown at.yielded) _ (shown text) _ _ _ at.complained _ at.invariant.same (map-append shown at.yielded (text ∷ [])) c.in-Done.is at.invariant.went_out c.turn-back.ensures.turned;
      failures = c.turn-back.ensures.failures ∙ ap (λ (e : Ending). put_counted_if (is_write_fault e) (g.W.Sink.failures at.output)) c.in-Done.is ∙ at.invariant.failures;
      same = c.turn-back.ensures.same ∙ at.invariant.same;
    }

pub loop-text-preserved : goal.loop-text-preserved
loop-text-preserved g c =
    let at = c.loop-text in
    let text = c.in-Some.text in
    let shown = opened_of g.F.Read.remaining g.I.Read.remaining in
    let steps : into_iter_items at.text-iterator ≡ text ∷ into_iter_items c.next.new.self = c.in-Some.ensures.steps.0 in
    record {
      parted = append_assoc at.yielded (text ∷ []) _ ∙ rw (← steps) at.invariant.parted;
      count =
          let was = at.invariant.count in
          let gone = c.in-Some.ensures.steps.1 in
          let short = ap length steps in
          omega arith;
      went_out = next-complained _ _ (map shown at.yielded) _ (shown text) _ _ _ at.complained _ at.invariant.same (map-append shown at.yielded (text ∷ [])) c.in-Complained.is at.invariant.went_out c.turn-back.ensures.turned;
      failures = c.turn-back.ensures.failures ∙ ap (λ (e : Ending). put_counted_if (is_write_fault e) (g.W.Sink.failures at.output)) c.in-Complained.is ∙ at.invariant.failures;
      same = c.turn-back.ensures.same ∙ at.invariant.same;
    }

pub returns-in_default : goal.returns-in_default
returns-in_default g c =
    let at = c.loop-text in
    let text = c.in-Some.text in
    let shown = opened_of g.F.Read.remaining g.I.Read.remaining in
    let steps : into_iter_items at.text-iterator ≡ text ∷ into_iter_items c.next.new.self = c.in-Some.ensures.steps.0 in
    let gives = c.into_iter-text-iterator.ensures.into_iter_gives.0 in
    let all = ap (map shown) (sym gives ∙ sym at.invariant.parted ∙ ap (λ l. at.yielded ++ l) steps) ∙ map-append shown at.yielded (text ∷ into_iter_items c.next.new.self) in
    record {
      turned = stops-at _ _ (map shown at.yielded) _ (map shown (into_iter_items c.next.new.self)) (shown text) _ _ _ at.complained _ at.invariant.same all c.in_default.not-Done c.in_default.not-Complained at.invariant.went_out c.turn-back.ensures.turned;
      failures = c.turn-back.ensures.failures ∙ ap (λ (f : SinkFailures). put_counted_if (is_write_fault c.turn-back.result.0) f) at.invariant.failures;
    }

use Rattle.std.proofs.Common.{◌≡◌, ◌+◌, ◌<◌, ◌∙◌, get_or, length, sym, subst, ap, arith, add-one, None}
use Rattle.std.proofs.lemmas.Grind.{common_steps}
use Rattle.std.specs.Option.{option_and_then}
use Rattle.std.proofs.Math.Seq.{take-suc}
use Rattle.nr_units.specs.Expression.{IsAnswer}
use Rattle.nr_units.specs.Scan.{Scan, after_symbol, whole_value}
use Rattle.nr_units.specs.Scanner.{scan_of, noted}
use Rattle.nr_units.specs.declared.expression.Read.{Read}
use Rattle.nr_units.proofs.Reading.{Along, advances, stops, ends, too_deep}
use Rattle.nr_units.proofs.Longest.{Reads, computed_more, computed_stuck, answer_in_range, reads_first, stuck_read}
use Rattle.nr_units.proofs.longest_prefix.read_nested.Goals as goal

pub loop-at-init : goal.loop-at-init
loop-at-init c =
    let none : Read = record { value = None; used = 0 } in
    subst (λ s. Reads c.args.ctx.now c.args.text.now 0 s none) (sym c.new-scanner.ensures) (reads_first c.args.ctx.now c.args.text.now)

pub loop-at-preserved : goal.loop-at-preserved
loop-at-preserved c =
    let text = c.args.text.now in
    let i = c.loop-at.at in
    let t : Scan = scan_of c.step.new.self in
    let inside : i < length text = omega arith in
    let next = advances c.args.ctx.now text i (get_or text i 0) c.in-Some.symbol (scan_of c.loop-at.scanner) t c.loop-at.longest inside (take-suc text i 0 inside) (sym c.in-Some.ensures) c.loop-at.invariant.along c.in-Taken.ensures in
    let computed = computed_more c.args.ctx.now text i (scan_of c.loop-at.scanner) t c.loop-at.longest c.in-Some.symbol inside (sym c.in-Some.ensures) c.in-Taken.ensures c.loop-at.invariant.computed in
    let known : Reads c.args.ctx.now text (i + 1) t (noted (whole_value c.args.ctx.now (scan_of c.loop-at.scanner)) c.in-Some.symbol i c.loop-at.longest) = record {
      along = subst (λ n. Along c.args.ctx.now text n t (noted (whole_value c.args.ctx.now (scan_of c.loop-at.scanner)) c.in-Some.symbol i c.loop-at.longest)) (sym (add-one i)) next;
      computed = computed;
    } in
    subst (Reads c.args.ctx.now text (i + 1) t) (sym c.noted-longest.ensures) known

pub returns-in_default-clause-answer : goal.returns-in_default-clause-answer
returns-in_default-clause-answer c =
    let text = c.args.text.now in
    let i = c.loop-at.at in
    let s : Scan = scan_of c.loop-at.scanner in
    let inside : i < length text = omega arith in
    let step = ap (option_and_then (after_symbol c.args.ctx.now s)) (sym c.in_default.ensures) in
    subst (IsAnswer c.args.ctx.now text) (sym c.read.ensures)
    (stops c.args.ctx.now text i (get_or text i 0) s c.loop-at.longest (take-suc text i 0 inside) step c.loop-at.invariant.along)

pub returns-in_default-clause-range : goal.returns-in_default-clause-range
returns-in_default-clause-range c = answer_in_range c.args.ctx.now c.args.text.now c.read.result (returns-in_default-clause-answer c)

pub returns-in-Stuck-clause-answer : goal.returns-in-Stuck-clause-answer
returns-in-Stuck-clause-answer c =
    let text = c.args.text.now in
    let i = c.loop-at.at in
    let s : Scan = scan_of c.loop-at.scanner in
    let inside : i < length text = omega arith in
    let step = ap (option_and_then (after_symbol c.args.ctx.now s)) (sym c.in-Some.ensures) ∙ c.in-Stuck.ensures.0 in
    subst (IsAnswer c.args.ctx.now text) (sym (stuck_read c.args.ctx.now (scan_of c.loop-at.scanner) (scan_of c.step.new.self) c.in-Some.symbol c.loop-at.at c.loop-at.longest c.noted-longest.result c.read-in-Stuck.result c.read-in-Stuck.ensures c.in-Stuck.ensures.1 c.noted-longest.ensures))
    (stops c.args.ctx.now text i (get_or text i 0) s c.loop-at.longest (take-suc text i 0 inside) step c.loop-at.invariant.along)

pub returns-in-Stuck-clause-computed : goal.returns-in-Stuck-clause-computed
returns-in-Stuck-clause-computed c =
    let inside : c.loop-at.at < length c.args.text.now = omega arith in
    stuck_read c.args.ctx.now (scan_of c.loop-at.scanner) (scan_of c.step.new.self) c.in-Some.symbol c.loop-at.at c.loop-at.longest c.noted-longest.result c.read-in-Stuck.result c.read-in-Stuck.ensures c.in-Stuck.ensures.1 c.noted-longest.ensures
    ∙ sym (computed_stuck c.args.ctx.now c.args.text.now c.loop-at.at (scan_of c.loop-at.scanner) c.loop-at.longest c.in-Some.symbol inside (sym c.in-Some.ensures) c.in-Stuck.ensures.0 c.loop-at.invariant.computed)

pub returns-in-Stuck-clause-range : goal.returns-in-Stuck-clause-range
returns-in-Stuck-clause-range c = answer_in_range c.args.ctx.now c.args.text.now c.read-in-Stuck.result (returns-in-Stuck-clause-answer c)

pub returns-in-TooDeep-clause-answer : goal.returns-in-TooDeep-clause-answer
returns-in-TooDeep-clause-answer c =
    let text = c.args.text.now in
    let i = c.loop-at.at in
    let inside : i < length text = omega arith in
    too_deep c.args.ctx.now text i (get_or text i 0) c.in-Some.symbol (scan_of c.loop-at.scanner) (scan_of c.step.new.self) c.loop-at.longest (take-suc text i 0 inside) (sym c.in-Some.ensures) c.loop-at.invariant.along c.in-TooDeep.ensures

pub returns-clause-answer : goal.returns-clause-answer
returns-clause-answer c =
    let text = c.args.text.now in
    let s : Scan = scan_of c.loop-at.scanner in
    let here : c.loop-at.at ≡ length text = omega (arith, c.loop-at.invariant.along.within) in
    subst (IsAnswer c.args.ctx.now text) (sym c.read-2.ensures)
    (ends c.args.ctx.now text s c.loop-at.longest (subst (λ n. Along c.args.ctx.now text n s c.loop-at.longest) here c.loop-at.invariant.along))

pub returns-clause-range : goal.returns-clause-range
returns-clause-range c = answer_in_range c.args.ctx.now c.args.text.now c.read-2.result (returns-clause-answer c)

pub returns-in_default-clause-computed : goal.returns-in_default-clause-computed
returns-in_default-clause-computed c = grind (arith, common_steps)

pub returns-clause-computed : goal.returns-clause-computed
returns-clause-computed c = grind (arith, common_steps)

pub returns-in-TooDeep-clause-computed : goal.returns-in-TooDeep-clause-computed
returns-in-TooDeep-clause-computed c = grind (arith, common_steps)

pub returns-in-TooDeep-clause-range : goal.returns-in-TooDeep-clause-range
returns-in-TooDeep-clause-range c = tt

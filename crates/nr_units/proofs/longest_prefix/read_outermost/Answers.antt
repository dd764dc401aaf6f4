use Rattle.std.proofs.lemmas.Grind.{common_steps}
use Prim.Native.Char.{code}
use Rattle.std.proofs.Common.{◌≡◌, ◌+◌, ◌-◌, ◌<◌, ◌∙◌, [], get_or, length, sym, subst, ap, arith, add-one, None}
use Rattle.std.specs.Option.{option_and_then, option_map}
use Rattle.std.proofs.Math.Seq.{take-suc}
use Rattle.nr_units.specs.Expression.{IsAnswer}
use Rattle.nr_units.specs.Scan.{Scan, after_symbol, in_mode, on_level, outermost, whole_value}
use Rattle.nr_units.specs.Scanner.{Steps, noted}
use Rattle.nr_units.specs.declared.expression.Read.{Read}
use Rattle.nr_units.specs.declared.scanner.Step.TheVariants.{Taken}
use Rattle.nr_units.specs.declared.symbols.Symbol.{Symbol}
use Rattle.nr_units.specs.declared.symbols.Symbol.TheVariants.{Digit}
use Rattle.nr_units.proofs.Reading.{Along, advances, stops, ends}
use Rattle.nr_units.proofs.Longest.{Reads, computed_more, computed_stuck, answer_in_range, reads_first, stuck_read}
use Rattle.nr_units.proofs.longest_prefix.read_outermost.Goals as goal

pub loop-at-init : goal.loop-at-init
loop-at-init c =
    let none : Read = record { value = None; used = 0 } in
    subst (λ l. Reads c.args.ctx.now c.args.text.now 0 (outermost l) none) (sym c.fresh-level.ensures) (reads_first c.args.ctx.now c.args.text.now)

pub loop-at-preserved : goal.loop-at-preserved
loop-at-preserved c =
    let text = c.args.text.now in
    let i = c.loop-at.at in
    let s : Scan = outermost c.loop-at.level in
    let t : Scan = outermost c.take.new.self in
    let inside : i < length text = omega arith in
    let taken : Steps c.args.ctx.now s c.in-Some-symbol_of.symbol Taken t = (c.take.ensures.taken c.if-not-take.false, λ is. omega arith) in
    let next = advances c.args.ctx.now text i (get_or text i 0) c.in-Some-symbol_of.symbol s t c.loop-at.longest inside (take-suc text i 0 inside) (sym c.in-Some-symbol_of.ensures) c.loop-at.invariant.along taken in
    let computed = computed_more c.args.ctx.now text i s t c.loop-at.longest c.in-Some-symbol_of.symbol inside (sym c.in-Some-symbol_of.ensures) taken c.loop-at.invariant.computed in
    let known : Reads c.args.ctx.now text (i + 1) t (noted (whole_value c.args.ctx.now s) c.in-Some-symbol_of.symbol i c.loop-at.longest) = record {
      along = subst (λ n. Along c.args.ctx.now text n t (noted (whole_value c.args.ctx.now s) c.in-Some-symbol_of.symbol i c.loop-at.longest)) (sym (add-one i)) next;
      computed = computed;
    } in
    subst (Reads c.args.ctx.now text (i + 1) t) (sym c.take.ensures.noted) known

pub loop-at-preserved-in-Some : goal.loop-at-preserved-in-Some
loop-at-preserved-in-Some c =
    let text = c.args.text.now in
    let i = c.loop-at.at in
    let s : Scan = outermost c.loop-at.level in
    let t : Scan = outermost (record c.loop-at.level { mode = c.in-Some.mode }) in
    let digit : Symbol = Digit (get_or text i 0 - code "0") in
    let inside : i < length text = omega arith in
    let taken : Steps c.args.ctx.now s digit Taken t = (ap (λ m. on_level [] (option_map (in_mode c.loop-at.level) m)) c.in-Some.ensures.1, λ is. omega arith) in
    let next = advances c.args.ctx.now text i (get_or text i 0) digit s t c.loop-at.longest inside (take-suc text i 0 inside) c.in-Some.ensures.0 c.loop-at.invariant.along taken in
    record {
      along = subst (λ n. Along c.args.ctx.now text n t c.loop-at.longest) (sym (add-one i)) next;
      computed = computed_more c.args.ctx.now text i s t c.loop-at.longest digit inside c.in-Some.ensures.0 taken c.loop-at.invariant.computed;
    }

pub returns-in_default-symbol_of-clause-answer : goal.returns-in_default-symbol_of-clause-answer
returns-in_default-symbol_of-clause-answer c =
    let text = c.args.text.now in
    let i = c.loop-at.at in
    let s : Scan = outermost c.loop-at.level in
    let inside : i < length text = omega arith in
    let step = ap (option_and_then (after_symbol c.args.ctx.now s)) (sym c.in_default-symbol_of.ensures) in
    subst (IsAnswer c.args.ctx.now text) (sym c.read.ensures)
    (stops c.args.ctx.now text i (get_or text i 0) s c.loop-at.longest (take-suc text i 0 inside) step c.loop-at.invariant.along)

pub returns-in_default-symbol_of-clause-range : goal.returns-in_default-symbol_of-clause-range
returns-in_default-symbol_of-clause-range c = answer_in_range c.args.ctx.now c.args.text.now c.read.result (returns-in_default-symbol_of-clause-answer c)

pub returns-then-not-take-clause-answer : goal.returns-then-not-take-clause-answer
returns-then-not-take-clause-answer c =
    let text = c.args.text.now in
    let i = c.loop-at.at in
    let s : Scan = outermost c.loop-at.level in
    let inside : i < length text = omega arith in
    let none : after_symbol c.args.ctx.now s c.in-Some-symbol_of.symbol ≡ None = c.take.ensures.stuck c.if-not-take.true in
    let step = ap (option_and_then (after_symbol c.args.ctx.now s)) (sym c.in-Some-symbol_of.ensures) ∙ none in
    subst (IsAnswer c.args.ctx.now text) (sym (stuck_read c.args.ctx.now s (outermost c.take.new.self) c.in-Some-symbol_of.symbol i c.loop-at.longest c.take.new.longest c.read-then-not-take.result c.read-then-not-take.ensures (ap outermost (c.take.ensures.same c.if-not-take.true)) c.take.ensures.noted))
    (stops c.args.ctx.now text i (get_or text i 0) s c.loop-at.longest (take-suc text i 0 inside) step c.loop-at.invariant.along)

pub returns-then-not-take-clause-computed : goal.returns-then-not-take-clause-computed
returns-then-not-take-clause-computed c =
    let inside : c.loop-at.at < length c.args.text.now = omega arith in
    let s : Scan = outermost c.loop-at.level in
    let none : after_symbol c.args.ctx.now s c.in-Some-symbol_of.symbol ≡ None = c.take.ensures.stuck c.if-not-take.true in
    stuck_read c.args.ctx.now s (outermost c.take.new.self) c.in-Some-symbol_of.symbol c.loop-at.at c.loop-at.longest c.take.new.longest c.read-then-not-take.result c.read-then-not-take.ensures (ap outermost (c.take.ensures.same c.if-not-take.true)) c.take.ensures.noted
    ∙ sym (computed_stuck c.args.ctx.now c.args.text.now c.loop-at.at s c.loop-at.longest c.in-Some-symbol_of.symbol inside (sym c.in-Some-symbol_of.ensures) none c.loop-at.invariant.computed)

pub returns-then-not-take-clause-range : goal.returns-then-not-take-clause-range
returns-then-not-take-clause-range c = answer_in_range c.args.ctx.now c.args.text.now c.read-then-not-take.result (returns-then-not-take-clause-answer c)

pub returns-clause-answer : goal.returns-clause-answer
returns-clause-answer c =
    let text = c.args.text.now in
    let s : Scan = outermost c.loop-at.level in
    let here : c.loop-at.at ≡ length text = omega (arith, c.loop-at.invariant.along.within) in
    subst (IsAnswer c.args.ctx.now text) (sym c.read-2.ensures)
    (ends c.args.ctx.now text s c.loop-at.longest (subst (λ n. Along c.args.ctx.now text n s c.loop-at.longest) here c.loop-at.invariant.along))

pub returns-clause-range : goal.returns-clause-range
returns-clause-range c = answer_in_range c.args.ctx.now c.args.text.now c.read-2.result (returns-clause-answer c)

pub returns-clause-computed : goal.returns-clause-computed
returns-clause-computed c = grind (arith, common_steps)

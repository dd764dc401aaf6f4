use Rattle.std.proofs.Common.{◌+◌, ◌*◌, subst, sym, arith, rules}
use Rattle.nr_settings.specs.Numbers.{context}
use Rattle.nr_settings.specs.PlainNumbers.{ReadsDigits}
use Rattle.nr_settings.proofs.PlainNumbers.{digit_more, digits_given, letter_given, reads_first}
use Rattle.nr_settings.proofs.plain_numbers.plain_value.Goals as goal

pub loop-at-init : goal.loop-at-init
loop-at-init c = reads_first c.args.argument.now

pub loop-at-preserved : goal.loop-at-preserved
loop-at-preserved c =
    subst (λ d. ReadsDigits c.args.argument.now (c.loop-at.at + 1) (10 * c.loop-at.number + d)) (sym c.from.ensures)
    (digit_more c.args.argument.now c.loop-at.at c.loop-at.number (omega arith) (search rules) (search rules) (omega (arith, c.if-number-gt-MOST.false)) c.loop-at.invariant)

pub returns-in-Some-clause-value : goal.returns-in-Some-clause-value
returns-in-Some-clause-value c = λ here.
    letter_given (context c.args.scale c.args.v here) c.args.argument.now c.loop-at.at c.loop-at.number c.in-Some.scale (omega arith) (omega arith) c.in-Some.ensures c.loop-at.invariant
    c.units_of.result c.units_of.ensures.value c.units_of.ensures.range

pub returns-clause-value : goal.returns-clause-value
returns-clause-value c = λ here.
    digits_given (context c.args.scale c.args.v here) c.args.argument.now c.loop-at.at c.loop-at.number (search rules) (omega arith) c.loop-at.invariant
    c.units_of-2.result c.units_of-2.ensures.value c.units_of-2.ensures.range

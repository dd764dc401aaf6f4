use Rattle.std.proofs.Common.{◌+◌, ◌*◌, subst, sym, arith, rules}
use Rattle.nr_settings.specs.PlainNumbers.{ReadsDigits}
use Rattle.nr_settings.proofs.PlainNumbers.{digit_more, reads_first}
use Rattle.nr_settings.proofs.plain_numbers.digits_of.Goals as goal

pub loop-at-init : goal.loop-at-init
loop-at-init c = reads_first c.args.text.now

pub loop-at-preserved : goal.loop-at-preserved
loop-at-preserved c =
    subst (λ d. ReadsDigits c.args.text.now (c.loop-at.at + 1) (10 * c.loop-at.number + d)) (sym c.from.ensures)
    (digit_more c.args.text.now c.loop-at.at c.loop-at.number (omega arith) (search rules) (search rules) (omega (arith, c.if-number-gt-MOST.false)) c.loop-at.invariant)

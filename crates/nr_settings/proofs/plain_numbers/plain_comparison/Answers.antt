use Rattle.std.proofs.Common.{◌+◌, arith}
use Rattle.std.proofs.lemmas.List.{take_rest}
use Rattle.nr_settings.proofs.PlainNumbers.{ByEqual, ByGreater, ByLess, comparison_is}
use Rattle.nr_settings.proofs.plain_numbers.plain_comparison.Goals as goal

pub returns-in-60 : goal.returns-in-60
returns-in-60 c = λ v.
    let l = c.digits_of-left in
    let r = c.digits_of-right in
    let text = c.args.argument.now in
    comparison_is v text _ ByLess l.result.count l.result.number r.result.count r.result.number (omega (arith, c.if-left-eq0.false)) (omega (arith, l.ensures.prefix, c.if-left-argument.false)) c.in-60.is
    (omega (arith, c.if-right-eq0.false)) (omega (arith, r.ensures.prefix, c.if-right-afterwards.false)) (take_rest text (l.result.count + 1)) l.ensures.reads r.ensures.reads

pub returns-in-62 : goal.returns-in-62
returns-in-62 c = λ v.
    let l = c.digits_of-left in
    let r = c.digits_of-right in
    let text = c.args.argument.now in
    comparison_is v text _ ByGreater l.result.count l.result.number r.result.count r.result.number (omega (arith, c.if-left-eq0.false)) (omega (arith, l.ensures.prefix, c.if-left-argument.false)) c.in-62.is
    (omega (arith, c.if-right-eq0.false)) (omega (arith, r.ensures.prefix, c.if-right-afterwards.false)) (take_rest text (l.result.count + 1)) l.ensures.reads r.ensures.reads

pub returns-in-61 : goal.returns-in-61
returns-in-61 c = λ v.
    let l = c.digits_of-left in
    let r = c.digits_of-right in
    let text = c.args.argument.now in
    comparison_is v text _ ByEqual l.result.count l.result.number r.result.count r.result.number (omega (arith, c.if-left-eq0.false)) (omega (arith, l.ensures.prefix, c.if-left-argument.false)) c.in-61.is
    (omega (arith, c.if-right-eq0.false)) (omega (arith, r.ensures.prefix, c.if-right-afterwards.false)) (take_rest text (l.result.count + 1)) l.ensures.reads r.ensures.reads

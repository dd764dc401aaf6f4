use Rattle.std.proofs.Common.{ℕ, ◌<◌, ◌∙◌, ap, length, sym, arith}
use Rattle.utf8_converter.specs.Spelling.{byte_of}
use Rattle.utf8_converter.proofs.spelling.Spelling.count.Goals as goal

pub returns-clause-count : goal.returns-clause-count
returns-clause-count c =
    let small : c.from.result < 256 = omega arith in
    c.count_of.ensures ∙ sym (c.requires.serves.each c.from.result small).count ∙ ap (λ (b : ℕ). length (byte_of c.args.reader.now.table b)) c.from.ensures

pub returns-clause-few : goal.returns-clause-few
returns-clause-few c =
    let small : c.from.result < 256 = omega arith in
    let few = (c.requires.serves.each c.from.result small).few in
    let count = c.count_of.ensures in
    omega (arith, few, count)

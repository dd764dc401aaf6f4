use Rattle.std.proofs.Common.{◌≡◌, ℕ, List, subst, arith}
use Rattle.preconv_converter.specs.declared.reader.Reader.{Reader}
use Rattle.preconv_converter.specs.Reading.{Takes}
use Rattle.preconv_converter.proofs.reader.Reader.take_beyond.Goals as goal

pub returns-clause-taken : goal.returns-clause-taken
returns-clause-taken c =
    let none : c.take_whole-whole.result.count ≡ 0 = omega arith in
    let P : Reader → Type 0 = λ r. Takes c.take_one.result.count c.args.bytes.now r c.take_one.new.self c.args.out.now.items c.take_one.new.out.items c.take_one.result.steps in
    let Q : List ℕ → Type 0 = λ xs. Takes c.take_one.result.count c.args.bytes.now c.take_whole-whole.new.self c.take_one.new.self xs c.take_one.new.out.items c.take_one.result.steps in
    subst P (c.take_whole-whole.ensures.left none) (subst Q (c.take_whole-whole.ensures.none none) c.take_one.ensures.taken)

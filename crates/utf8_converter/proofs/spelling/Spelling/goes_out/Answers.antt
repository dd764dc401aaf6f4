use Rattle.std.proofs.Common.{◌≡◌, ℕ, ◌==◌, ◌∙◌, ap, false, nat_lt, arith}
use Rattle.std.proofs.lemmas.Bool.Decides.{nat_tests}
use Rattle.utf8_converter.proofs.Spelled.{count-goes}
use Rattle.utf8_converter.proofs.spelling.Spelling.goes_out.Goals as goal

pub returns-then-byte-ne8 : goal.returns-then-byte-ne8
returns-then-byte-ne8 c =
    let is_not = c.if-byte-ne8.true in
    let other : (c.args.byte == 8) ≡ false = grind (arith, nat_tests, is_not) in
    ap (λ (n : ℕ). nat_lt 0 n) c.count.ensures.count ∙ count-goes c.args.reader.now.table c.args.byte other

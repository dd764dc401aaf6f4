use Rattle.std.proofs.Common.{◌≡◌, ◌≤◌, ◌==◌, length, false, arith}
use Rattle.std.proofs.lemmas.Bool.Decides.{nat_tests}
use Rattle.utf8_own_characters.proofs.Passed.{four_skipped}
use Rattle.utf8_own_characters.proofs.Tests.{not_true}
use Rattle.utf8_own_characters.proofs.counting.four_differ.Goals as goal

pub returns-clause-none : goal.returns-clause-none
returns-clause-none c = λ e k d same.
    let l = c.args.letter in
    let a = c.at-first.result in
    let b = c.at-second.result in
    let x = c.at-third.result in
    let y = c.at-fourth.result in
    let short = c.if-counts-lt4.false in
    let long : 4 ≤ length c.args.counts.now = omega (arith, short) in
    let p : (a.cluster.letter == l) ≡ false = grind (arith, nat_tests, c.if-first-letter.false) in
    let q : (b.cluster.letter == l) ≡ false = grind (arith, nat_tests, c.if-second-letter.false) in
    let r : (x.cluster.letter == l) ≡ false = grind (arith, nat_tests, c.if-third-letter.false) in
    four_skipped c.args.counts.now a b x y l long c.at-first.ensures c.at-second.ensures c.at-third.ensures c.at-fourth.ensures p q r
    (not_true (y.cluster.letter == l) e) k d same

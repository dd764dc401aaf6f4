use Rattle.std.proofs.Common.{◌∙◌, refl}
use Rattle.utf8_own_characters.proofs.Passed.{few_passed, four_passed}
use Rattle.utf8_own_characters.proofs.counting.passed.Goals as goal

pub loop-count-preserved : goal.loop-count-preserved
loop-count-preserved c =
    let xs = c.args.counts.now in
    let n = c.loop-count.count in
    let before = c.loop-count.invariant in
    record {
      within = few_passed xs n before.within (c.loop-count-test.ensures.long refl);
      left = before.left ∙ four_passed xs n c.args.cluster.now (c.loop-count-test.ensures.none refl n c.args.cluster.now refl);
    }

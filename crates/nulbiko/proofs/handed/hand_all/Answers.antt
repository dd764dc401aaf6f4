use Rattle.std.proofs.Common.{length, take, drop, ◌-◌, arith}
use Rattle.std.proofs.lemmas.Grind.{common_steps}
use Rattle.document_stages.specs.Joined.{joined}
use Rattle.nulbiko.proofs.Handing.{rest-more, taken-more}
use Rattle.document_printing.proofs.Prefixes.{more-came}
use Rattle.nulbiko.proofs.handed.hand_all.Goals as goal

pub loop-at-preserved : goal.loop-at-preserved
loop-at-preserved g c =
    let at = c.loop-at.at in
    let output = c.loop-at.output in
    let count = c.in-Ok.count in
    let room = c.take_some.new.room in
    record {
      within = grind (arith, common_steps);
      same = grind (arith, common_steps);
      came = more-came _ _ _ (take at output) (take count room) _ c.loop-at.invariant.came c.in-Ok.ensures.came
          (taken-more at count (length output - at) output room c.loop-at.invariant.within (omega (arith, c.in-Ok.ensures.few, c.in-Ok.ensures.same)));
      rest = rest-more at count (length output - at) output room _ c.loop-at.invariant.within (omega (arith, c.in-Ok.ensures.few, c.in-Ok.ensures.same))
          c.in-Ok.ensures.same c.in-Ok.ensures.rest c.loop-at.invariant.rest;
    }

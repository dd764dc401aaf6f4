use Rattle.std.proofs.Common.{◌∙◌, length-set, arith}
use Rattle.utf8_converter.proofs.Spelled.{Spells-next}
use Rattle.utf8_converter.proofs.spelling.Spelling.new.Goals as goal

pub loop-place-preserved : goal.loop-place-preserved
loop-place-preserved c =
    let long = c.loop-place.invariant.long in
    let more = c.loop-place-test.true in
    record {
      spells = Spells-next c.args.table c.loop-place.place c.loop-place.all c.loop-place.whole c.is_covered-whole.result c.spell-one.result
          c.loop-place.invariant.spells (omega (arith, long, more)) c.spell-one.ensures c.is_covered-whole.ensures;
      long = length-set c.loop-place.all c.loop-place.place c.spell-one.result ∙ long;
    }

use Rattle.std.proofs.Common.{◌∙◌, refl, arith}
use Rattle.tbl_reader.proofs.Pairs.{paired_first, paired_more, paired_all}
use Rattle.tbl_reader.proofs.rows.pair_backslashes.Goals as goal

pub loop-at-init : goal.loop-at-init
loop-at-init c = record { pairs = paired_first c.args.start c.args.kept.now.items; room = refl }

pub loop-at-preserved : goal.loop-at-preserved
loop-at-preserved c = record {
  pairs = rw (c.set.ensures.items, c.second_of.ensures, c.is_alone-alone.ensures)
      (paired_more c.args.start c.loop-at.at c.get-byte.result c.loop-at.alone c.args.kept.now.items c.loop-at.kept.items
      (omega (arith, c.loop-at.invariant.pairs.same)) c.get-byte.ensures c.loop-at.invariant.pairs);
  room = c.set.ensures.room ∙ c.loop-at.invariant.room;
}

pub returns : goal.returns
returns c =
    let all = paired_all c.args.start c.loop-at.at c.loop-at.alone c.args.kept.now.items c.loop-at.kept.items (omega (arith, c.loop-at.invariant.pairs.same)) c.loop-at.invariant.pairs in
    record { items = all.0; alone = all.1; room = c.loop-at.invariant.room }

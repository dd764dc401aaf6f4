use Rattle.tbl_reader.proofs.Cleaning.{cleaned_then, goes_then}
use Rattle.tbl_reader.proofs.rows.clean_line.Goals as goal

pub returns : goal.returns
returns c = record {
  items = cleaned_then c.args.start c.args.kept.now.items c.pair_backslashes-alone.new.kept.items c.cut_comment-cut.new.kept.items
      c.pair_backslashes-alone.ensures.items c.cut_comment-cut.ensures.items;
  alone = goes_then c.args.start c.args.kept.now.items c.pair_backslashes-alone.new.kept.items c.pair_backslashes-alone.result c.cut_comment-cut.result
      c.pair_backslashes-alone.ensures.items c.pair_backslashes-alone.ensures.alone c.cut_comment-cut.ensures.cut;
  room = cc;
}

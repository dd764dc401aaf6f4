use Rattle.std.proofs.Common.{◌-◌, List, ◌++◌, length, replicate, subst}
use Rattle.nr_vectors.specs.Cell.{blank}
use Rattle.nr_vectors.specs.declared.cell.Cell.{Cell}
use Rattle.nr_fill.proofs.ApartTitles.{apart_row_is}
use Rattle.nr_fill.proofs.title.TitleParts.set_apart.Goals as goal

pub returns : goal.returns
returns g c =
    let ls = c.args.self.left.now in
    let cs = c.args.self.centre.now in
    let rs = c.args.self.right.now in
    let to_centre = ls ++ replicate (c.args.centre - length ls) blank in
    let to_right = (to_centre ++ cs) ++ replicate (c.args.right - c.args.centre - length cs) blank in
    let both = g.met.S.CellSink.adds_both c.args.out.now in
    let padded = both c.extend.new.self c.blanks.new.self ls _ c.extend.ensures c.blanks.ensures in
    let with_centre = both c.blanks.new.self c.extend-2.new.self to_centre cs padded c.extend-2.ensures in
    let padded_too = both c.extend-2.new.self c.blanks-2.new.self (to_centre ++ cs) _ with_centre c.blanks-2.ensures in
    let all = both c.blanks-2.new.self c.extend-3.new.self to_right rs padded_too c.extend-3.ensures in
    subst (λ (zs : List Cell). g.S.CellSink.Adds c.args.out.now zs c.extend-3.new.self) (apart_row_is c.args.centre c.args.right ls cs rs c.requires.left c.requires.centre) all

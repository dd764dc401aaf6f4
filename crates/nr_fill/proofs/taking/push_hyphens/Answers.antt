use Rattle.std.proofs.Common.{◌∷◌, [], List, subst}
use Rattle.std.proofs.lemmas.List.{replicate_more}
use Rattle.nr_vectors.specs.declared.cell.Cell.{Cell}
use Rattle.nr_fill.specs.Setting.{hyphen, hyphens}
use Rattle.nr_fill.proofs.taking.push_hyphens.Goals as goal

pub loop-hyphen-init : goal.loop-hyphen-init
loop-hyphen-init g c = g.met.S.CellSink.adds_nothing c.args.out.now

pub loop-hyphen-preserved : goal.loop-hyphen-preserved
loop-hyphen-preserved g c =
    let i = c.loop-hyphen._hyphen in
    let more = g.met.S.CellSink.adds_both c.args.out.now c.loop-hyphen.out c.push.new.self (hyphens i) (hyphen ∷ []) c.loop-hyphen.invariant c.push.ensures in
    subst (λ (zs : List Cell). g.S.CellSink.Adds c.args.out.now zs c.push.new.self) (replicate_more i hyphen) more

use Rattle.nr_fill.specs.Setting.{hyphens}
use Rattle.nr_fill.proofs.taking.push_hyphens.Given as goal

abbrev pub invariant-loop-hyphen : goal.invariant-loop-hyphen
invariant-loop-hyphen g l = g.S.CellSink.Adds l.fn.out (hyphens l._hyphen) l.out

use Rattle.std.proofs.Common.{◌≡◌, ◌≤◌, ◌-◌, ◌++◌, length, map, take}
use Rattle.nr_pool.specs.Texts.{text, with_text}
use Rattle.nr_store.proofs.store.lines.append_blocks.Given as goal

abbrev pub invariant-loop-done : goal.invariant-loop-done
invariant-loop-done g l = record {
  so_far : l.pool ≡ with_text l.fn.pool l.id (text l.fn.pool l.id ++ map g.T.Single.single (take l.done l.more));
  within : l.done ≤ length l.more;
}

abbrev pub decreases-loop-done : goal.decreases-loop-done
decreases-loop-done g l = length l.more - l.done

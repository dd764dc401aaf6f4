use Rattle.std.proofs.Common.{◌≡◌, ◌++◌, replicate}
use Rattle.nr_pool.specs.Texts.{text, with_text}
use Rattle.nr_store.specs.Store.{blank_cell}
use Rattle.nr_store.proofs.store.lines.append_blanks.Given as goal

abbrev pub invariant-loop-i : goal.invariant-loop-i
invariant-loop-i l = l.pool ≡ with_text l.initial.pool l.id (text l.initial.pool l.id ++ replicate l._i blank_cell)

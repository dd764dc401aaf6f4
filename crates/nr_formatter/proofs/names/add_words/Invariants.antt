use Rattle.std.proofs.Common.{◌≡◌, ◌≤◌, ◌-◌, length}
use Rattle.nr_store.specs.Store.{charge_of}
use Rattle.nr_formatter.specs.Limits.{stored_limits}
use Rattle.nr_formatter.specs.Names.{with_words}
use Rattle.nr_formatter.proofs.names.add_words.Given as goal

abbrev pub invariant-loop-word : goal.invariant-loop-word
invariant-loop-word l = record {
  rest : with_words (length l.line - l._word) l.arguments.rest.now l.store ≡ with_words (length l.line) l.line l.initial.store;
  limits : stored_limits l.store ≡ stored_limits l.initial.store;
  within : charge_of l.initial.store ≤ l.initial.store.limit → charge_of l.store ≤ l.store.limit;
}

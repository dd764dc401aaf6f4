use Rattle.std.proofs.Common.{◌≡◌, ◌+◌, ◌≤◌, length, drop}
use Rattle.nr_store.specs.Request.{with_senses}
use Rattle.nr_store.proofs.store.beginning.name_requests.Given as goal

abbrev pub invariant-loop-entry : goal.invariant-loop-entry
invariant-loop-entry l =
    record {
      so_far : with_senses (drop l.entry-index l.requests) l.names.entries ≡ with_senses l.requests l.initial.names.entries;
      room : l.names.capacity ≡ l.initial.names.capacity;
      few : length l.names.entries ≤ length l.initial.names.entries + l.entry-index;
    }

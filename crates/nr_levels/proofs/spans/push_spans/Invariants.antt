use Rattle.std.proofs.Common.{◌≡◌, ◌+◌, ◌++◌, length, sum, drop}
use Rattle.nr_levels.specs.Frame.{spans_from}
use Rattle.nr_levels.proofs.spans.push_spans.Given as goal

abbrev pub invariant-loop-len : goal.invariant-loop-len
invariant-loop-len l =
    record {
      items : l.places.items ++ spans_from l.first (drop l.len-index l.lens) ≡ l.initial.places.items ++ spans_from l.start l.lens;
      room : l.places.capacity ≡ l.initial.places.capacity;
      count : length l.places.items ≡ length l.initial.places.items + l.len-index;
      sum : l.first + sum (drop l.len-index l.lens) ≡ l.start + sum l.lens;
    }

use Rattle.std.proofs.Common.{◌≡◌, ◌*◌, ◌+◌, ◌≤◌, ◌-◌, length}
use Rattle.preconv_converter.specs.Reading.{Takes}
use Rattle.preconv_converter.proofs.reader.Reader.take.Given as goal

abbrev pub invariant-loop-count : goal.invariant-loop-count
invariant-loop-count l = record {
  taken : Takes l.count l.bytes l.fn.self l.self l.fn.out.items l.out.items l.steps;
  within : l.count ≤ length l.bytes;
  few : length l.out.items ≤ length l.fn.out.items + 1536 * l.count;
  quick : l.steps ≤ 24 * l.count;
  room : l.out.capacity ≡ l.fn.out.capacity;
}

abbrev pub decreases-loop-count : goal.decreases-loop-count
decreases-loop-count l = length l.bytes - l.count

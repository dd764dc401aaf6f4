use Rattle.std.proofs.Common.{◌≡◌, ◌+◌, ◌≤◌, length, take}
use Rattle.fast_input.specs.declared.target.Target.TheVariants.{Text}
use Rattle.fast_input.specs.MacroLines.{ReadsOn}
use Rattle.fast_input.specs.Target.{with_more}
use Rattle.fast_input.proofs.body_lines.copy_parts.Given as goal

abbrev pub invariant-loop : goal.invariant-loop
invariant-loop g l = record {
  reads : ReadsOn (l.taken + l.count) l.taken l.bytes l.fn.store l.fn.reader (with_more Text (take l.count l.chunk) l.fn.store) l.reader;
  size : length l.chunk ≡ 256;
  within : l.count ≤ 256;
  few : l.count ≤ l.taken;
  none : l.count ≡ 0 → l.reader ≡ l.fn.reader;
}

use Rattle.std.proofs.Common.{◌≡◌, All, map, take}
use Rattle.nr_fill.specs.Plain.{IsPlain, run_cell}
use Rattle.nr_fill.proofs.plain.set_plain.Given as goal

abbrev pub invariant-loop-i : goal.invariant-loop-i
invariant-loop-i l = record {
  plain : All IsPlain (take l.i l.bytes);
  cells : take l.i l.slots ≡ map (run_cell l.look) (take l.i l.bytes);
}

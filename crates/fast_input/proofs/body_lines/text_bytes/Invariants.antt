use Prim.Native.Char.{code}
use Rattle.std.proofs.Common.{All, take}
use Rattle.nr_reading.specs.Many.InArgument.{IsPlain}
use Rattle.fast_input.proofs.body_lines.text_bytes.Given as goal

abbrev pub invariant-loop-place : goal.invariant-loop-place
invariant-loop-place l = record {
  plain : All (IsPlain (code "\n")) (take l.place l.bytes);
}

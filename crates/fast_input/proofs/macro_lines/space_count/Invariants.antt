use Prim.Native.Char.{code}
use Rattle.std.proofs.Common.{◌≡◌, All, take}
use Rattle.fast_input.proofs.macro_lines.space_count.Given as goal

abbrev pub invariant-loop-byte : goal.invariant-loop-byte
invariant-loop-byte l = record {
  count : l.count ≡ l.byte-index;
  spaces : All (λ byte. byte ≡ code " ") (take l.byte-index l.bytes);
}

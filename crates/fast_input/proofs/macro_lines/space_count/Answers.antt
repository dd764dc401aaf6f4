use Prim.Native.Char.{code}
use Rattle.std.proofs.Common.{◌≡◌, ◌+◌, take, get_or, arith}
use Rattle.std.proofs.lemmas.List.{take_more}
use Rattle.std.proofs.lemmas.List.Elements.{All-push}
use Rattle.fast_input.proofs.macro_lines.space_count.Goals as goal

pub loop-byte-preserved : goal.loop-byte-preserved
loop-byte-preserved c =
    let bytes = c.args.bytes.now in
    let i = c.loop-byte.byte-index in
    let more : take (i + 1) bytes ≡ _ = take_more bytes i 0 c.loop-byte-test.true in
    let space : get_or bytes i 0 ≡ code " " = omega (arith, c.if-byte-ne32.false) in
    record {
      count = omega (arith, c.loop-byte.invariant.count);
      spaces = rw more (All-push (λ byte. byte ≡ code " ") (take i bytes) (get_or bytes i 0) c.loop-byte.invariant.spaces space);
    }

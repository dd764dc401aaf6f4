use Rattle.std.proofs.Common.{◌≡◌, ◌+◌, take, get_or, arith}
use Rattle.std.proofs.lemmas.List.{take_more}
use Rattle.std.proofs.lemmas.List.Elements.{All-push}
use Rattle.nr_reading.specs.Many.InArgument.{IsPlain}
use Rattle.nr_reading.proofs.many.arguments.plain_count.Goals as goal

pub loop-byte-preserved : goal.loop-byte-preserved
loop-byte-preserved c =
    let bytes = c.args.bytes.now in
    let i = c.loop-byte.byte-index in
    let more : take (i + 1) bytes ≡ _ = take_more bytes i 0 c.loop-byte-test.true in
    let plain : IsPlain c.args.ending (get_or bytes i 0) = c.is_plain.ensures.0 c.if-not-is_plain.false in
    record {
      count = omega (arith, c.loop-byte.invariant.count);
      plain = rw more (All-push (IsPlain c.args.ending) (take i bytes) (get_or bytes i 0) c.loop-byte.invariant.plain plain);
    }

use Rattle.std.proofs.Common.{◌≡◌, ◌+◌, true, take, get_or, sym, ◌∙◌, arith}
use Rattle.std.proofs.lemmas.List.{take_more}
use Rattle.std.proofs.lemmas.List.Elements.{All-push}
use Rattle.nr_reading.specs.Spelled.{is_blank}
use Rattle.nr_reading.proofs.many.request_lines.blank_count.Goals as goal

pub loop-byte-preserved : goal.loop-byte-preserved
loop-byte-preserved c =
    let bytes = c.args.bytes.now in
    let i = c.loop-byte.byte-index in
    let more : take (i + 1) bytes ≡ _ = take_more bytes i 0 c.loop-byte-test.true in
    let blank : is_blank (get_or bytes i 0) ≡ true = sym c.is_blank.ensures ∙ c.if-not-is_blank.false in
    record {
      count = omega (arith, c.loop-byte.invariant.count);
      blanks = rw more (All-push (λ byte. is_blank byte ≡ true) (take i bytes) (get_or bytes i 0) c.loop-byte.invariant.blanks blank);
    }

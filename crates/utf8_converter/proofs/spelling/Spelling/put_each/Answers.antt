use Rattle.std.proofs.Common.{◌≡◌, ℕ, ◌%◌, take, ap, sym, ◌∙◌, append-nil, arith}
use Rattle.utf8_converter.proofs.Spelled.{Puts-next}
use Rattle.utf8_converter.proofs.spelling.Spelling.put_each.Goals as goal

pub loop-byte-init : goal.loop-byte-init
loop-byte-init c =
    let begins = c.requires.begins in
    let same : c.args.end % 2048 ≡ c.args.end = omega (arith, begins) in
    record {
      put = ap (λ (n : ℕ). take n c.args.room.now) same ∙ sym (append-nil (take c.args.end c.args.room.now));
      few = omega (arith, same);
    }

pub loop-byte-preserved : goal.loop-byte-preserved
loop-byte-preserved c =
    let few = c.put-to.ensures.few in
    let before = c.loop-byte.invariant.few in
    record {
      put = Puts-next c.args.reader.now.table c.args.bytes.now c.loop-byte.byte-index c.args.room.now c.loop-byte.room c.put-to.new.room c.args.end c.loop-byte.to c.put-to.result
          c.loop-byte-test.true c.loop-byte.invariant.put c.put-to.ensures.put;
      few = omega (arith, few, before);
    }

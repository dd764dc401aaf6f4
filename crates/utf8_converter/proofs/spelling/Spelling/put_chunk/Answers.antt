use Rattle.std.proofs.lemmas.Grind.{common_steps}
use Rattle.std.proofs.Common.{◌≡◌, ℕ, ◌+◌, ◌-◌, List, ap, take, drop, subst, arith}
use Rattle.utf8_converter.specs.Spelling.{Puts, bytes_of}
use Rattle.utf8_converter.proofs.Pieces.{Puts-piece, piece-spelled}
use Rattle.utf8_converter.proofs.spelling.Spelling.put_chunk.Goals as goal

pub put_piece-to-requires-clause-some : goal.put_piece-to-requires-clause-some
put_piece-to-requires-clause-some c =
    let chunk = c.requires.chunk in
    let whole = c.loop-at.invariant.whole in
    let more = c.loop-at-test.true in
    piece-spelled c.args.self.now.all c.args.bytes.now c.loop-at.at c.requires.some (omega (arith, chunk, whole, more))

pub put_piece-to-requires-clause-same : goal.put_piece-to-requires-clause-same
put_piece-to-requires-clause-same c = ap (λ (xs : List ℕ). take (c.loop-at.at + 8 - c.loop-at.at) (drop c.loop-at.at xs)) c.requires.same

pub loop-at-preserved : goal.loop-at-preserved
loop-at-preserved c =
    let bytes = c.args.bytes.now in
    let table = c.args.reader.now.table in
    let at = c.loop-at.at in
    let eight : at + 8 - at ≡ 8 = omega arith in
    let P : ℕ → Type 0 = λ n. Puts c.loop-at.room c.loop-at.to c.put_piece-to.new.room c.put_piece-to.result (bytes_of table (take n (drop at bytes))) in
    let piece = subst P eight c.put_piece-to.ensures.put in
    let few = c.put_piece-to.ensures.few in
    let before = c.loop-at.invariant.few in
    let whole = c.loop-at.invariant.whole in
    let more = c.loop-at-test.true in
    record {
      put = Puts-piece table bytes at 8 c.args.room.now c.loop-at.room c.put_piece-to.new.room c.args.end c.loop-at.to c.put_piece-to.result c.loop-at.invariant.put piece;
      few = omega (arith, few, before);
      whole = omega (arith, whole);
      within = omega (arith, whole, more);
    }

pub returns-clause-put : goal.returns-clause-put
returns-clause-put c = grind (arith, common_steps)

use Rattle.std.proofs.Common.{length-take-le, sym, arith}
use Rattle.utf8_converter.proofs.Goes.{Puts-long}
use Rattle.utf8_converter.proofs.Shaped.{Goes-chunk}
use Rattle.utf8_converter.specs.Spelling.{bytes_of}
use Rattle.std.proofs.Common.{take}
use Rattle.utf8_converter.proofs.spelling.Spelling.put_some.Goals as goal

pub slice_bounds-chunk-end : goal.slice_bounds-chunk-end
slice_bounds-chunk-end c = let seen = c.requires.seen in sym (length-take-le 32 c.args.bytes.now (omega (arith, seen)))

pub put_chunk-to-requires-clause-some : goal.put_chunk-to-requires-clause-some
put_chunk-to-requires-clause-some c = (c.are_cells.ensures c.if-are_cells.true).some

pub put_chunk-to-requires-clause-chunk : goal.put_chunk-to-requires-clause-chunk
put_chunk-to-requires-clause-chunk c = let seen = c.requires.seen in length-take-le 32 c.args.bytes.now (omega (arith, seen))

pub cut-requires-clause-far : goal.cut-requires-clause-far
cut-requires-clause-far c =
    let begins = c.requires.begins in
    let room = c.requires.room in
    let few = c.put_chunk-to.ensures.few in
    let long = c.put_chunk-to.auto.room in
    let far = Puts-long c.args.room.now c.put_chunk-to.new.room (bytes_of c.args.reader.now.table (take 32 c.args.bytes.now)) c.args.end c.put_chunk-to.result
    (omega (arith, begins, room)) (omega (arith, begins, room, few, long)) c.put_chunk-to.ensures.put in
    omega (arith, far)

pub returns-then-are_cells-clause-goes : goal.returns-then-are_cells-clause-goes
returns-then-are_cells-clause-goes c =
    let begins = c.requires.begins in
    let room = c.requires.room in
    let few = c.put_chunk-to.ensures.few in
    let long = c.put_chunk-to.auto.room in
    Goes-chunk c.args.self.now c.args.reader.now c.args.bytes.now c.args.room.now c.put_chunk-to.new.room c.args.end c.put_chunk-to.result c.cut.result.end c.cut.result.taken
    c.requires.fresh c.requires.seen (λ k. (let fits = c.type_inv.bytes k in omega (arith, fits))) c.requires.serves (c.are_cells.ensures c.if-are_cells.true) c.cut.ensures
    c.put_chunk-to.ensures.put (omega (arith, begins, room)) (omega (arith, begins, room, few, long))

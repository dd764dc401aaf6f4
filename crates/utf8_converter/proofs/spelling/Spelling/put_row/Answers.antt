use Rattle.std.proofs.Common.{◌+◌, ◌-◌, drop, length-drop, length-take-le, sym, arith}
use Rattle.utf8_converter.proofs.Shaped.{Cuts-none, Goes-chunk, Goes-shown, stand-chunk, stand-last, stand-shown}
use Rattle.utf8_converter.proofs.spelling.Spelling.put_row.Goals as goal

pub slice_bounds-chunk-end : goal.slice_bounds-chunk-end
slice_bounds-chunk-end c = let seen = c.requires.seen in sym (length-take-le 32 c.args.bytes.now (omega (arith, seen)))

pub copy_from_slice-requires : goal.copy_from_slice-requires
copy_from_slice-requires c =
    let seen = c.requires.seen in
    let begins = c.requires.begins in
    let room = c.requires.room in
    let cut = length-take-le 32 c.args.bytes.now (omega (arith, seen)) in
    let rest = length-drop c.args.end c.args.room.now in
    let part = length-take-le (c.args.end + 32 - c.args.end) (drop c.args.end c.args.room.now) (omega (arith, begins, room, rest)) in
    omega (arith, cut, part)

pub returns-then-are_all_low : goal.returns-then-are_all_low
returns-then-are_all_low c =
    let bytes = c.args.bytes.now in
    let begins = c.requires.begins in
    let room = c.requires.room in
    Goes-shown c.args.self.now c.args.reader.now bytes c.args.room.now c.copy_from_slice.new.self c.args.end (c.args.end + 32 - c.args.end)
    c.requires.fresh c.requires.seen (λ k. (let fits = c.type_inv.bytes k in omega (arith, fits))) c.requires.serves
    (stand-shown bytes (c.may_all_stand.ensures c.if-not-may_all_stand.false) (c.are_all_low.ensures c.if-are_all_low.true))
    c.copy_from_slice.ensures.after (omega (arith, begins, room)) (omega (arith, begins, room))

pub put_chunk-requires-clause-some : goal.put_chunk-requires-clause-some
put_chunk-requires-clause-some c =
    (stand-chunk c.args.self.now c.args.reader.now c.args.bytes.now c.requires.seen (λ k. (let fits = c.type_inv.bytes k in omega (arith, fits))) c.requires.serves c.if-self.true
    (c.may_all_stand.ensures c.if-not-may_all_stand.false)).some

pub put_chunk-requires-clause-chunk : goal.put_chunk-requires-clause-chunk
put_chunk-requires-clause-chunk c = let seen = c.requires.seen in length-take-le 32 c.args.bytes.now (omega (arith, seen))

pub returns-then-self : goal.returns-then-self
returns-then-self c =
    let bytes = c.args.bytes.now in
    let begins = c.requires.begins in
    let room = c.requires.room in
    let few = c.put_chunk.ensures.few in
    let stand = c.may_all_stand.ensures c.if-not-may_all_stand.false in
    Goes-chunk c.args.self.now c.args.reader.now bytes c.args.room.now c.put_chunk.new.room c.args.end c.put_chunk.result c.put_chunk.result 32
    c.requires.fresh c.requires.seen (λ k. (let fits = c.type_inv.bytes k in omega (arith, fits))) c.requires.serves
    (stand-chunk c.args.self.now c.args.reader.now bytes c.requires.seen (λ k. (let fits = c.type_inv.bytes k in omega (arith, fits))) c.requires.serves c.if-self.true stand)
    (Cuts-none c.args.reader.now.table bytes c.put_chunk.result c.requires.seen (stand-last bytes c.requires.seen stand))
    c.put_chunk.ensures.put (omega (arith, begins, room)) (omega (arith, begins, room, few))

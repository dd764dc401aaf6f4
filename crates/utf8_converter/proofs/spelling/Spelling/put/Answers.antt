use Rattle.std.proofs.Common.{ℕ, ◌+◌, ◌-◌, ◌<◌, subst, sym, arith}
use borrow.Rule.Slice.PartMut.{put_mid}
use Rattle.utf8_converter.specs.Spelling.{Puts, byte_of}
use Rattle.utf8_converter.proofs.Spelled.{Puts-spelled}
use Rattle.utf8_converter.proofs.spelling.Spelling.put.Goals as goal

pub returns-clause-put : goal.returns-clause-put
returns-clause-put c =
    let small : c.from.result < 256 = omega arith in
    let table = c.args.reader.now.table in
    let room = put_mid c.args.end (c.args.end + 4 - c.args.end) c.args.room.now c.copy_from_slice.new.self in
    let P : ℕ → Type 0 = λ n. Puts c.args.room.now c.args.end room (c.args.end + n) (byte_of table c.args.byte) in
    subst P (sym c.count_of.ensures)
    (Puts-spelled table c.from.result c.args.byte _ c.args.room.now c.copy_from_slice.new.self c.args.end (c.args.end + 4 - c.args.end)
    (c.requires.serves.each c.from.result small) c.from.ensures c.copy_from_slice.ensures.after (omega arith))

pub returns-clause-few : goal.returns-clause-few
returns-clause-few c =
    let small : c.from.result < 256 = omega arith in
    let few = (c.requires.serves.each c.from.result small).few in
    let count = c.count_of.ensures in
    omega (arith, few, count)

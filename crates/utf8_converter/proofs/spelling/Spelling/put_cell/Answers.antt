use Rattle.std.proofs.Common.{◌≡◌, ◌⊎◌, false, get_or, inl, inr, sym, true, ◌∙◌, arith}
use Rattle.utf8_converter.specs.Cells.{shows}
use Rattle.utf8_converter.specs.Spelling.{is_shut}
use Rattle.utf8_converter.proofs.Goes.{Goes-alone, Goes-none, Goes-over, Puts-alone, low-hidden}
use Rattle.utf8_converter.proofs.spelling.Spelling.put_cell.Goals as goal
use Rattle.utf8_converter.proofs.spelling.Spelling.put_cell.Goals.{then-byte-le32, else-byte-le32}

pub returns-then-strikes-clause-goes : goal.returns-then-strikes-clause-goes
returns-then-strikes-clause-goes c =
    let room = c.requires.room in
    let few = c.put_struck-end.ensures.few in
    let long = c.put_struck-end.auto.room in
    Goes-over c.args.reader.now c.put_struck-end.new.reader c.args.bytes.now c.args.room.now c.put_struck-end.new.room c.args.end c.put_struck-end.result c.requires.fresh
    c.if-bytes-ge3.true c.if-bytes-eq8.true (sym c.strikes.ensures ∙ c.if-strikes.true) (omega (arith, room)) (omega (arith, room, few, long)) c.put_struck-end.ensures.fills

pub returns-then-is_shut-clause-goes : goal.returns-then-is_shut-clause-goes
returns-then-is_shut-clause-goes c =
    let r = c.args.reader.now in
    let byte = get_or c.args.bytes.now 0 0 in
    let room = c.requires.room in
    let turned = c.turn-to.ensures.few in
    let few = c.put-end.ensures.few in
    let long = c.turn-to.auto.room in
    let same = c.put-end.auto.room in
    let goes = sym c.goes_out.ensures ∙ c.if-goes_out.true in
    let apart : (shows r.table byte ≡ false) ⊎ (is_shut r.way ≡ true) =
    elim c.if-byte-le32.branch [ then-byte-le32 w ↦ inl (low-hidden r.table byte w.if-byte-le32.true) | else-byte-le32 w ↦ inr (sym w.is_shut.ensures ∙ sym w.value-is ∙ c.if-is_shut.true) ] in
    Goes-alone r c.turn-to.new.self c.args.bytes.now c.args.room.now c.put-end.new.room c.args.end c.put-end.result c.requires.fresh c.requires.some goes apart c.turn-to.ensures.reader
    (omega (arith, room)) (omega (arith, room, turned, few, long, same))
    (Puts-alone byte r c.turn-to.new.self c.args.room.now c.turn-to.new.room c.put-end.new.room c.args.end c.turn-to.result c.put-end.result goes c.turn-to.ensures.reader c.turn-to.ensures.put c.put-end.ensures.put)

pub returns-clause-goes : goal.returns-clause-goes
returns-clause-goes c = Goes-none c.args.reader.now c.args.bytes.now c.args.room.now c.args.end c.requires.fresh

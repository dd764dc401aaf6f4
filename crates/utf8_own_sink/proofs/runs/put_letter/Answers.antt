use Rattle.std.proofs.Common.{◌≡◌, false, sym, ◌∙◌, arith}
use Rattle.utf8_own_sink.proofs.Moving.{narrow-at}
use Rattle.utf8_own_sink.proofs.runs.put_letter.Goals as goal

pub returns-in-Some-clause-moves : goal.returns-in-Some-clause-moves
returns-in-Some-clause-moves c way clear =
    narrow-at c.args.table.now way c.args.out.now.items c.put_character.new.out.items c.args.bytes.now c.in-Some.letter clear (omega (arith, c.if-bytes-lt2.false))
    c.if-bytes-eq8.false c.in-Some.ensures c.put_character.ensures.items

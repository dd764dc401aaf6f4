use Rattle.utf8_own_page.proofs.Plain.{plain-of}
use Rattle.utf8_own_page.proofs.needing.is_piece_plain.Goals as goal

pub returns-in-Some : goal.returns-in-Some
returns-in-Some c = plain-of c.args.bytes.now c.in-Some.piece.now _ c.in-Some.ensures.cases c.are_plain.ensures

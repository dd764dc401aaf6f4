use Rattle.utf8_own_page.proofs.Plain.{passed-piece}
use Rattle.utf8_own_page.proofs.needing.passes.Goals as goal

pub returns-then-is_piece_plain-clause-none : goal.returns-then-is_piece_plain-clause-none
returns-then-is_piece_plain-clause-none c =
    λ is. passed-piece c.args.count c.args.bytes.now c.requires.within c.requires.few (c.is_piece_plain.ensures c.if-is_piece_plain.true)

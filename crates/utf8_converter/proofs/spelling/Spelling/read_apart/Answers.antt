use Rattle.std.proofs.Common.{ap, subst, sym, ◌∙◌}
use Rattle.utf8_characters.specs.declared.table.FixedTable.{FixedTable}
use Rattle.utf8_converter.specs.declared.reader.Reader.{Reader}
use Rattle.utf8_converter.specs.Spelling.{Spells}
use Rattle.utf8_converter.proofs.Held.{released-table}
use Rattle.utf8_converter.proofs.spelling.Spelling.read_apart.Goals as goal

pub read_fresh-fresh-requires-clause-serves : goal.read_fresh-fresh-requires-clause-serves
read_fresh-fresh-requires-clause-serves c =
    let P : FixedTable → Type 0 = λ t. Spells t 256 c.args.self.now.all c.args.self.now.whole in
    subst P (sym (ap (λ (q : Reader). q.table) c.release-released.ensures.fills.reader ∙ released-table c.args.reader.now.half c.args.reader.now)) c.requires.serves

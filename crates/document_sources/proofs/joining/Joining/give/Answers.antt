use Rattle.std.proofs.Common.{drop}
use Rattle.document_sources.specs.Joining.{coming}
use Rattle.document_sources.proofs.Steps.{Gives-byte}
use Rattle.document_sources.proofs.joining.Joining.give.Goals as goal

pub returns-clause-gives : goal.returns-clause-gives
returns-clause-gives g c =
    let s = c.args.self.now in
    Gives-byte (g.F.Folder.texts s.folder) (coming (drop s.ahead.taken s.ahead.text.items) (g.R.Source.supply s.input)) s.line.capacity s.standing s.line.items
    c.get-byte.result c.requires.phase c.get-byte.ensures

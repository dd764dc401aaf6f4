use Rattle.std.proofs.Common.{length, ap, arith}
use Rattle.tbl_reader.specs.Pages.{Page}
use Rattle.tbl_reader.proofs.Passed.{part_kept}
use Rattle.tbl_reader.proofs.reader.Reader.keep_prefix.Goals as goal

pub returns-clause-keeps : goal.returns-clause-keeps
returns-clause-keeps c =
    let same = ap (λ (p : Page). length p.kept) c.self.view_is in
    part_kept c.min-count.result c.args.bytes.now c.args.self.now _ c.requires.kept (omega arith) (omega arith) (omega (arith, same)) c.add_kept.ensures

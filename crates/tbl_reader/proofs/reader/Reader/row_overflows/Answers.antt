use Rattle.std.proofs.Common.{[], ◌∷◌}
use Prim.Native.Char.{code}
use Rattle.tbl_reader.specs.declared.complaint.Kind.TheVariants.{RowLimit}
use Rattle.tbl_reader.specs.declared.telling.Tell.TheVariants as tells
use Rattle.tbl_reader.specs.Pages.{rest_of, wrong}
use Rattle.tbl_reader.specs.RowLines.{row_so_far}
use Rattle.tbl_reader.specs.Telling.{piece, each}
use Rattle.tbl_reader.proofs.Hearing.{tells_append, each_same}
use Rattle.tbl_reader.proofs.reader.Reader.row_overflows.Goals as goal

pub returns-clause-emitted : goal.returns-clause-emitted
returns-clause-emitted g c =
    let p = c.args.self.now in
    let rest = each_same g.S.Setter.shows g.S.Setter.hears tells.Pass c.rest.result.now (rest_of p) c.tell-2.new.self c.tell-3.new.self c.rest.ensures c.tell-3.ensures in
    tells_append g.S.Setter.shows g.S.Setter.hears (row_so_far p.state)
    (wrong RowLimit p.state ∷ piece tells.Plain [] ∷ each tells.Pass (code "\\" ∷ code "&" ∷ rest_of p))
    c.args.setter.now c.row_is_cut.new.setter c.tell-3.new.self c.row_is_cut.ensures
    (λ s h. rest _ (c.tell-2.ensures _ (c.tell.ensures _ (c.complains.ensures s h))))

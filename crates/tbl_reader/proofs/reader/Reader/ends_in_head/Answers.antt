use Rattle.std.proofs.Common.{[], ◌∷◌, true}
use Rattle.tbl_reader.specs.declared.complaint.Kind.TheVariants.{NoFormat}
use Rattle.tbl_reader.specs.declared.telling.Tell.TheVariants as tells
use Rattle.tbl_reader.specs.Ending.{wrong_at_end}
use Rattle.tbl_reader.specs.Pages.{rest_of}
use Rattle.tbl_reader.specs.Telling.{piece, each}
use Rattle.tbl_reader.proofs.Hearing.{tells_append, each_same}
use Rattle.tbl_reader.proofs.reader.Reader.ends_in_head.Goals as goal

pub returns-clause-emitted : goal.returns-clause-emitted
returns-clause-emitted g c =
    let p = c.args.self.now in
    let rest = each_same g.S.Setter.shows g.S.Setter.hears tells.Pass c.rest.result.now (rest_of p) c.tell.new.self c.tell-2.new.self c.rest.ensures c.tell-2.ensures in
    tells_append g.S.Setter.shows g.S.Setter.hears (wrong_at_end NoFormat true p.state ∷ piece tells.Plain [] ∷ each tells.Pass (rest_of p)) (piece tells.PlainEnd [] ∷ [])
    c.args.setter.now c.tell-2.new.self c.tell-3.new.self (λ s h. rest _ (c.tell.ensures _ (c.complains_at_end.ensures s h))) c.tell-3.ensures

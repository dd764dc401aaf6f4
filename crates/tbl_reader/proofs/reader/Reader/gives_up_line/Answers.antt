use Rattle.std.proofs.Common.{[], ◌∷◌}
use Prim.Native.Char.{code}
use Rattle.tbl_reader.specs.declared.telling.Tell.TheVariants as tells
use Rattle.tbl_reader.specs.Outside.{given_up}
use Rattle.tbl_reader.specs.Telling.{piece}
use Rattle.tbl_reader.proofs.Hearing.{tells_append}
use Rattle.tbl_reader.proofs.reader.Reader.gives_up_line.Goals as goal

pub returns-clause-emitted : goal.returns-clause-emitted
returns-clause-emitted g c =
    tells_append g.S.Setter.shows g.S.Setter.hears (given_up c.args.kind c.args.self.now).pieces (piece tells.Pass (code "\n" ∷ []) ∷ [])
    c.args.setter.now c.gives_up.new.setter c.tell.new.self c.gives_up.ensures.emitted c.tell.ensures

use Rattle.std.proofs.Common.{[], ◌∷◌}
use Rattle.tbl_reader.specs.declared.complaint.Kind.TheVariants.{NoFormat}
use Rattle.tbl_reader.specs.declared.telling.Tell.TheVariants as tells
use Rattle.tbl_reader.specs.HeadLines.{given_up_line}
use Rattle.tbl_reader.specs.Telling.{piece}
use Rattle.tbl_reader.proofs.Hearing.{tells_append}
use Rattle.tbl_reader.proofs.reader.Reader.head_ends.Goals as goal

pub returns-clause-emitted : goal.returns-clause-emitted
returns-clause-emitted g c =
    tells_append g.S.Setter.shows g.S.Setter.hears (given_up_line NoFormat c.args.self.now).pieces (piece tells.PlainEnd [] ∷ [])
    c.args.setter.now c.gives_up_line.new.setter c.tell.new.self c.gives_up_line.ensures.emitted c.tell.ensures

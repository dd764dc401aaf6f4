use Rattle.tbl_drawing.proofs.writing.Out.end.Goals as goal

pub returns : goal.returns
returns g c = c.repeat.ensures

use Rattle.tbl_drawing.proofs.layout.Layout.put_boxed.Goals as goal

pub returns : goal.returns
returns g c = (rw c.is_boxed.ensures at c.ask_if.ensures)

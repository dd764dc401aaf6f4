use Rattle.tbl_drawing.proofs.layout.Layout.put_indent.Goals as goal

pub returns : goal.returns
returns g c = (rw c.is_moved.ensures at c.ask_if.ensures)

use Rattle.std.proofs.Common.{sym, ◌∙◌, []}
use Rattle.tbl_drawing.specs.Lines.{needs_room, room_to}
use Rattle.tbl_drawing.proofs.Chosen.{draws_chosen, none_asked}
use Rattle.tbl_drawing.proofs.layout.Layout.put_room_if.Goals as goal

pub returns-then-not-needs_room : goal.returns-then-not-needs_room
returns-then-not-needs_room g c =
    none_asked (needs_room c.args.self.now c.args.row c.args.last) (room_to c.args.self.now c.args.row c.args.last)
    (sym c.needs_room.ensures ∙ c.if-not-needs_room.true)

pub returns : goal.returns
returns g c =
    draws_chosen (needs_room c.args.self.now c.args.row c.args.last) [] c.put_room_to.ensures
    (sym c.needs_room.ensures ∙ c.if-not-needs_room.false)

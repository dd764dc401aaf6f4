use Rattle.std.proofs.Common.{sym, subst, take}
use Rattle.tbl_reader.specs.declared.telling.Tell.TheVariants as tells
use Rattle.tbl_reader.specs.Reading.{Fits}
use Rattle.tbl_reader.specs.Telling.{each}
use Rattle.tbl_stage.specs.Rooms.{Room}
use Rattle.tbl_stage.proofs.Staying.{fed_so, room_stays}
use Rattle.tbl_stage.proofs.tables.Tables.pass.Goals as goal

pub invariant_of-self : goal.invariant_of-self
invariant_of-self c =
    let here = c.self.inside in
    let bytes = take c.pass-count.result c.args.bytes.now in
    let fits = subst (λ (r : Room). Fits r.page) (sym c.self.view_is) c.requires.fits in
    room_stays here.reader c.pass-count.new.self here.setting c.hear.new.self c.self.invariant c.hear.ensures.room
    (fed_so bytes here.reader c.pass-count.new.self (each tells.Pass bytes) fits c.pass-count.ensures.passes)

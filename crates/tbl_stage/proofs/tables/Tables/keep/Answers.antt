use Rattle.std.proofs.Common.{[], refl, sym, subst, take}
use Rattle.tbl_reader.specs.Reading.{Fits}
use Rattle.tbl_stage.specs.Rooms.{Room}
use Rattle.tbl_stage.proofs.Staying.{fed_so, room_stays}
use Rattle.tbl_stage.proofs.tables.Tables.keep.Goals as goal

pub invariant_of-self : goal.invariant_of-self
invariant_of-self c =
    let here = c.self.inside in
    let fits = subst (λ (r : Room). Fits r.page) (sym c.self.view_is) c.requires.fits in
    room_stays here.reader c.keep.new.self here.setting here.setting c.self.invariant refl
    (fed_so (take c.keep.result c.args.bytes.now) here.reader c.keep.new.self [] fits c.keep.ensures.keeps)

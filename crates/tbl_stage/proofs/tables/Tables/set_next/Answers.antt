use Rattle.std.proofs.Common.{ℕ, Some, sym, subst, ◌∙◌, ap}
use Rattle.nr_vectors.specs.Items.{Items}
use Rattle.tbl_drawing.specs.Tapes.{Tape}
use Rattle.tbl_reader.specs.Reading.{Fits}
use Rattle.tbl_setting.specs.Stepping.{next_bytes}
use Rattle.tbl_stage.specs.Filling.{Fills}
use Rattle.tbl_stage.specs.Rooms.{Room}
use Rattle.tbl_stage.proofs.Filled.{filled_so}
use Rattle.tbl_stage.proofs.Staying.{next_so, room_stays}
use Rattle.tbl_stage.proofs.tables.Tables.set_next.Goals as goal

pub returns-clause-fills : goal.returns-clause-fills
returns-clause-fills c =
    subst (λ (r : Room). Fills (next_bytes c.args.next r.page r.setting) c.into_bytes.result.items c.into_bytes.result.capacity) c.self.view_is
    (filled_so _ _ _ _ _ _ _ c.set_next-output.ensures.sent
    (ap (λ (t : Tape). t.held) c.over-line.ensures ∙ ap Some (c.over-sink.ensures.bytes ∙ ap (λ (i : Items ℕ). i.items) c.replace.ensures.value ∙ c.requires.empty))
    (ap Some (sym c.into_bytes.ensures.bytes))
    (ap (λ (t : Tape). t.failures.puts) c.over-line.ensures ∙ c.over-sink.ensures.failures)
    c.into_bytes.ensures.full)

pub invariant_of-self : goal.invariant_of-self
invariant_of-self c =
    let here = c.self.inside in
    let made = c.set_next-output in
    let fits = subst (λ (r : Room). Fits r.page) (sym c.self.view_is) c.requires.fits in
    room_stays here.reader made.new.reader here.setting made.new.setting c.self.invariant made.ensures.setting_room
    (next_so c.args.next here.reader made.new.reader fits made.ensures.page)

use Rattle.std.proofs.Common.{◌≤◌, ◌<◌, [], ◌∷◌, ◌++◌, refl, ◌∙◌, arith}
use Rattle.nr_page.specs.Grid.{Placed}
use Rattle.nr_page.specs.Rows.{sheet_of}
use Rattle.nr_page.specs.Page.{Holds}
use Rattle.nr_page.proofs.Showing.{Holds-push}
use Rattle.nr_page.proofs.Keeping.{AreAbove-weaker}
use Rattle.nr_page.proofs.page.Page.place.Goals as goal

pub invariant_of-self : goal.invariant_of-self
invariant_of-self c =
    let inside = c.self.inside in
    let kept = c.self.invariant in
    let line : Placed = record { row = c.args.row; cells = c.args.cells.now } in
    let grows = c.put.ensures.grows in
    let lower : inside.row_count ≤ c.max-self-inside.result = omega arith in
    let here : c.args.row < c.max-self-inside.result = omega arith in
    record {
      in_range = kept.in_range;
      cell_room = grows.capacity ∙ kept.cell_room;
      text_room = grows.numbers ∙ kept.text_room;
      row_room = omega (arith, grows.room, kept.row_room);
      halved = omega (arith, grows.texts, kept.halved);
      kept = c.put.ensures.kept;
      above = c.put.ensures.above c.max-self-inside.result here (AreAbove-weaker inside.row_count c.max-self-inside.result inside.rows.items lower kept.above);
      filled = omega (arith, grows.filled, kept.filled);
      within = omega (arith, kept.within);
      holds = (
        kept.holds.0 ++ line ∷ [],
        Holds-push kept.holds.0 _ line (sheet_of inside.texts inside.rows.items inside.row_count inside.charge inside.limit) c.max-self-inside.result _ inside.limit
            kept.holds.1 c.put.ensures.shows c.max-self-inside.ensures refl,
      );
    }

pub returns-clause-ok : goal.returns-clause-ok
returns-clause-ok c = λ lines holds.
    let inside = c.self.inside in
    let line : Placed = record { row = c.args.row; cells = c.args.cells.now } in
    let page = sheet_of inside.texts inside.rows.items inside.row_count inside.charge inside.limit in
    let held : Holds lines page = rw (← c.self.view_is) at holds in
    Holds-push lines _ line page c.max-self-inside.result _ inside.limit held c.put.ensures.shows c.max-self-inside.ensures refl

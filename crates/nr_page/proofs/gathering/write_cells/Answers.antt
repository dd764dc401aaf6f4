use Rattle.std.proofs.lemmas.Grind.{common_steps}
use Rattle.std.proofs.Common.{arith, ◌∙◌, []}
use Rattle.std.proofs.lemmas.Result.{err_from_is_err_and}
use Rattle.nr_page.specs.PageBytes.{cell_bytes}
use Rattle.nr_page.proofs.Prefixes.{Gathers-both, Gathers-prefix, flat_map-take-add, flat_map-take-prefix}
use Rattle.nr_page.proofs.gathering.write_cells.Goals as goal

pub returns-in_err-make_room-clause-gathers : goal.returns-in_err-make_room-clause-gathers
returns-in_err-make_room-clause-gathers g c =
    let z = err_from_is_err_and c.from_residual.result c.from_residual.ensures.1 in
    rw z.1 (Gathers-prefix _ _ _ _ _ _ [] _ _ c.loop-at.invariant.gathers c.in_err-make_room.ensures.gathers (flat_map-take-prefix (cell_bytes c.args.faces) c.args.cells.now c.loop-at.at))

pub loop-at-preserved : goal.loop-at-preserved
loop-at-preserved g c = record {
  within = omega arith;
  gathers = Gathers-both _ _ _ c.loop-at.invariant.gathers c.in_ok-make_room.ensures.gathers c.gather_cells.ensures.items (flat_map-take-add (cell_bytes c.args.faces) c.args.cells.now c.loop-at.at c.min.result);
  failures = c.in_ok-make_room.ensures.failures ∙ c.loop-at.invariant.failures;
  room = c.gather_cells.ensures.room ∙ c.in_ok-make_room.ensures.room ∙ c.loop-at.invariant.room;
}

pub returns-clause-gathers : goal.returns-clause-gathers
returns-clause-gathers g c = grind (arith, common_steps)

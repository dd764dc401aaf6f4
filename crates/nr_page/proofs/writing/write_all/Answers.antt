use Rattle.std.proofs.Common.{arith}
use Rattle.std.proofs.lemmas.Grind.{common_steps}
use Rattle.std.proofs.lemmas.Result.{err_from_is_err_and}
use Rattle.nr_page.proofs.Prefixes.{OnErr-GathersOrFails}
use Rattle.nr_page.proofs.writing.write_all.Goals as goal

pub returns-in_err-write_rows-clause-err : goal.returns-in_err-write_rows-clause-err
returns-in_err-write_rows-clause-err g c =
    let z = err_from_is_err_and c.from_residual.result c.from_residual.ensures.1 in
    rw z.1 (rw c.over-pending.ensures.empty at c.in_err-write_rows.ensures.gathers)

pub returns-clause-err : goal.returns-clause-err
returns-clause-err g c =
    OnErr-GathersOrFails _ _ _ _ _ _ c.make_room.result (rw c.over-pending.ensures.empty at c.in_ok-write_rows.ensures.gathers) c.make_room.ensures.gathers

pub returns-clause-ok : goal.returns-clause-ok
returns-clause-ok g c = grind (arith, common_steps)

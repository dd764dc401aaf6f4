use Prim.Native.Char.{code}
use Rattle.std.proofs.Common.{arith, ◌∙◌, [], ◌∷◌}
use Rattle.std.proofs.lemmas.Result.{err_from_is_err_and}
use Rattle.nr_page.proofs.Prefixes.{Gathers-both, Gathers-prefix, replicate-more, replicate-prefix}
use Rattle.nr_page.proofs.gathering.write_newlines.Goals as goal

pub returns-in_err-make_room-clause-gathers : goal.returns-in_err-make_room-clause-gathers
returns-in_err-make_room-clause-gathers g c =
    let z = err_from_is_err_and c.from_residual.result c.from_residual.ensures.1 in
    rw z.1 (Gathers-prefix _ _ _ _ _ _ [] _ _ c.loop-line.invariant.gathers c.in_err-make_room.ensures.gathers (replicate-prefix c.loop-line._line c.args.count (code "\n") (omega arith)))

pub loop-line-preserved : goal.loop-line-preserved
loop-line-preserved g c = record {
  gathers = Gathers-both _ (code "\n" ∷ []) _ c.loop-line.invariant.gathers c.in_ok-make_room.ensures.gathers c.push.ensures.items (replicate-more c.loop-line._line (code "\n"));
  failures = c.in_ok-make_room.ensures.failures ∙ c.loop-line.invariant.failures;
  room = c.push.ensures.room ∙ c.in_ok-make_room.ensures.room ∙ c.loop-line.invariant.room;
}

use Rattle.std.proofs.Common.{◌+◌, ◌-◌, ◌≤◌, ◌++◌, ap, ◌∙◌, arith}
use Rattle.std.proofs.lemmas.Result.{err_from_is_err_and}
use Rattle.nr_page.specs.Overlay.{rows_bytes}
use Rattle.nr_page.specs.Rows.{rows_of}
use Rattle.nr_page.proofs.Prefixes.{Gathers-append, Gathers-prefix, GathersOrFails-last}
use Rattle.nr_page.proofs.PageText.{rows_bytes-prefix}
use Rattle.nr_page.proofs.Keeping.{number_at, before_number, rows_bytes-kept, rows_bytes-rest}
use Rattle.nr_page.proofs.writing.write_rows.Goals as goal

pub returns-in_err-write_row-clause-gathers : goal.returns-in_err-write_row-clause-gathers
returns-in_err-write_row-clause-gathers g c =
    let z = err_from_is_err_and c.from_residual.result c.from_residual.ensures.1 in
    let texts = c.args.texts.now in
    let rows = c.args.rows.now.items in
    let row = c.get-row.result in
    let found = number_at rows c.loop-place.place row c.get-row.ensures in
    let reached : row.number + 1 ≤ c.args.count = omega (arith, found.1, c.requires.above c.loop-place.place found.0) in
    let kept = rows_bytes-kept c.args.faces texts rows c.loop-place.place c.loop-place.done row c.requires.kept.order c.get-row.ensures c.loop-place.invariant.above c.loop-place.invariant.below in
    rw z.1 (Gathers-prefix _ _ _ _ _ _ _ _ _ c.loop-place.invariant.gathers (rw c.text.ensures at c.in_err-write_row.ensures.gathers)
    (rows_bytes-prefix c.args.faces (rows_of texts rows) (row.number + 1) c.args.count reached ∙ ap (λ prefix. prefix ++ rows_bytes c.args.faces (rows_of texts rows) (row.number + 1) (c.args.count - (row.number + 1))) kept))

pub loop-place-preserved : goal.loop-place-preserved
loop-place-preserved g c =
    let texts = c.args.texts.now in
    let rows = c.args.rows.now.items in
    let row = c.get-row.result in
    let found = number_at rows c.loop-place.place row c.get-row.ensures in
    let kept = rows_bytes-kept c.args.faces texts rows c.loop-place.place c.loop-place.done row c.requires.kept.order c.get-row.ensures c.loop-place.invariant.above c.loop-place.invariant.below in
    record {
      above = λ k before within. before_number rows c.loop-place.place k (row.number + 1) c.requires.kept.order found.0 (omega arith) (omega (arith, found.1));
      below = λ k afterwards within. omega (arith, found.1, c.requires.kept.order c.loop-place.place k (omega arith) within);
      within = omega (arith, found.1, c.requires.above c.loop-place.place found.0);
      gathers = rw kept (Gathers-append c.loop-place.invariant.gathers (rw c.text.ensures at c.in_ok-write_row.ensures.gathers));
      failures = c.in_ok-write_row.ensures.failures ∙ c.loop-place.invariant.failures;
      room = c.in_ok-write_row.ensures.room ∙ c.loop-place.invariant.room;
    }

pub returns-clause-gathers : goal.returns-clause-gathers
returns-clause-gathers g c =
    GathersOrFails-last _ _ _ _ _ _ _ _ _ c.write_newlines.result c.loop-place.invariant.gathers c.write_newlines.ensures.gathers
    (rows_bytes-rest c.args.faces c.args.texts.now c.args.rows.now.items c.loop-place.place c.loop-place.done c.args.count (omega arith) c.loop-place.invariant.within c.loop-place.invariant.above)

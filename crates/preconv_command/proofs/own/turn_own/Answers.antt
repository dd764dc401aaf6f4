-- The file was looked at, or not.
use Rattle.std.proofs.Common.{ap, ◌∙◌}
use Rattle.filters.specs.Arguments.{texts}
use Rattle.filters_own.proofs.Owning.{own-no-memory, own-turned, own-unlooked}
use Rattle.preconv_command.specs.Converting.{own}
use Rattle.preconv_command.proofs.Reporting.{left-reported, unread_is_cut}
use Rattle.preconv_command.proofs.own.turn_own.Goals as goal

pub returns-in-Err-clause-comes : goal.returns-in-Err-clause-comes
returns-in-Err-clause-comes g c = own-unlooked own _ _ _ _ _ _ c.args.file.now _ c.in-Err.ending c.in-Err.ensures.reads

pub returns-in_default-clause-comes : goal.returns-in_default-clause-comes
returns-in_default-clause-comes g c = own-no-memory own _ _ _ _ _ _ c.args.file.now _ _ c.in-Ok.ensures.reads

pub returns-in_default-vec-clause-comes : goal.returns-in_default-vec-clause-comes
returns-in_default-vec-clause-comes g c = own-no-memory own _ _ _ _ _ _ c.args.file.now _ _ c.in-Ok.ensures.reads

pub returns-clause-reported : goal.returns-clause-reported
returns-clause-reported g c whole =
    left-reported _ _ _ c.args.file.now _ _ _ _ _ c.in-Ok.ensures.reads c.in-Ok-left_out.ensures c.deref.ensures.value (c.report_unshown.ensures.reported whole)

pub returns-clause-quiet : goal.returns-clause-quiet
returns-clause-quiet g c unread =
    c.report_unshown.ensures.same (unread_is_cut c.turn_names-output.result.0 unread) ∙ c.turn_names-output.ensures.quiet unread

pub returns-clause-comes : goal.returns-clause-comes
returns-clause-comes g c =
    let remaining = g.I.Read.remaining in
    let may_open = g.P.Paths.may_open in
    let asked = g.P.Paths.asked in
    let held = g.W.Sink.held in
    let writes = g.W.Sink.failures in
    let first = c.args.disk.now in
    let looked = c.look_at.new.disk in
    let last = c.turn_names-output.result.1 in
    own-turned own (remaining looked.standard) (remaining first.standard) (may_open looked.paths) (may_open first.paths) (asked first.paths)
    (asked looked.paths) (asked c.turn_names-output.new.disk.paths) (held c.args.output) (held last) (writes c.args.output) (writes last) (g.W.Sink.passed_on last)
    c.args.file.now _ c.table-table.result (texts c.args.names.now) c.turn_names-output.result.0 (ap remaining c.in-Ok.ensures.same) c.in-Ok.ensures.stays
    c.in-Ok.ensures.reads c.table-table.ensures.made c.turn_names-output.ensures.turns

-- The bytes of the pages go out as they are, or by way of a sink that shows them.
use Rattle.std.proofs.Common.{◌≡◌, Bool, refl, ◌∙◌, ap, take}
use Rattle.nr_units.specs.Failures.{SinkFailures}
use Rattle.utf8_converter.specs.Showing as utf8
use Rattle.utf8_own_sink.specs.Showing as owns
use Rattle.tbl_stage.specs.Text.{bounds_in}
use Rattle.document_printing.specs.Document.{setting_of, source_of, source_so_far}
use Rattle.document_printing.specs.Showing.{reported_shown}
use Rattle.document_printing.specs.declared.showing.PageTable.{PageTable}
use Rattle.document_printing.specs.declared.showing.PageTable.TheVariants.{Fixed, Own}
use Rattle.document_printing.specs.declared.showing.Spelling.{Spelling}
use Rattle.document_printing.specs.declared.showing.Spelling.TheVariants.{Utf8}
use Rattle.document_printing.proofs.Reached.{fixed-ended, own-ended, shows-as, shows-bytes-as, tells-as}
use Rattle.document_printing.proofs.showing.print_shown.Goals as goal

pub returns-in-Bytes-clause-whole : goal.returns-in-Bytes-clause-whole
returns-in-Bytes-clause-whole g c q is kept short =
    shows-bytes-as _ _ _ _ _ _ _ c.in-Bytes.is (c.print-report.ensures.whole q is kept short)

pub returns-in-Bytes-clause-cut : goal.returns-in-Bytes-clause-cut
returns-in-Bytes-clause-cut g c q n is after few short =
    shows-bytes-as _ _ _ _ _ _ _ c.in-Bytes.is (c.print-report.ensures.cut q n is after few short)

pub returns-in-Bytes-clause-write_faults : goal.returns-in-Bytes-clause-write_faults
returns-in-Bytes-clause-write_faults g c q is kept short = c.print-report.ensures.write_faults

pub returns-in-Fixed-clause-whole : goal.returns-in-Fixed-clause-whole
returns-in-Fixed-clause-whole g c q is kept short =
    let s = setting_of c.args.showing.now.setup (bounds_in c.args.rooms.now) c.args.desk.now in
    let held = g.W.Sink.held in
    let failures = g.W.Sink.failures in
    let w : Spelling = Utf8 (Fixed c.in-Fixed.fixed) c.in-Utf8.escapes in
    let m : utf8.Making = record { table = c.in-Fixed.fixed; escapes = c.in-Utf8.escapes; begun = held c.args.output; failed = (failures c.args.output).puts } in
    let start = c.over-shown.result in
    let end = c.print-printed.new.output in
    let new = c.finish-output.result.0 in
    let none : start.failures.puts ≡ 0 = ap (λ (f : SinkFailures). f.puts) c.over-shown.ensures.failures in
    let e = c.finish-output.ensures in
    shows-as s w m.begun m.failed (source_of s q) c.print-printed.result.moves c.args.showing.now.spelling c.report_shown-report.result.moves c.print-printed.result.outcome c.report_shown-report.result.outcome start.bytes end.bytes
    start.failures.puts end.failures.puts (held new) (failures new).puts c.finish-output.result.1
    (c.in-Utf8.is ∙ ap (λ (x : PageTable). Utf8 x c.in-Utf8.escapes) c.in-Fixed.is) c.report_shown-report.ensures.moves
    (c.report_shown-report.ensures.outcome ∙ ap (λ (z : Bool). reported_shown c.print-printed.result.outcome z) c.is_err-failed.ensures.value) none
    (fixed-ended w m start.bytes end.bytes end.failures.puts (held new) (failures new).puts c.finish-output.result.1 (λ z. refl) c.over-shown.ensures.held e.shown e.broke e.fails)
    (c.print-printed.ensures.whole q is kept short) c.print-printed.ensures.write_faults

pub returns-in-Fixed-clause-cut : goal.returns-in-Fixed-clause-cut
returns-in-Fixed-clause-cut g c q n is after few short =
    let s = setting_of c.args.showing.now.setup (bounds_in c.args.rooms.now) c.args.desk.now in
    let held = g.W.Sink.held in
    let failures = g.W.Sink.failures in
    let w : Spelling = Utf8 (Fixed c.in-Fixed.fixed) c.in-Utf8.escapes in
    let m : utf8.Making = record { table = c.in-Fixed.fixed; escapes = c.in-Utf8.escapes; begun = held c.args.output; failed = (failures c.args.output).puts } in
    let start = c.over-shown.result in
    let end = c.print-printed.new.output in
    let new = c.finish-output.result.0 in
    let none : start.failures.puts ≡ 0 = ap (λ (f : SinkFailures). f.puts) c.over-shown.ensures.failures in
    let e = c.finish-output.ensures in
    shows-as s w m.begun m.failed (source_so_far s (take n q.bytes)) c.print-printed.result.moves c.args.showing.now.spelling c.report_shown-report.result.moves c.print-printed.result.outcome c.report_shown-report.result.outcome start.bytes end.bytes
    start.failures.puts end.failures.puts (held new) (failures new).puts c.finish-output.result.1
    (c.in-Utf8.is ∙ ap (λ (x : PageTable). Utf8 x c.in-Utf8.escapes) c.in-Fixed.is) c.report_shown-report.ensures.moves
    (c.report_shown-report.ensures.outcome ∙ ap (λ (z : Bool). reported_shown c.print-printed.result.outcome z) c.is_err-failed.ensures.value) none
    (fixed-ended w m start.bytes end.bytes end.failures.puts (held new) (failures new).puts c.finish-output.result.1 (λ z. refl) c.over-shown.ensures.held e.shown e.broke e.fails)
    (c.print-printed.ensures.cut q n is after few short) c.print-printed.ensures.write_faults

pub returns-in-Fixed-clause-write_faults : goal.returns-in-Fixed-clause-write_faults
returns-in-Fixed-clause-write_faults g c q is kept short =
    let s = setting_of c.args.showing.now.setup (bounds_in c.args.rooms.now) c.args.desk.now in
    let held = g.W.Sink.held in
    let failures = g.W.Sink.failures in
    let w : Spelling = Utf8 (Fixed c.in-Fixed.fixed) c.in-Utf8.escapes in
    let m : utf8.Making = record { table = c.in-Fixed.fixed; escapes = c.in-Utf8.escapes; begun = held c.args.output; failed = (failures c.args.output).puts } in
    let start = c.over-shown.result in
    let end = c.print-printed.new.output in
    let new = c.finish-output.result.0 in
    let none : start.failures.puts ≡ 0 = ap (λ (f : SinkFailures). f.puts) c.over-shown.ensures.failures in
    let e = c.finish-output.ensures in
    tells-as s w m.begun m.failed (source_of s q) c.print-printed.result.moves c.print-printed.result.outcome c.report_shown-report.result.outcome start.bytes end.bytes
    start.failures.puts end.failures.puts (held new) (failures new).puts c.finish-output.result.1
    (c.report_shown-report.ensures.outcome ∙ ap (λ (z : Bool). reported_shown c.print-printed.result.outcome z) c.is_err-failed.ensures.value) none
    (fixed-ended w m start.bytes end.bytes end.failures.puts (held new) (failures new).puts c.finish-output.result.1 (λ z. refl) c.over-shown.ensures.held e.shown e.broke e.fails)
    (c.print-printed.ensures.whole q is kept short) c.print-printed.ensures.write_faults

pub returns-in-Own-clause-whole : goal.returns-in-Own-clause-whole
returns-in-Own-clause-whole g c q is kept short =
    let s = setting_of c.args.showing.now.setup (bounds_in c.args.rooms.now) c.args.desk.now in
    let held = g.W.Sink.held in
    let failures = g.W.Sink.failures in
    let w : Spelling = Utf8 (Own c.in-Own.own) c.in-Utf8.escapes in
    let m : owns.Making = record { table = c.in-Own.own.now; escapes = c.in-Utf8.escapes; begun = held c.args.output; failed = (failures c.args.output).puts } in
    let start = c.over-letters.result in
    let end = c.print-made.new.output in
    let new = c.finish-below.result.0 in
    let none : start.failures.puts ≡ 0 = ap (λ (f : SinkFailures). f.puts) c.over-letters.ensures.failures in
    let e = c.finish-below.ensures in
    shows-as s w m.begun m.failed (source_of s q) c.print-made.result.moves c.args.showing.now.spelling c.report_shown-reported.result.moves c.print-made.result.outcome c.report_shown-reported.result.outcome start.bytes end.bytes
    start.failures.puts end.failures.puts (held new) (failures new).puts c.finish-below.result.1
    (c.in-Utf8.is ∙ ap (λ (x : PageTable). Utf8 x c.in-Utf8.escapes) c.in-Own.is) c.report_shown-reported.ensures.moves
    (c.report_shown-reported.ensures.outcome ∙ ap (λ (z : Bool). reported_shown c.print-made.result.outcome z) c.is_err-is_cut.ensures.value) none
    (own-ended w m start.bytes end.bytes end.failures.puts (held new) (failures new).puts c.finish-below.result.1 (λ z. refl) c.over-letters.ensures.held e.shown e.broke e.fails)
    (c.print-made.ensures.whole q is kept short) c.print-made.ensures.write_faults

pub returns-in-Own-clause-cut : goal.returns-in-Own-clause-cut
returns-in-Own-clause-cut g c q n is after few short =
    let s = setting_of c.args.showing.now.setup (bounds_in c.args.rooms.now) c.args.desk.now in
    let held = g.W.Sink.held in
    let failures = g.W.Sink.failures in
    let w : Spelling = Utf8 (Own c.in-Own.own) c.in-Utf8.escapes in
    let m : owns.Making = record { table = c.in-Own.own.now; escapes = c.in-Utf8.escapes; begun = held c.args.output; failed = (failures c.args.output).puts } in
    let start = c.over-letters.result in
    let end = c.print-made.new.output in
    let new = c.finish-below.result.0 in
    let none : start.failures.puts ≡ 0 = ap (λ (f : SinkFailures). f.puts) c.over-letters.ensures.failures in
    let e = c.finish-below.ensures in
    shows-as s w m.begun m.failed (source_so_far s (take n q.bytes)) c.print-made.result.moves c.args.showing.now.spelling c.report_shown-reported.result.moves c.print-made.result.outcome c.report_shown-reported.result.outcome start.bytes end.bytes
    start.failures.puts end.failures.puts (held new) (failures new).puts c.finish-below.result.1
    (c.in-Utf8.is ∙ ap (λ (x : PageTable). Utf8 x c.in-Utf8.escapes) c.in-Own.is) c.report_shown-reported.ensures.moves
    (c.report_shown-reported.ensures.outcome ∙ ap (λ (z : Bool). reported_shown c.print-made.result.outcome z) c.is_err-is_cut.ensures.value) none
    (own-ended w m start.bytes end.bytes end.failures.puts (held new) (failures new).puts c.finish-below.result.1 (λ z. refl) c.over-letters.ensures.held e.shown e.broke e.fails)
    (c.print-made.ensures.cut q n is after few short) c.print-made.ensures.write_faults

pub returns-in-Own-clause-write_faults : goal.returns-in-Own-clause-write_faults
returns-in-Own-clause-write_faults g c q is kept short =
    let s = setting_of c.args.showing.now.setup (bounds_in c.args.rooms.now) c.args.desk.now in
    let held = g.W.Sink.held in
    let failures = g.W.Sink.failures in
    let w : Spelling = Utf8 (Own c.in-Own.own) c.in-Utf8.escapes in
    let m : owns.Making = record { table = c.in-Own.own.now; escapes = c.in-Utf8.escapes; begun = held c.args.output; failed = (failures c.args.output).puts } in
    let start = c.over-letters.result in
    let end = c.print-made.new.output in
    let new = c.finish-below.result.0 in
    let none : start.failures.puts ≡ 0 = ap (λ (f : SinkFailures). f.puts) c.over-letters.ensures.failures in
    let e = c.finish-below.ensures in
    tells-as s w m.begun m.failed (source_of s q) c.print-made.result.moves c.print-made.result.outcome c.report_shown-reported.result.outcome start.bytes end.bytes
    start.failures.puts end.failures.puts (held new) (failures new).puts c.finish-below.result.1
    (c.report_shown-reported.ensures.outcome ∙ ap (λ (z : Bool). reported_shown c.print-made.result.outcome z) c.is_err-is_cut.ensures.value) none
    (own-ended w m start.bytes end.bytes end.failures.puts (held new) (failures new).puts c.finish-below.result.1 (λ z. refl) c.over-letters.ensures.held e.shown e.broke e.fails)
    (c.print-made.ensures.whole q is kept short) c.print-made.ensures.write_faults

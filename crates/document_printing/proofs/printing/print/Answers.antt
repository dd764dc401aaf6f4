use Rattle.std.proofs.Common.{◌≡◌, true, false, take, refl, sym, ◌∙◌}
use Rattle.document_stages.specs.Pulling.{broken_off}
use Rattle.document_reader.specs.Page.{plain_so_far, plain_supply}
use Rattle.tbl_stage.specs.Text.{bounds_in}
use Rattle.document_printing.specs.Document.{setting_of}
use Rattle.document_printing.proofs.Whole.{prints-at, prints-read, tells-of}
use Rattle.document_printing.proofs.printing.print.Goals as goal

pub returns-then-setup-clause-whole : goal.returns-then-setup-clause-whole
returns-then-setup-clause-whole g c q is kept short =
    let s = setting_of c.args.setup.now (bounds_in c.args.rooms.now) c.args.desk.now in
    let page = plain_supply s.stages s.characters q in
    prints-at _ _ _ _ _ _ _ _ c.report_of.ensures.moves c.report_of.ensures.outcome
    (prints-read s true page _ _ _ _ _ c.if-setup.true (λ e. refl) (c.pull_set-set.ensures.whole q is kept short))

pub returns-then-setup-clause-cut : goal.returns-then-setup-clause-cut
returns-then-setup-clause-cut g c q n is after few short =
    let s = setting_of c.args.setup.now (bounds_in c.args.rooms.now) c.args.desk.now in
    let page = broken_off (plain_so_far s.stages s.characters (take n q.bytes)) in
    prints-at _ _ _ _ _ _ _ _ c.report_of.ensures.moves c.report_of.ensures.outcome
    (prints-read s true page _ _ _ _ _ c.if-setup.true (λ e. refl) (c.pull_set-set.ensures.cut q n is after few short))

pub returns-then-setup-clause-write_faults : goal.returns-then-setup-clause-write_faults
returns-then-setup-clause-write_faults g c =
    tells-of c.pull_set-set.result.outcome c.pull_set-set.result.tables.full c.report_of.result.outcome (g.W.Sink.failures c.args.output.now) (g.W.Sink.failures c.pull_set-set.new.output)
    c.report_of.ensures.outcome c.pull_set-set.ensures.write_faults

pub returns-else-setup-clause-whole : goal.returns-else-setup-clause-whole
returns-else-setup-clause-whole g c q is kept short =
    let s = setting_of c.args.setup.now (bounds_in c.args.rooms.now) c.args.desk.now in
    let page = plain_supply s.stages s.characters q in
    prints-at _ _ _ _ _ _ _ _ c.report_of-else-setup.ensures.moves c.report_of-else-setup.ensures.outcome
    (prints-read s false page _ _ _ _ _ c.if-setup.false (λ e. sym c.pull-pulled.ensures.no_tables ∙ e) (c.pull-pulled.ensures.whole q is kept short))

pub returns-else-setup-clause-cut : goal.returns-else-setup-clause-cut
returns-else-setup-clause-cut g c q n is after few short =
    let s = setting_of c.args.setup.now (bounds_in c.args.rooms.now) c.args.desk.now in
    let page = broken_off (plain_so_far s.stages s.characters (take n q.bytes)) in
    prints-at _ _ _ _ _ _ _ _ c.report_of-else-setup.ensures.moves c.report_of-else-setup.ensures.outcome
    (prints-read s false page _ _ _ _ _ c.if-setup.false (λ e. sym c.pull-pulled.ensures.no_tables ∙ e) (c.pull-pulled.ensures.cut q n is after few short))

pub returns-else-setup-clause-write_faults : goal.returns-else-setup-clause-write_faults
returns-else-setup-clause-write_faults g c =
    tells-of c.pull-pulled.result.outcome c.pull-pulled.result.tables.full c.report_of-else-setup.result.outcome (g.W.Sink.failures c.args.output.now) (g.W.Sink.failures c.pull-pulled.new.output)
    c.report_of-else-setup.ensures.outcome c.pull-pulled.ensures.write_faults

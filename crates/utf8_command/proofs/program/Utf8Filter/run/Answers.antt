use Rattle.std.proofs.Common.{◌≡◌, refl, subst, ap, ◌∙◌}
use Rattle.std.proofs.lemmas.List.{take_rest}
use Rattle.std.specs.Prelude.{Result}
use Rattle.filters.specs.Arguments.{texts}
use Rattle.filters.specs.Disk.{MayCome}
use Rattle.filters.specs.Program as programs
use Rattle.filters.proofs.Opening.{Asks-none}
use Rattle.filters.proofs.Words.{words-from}
use Rattle.utf8_command.specs.declared.arguments.Job.{Job}
use Rattle.utf8_command.specs.declared.arguments.Wrong.{Wrong}
use Rattle.utf8_command.specs.Arguments as given
use Rattle.utf8_command.specs.Converting.{AsksFor, what_of, word_of}
use Rattle.utf8_command.proofs.Running.{by-choice, by-fixed, by-own, by-version}
use Rattle.utf8_command.proofs.program.Utf8Filter.run.Goals as goal

pub returns-in-Err-clause-run : goal.returns-in-Err-clause-run
returns-in-Err-clause-run g c =
    let words = texts c.args.words.now in
    let job : programs.Job = programs.IsBad (what_of c.in-Err.wrong) (word_of words c.in-Err.wrong) in
    record {
      job = job;
      is_asked = subst (λ (r : Result Job Wrong). AsksFor words r job) c.in-Err.ensures.answer refl;
      comes = (Asks-none _, (refl, refl), c.bad_word.ensures);
    }

pub returns-in-Ok-Choose-clause-run : goal.returns-in-Ok-Choose-clause-run
returns-in-Ok-Choose-clause-run g c =
    let words = texts c.args.words.now in
    let first = c.args.disk.now in
    let last = c.choose_for.result.1 in
    by-choice (MayCome (g.I.Read.remaining first.standard) (g.P.Paths.may_open first.paths)) (g.P.Paths.asked first.paths) (g.P.Paths.asked c.choose_for.new.disk.paths)
    (g.W.Sink.held c.args.output) (g.W.Sink.held last) (g.W.Sink.failures c.args.output) (g.W.Sink.failures last) (g.W.Sink.passed_on last) words (given.asked words)
    c.chosen_file.result.now c.choose_for.result.0 (rw c.in-Ok-Choose.field-0-is at c.in-Ok-Choose.ensures.answer) c.chosen_file.ensures c.choose_for.ensures

pub returns-in-Ok-Version-clause-run : goal.returns-in-Ok-Version-clause-run
returns-in-Ok-Version-clause-run g c =
    let words = texts c.args.words.now in
    let first = c.args.disk.now in
    let last = c.put_version.result.1 in
    by-version (MayCome (g.I.Read.remaining first.standard) (g.P.Paths.may_open first.paths)) (g.P.Paths.asked first.paths) (g.W.Sink.held c.args.output)
    (g.W.Sink.held last) (g.W.Sink.failures c.args.output) (g.W.Sink.failures last) (g.W.Sink.passed_on last) words (given.asked words) c.put_version.result.0
    (rw c.in-Ok-Version.field-0-is at c.in-Ok-Version.ensures.answer) c.put_version.ensures

pub returns-in-Fixed-clause-run : goal.returns-in-Fixed-clause-run
returns-in-Fixed-clause-run g c =
    let words = c.args.words.now in
    let job = c.in-Ok-Turn in
    let first = c.args.disk.now in
    let last = c.turn_files.result.1 in
    by-fixed (MayCome (g.I.Read.remaining first.standard) (g.P.Paths.may_open first.paths)) (g.P.Paths.asked first.paths) (g.P.Paths.asked c.turn_files.new.disk.paths)
    (g.W.Sink.held c.args.output) (g.W.Sink.held last) (g.W.Sink.failures c.args.output) (g.W.Sink.failures last) (g.W.Sink.passed_on last) (texts words)
    (given.asked (texts words)) job.table c.in-Fixed.table job.escapes job.files _ c.turn_files.result.0 (rw job.field-0-is at job.ensures.answer) c.in-Fixed.is
    (ap texts (take_rest words job.files) ∙ words-from words job.files) c.turn_files.ensures.turns

pub returns-in-Own-clause-run : goal.returns-in-Own-clause-run
returns-in-Own-clause-run g c =
    let words = c.args.words.now in
    let job = c.in-Ok-Turn in
    let first = c.args.disk.now in
    let last = c.turn_own.result.1 in
    by-own (MayCome (g.I.Read.remaining first.standard) (g.P.Paths.may_open first.paths)) (g.P.Paths.asked first.paths) (g.P.Paths.asked c.turn_own.new.disk.paths)
    (g.W.Sink.held c.args.output) (g.W.Sink.held last) (g.W.Sink.failures c.args.output) (g.W.Sink.failures last) (g.W.Sink.passed_on last) (texts words)
    (given.asked (texts words)) job.table c.in-Own.place job.escapes job.files c.file_at.result.now _ c.turn_own.result.0 (rw job.field-0-is at job.ensures.answer) c.in-Own.is
    c.file_at.ensures (ap texts (take_rest words job.files) ∙ words-from words job.files) c.turn_own.ensures.comes

use Rattle.std.proofs.Common.{◌≡◌, ℕ, List, Option, Some, drop, refl, subst, ap, ◌∙◌}
use Rattle.std.proofs.lemmas.List.{take_rest}
use Rattle.std.specs.Prelude.{Result}
use Rattle.filters.specs.Arguments.{texts}
use Rattle.filters.specs.Disk.{MayCome}
use Rattle.filters.specs.Program as programs
use Rattle.filters.proofs.Opening.{Asks-none}
use Rattle.filters.proofs.Words.{words-from}
use Rattle.filters_own.specs.declared.names.Named.{Named}
use Rattle.filters_own.specs.declared.names.Named.TheVariants.{Fixed, Own}
use Rattle.preconv_command.specs.declared.arguments.Job.{Job}
use Rattle.preconv_command.specs.declared.arguments.Wrong.{Wrong}
use Rattle.preconv_command.specs.Arguments as given
use Rattle.preconv_command.specs.Converting.{AsksFor, what_of, word_of}
use Rattle.preconv_command.proofs.Running.{by-fixed, by-none, by-own}
use Rattle.preconv_command.proofs.program.PreconvFilter.run.Goals as goal

pub returns-in-Err-clause-run : goal.returns-in-Err-clause-run
returns-in-Err-clause-run g c =
    let words = texts c.args.words.now in
    let job : programs.Job = programs.IsBad (what_of c.in-Err.wrong) (word_of words c.in-Err.wrong) in
    record {
      job = job;
      is_asked = subst (λ (r : Result Job Wrong). AsksFor words r job) c.in-Err.ensures.answer refl;
      comes = (Asks-none _, (refl, refl), c.bad_word.ensures);
    }

pub returns-in-Some-Own-clause-run : goal.returns-in-Some-Own-clause-run
returns-in-Some-Own-clause-run g c =
    let words = c.args.words.now in
    let job = c.in-Ok.job in
    let asked = g.P.Paths.asked in
    let held = g.W.Sink.held in
    let writes = g.W.Sink.failures in
    let first = c.args.disk.now in
    let last = c.turn_own.result.1 in
    let place = c.in-Some-Own.place in
    let by : job.table ≡ Some (Own place) = let inner = rw c.in-Some-Own.is at c.in-Some-Own.field-0-is in c.in-Some-Own.is ∙ ap (λ (n : Named). Some n) inner in
    by-own (MayCome (g.I.Read.remaining first.standard) (g.P.Paths.may_open first.paths)) (asked first.paths) (asked c.turn_own.new.disk.paths)
    (held c.args.output) (held last) (writes c.args.output) (writes last) (g.W.Sink.passed_on last) (texts words) (given.asked (texts words)) job place c.file_at.result.now _ c.turn_own.result.0 c.in-Ok.ensures.answer by c.file_at.ensures
    (ap texts (take_rest words job.files) ∙ words-from words job.files) c.turn_own.ensures.comes

pub returns-in-Some-Fixed-clause-run : goal.returns-in-Some-Fixed-clause-run
returns-in-Some-Fixed-clause-run g c =
    let words = c.args.words.now in
    let job = c.in-Ok.job in
    let asked = g.P.Paths.asked in
    let held = g.W.Sink.held in
    let writes = g.W.Sink.failures in
    let first = c.args.disk.now in
    let last = c.turn_fixed.result.1 in
    let table = c.in-Some-Fixed.table in
    let by : job.table ≡ Some (Fixed table) = let inner = rw c.in-Some-Fixed.is at c.in-Some-Fixed.field-0-is in c.in-Some-Fixed.is ∙ ap (λ (n : Named). Some n) inner in
    by-fixed (MayCome (g.I.Read.remaining first.standard) (g.P.Paths.may_open first.paths)) (asked first.paths) (asked c.turn_fixed.new.disk.paths)
    (held c.args.output) (held last) (writes c.args.output) (writes last) (g.W.Sink.passed_on last) (texts words) (given.asked (texts words)) job table _ c.turn_fixed.result.0 c.in-Ok.ensures.answer by
    (ap texts (take_rest words job.files) ∙ words-from words job.files) c.turn_fixed.ensures.turns

pub returns-in-None-clause-run : goal.returns-in-None-clause-run
returns-in-None-clause-run g c =
    let words = c.args.words.now in
    let job = c.in-Ok.job in
    let asked = g.P.Paths.asked in
    let held = g.W.Sink.held in
    let writes = g.W.Sink.failures in
    let first = c.args.disk.now in
    let last = c.turn_fixed-in-None.result.1 in
    by-none (MayCome (g.I.Read.remaining first.standard) (g.P.Paths.may_open first.paths)) (asked first.paths) (asked c.turn_fixed-in-None.new.disk.paths)
    (held c.args.output) (held last) (writes c.args.output) (writes last) (g.W.Sink.passed_on last) (texts words) (given.asked (texts words)) job _ c.turn_fixed-in-None.result.0 c.in-Ok.ensures.answer c.in-None.is
    (ap texts (take_rest words job.files) ∙ words-from words job.files) c.turn_fixed-in-None.ensures.turns

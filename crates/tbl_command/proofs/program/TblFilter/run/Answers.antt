use Rattle.std.proofs.Common.{◌≡◌, ℕ, List, [], Bor, Some, refl, sym, subst, ap, ◌∙◌}
use Rattle.std.proofs.lemmas.List.{take_rest}
use Rattle.filters.specs.Arguments.{texts}
use Rattle.filters.specs.Disk.{MayCome}
use Rattle.filters.specs.Program.{IsReportedWord}
use Rattle.filters.proofs.Opening.{Asks-none}
use Rattle.filters.proofs.Words.{word-at, words-from}
use Rattle.filters_own.specs.declared.names.Named.{Named}
use Rattle.filters_own.specs.declared.names.Named.TheVariants.{Fixed, Own}
use Rattle.tbl_command.specs.Converting.{what_of, word_of}
use Rattle.tbl_command.proofs.Running.{by-fixed, by-none, by-own}
use Rattle.tbl_command.proofs.program.TblFilter.run.Goals as goal

pub returns-in-Err-clause-run : goal.returns-in-Err-clause-run
returns-in-Err-clause-run g c =
    let none : Bor (List ℕ) = record { ref_ptr = (0, 0); now = [] } in
    let bad = c.in-Err.bad in
    record {
      job = _;
      is_asked = (_, c.in-Err.ensures.answer, refl);
      comes = (
        Asks-none _,
        (refl, refl),
        subst (λ (word : List ℕ). IsReportedWord (what_of bad.wrong) (word_of word bad.wrong) c.bad_word.result)
            (sym (word-at c.args.words.now bad.place none c.in-Err.ensures.bad)) c.bad_word.ensures,
      );
    }

pub returns-in-Some-Own-clause-run : goal.returns-in-Some-Own-clause-run
returns-in-Some-Own-clause-run g c =
    let words = c.args.words.now in
    let job = c.in-Ok.job in
    let asked = g.P.Paths.asked in
    let held = g.W.Sink.held in
    let writes = g.W.Sink.failures in
    let first = c.args.disk.now in
    let last = c.turn_own.result.1 in
    let place = c.in-Some-Own.place in
    let by : job.characters ≡ Some (Own place) = let inner = rw c.in-Some-Own.is at c.in-Some-Own.field-0-is in c.in-Some-Own.is ∙ ap (λ (n : Named). Some n) inner in
    by-own (MayCome (g.I.Read.remaining first.standard) (g.P.Paths.may_open first.paths)) (asked first.paths) (asked c.turn_own.new.disk.paths)
    (held c.args.output) (held last) (writes c.args.output) (writes last) (g.W.Sink.passed_on last) (texts words) job place c.file_at.result.now _ c.turn_own.result.0 c.in-Ok.ensures.answer by c.file_at.ensures
    (ap texts (take_rest words job.files) ∙ words-from words job.files) c.turn_own.ensures.comes

pub returns-in-Some-Fixed-clause-run : goal.returns-in-Some-Fixed-clause-run
returns-in-Some-Fixed-clause-run g c =
    let words = c.args.words.now in
    let job = c.in-Ok.job in
    let asked = g.P.Paths.asked in
    let held = g.W.Sink.held in
    let writes = g.W.Sink.failures in
    let first = c.args.disk.now in
    let last = c.turn_fixed.result.1 in
    let table = c.in-Some-Fixed.table in
    let by : job.characters ≡ Some (Fixed table) = let inner = rw c.in-Some-Fixed.is at c.in-Some-Fixed.field-0-is in c.in-Some-Fixed.is ∙ ap (λ (n : Named). Some n) inner in
    by-fixed (MayCome (g.I.Read.remaining first.standard) (g.P.Paths.may_open first.paths)) (asked first.paths) (asked c.turn_fixed.new.disk.paths)
    (held c.args.output) (held last) (writes c.args.output) (writes last) (g.W.Sink.passed_on last) (texts words) job table _ c.turn_fixed.result.0 c.in-Ok.ensures.answer by
    (ap texts (take_rest words job.files) ∙ words-from words job.files) c.turn_fixed.ensures.turns

pub returns-in-None-clause-run : goal.returns-in-None-clause-run
returns-in-None-clause-run g c =
    let words = c.args.words.now in
    let job = c.in-Ok.job in
    let asked = g.P.Paths.asked in
    let held = g.W.Sink.held in
    let writes = g.W.Sink.failures in
    let first = c.args.disk.now in
    let last = c.turn_fixed-in-None.result.1 in
    by-none (MayCome (g.I.Read.remaining first.standard) (g.P.Paths.may_open first.paths)) (asked first.paths) (asked c.turn_fixed-in-None.new.disk.paths)
    (held c.args.output) (held last) (writes c.args.output) (writes last) (g.W.Sink.passed_on last) (texts words) job _ c.turn_fixed-in-None.result.0 c.in-Ok.ensures.answer c.in-None.is
    (ap texts (take_rest words job.files) ∙ words-from words job.files) c.turn_fixed-in-None.ensures.turns

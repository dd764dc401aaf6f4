use Rattle.std.proofs.Common.{◌≡◌, ℕ, ◌+◌, ◌-◌, ◌≤◌, List, [], ◌∷◌, length, drop, slice_index_or, Bool, true, false, Result, Ok, codes, sym, ap, subst, ◌∙◌, arith}
use Rattle.std.specs.Borrow.{Bor}
use Rattle.std.specs.Str.{bytes_eq}
use Rattle.tbl_command.specs.declared.arguments.BadWord.{BadWord}
use Rattle.tbl_command.specs.declared.arguments.Job.{Job}
use Rattle.tbl_command.specs.declared.arguments.Wrong.TheVariants.{NoTable}
use Rattle.tbl_command.specs.Arguments.{ComesTo, IsAnswer, at, is_wrong, texts}
use Rattle.tbl_command.proofs.Answering.{compared, file_stands, formats_fit, goes_on, named, next_word, no_word, only, option_bad, option_keeps, option_sets, row_fits, table_follows, unnamed}
use Rattle.tbl_command.proofs.arguments.read_words.Goals.{then-awaits+in-Some, else-awaits+else-not-is_option+then-eq, else-awaits+else-not-is_option+else-eq+then-eq-2, else-awaits+else-not-is_option+else-eq+else-eq-2+in-Ok}
use Rattle.tbl_command.proofs.arguments.read_words.Goals as goal

abbrev nowhere : Bor (List ℕ)
nowhere = record { ref_ptr = (0, 0); now = [] }

-- the word of this turn
abbrev word_at : List (Bor (List ℕ)) → ℕ → List ℕ
word_at words place = (slice_index_or words place nowhere).now

pub returns-in_default-clause-only : goal.returns-in_default-clause-only
returns-in_default-clause-only c =
    let words = c.args.words.now in
    let l = c.loop-place in
    only (texts words) _ (next_word l.awaits true l.job l.place words nowhere c.loop-place-test.true c.if-awaits.true l.invariant.comes _
    (unnamed l.job l.place (word_at words l.place) (texts (drop (l.place + 1) words)) (sym c.table_at.ensures ∙ c.in_default.is)))

pub returns-then-not-is_option-clause-only : goal.returns-then-not-is_option-clause-only
returns-then-not-is_option-clause-only c =
    let words = c.args.words.now in
    let l = c.loop-place in
    only (texts words) _ (subst (λ (job : Job). IsAnswer (texts words) (Ok job)) (sym c.at.ensures)
    (next_word l.awaits false l.job l.place words nowhere c.loop-place-test.true c.if-awaits.false l.invariant.comes _
    (file_stands l.job l.place (word_at words l.place) (texts (drop (l.place + 1) words)) (sym c.is_option.ensures ∙ c.if-not-is_option.true))))

is_bad : (c : goal.In-Err) → IsAnswer (texts c.args.words.now) (is_wrong c.loop-place.place c.in-Err.wrong)
is_bad c =
    let words = c.args.words.now in
    let l = c.loop-place in
    let names : bytes_eq (word_at words l.place) (codes "-u") ≡ false =
    compared _ _ _ _ _ c.as_bytes.ensures.value c.as_slice.ensures c.eq.ensures ∙ c.if-eq.false in
    let keeps : bytes_eq (word_at words l.place) (codes "-n") ≡ false =
    compared _ _ _ _ _ c.as_bytes-else-eq.ensures.value c.as_slice-else-eq.ensures c.eq-else-eq.ensures ∙ c.if-eq-2.false in
    next_word l.awaits false l.job l.place words nowhere c.loop-place-test.true c.if-awaits.false l.invariant.comes _
    (option_bad l.job l.place (word_at words l.place) (texts (drop (l.place + 1) words)) c.in-Err.wrong (sym c.is_option.ensures ∙ c.if-not-is_option.false) names keeps c.in-Err.ensures)

pub returns-in-Err-clause-answer : goal.returns-in-Err-clause-answer
returns-in-Err-clause-answer c = is_bad c

pub returns-in-Err-clause-only : goal.returns-in-Err-clause-only
returns-in-Err-clause-only c = only (texts c.args.words.now) _ (is_bad c)

pub loop-place-preserved : goal.loop-place-preserved
loop-place-preserved c =
    let words = c.args.words.now in
    let l = c.loop-place in
    let rest = texts (drop (l.place + 1) words) in
    let leads : (known : Bool) → l.awaits ≡ known → (answer : Result Job BadWord)
    → ComesTo known l.job l.place (word_at words l.place ∷ rest) answer → IsAnswer (texts words) answer =
    λ known is. next_word l.awaits known l.job l.place words nowhere c.loop-place-test.true is l.invariant.comes in
    elim c.if-awaits.branch [
      | then-awaits+in-Some w ↦ record {
        comes = λ answer comes. leads true w.if-awaits.true answer
            (named l.job l.place (word_at words l.place) rest answer _ (sym w.table_at.ensures ∙ w.in-Some.is)
            (goes_on c.if-awaits.awaits false c.if-awaits.job _ (l.place + 1) rest answer w.awaits-is (w.job-is ∙ w.with_table-job.ensures) comes));
        awaited = λ is. omega arith;
        formats = subst (λ (job : Job). job.formats ≤ 1048576) (sym (w.job-is ∙ w.with_table-job.ensures)) l.invariant.formats;
        row = subst (λ (job : Job). job.row ≤ 1048576) (sym (w.job-is ∙ w.with_table-job.ensures)) l.invariant.row;
      }
      | else-awaits+else-not-is_option+then-eq w ↦ record {
        comes = λ answer comes. leads false w.if-awaits.false answer
            (table_follows l.job l.place (word_at words l.place) rest answer (sym w.is_option.ensures ∙ w.if-not-is_option.false)
            (compared _ _ _ _ _ w.as_bytes.ensures.value w.as_slice.ensures w.eq.ensures ∙ w.if-eq.true)
            (goes_on c.if-awaits.awaits true c.if-awaits.job _ (l.place + 1) rest answer w.awaits-is w.job-is comes));
        awaited = λ is. omega arith;
        formats = subst (λ (job : Job). job.formats ≤ 1048576) (sym w.job-is) l.invariant.formats;
        row = subst (λ (job : Job). job.row ≤ 1048576) (sym w.job-is) l.invariant.row;
      }
      | else-awaits+else-not-is_option+else-eq+then-eq-2 w ↦ record {
        comes = λ answer comes. leads false w.if-awaits.false answer
            (option_keeps l.job l.place (word_at words l.place) rest answer (sym w.is_option.ensures ∙ w.if-not-is_option.false)
            (compared _ _ _ _ _ w.as_bytes.ensures.value w.as_slice.ensures w.eq.ensures ∙ w.if-eq.false)
            (compared _ _ _ _ _ w.as_bytes-else-eq.ensures.value w.as_slice-else-eq.ensures w.eq-else-eq.ensures ∙ w.if-eq-2.true)
            (goes_on c.if-awaits.awaits false c.if-awaits.job _ (l.place + 1) rest answer (w.awaits-is ∙ w.if-awaits.false) (w.job-is ∙ w.without_fit-job.ensures) comes));
        awaited = λ is. omega arith;
        formats = subst (λ (job : Job). job.formats ≤ 1048576) (sym (w.job-is ∙ w.without_fit-job.ensures)) l.invariant.formats;
        row = subst (λ (job : Job). job.row ≤ 1048576) (sym (w.job-is ∙ w.without_fit-job.ensures)) l.invariant.row;
      }
      | else-awaits+else-not-is_option+else-eq+else-eq-2+in-Ok w ↦ record {
        comes = λ answer comes. leads false w.if-awaits.false answer
            (option_sets l.job l.place (word_at words l.place) rest answer w.in-Ok.setting (sym w.is_option.ensures ∙ w.if-not-is_option.false)
            (compared _ _ _ _ _ w.as_bytes.ensures.value w.as_slice.ensures w.eq.ensures ∙ w.if-eq.false)
            (compared _ _ _ _ _ w.as_bytes-else-eq.ensures.value w.as_slice-else-eq.ensures w.eq-else-eq.ensures ∙ w.if-eq-2.false)
            w.in-Ok.ensures
            (goes_on c.if-awaits.awaits false c.if-awaits.job _ (l.place + 1) rest answer (w.awaits-is ∙ w.if-awaits.false) (w.job-is ∙ w.with-job.ensures) comes));
        awaited = λ is. omega arith;
        formats = subst (λ (job : Job). job.formats ≤ 1048576) (sym (w.job-is ∙ w.with-job.ensures))
            (formats_fit w.in-Ok.setting.which w.in-Ok.setting.limit l.job w.in-Ok.ensures.most l.invariant.formats);
        row = subst (λ (job : Job). job.row ≤ 1048576) (sym (w.job-is ∙ w.with-job.ensures))
            (row_fits w.in-Ok.setting.which w.in-Ok.setting.limit l.job w.in-Ok.ensures.most l.invariant.row);
      }
    ]

pub returns-then-awaits-2-clause-only : goal.returns-then-awaits-2-clause-only
returns-then-awaits-2-clause-only c =
    let words = c.args.words.now in
    let l = c.loop-place in
    let all : length words ≡ l.place = omega (arith, l.auto.place-end, c.loop-place-test.false) in
    only (texts words) _ (no_word l.awaits true l.job l.place words (omega (arith, all)) c.if-awaits-2.true l.invariant.comes _
    (ap (λ (n : ℕ). is_wrong (n - 1) NoTable) all))

pub returns-clause-only : goal.returns-clause-only
returns-clause-only c =
    let words = c.args.words.now in
    let l = c.loop-place in
    let all : length words ≡ l.place = omega (arith, l.auto.place-end, c.loop-place-test.false) in
    only (texts words) _ (no_word l.awaits false l.job l.place words (omega (arith, all)) c.if-awaits-2.false l.invariant.comes _
    (ap Ok (c.at-2.ensures ∙ ap (λ (n : ℕ). at n l.job) all)))

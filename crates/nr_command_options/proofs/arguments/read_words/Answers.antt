use Rattle.std.proofs.Common.{◌≡◌, ℕ, take, ap, subst, sym, ◌∙◌, [], List, arith}
use Rattle.std.proofs.Math.Seq.{take_all}
use Rattle.nr_command_options.specs.Arguments.{Asked, asked_by, files, options}
use Rattle.nr_command_options.specs.Job.{Taken, asked_of, texts}
use Rattle.nr_command_options.proofs.Asking.{Taken-nil, Taken-more}
use Rattle.nr_command_options.proofs.FirstBad.{IsGood-taken, only_good, IsFirstBad-refused, only_bad}
use Rattle.nr_command_options.proofs.Parting.{files-drop, options-take, option_at, texts_cut, texts_more}
use Rattle.nr_command_options.proofs.arguments.read_words.Goals as goal

pub take-requires : goal.take-requires
take-requires c = option_at c.args.words.now c.split_at.result.0.now c.options_len.result c.loop-option.option-index _ c.split_at.ensures.front c.options_len.ensures.value c.loop-option-test.true

pub loop-option-init : goal.loop-option-init
loop-option-init c =
    let words = c.args.words.now in
    let afterwards : texts c.split_at.result.1.now ≡ files (texts words) = ap texts c.split_at.ensures.back ∙ files-drop c.options_len.result words c.options_len.ensures.value in
    let asked : asked_of c.plain-job.result ≡ asked_by [] (files (texts words)) = c.plain-job.ensures ∙ ap (asked_by []) afterwards in
    subst (λ (a : Asked). Taken [] (files (texts words)) a) (sym asked) (Taken-nil (files (texts words)))

pub returns-in-Err-clause-answer : goal.returns-in-Err-clause-answer
returns-in-Err-clause-answer c =
    let words = c.args.words.now in
    let prefix = c.split_at.result.0.now in
    let i = c.loop-option.option-index in
    let is : options (texts words) ≡ texts prefix = sym (ap texts c.split_at.ensures.front ∙ options-take c.options_len.result words c.options_len.ensures.value) in
    IsFirstBad-refused (texts words) (texts (take i prefix)) _ (files (texts words)) (asked_of c.loop-option.job) _ c.in-Err.case c.loop-option.invariant
    (is ∙ texts_cut prefix i _ c.loop-option-test.true) c.in-Err.ensures

pub returns-in-Err-clause-only : goal.returns-in-Err-clause-only
returns-in-Err-clause-only c =
    let words = c.args.words.now in
    let prefix = c.split_at.result.0.now in
    let i = c.loop-option.option-index in
    let is : options (texts words) ≡ texts prefix = sym (ap texts c.split_at.ensures.front ∙ options-take c.options_len.result words c.options_len.ensures.value) in
    only_bad (texts words) (texts (take i prefix)) _ (files (texts words)) (asked_of c.loop-option.job) _ c.in-Err.case c.loop-option.invariant
    (is ∙ texts_cut prefix i _ c.loop-option-test.true) c.in-Err.ensures

pub loop-option-preserved : goal.loop-option-preserved
loop-option-preserved c =
    let prefix = c.split_at.result.0.now in
    let i = c.loop-option.option-index in
    let took = c.in_default.ensures in
    let fs = files (texts c.args.words.now) in
    subst (λ (ws : List (List ℕ)). Taken ws fs (asked_of c.take.new.self)) (sym (texts_more prefix i _ c.loop-option-test.true))
    (Taken-more (texts (take i prefix)) fs (asked_of c.loop-option.job) (asked_of c.take.new.self) _ took.0 c.loop-option.invariant took.1 took.2 took.3)

pub returns-clause-answer : goal.returns-clause-answer
returns-clause-answer c =
    let words = c.args.words.now in
    let prefix = c.split_at.result.0.now in
    let i = c.loop-option.option-index in
    let all : take i prefix ≡ prefix = take_all i prefix (omega arith) in
    let is : texts (take i prefix) ≡ options (texts words) = ap texts (all ∙ c.split_at.ensures.front) ∙ options-take c.options_len.result words c.options_len.ensures.value in
    IsGood-taken (texts words) (asked_of c.loop-option.job) (subst (λ (ws : List (List ℕ)). Taken ws (files (texts words)) (asked_of c.loop-option.job)) is c.loop-option.invariant)

pub returns-clause-only : goal.returns-clause-only
returns-clause-only c =
    let words = c.args.words.now in
    let prefix = c.split_at.result.0.now in
    let i = c.loop-option.option-index in
    let all : take i prefix ≡ prefix = take_all i prefix (omega arith) in
    let is : texts (take i prefix) ≡ options (texts words) = ap texts (all ∙ c.split_at.ensures.front) ∙ options-take c.options_len.result words c.options_len.ensures.value in
    only_good (texts words) (asked_of c.loop-option.job) (subst (λ (ws : List (List ℕ)). Taken ws (files (texts words)) (asked_of c.loop-option.job)) is c.loop-option.invariant)

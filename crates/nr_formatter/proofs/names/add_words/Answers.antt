use Rattle.std.specs.Prelude.{◌==◌}
use Rattle.std.proofs.Common.{◌≡◌, ℕ, List, length, true, ap, sym, ◌∙◌}
use Rattle.nr_settings.specs.Arguments.{word_in}
use Rattle.nr_formatter.specs.Limits.{stored_limits}
use Rattle.nr_formatter.proofs.LimitsStay.{worded-limits}
use Rattle.nr_formatter.proofs.WordsStored.{words-none, words-refused, words-kept, kept-within, within-made}
use Rattle.nr_formatter.proofs.names.add_words.Goals as goal

pub returns-then-is_empty-clause-ok : goal.returns-then-is_empty-clause-ok
returns-then-is_empty-clause-ok c =
    let line = c.loop-word.arguments.rest.now in
    let none : length (word_in line) == 0 ≡ true = ap (λ (w : List ℕ). length w == 0) (sym c.word-word.ensures.word) ∙ (sym c.is_empty.ensures ∙ c.if-is_empty.true) in
    sym (words-none (length c.args.line.now) c.loop-word._word line c.loop-word.store none) ∙ c.loop-word.invariant.rest

pub returns-then-is_empty-clause-answer : goal.returns-then-is_empty-clause-answer
returns-then-is_empty-clause-answer c = λ fits.
    let line = c.loop-word.arguments.rest.now in
    let none : length (word_in line) == 0 ≡ true = ap (λ (w : List ℕ). length w == 0) (sym c.word-word.ensures.word) ∙ (sym c.is_empty.ensures ∙ c.if-is_empty.true) in
    let all = sym (words-none (length c.args.line.now) c.loop-word._word line c.loop-word.store none) ∙ c.loop-word.invariant.rest in
    rw (← all) (within-made c.loop-word.store (c.loop-word.invariant.within fits))

pub returns-in-Err-clause-answer : goal.returns-in-Err-clause-answer
returns-in-Err-clause-answer c = λ fits.
    words-refused (length c.args.line.now) c.loop-word._word c.loop-word.arguments.rest.now c.word-word.result.now c.loop-word.store _ c.in-Err.full c.loop-word-test.true
    (sym c.is_empty.ensures ∙ c.if-is_empty.false) c.word-word.ensures.word c.loop-word.invariant.rest c.in-Err.ensures.answer

pub loop-word-preserved : goal.loop-word-preserved
loop-word-preserved c =
    record {
      rest = words-kept (length c.args.line.now) c.loop-word._word c.loop-word.arguments.rest.now c.word-word.new.self.rest.now c.word-word.result.now c.loop-word.store c.add_word.new.self _
          c.loop-word-test.true (sym c.is_empty.ensures ∙ c.if-is_empty.false) c.word-word.ensures.word c.word-word.ensures.rest c.in-Ok.ensures.ok c.loop-word.invariant.rest;
      limits = ap stored_limits c.in-Ok.ensures.ok ∙ worded-limits c.word-word.result.now c.loop-word.store ∙ c.loop-word.invariant.limits;
      within = λ fits. kept-within c.add_word.new.self _ c.in-Ok.ensures.ok c.in-Ok.ensures.answer;
    }

pub returns-in-Err-clause-limits : goal.returns-in-Err-clause-limits
returns-in-Err-clause-limits c = ap stored_limits c.in-Err.ensures.err ∙ c.loop-word.invariant.limits

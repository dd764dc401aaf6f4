use Rattle.std.proofs.Common.{◌≡◌, ◌+◌, ◌-◌, ◌<◌, length, refl, sym, ap, ◌∙◌, subst, arith}
use Rattle.std.specs.Prelude.{slice_index}
use Rattle.fast_input.specs.AtHand.{after_last}
use Rattle.nr_input.specs.Place.{HoldsComing}
use Rattle.nr_fill.specs.Piece.{text_cells}
use Rattle.nr_formatter.specs.Access.{collected}
use Rattle.nr_formatter.specs.Many.Runs.{is_in_line}
use Rattle.nr_formatter.specs.declared.formatter.Formatter.{Formatter}
use Rattle.nr_machine.specs.Holding.{shape}
use Rattle.fast_machine.specs.Running.{HasNext, Longest, unburst}
use Rattle.fast_machine.proofs.TextAtHand.{longest_taken, makes_taken}
use Rattle.fast_machine.proofs.plain_text.put_source_text.Given.{Over}
use Rattle.fast_machine.proofs.plain_text.put_source_text.Goals.{After-take_window}
use Rattle.fast_machine.proofs.plain_text.put_source_text.Goals as goal

-- some were put
some : (g : Over) (c : After-take_window g) → 0 < c.put_words-words.result.taken
some g c = omega (arith, c.if-words-eq0.false)

-- they come next
has : (g : Over) (c : After-take_window g) → HasNext c.prefix_at_hand-bytes.result.now (shape c.args.engine.now) (g.R.Source.supply c.args.input.now)
has g c =
    let any : 0 < length c.prefix_at_hand-bytes.result.now = omega (arith, some g c, c.put_words-words.ensures.puts.prefix) in
    c.prefix_at_hand-bytes.ensures.next any

pub returns-clause-reads : goal.returns-clause-reads
returns-clause-reads g c =
    let h = (goal.at.returns-clause-reads g c).After-take_window in
    let words = c.put_words-words.result in
    let new = g.R.Source.supply c.take_window.new.source in
    let taken = c.take_window.ensures in
    record {
      makes = rw (taken.reader, taken.place) (makes_taken words.taken words.moves c.prefix_at_hand-bytes.result.now (shape c.args.engine.now) (g.R.Source.supply c.args.input.now) new
          c.put_words-words.new.formatter c.put_words-words.ensures.puts (some g h) (has g h)
          (λ k q. subst (λ p. HoldsComing (after_last (slice_index c.prefix_at_hand-bytes.result.now (words.taken - 1)) words.taken k) p new) taken.place (taken.coming k q)));
      failures = taken.failures;
      unfailed = λ u. rw taken.place refl;
    }

pub returns-clause-most : goal.returns-clause-most
returns-clause-most g c =
    let h = (goal.at.returns-clause-most g c).After-take_window in
    let words = c.put_words-words.result in
    let f = c.put_words-words.new.formatter in
    let taken = c.take_window.ensures in
    let start = c.args.engine.now.place.taken in
    let count : start + words.taken - start ≡ words.taken = omega arith in
    let longest = longest_taken c.prefix_at_hand-bytes.result.now words.taken words.moves f c.put_words-words.ensures.longest in
    let puts = c.put_words-words.ensures.puts in
    record {
      longest = λ levels unseen few.
          rw (taken.reader, taken.place, count) (subst (λ xs. Longest xs words.taken words.moves (unburst f)) (c.prefix_at_hand-bytes.ensures.whole levels unseen few) longest);
      some = λ levels unseen begins. omega (arith, some g h, puts.least);
      saves = λ moved. rw (taken.reader, taken.place) (puts.saves (shape c.args.engine.now) (g.R.Source.supply c.args.input.now) refl (has g h) (some g h));
    }

pub returns-then-words-eq0-clause-most : goal.returns-then-words-eq0-clause-most
returns-then-words-eq0-clause-most g c =
    let words = c.put_words-words.result in
    let bytes = c.prefix_at_hand-bytes.result.now in
    let new = c.put_words-words.new.formatter in
    let puts = c.put_words-words.ensures.puts in
    let none : words.taken ≡ 0 = omega (arith, c.if-words-eq0.true) in
    let unmoved : words.moves ≡ 0 = omega (arith, none, puts.most) in
    let same = puts.none none in
    let longest : Longest bytes 0 0 new =
    subst (λ n. Longest bytes n 0 new) none (subst (λ n. Longest bytes words.taken n new) unmoved c.put_words-words.ensures.longest) in
    let start = c.args.engine.now.place.taken in
    let count : start - start ≡ 0 = omega arith in
    record {
      longest = λ levels unseen few. rw count (subst (λ xs. Longest xs 0 0 new) (c.prefix_at_hand-bytes.ensures.whole levels unseen few) longest);
      some = λ levels unseen begins.
          let there = c.prefix_at_hand-bytes.ensures.begins levels unseen begins in
          let full = ap (λ (f : Formatter). text_cells (collected f)) (sym same) ∙ longest.words.stops there.some (ap is_in_line same ∙ c.requires.line) there.plain ∙ ap (λ (f : Formatter). f.line.limit) same in
          absurd (there.room full);
      saves = λ moved. absurd (omega (arith, moved));
    }

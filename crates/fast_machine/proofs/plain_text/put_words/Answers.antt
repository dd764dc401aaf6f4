use Prim.Native.Char.{code}
use Rattle.std.proofs.Common.{◌≡◌, ℕ, ◌+◌, ◌<◌, List, length, drop, refl, sym, ap, ◌∙◌, subst, arith}
use Rattle.std.specs.Prelude.{slice_index}
use Rattle.std.proofs.lemmas.List.{take_rest}
use Rattle.nr_reading.specs.Many.InText.{is_in_text}
use Rattle.nr_reading.specs.Many.Interpolations.{interpolates}
use Rattle.nr_reading.specs.Many.LineBeginnings.{IsBeforeLine}
use Rattle.fast_input.specs.Fonts.{BeginsFont}
use Rattle.nr_formatter.specs.Many.LineBeginnings.{BeginsText, is_at_text}
use Rattle.nr_formatter.specs.Many.Runs.{is_in_line}
use Rattle.nr_formatter.specs.declared.formatter.Formatter.{Formatter}
use Rattle.fast_machine.specs.NextEscapes.{BeginsEscape}
use Rattle.fast_machine.specs.Running.{Longest, LongestWords, PutsText}
use Rattle.fast_machine.proofs.LineBeginnings.{begun_line}
use Rattle.fast_machine.proofs.TextAtHand.{puts_on, rest_of}
use Rattle.fast_machine.proofs.LinesAtHand.{before_out, flows_away, flows_out, goes_begun, goes_first, goes_put, line_at_text, line_before, line_ends, line_flows, longest_line, longest_out, no_escape, no_font, takes_longest, words_after}
use Rattle.fast_machine.proofs.plain_text.put_words.Goals.{After-put_line_words-line}
use Rattle.fast_machine.proofs.plain_text.put_words.Goals as goal

-- the bytes that were given
abbrev all : (c : After-put_line_words-line) → List ℕ
all c = c.args.bytes.now

-- what was taken of them, and the moves
abbrev taken : (c : After-put_line_words-line) → ℕ
taken c = c.loop-taken.taken + c.put_line_words-line.result.taken

abbrev moves : (c : After-put_line_words-line) → ℕ
moves c = c.loop-taken.moves + c.put_line_words-line.result.moves

-- the formatter after a line's words
abbrev afterwards : (c : After-put_line_words-line) → Formatter
afterwards c = c.put_line_words-line.new.formatter

-- as many of the words as could be were put
longest : (c : After-put_line_words-line) → LongestWords (drop c.loop-taken.taken (all c)) c.put_line_words-line.result.taken (afterwards c)
longest c = subst (λ xs. LongestWords xs c.put_line_words-line.result.taken (afterwards c)) (take_rest (all c) c.loop-taken.taken) c.put_line_words-line.ensures.longest

-- all was put up to them
puts : (c : After-put_line_words-line) → PutsText (all c) (taken c) (moves c) c.args.formatter.now (afterwards c)
puts c =
    let t = c.loop-taken.taken in
    let n = c.put_line_words-line.result.taken in
    let k = c.put_line_words-line.result.moves in
    let g = c.loop-taken.formatter in
    let line : PutsText (drop t (all c)) n k g (afterwards c) = subst (λ xs. PutsText xs n k g (afterwards c)) (take_rest (all c) t) c.put_line_words-line.ensures.puts in
    c.loop-taken.invariant.goes_on n k (afterwards c) (takes_longest (drop t (all c)) n k g (afterwards c) c.loop-taken.invariant.line line (longest c)) line

words : (c : After-put_line_words-line) → LongestWords (all c) (taken c) (afterwards c)
words c = words_after c.loop-taken.taken c.put_line_words-line.result.taken (all c) (afterwards c) (longest c)

pub loop-taken-init : goal.loop-taken-init
loop-taken-init c = record { line = c.requires.line; prefix = omega arith; few = omega arith; goes_on = goes_first c.args.bytes.now c.args.formatter.now }

pub returns-then-taken-bytes-clause-puts : goal.returns-then-taken-bytes-clause-puts
returns-then-taken-bytes-clause-puts c = puts ((goal.at.returns-then-taken-bytes-clause-puts c).After-put_line_words-line)

pub returns-then-taken-bytes-clause-longest : goal.returns-then-taken-bytes-clause-longest
returns-then-taken-bytes-clause-longest c =
    let h = (goal.at.returns-then-taken-bytes-clause-longest c).After-put_line_words-line in
    longest_line (all h) (taken h) (moves h) (afterwards h) (puts h).least (puts h).most (words h) c.put_line_words-line.ensures.line
    (λ below is newline. omega (arith, below, c.if-taken-bytes.true)) (λ line. no_font (taken h) (all h) (is_in_text (afterwards h).reader.half) (λ below is. omega (arith, below, c.if-taken-bytes.true)))
    (λ line. no_escape (taken h) (all h) (afterwards h) (λ below is. omega (arith, below, c.if-taken-bytes.true)))

pub returns-in-Left-clause-puts : goal.returns-in-Left-clause-puts
returns-in-Left-clause-puts c =
    let h = (goal.at.returns-in-Left-clause-puts c).After-put_line_words-line in
    subst (λ (x : Formatter). PutsText (all h) (taken h) (moves h) c.args.formatter.now x) (sym c.in-Left.ensures.is) (puts h)

pub returns-in-Left-clause-longest : goal.returns-in-Left-clause-longest
returns-in-Left-clause-longest c =
    let h = (goal.at.returns-in-Left-clause-longest c).After-put_line_words-line in
    subst (λ (x : Formatter). Longest (all h) (taken h) (moves h) x) (sym c.in-Left.ensures.is)
    (longest_line (all h) (taken h) (moves h) (afterwards h) (puts h).least (puts h).most (words h) c.put_line_words-line.ensures.line (λ below is. c.in-Left.ensures.left refl)
    (λ line. no_font (taken h) (all h) (is_in_text (afterwards h).reader.half) (λ below is. omega (arith, is, c.if-bytes-taken-ne10.false)))
    (λ line. no_escape (taken h) (all h) (afterwards h) (λ below is. omega (arith, is, c.if-bytes-taken-ne10.false))))

pub returns-in-Flows-clause-puts : goal.returns-in-Flows-clause-puts
returns-in-Flows-clause-puts c =
    let h = (goal.at.returns-in-Flows-clause-puts c).After-put_line_words-line in
    let flows = c.in-Flows.ensures.is in
    let below : taken h < length (all h) = omega (arith, (puts h).prefix, c.if-taken-bytes.false) in
    let newline : slice_index (all h) (taken h) ≡ code "\n" = omega (arith, c.if-bytes-taken-ne10.false) in
    line_flows (taken h) (moves h) (all h) c.args.formatter.now (afterwards h) (puts h) below newline flows.0 c.put_newline.new.self flows.1

pub returns-in-Flows-clause-longest : goal.returns-in-Flows-clause-longest
returns-in-Flows-clause-longest c =
    let h = (goal.at.returns-in-Flows-clause-longest c).After-put_line_words-line in
    let is = c.in-Flows.ensures.is.1 in
    let g = c.put_newline.new.self in
    longest_out (all h) (taken h + 1) (moves h + 2) g (omega (arith, (puts h).least)) (omega (arith, (puts h).most)) (flows_out (afterwards h) g is)
    (λ at begins. flows_away (afterwards h) g is at) (λ at plain begins. flows_away (afterwards h) g is at)

pub begin_font-font-requires-clause-text : goal.begin_font-font-requires-clause-text
begin_font-font-requires-clause-text c =
    let h = (goal.at.begin_font-font-requires-clause-text c).After-put_line_words-line in
    let reads = c.in-Reads.ensures.is in
    ap is_at_text c.if-not-begin_text.ensures.1 ∙ line_at_text (afterwards h) c.put_newline.new.self reads.0 reads.2

pub begin_font-font-requires-clause-start : goal.begin_font-font-requires-clause-start
begin_font-font-requires-clause-start c =
    let h = (goal.at.begin_font-font-requires-clause-start c).After-put_line_words-line in
    let reads = c.in-Reads.ensures.is in
    subst (λ (x : Formatter). IsBeforeLine x.reader.half) (sym c.if-not-begin_text.ensures.1) (line_before (afterwards h) c.put_newline.new.self reads.0 reads.2)

pub returns-then-escape-eq0-clause-puts : goal.returns-then-escape-eq0-clause-puts
returns-then-escape-eq0-clause-puts c =
    let h = (goal.at.returns-then-escape-eq0-clause-puts c).After-put_line_words-line in
    let none : c.put_escape-escape.result ≡ 0 = omega (arith, c.if-escape-eq0.true) in
    subst (λ (x : Formatter). PutsText (all h) (taken h) (moves h) c.args.formatter.now x) (sym (c.put_escape-escape.ensures.puts.left none)) (puts h)

pub returns-then-escape-eq0-clause-longest : goal.returns-then-escape-eq0-clause-longest
returns-then-escape-eq0-clause-longest c =
    let h = (goal.at.returns-then-escape-eq0-clause-longest c).After-put_line_words-line in
    let none : c.put_escape-escape.result ≡ 0 = omega (arith, c.if-escape-eq0.true) in
    subst (λ (x : Formatter). Longest (all h) (taken h) (moves h) x) (sym (c.put_escape-escape.ensures.puts.left none))
    (longest_line (all h) (taken h) (moves h) (afterwards h) (puts h).least (puts h).most (words h) c.put_line_words-line.ensures.line
    (λ below newline. omega (arith, newline, c.if-bytes-taken-ne10.true))
    (λ line begins. c.put_escape-escape.ensures.font none line (subst (BeginsFont (is_in_text (afterwards h).reader.half)) (sym (take_rest (all h) (taken h))) begins))
    (λ line begins. c.put_escape-escape.ensures.longest none line (subst (λ xs. BeginsEscape xs (afterwards h)) (sym (take_rest (all h) (taken h))) begins)))

pub loop-taken-preserved-then-bytes-taken-ne10 : goal.loop-taken-preserved-then-bytes-taken-ne10
loop-taken-preserved-then-bytes-taken-ne10 c =
    let h = (goal.at.loop-taken-preserved-then-bytes-taken-ne10 c).After-put_line_words-line in
    let escape = c.put_escape-escape.result in
    let new = c.put_escape-escape.new.formatter in
    let f = c.args.formatter.now in
    let some : 0 < escape = omega (arith, c.if-escape-eq0.false) in
    let put : PutsText (drop (taken h) (all h)) escape (escape + 1) (afterwards h) new = subst (λ xs. PutsText xs escape (escape + 1) (afterwards h) new) (take_rest (all h) (taken h)) (c.put_escape-escape.ensures.puts.puts some) in
    let both = puts_on (taken h) (moves h) escape (escape + 1) (all h) f (afterwards h) new (puts h) put in
    record {
      line = c.put_escape-escape.ensures.puts.line some;
      prefix = both.prefix;
      few = both.most;
      goes_on = goes_put (taken h + escape) (moves h + (escape + 1)) (all h) f new both;
    }

pub returns-then-font-eq0-clause-puts : goal.returns-then-font-eq0-clause-puts
returns-then-font-eq0-clause-puts c =
    let h = (goal.at.returns-then-font-eq0-clause-puts c).After-put_line_words-line in
    let reads = c.in-Reads.ensures.is in
    let below : taken h < length (all h) = omega (arith, (puts h).prefix, c.if-taken-bytes.false) in
    let newline : slice_index (all h) (taken h) ≡ code "\n" = omega (arith, c.if-bytes-taken-ne10.false) in
    let none : c.begin_font-font.result ≡ 0 = omega (arith, c.if-font-eq0.true) in
    subst (λ (x : Formatter). PutsText (all h) (taken h + 1) (moves h + 5) c.args.formatter.now x) (sym (c.begin_font-font.ensures.puts.left none ∙ c.if-not-begin_text.ensures.1))
    (line_ends (taken h) (moves h) (all h) c.args.formatter.now (afterwards h) (puts h) below newline reads.0 c.put_newline.new.self reads.1 reads.2)

pub returns-then-font-eq0-clause-longest : goal.returns-then-font-eq0-clause-longest
returns-then-font-eq0-clause-longest c =
    let h = (goal.at.returns-then-font-eq0-clause-longest c).After-put_line_words-line in
    let reads = c.in-Reads.ensures.is in
    let g = c.put_newline.new.self in
    let text = c.if-not-begin_text.ensures in
    let none : c.begin_font-font.result ≡ 0 = omega (arith, c.if-font-eq0.true) in
    subst (λ (x : Formatter). Longest (all h) (taken h + 1) (moves h + 5) x) (sym (c.begin_font-font.ensures.puts.left none ∙ text.1))
    (longest_out (all h) (taken h + 1) (moves h + 5) g (omega (arith, (puts h).least)) (omega (arith, (puts h).most)) (before_out g (line_before (afterwards h) g reads.0 reads.2))
    (λ at begins. text.0 (subst (λ xs. BeginsText xs g) (sym (take_rest (all h) (taken h + 1))) begins))
    (λ at plain begins. c.begin_font-font.ensures.longest none (ap (λ (x : Formatter). interpolates x.reader.half) text.1 ∙ plain)
    (subst (λ (x : Formatter). BeginsFont (is_in_text x.reader.half) (rest_of (taken h + 1) (all h))) (sym text.1)
    (subst (BeginsFont (is_in_text g.reader.half)) (sym (take_rest (all h) (taken h + 1))) begins))))

pub loop-taken-preserved-then-not-begin_text : goal.loop-taken-preserved-then-not-begin_text
loop-taken-preserved-then-not-begin_text c =
    let h = (goal.at.loop-taken-preserved-then-not-begin_text c).After-put_line_words-line in
    let reads = c.in-Reads.ensures.is in
    let g = c.put_newline.new.self in
    let f = c.args.formatter.now in
    let font = c.begin_font-font.result in
    let new = c.begin_font-font.new.formatter in
    let below : taken h < length (all h) = omega (arith, (puts h).prefix, c.if-taken-bytes.false) in
    let newline : slice_index (all h) (taken h) ≡ code "\n" = omega (arith, c.if-bytes-taken-ne10.false) in
    let ends = line_ends (taken h) (moves h) (all h) f (afterwards h) (puts h) below newline reads.0 g reads.1 reads.2 in
    let some : 0 < font = omega (arith, c.if-font-eq0.false) in
    let put : PutsText (drop (taken h + 1) (all h)) font (font + 2) g new =
    subst (λ (x : Formatter). PutsText (drop (taken h + 1) (all h)) font (font + 2) x new) c.if-not-begin_text.ensures.1
    (subst (λ xs. PutsText xs font (font + 2) c.begin_text.new.self new) (take_rest (all h) (taken h + 1)) (c.begin_font-font.ensures.puts.puts some)) in
    let both = puts_on (taken h + 1) (moves h + 5) font (font + 2) (all h) f g new ends put in
    record {
      line = c.begin_font-font.ensures.puts.line some;
      prefix = both.prefix;
      few = both.most;
      goes_on = goes_put (taken h + 1 + font) (moves h + 5 + (font + 2)) (all h) f new both;
    }

pub loop-taken-preserved : goal.loop-taken-preserved
loop-taken-preserved c =
    let h = (goal.at.loop-taken-preserved c).After-put_line_words-line in
    let reads = c.in-Reads.ensures.is in
    let g = c.put_newline.new.self in
    let f = c.args.formatter.now in
    let begins = c.if-not-begin_text.ensures in
    let below : taken h < length (all h) = omega (arith, (puts h).prefix, c.if-taken-bytes.false) in
    let newline : slice_index (all h) (taken h) ≡ code "\n" = omega (arith, c.if-bytes-taken-ne10.false) in
    let ends = line_ends (taken h) (moves h) (all h) f (afterwards h) (puts h) below newline reads.0 g reads.1 reads.2 in
    let at = line_at_text (afterwards h) g reads.0 reads.2 in
    let half = line_before (afterwards h) g reads.0 reads.2 in
    record {
      line = ap is_in_line begins.1 ∙ begun_line g at half;
      prefix = omega (arith, below);
      few = omega (arith, (puts h).most);
      goes_on = goes_begun (taken h + 1) (moves h + 5) (all h) f g c.begin_text.new.self (omega arith) ends at half
          (subst (λ xs. BeginsText xs g) (take_rest (all h) (taken h + 1)) begins.0) begins.1;
    }

use Prim.Native.Char.{code}
use Rattle.std.proofs.Common.{◌≡◌, ℕ, ◌+◌, ◌*◌, ◌<◌, ◌≤◌, true, List, length, take, drop, refl, sym, ap, ◌∙◌, subst, arith}
use Rattle.std.specs.Prelude.{slice_index}
use Rattle.std.proofs.lemmas.List.{take_rest}
use Rattle.nr_fill.specs.Plain.{IsPlain}
use Rattle.nr_formatter.specs.Many.CellBytes.{PutsCellBytes}
use Rattle.nr_formatter.specs.Many.Runs.{is_in_line, manner_of, run_put}
use Rattle.nr_formatter.specs.declared.formatter.Formatter.{Formatter}
use Rattle.nr_formatter.proofs.CellBytesAtOnce.{line_bytes, manner_bytes}
use Rattle.fast_machine.specs.Running.{LongestWords, PutsOfFlow, PutsText}
use Rattle.fast_machine.proofs.TextAtHand.{index_rest, length_rest, rest_of, turn_flows, turn_gap, turn_line, turn_on, turn_run}
use Rattle.fast_machine.proofs.CellBytes.{turn_bytes}
use Rattle.fast_machine.proofs.LevelWords.{flow_bytes, flow_flows, flow_gap, flow_run, none_of_flow}
use Rattle.fast_machine.proofs.plain_text.put_line_words.Goals.{After-put_word-word}
use Rattle.fast_machine.proofs.plain_text.put_line_words.Goals as goal

-- the word, before the blank
abbrev word_put : (c : After-put_word-word) → Formatter
word_put c = run_put (take c.put_word-word.result.count (rest_of c.loop-formatter.taken c.args.bytes.now)) c.loop-formatter.formatter

-- it was put
run : (c : After-put_word-word)
    → PutsText c.args.bytes.now (c.loop-formatter.taken + c.put_word-word.result.count) (c.loop-formatter.moves + 2 * c.put_word-word.result.count) c.args.formatter.now (word_put c)
run c =
    let now = c.loop-formatter.invariant in
    let put = c.put_word-word.ensures in
    turn_run c.loop-formatter.taken c.loop-formatter.moves c.put_word-word.result.count c.args.bytes.now c.args.formatter.now c.loop-formatter.formatter (word_put c)
    now.puts now.line put.prefix put.plain refl put.within

run_of_flow : (c : After-put_word-word)
    → PutsOfFlow c.args.bytes.now (c.loop-formatter.taken + c.put_word-word.result.count) (c.loop-formatter.moves + 2 * c.put_word-word.result.count) c.args.formatter.now (word_put c)
run_of_flow c =
    let now = c.loop-formatter.invariant in
    let put = c.put_word-word.ensures in
    flow_run c.loop-formatter.taken c.loop-formatter.moves c.put_word-word.result.count c.args.bytes.now c.args.formatter.now c.loop-formatter.formatter (word_put c)
    now.flow now.line put.prefix put.plain refl put.within

-- in a line that has begun
line : (c : After-put_word-word) → is_in_line (word_put c) ≡ true
line c = turn_line (take c.put_word-word.result.count (rest_of c.loop-formatter.taken c.args.bytes.now)) c.loop-formatter.formatter (word_put c) c.loop-formatter.invariant.line refl

-- a blank stands after it
blank : (c : After-put_word-word) → c.put_word-word.result.count < length (rest_of c.loop-formatter.taken c.args.bytes.now)
    → slice_index (rest_of c.loop-formatter.taken c.args.bytes.now) c.put_word-word.result.count ≡ code " "
    → (c.loop-formatter.taken + c.put_word-word.result.count < length c.args.bytes.now) × (slice_index c.args.bytes.now (c.loop-formatter.taken + c.put_word-word.result.count) ≡ code " ")
blank c below is =
    let t = c.loop-formatter.taken in
    let bs = c.args.bytes.now in
    (omega (arith, below, length_rest t bs), sym (index_rest t c.put_word-word.result.count bs below) ∙ is)

pub loop-formatter-init : goal.loop-formatter-init
loop-formatter-init c = record {
  line = c.requires.line;
  manner = c.manner-manner.ensures;
  puts = record {
    prefix = omega arith;
    least = omega arith;
    most = omega arith;
    none = λ none. refl;
    store = refl;
    makes = λ e supply is has some. absurd (omega (arith, some));
    saves = λ e supply is has some. absurd (omega (arith, some));
  };
  flow = none_of_flow c.args.bytes.now c.args.formatter.now;
}

pub loop-formatter-preserved : goal.loop-formatter-preserved
loop-formatter-preserved c =
    let h = (goal.at.loop-formatter-preserved c).After-put_word-word in
    let n = c.put_word-word.result.count in
    let t = c.loop-formatter.taken + n in
    let m = c.loop-formatter.moves + 2 * n in
    let bs = c.args.bytes.now in
    let f = c.args.formatter.now in
    let put = rw c.in-Reads.is at c.put_word-word.ensures in
    let gap = put.gap in
    let b = blank h (put.below refl) (put.blank refl) in
    let g = c.put_word-word.new.self in
    record {
      line = turn_on t m bs f (word_put h) (run h) (line h) b.0 b.1 gap.0 g gap.2;
      manner = c.loop-formatter.invariant.manner ∙ ap manner_of (sym gap.2);
      puts = turn_gap t m bs f (word_put h) (run h) (line h) b.0 b.1 gap.0 g gap.1 gap.2;
      flow = flow_gap t m bs f (word_put h) (run_of_flow h) (line h) b.0 b.1 gap.0 g gap.1 gap.2;
    }

pub put_cell_bytes-count-requires : goal.put_cell_bytes-count-requires
put_cell_bytes-count-requires c =
    let h = (goal.at.put_cell_bytes-count-requires c).After-put_word-word in
    let put = rw c.in-Left.is at c.put_word-word.ensures in
    ap is_in_line put.gap ∙ line h

-- no such byte comes next
left : (n : ℕ) (xs : List ℕ) (f g : Formatter) → n ≡ 0 → PutsCellBytes (take n xs) f g → g ≡ f
left n xs f g none puts = subst (λ k. PutsCellBytes (take k xs) f g) none puts

pub returns-then-count-eq0-clause-puts : goal.returns-then-count-eq0-clause-puts
returns-then-count-eq0-clause-puts c =
    let h = (goal.at.returns-then-count-eq0-clause-puts c).After-put_word-word in
    let put = rw c.in-Left.is at c.put_word-word.ensures in
    let n = c.put_word-word.result.count in
    let t = c.loop-formatter.taken + n in
    let m = c.loop-formatter.moves + 2 * n in
    let none : c.put_cell_bytes-count.result ≡ 0 = omega (arith, c.if-count-eq0.true) in
    let same = left c.put_cell_bytes-count.result (rest_of t c.args.bytes.now) c.put_word-word.new.self c.put_cell_bytes-count.new.self none c.put_cell_bytes-count.ensures.puts in
    subst (λ (x : Formatter). PutsText c.args.bytes.now t m c.args.formatter.now x) (sym (same ∙ put.gap)) (run h)

pub returns-then-count-eq0-clause-flow : goal.returns-then-count-eq0-clause-flow
returns-then-count-eq0-clause-flow c =
    let h = (goal.at.returns-then-count-eq0-clause-flow c).After-put_word-word in
    let put = rw c.in-Left.is at c.put_word-word.ensures in
    let n = c.put_word-word.result.count in
    let t = c.loop-formatter.taken + n in
    let m = c.loop-formatter.moves + 2 * n in
    let none : c.put_cell_bytes-count.result ≡ 0 = omega (arith, c.if-count-eq0.true) in
    let same = left c.put_cell_bytes-count.result (rest_of t c.args.bytes.now) c.put_word-word.new.self c.put_cell_bytes-count.new.self none c.put_cell_bytes-count.ensures.puts in
    subst (λ (x : Formatter). PutsOfFlow c.args.bytes.now t m c.args.formatter.now x) (sym (same ∙ put.gap)) (run_of_flow h)

pub returns-then-count-eq0-clause-longest : goal.returns-then-count-eq0-clause-longest
returns-then-count-eq0-clause-longest c =
    let put = rw c.in-Left.is at c.put_word-word.ensures in
    let bs = c.args.bytes.now in
    let i = c.loop-formatter.taken in
    let n = c.put_word-word.result.count in
    let g = c.put_word-word.new.self in
    let none : c.put_cell_bytes-count.result ≡ 0 = omega (arith, c.if-count-eq0.true) in
    let same = left c.put_cell_bytes-count.result (rest_of (i + n) bs) g c.put_cell_bytes-count.new.self none c.put_cell_bytes-count.ensures.puts in
    subst (λ (x : Formatter). LongestWords bs (i + n) x) (sym same) (record {
      stops = λ below line plain.
          let within : n < length (rest_of i bs) = omega (arith, below, length_rest i bs) in
          put.stops refl within (subst IsPlain (sym (index_rest i n bs within)) plain);
      blank = λ below line blank gap.
          let within : n < length (rest_of i bs) = omega (arith, below, length_rest i bs) in
          put.left refl within (index_rest i n bs within ∙ blank) gap;
    })

pub returns-then-count-eq0-clause-line : goal.returns-then-count-eq0-clause-line
returns-then-count-eq0-clause-line c = λ at.
    let h = (goal.at.returns-then-count-eq0-clause-line c).After-put_word-word in
    let put = rw c.in-Left.is at c.put_word-word.ensures in
    let t = c.loop-formatter.taken + c.put_word-word.result.count in
    let none : c.put_cell_bytes-count.result ≡ 0 = omega (arith, c.if-count-eq0.true) in
    let same = left c.put_cell_bytes-count.result (rest_of t c.args.bytes.now) c.put_word-word.new.self c.put_cell_bytes-count.new.self none c.put_cell_bytes-count.ensures.puts in
    ap is_in_line (same ∙ put.gap) ∙ line h

pub loop-formatter-preserved-in-Left : goal.loop-formatter-preserved-in-Left
loop-formatter-preserved-in-Left c =
    let h = (goal.at.loop-formatter-preserved-in-Left c).After-put_word-word in
    let put = rw c.in-Left.is at c.put_word-word.ensures in
    let n = c.put_word-word.result.count in
    let t = c.loop-formatter.taken + n in
    let m = c.loop-formatter.moves + 2 * n in
    let bs = c.args.bytes.now in
    let f = c.args.formatter.now in
    let g = c.put_word-word.new.self in
    let k = c.put_cell_bytes-count.result in
    let new = c.put_cell_bytes-count.new.self in
    let here : PutsText bs t m f g = subst (λ (x : Formatter). PutsText bs t m f x) (sym put.gap) (run h) in
    let flow : PutsOfFlow bs t m f g = subst (λ (x : Formatter). PutsOfFlow bs t m f x) (sym put.gap) (run_of_flow h) in
    let cells : PutsCellBytes (take k (drop t bs)) g new = subst (λ xs. PutsCellBytes (take k xs) g new) (take_rest bs t) c.put_cell_bytes-count.ensures.puts in
    let within : t + k ≤ length bs = omega (arith, here.prefix, c.put_cell_bytes-count.ensures.prefix, length_rest t bs) in
    record {
      line = line_bytes (take k (drop t bs)) g new (ap is_in_line put.gap ∙ line h) cells;
      manner = c.loop-formatter.invariant.manner ∙ ap manner_of (sym put.gap) ∙ sym (manner_bytes (take k (drop t bs)) g new cells);
      puts = turn_bytes k t m bs f g new here within cells;
      flow = flow_bytes k t m bs f g new flow within cells;
    }

pub returns-in-Flows-clause-puts : goal.returns-in-Flows-clause-puts
returns-in-Flows-clause-puts c =
    let h = (goal.at.returns-in-Flows-clause-puts c).After-put_word-word in
    let n = c.put_word-word.result.count in
    let put = rw c.in-Flows.is at c.put_word-word.ensures in
    let gap = put.gap in
    let b = blank h (put.below refl) (put.blank refl) in
    turn_flows (c.loop-formatter.taken + n) (c.loop-formatter.moves + 2 * n) c.args.bytes.now c.args.formatter.now (word_put h) (run h) (line h) b.0 b.1 gap.0 c.put_word-word.new.self gap.1

pub returns-then-taken-bytes-clause-puts : goal.returns-then-taken-bytes-clause-puts
returns-then-taken-bytes-clause-puts c =
    let h = (goal.at.returns-then-taken-bytes-clause-puts c).After-put_word-word in
    let put = rw c.in-Reads.is at c.put_word-word.ensures in
    let b = blank h (put.below refl) (put.blank refl) in
    turn_gap (c.loop-formatter.taken + c.put_word-word.result.count) (c.loop-formatter.moves + 2 * c.put_word-word.result.count) c.args.bytes.now c.args.formatter.now (word_put h) (run h) (line h)
    b.0 b.1 put.gap.0 c.put_word-word.new.self put.gap.1 put.gap.2

pub returns-then-taken-bytes-clause-flow : goal.returns-then-taken-bytes-clause-flow
returns-then-taken-bytes-clause-flow c =
    let h = (goal.at.returns-then-taken-bytes-clause-flow c).After-put_word-word in
    let put = rw c.in-Reads.is at c.put_word-word.ensures in
    let b = blank h (put.below refl) (put.blank refl) in
    flow_gap (c.loop-formatter.taken + c.put_word-word.result.count) (c.loop-formatter.moves + 2 * c.put_word-word.result.count) c.args.bytes.now c.args.formatter.now (word_put h) (run_of_flow h) (line h)
    b.0 b.1 put.gap.0 c.put_word-word.new.self put.gap.1 put.gap.2

pub returns-in-Flows-clause-flow : goal.returns-in-Flows-clause-flow
returns-in-Flows-clause-flow c =
    let h = (goal.at.returns-in-Flows-clause-flow c).After-put_word-word in
    let put = rw c.in-Flows.is at c.put_word-word.ensures in
    let b = blank h (put.below refl) (put.blank refl) in
    flow_flows (c.loop-formatter.taken + c.put_word-word.result.count) (c.loop-formatter.moves + 2 * c.put_word-word.result.count) c.args.bytes.now c.args.formatter.now (word_put h) (run_of_flow h) (line h)
    b.0 b.1 put.gap.0 c.put_word-word.new.self put.gap.1

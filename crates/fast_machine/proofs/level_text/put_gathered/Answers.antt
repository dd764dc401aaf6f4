use Rattle.std.proofs.Common.{◌≡◌, ◌+◌, true, false, length, sym, ◌∙◌, subst}
use Rattle.std.proofs.lemmas.Bool.{eqb-true}
use Rattle.nr_reading.specs.Many.InText.{is_in_text}
use Rattle.nr_input.specs.declared.reader.Reader.{Reader}
use Rattle.nr_formatter.specs.declared.formatter.Formatter.{Formatter}
use Rattle.nr_formatter.proofs.PlainText.{in_line}
use Rattle.fast_machine.specs.Running.{MakesInText, with_read}
use Rattle.fast_machine.proofs.Flows.{text-add, text_none}
use Rattle.fast_machine.proofs.LevelLines.{gathered_still, left_text, longest_ended, longest_left, longest_none, no_newline}
use Rattle.fast_machine.proofs.level_text.put_gathered.Goals.{After-leave-besides, else-goes-via-then-goes+then-gathered+else-words-bytes, else-goes-via-then-goes+else-gathered, else-goes-via-else-goes}
use Rattle.fast_machine.proofs.level_text.put_gathered.Goals as goal

-- after the words, with those that were put taken
abbrev afterwards : (c : After-leave-besides) → Formatter
afterwards c = with_read c.leave-besides.new.store c.leave-besides.new.reader c.put_line_words-words.new.formatter

puts : (c : After-leave-besides) → MakesInText (c.put_line_words-words.result.moves + c.leave-besides.result) c.args.formatter.now (afterwards c)
puts c =
    let words = c.put_line_words-words in
    left_text c.args.bytes.now words.result.taken words.result.moves c.leave-besides.result c.is_in_line-goes.result c.args.formatter.now words.new.formatter c.leave-besides.new.store
    c.leave-besides.new.reader words.ensures.flow c.leave-besides.ensures.leaves c.fit_memory.ensures c.is_in_line-goes.ensures

pub leave-besides-requires : goal.leave-besides-requires
leave-besides-requires c =
    let f = c.args.formatter.now in
    let words = c.put_line_words-words in
    let flow = words.ensures.flow in
    record {
      text = subst (λ (x : Reader). is_in_text x.half ≡ true) (sym flow.reader) (in_line f c.requires.line).half;
      gathered = gathered_still c.args.bytes.now f words.new.formatter c.args.gathered.now flow.store flow.reader c.requires.gathered;
      within = flow.prefix;
    }

pub returns-then-not-gathered-clause-puts : goal.returns-then-not-gathered-clause-puts
returns-then-not-gathered-clause-puts c = text_none c.args.formatter.now

pub returns-then-not-gathered-clause-longest : goal.returns-then-not-gathered-clause-longest
returns-then-not-gathered-clause-longest c =
    let none : length c.args.bytes.now ≡ 0 = eqb-true (length c.args.bytes.now) 0 (sym c.is_empty.ensures ∙ c.if-is_empty.true) in
    longest_none c.args.bytes.now c.args.formatter.now c.args.gathered.now c.requires.gathered c.requires.most none c.if-not-gathered.true

pub returns-then-words-bytes-clause-puts : goal.returns-then-words-bytes-clause-puts
returns-then-words-bytes-clause-puts c =
    let h = (goal.at.returns-then-words-bytes-clause-puts c).After-leave-besides in
    text-add (c.put_line_words-words.result.moves + c.leave-besides.result) c.put_level_newline.result c.args.formatter.now (afterwards h) c.put_level_newline.new.formatter (puts h)
    c.put_level_newline.ensures.puts

pub returns-then-words-bytes-clause-longest : goal.returns-then-words-bytes-clause-longest
returns-then-words-bytes-clause-longest c =
    let words = c.put_line_words-words in
    longest_ended c.args.bytes.now words.result.taken words.result.moves c.leave-besides.result c.is_in_line-goes.result c.args.formatter.now words.new.formatter c.leave-besides.new.store
    c.leave-besides.new.reader c.args.gathered.now c.requires.gathered c.requires.most words.ensures.flow c.leave-besides.ensures.leaves c.put_level_newline.new.formatter c.if-words-bytes.true
    c.put_level_newline.ensures.ends

pub returns-clause-puts : goal.returns-clause-puts
returns-clause-puts c = puts ((goal.at.returns-clause-puts c).After-leave-besides)

pub returns-clause-longest : goal.returns-clause-longest
returns-clause-longest c =
    let words = c.put_line_words-words in
    let left = c.leave-besides in
    longest_left c.args.bytes.now words.result.taken words.result.moves left.result c.is_in_line-goes.result c.args.formatter.now words.new.formatter left.new.store left.new.reader c.args.gathered.now
    c.requires.gathered c.requires.most words.ensures.flow left.ensures.leaves words.ensures.longest
    (λ all ends newline. elim c.else-goes.branch [
      | else-goes-via-then-goes+then-gathered+else-words-bytes w ↦ w.if-words-bytes.false all
      | else-goes-via-then-goes+else-gathered w ↦ (let wrong : true ≡ false = sym ends ∙ w.if-gathered.false in cc)
      | else-goes-via-else-goes w ↦
          no_newline c.args.bytes.now words.result.taken words.result.moves left.result c.is_in_line-goes.result c.args.formatter.now words.new.formatter left.new.store left.new.reader c.args.gathered.now
          c.requires.gathered c.requires.most words.ensures.flow left.ensures.leaves c.is_in_line-goes.ensures w.if-goes.false newline
    ])

use Rattle.std.proofs.Common.{◌≡◌, true, false, sym, ◌∙◌}
use Rattle.nr_reading.specs.Many.InText.{is_in_text}
use Rattle.fast_machine.proofs.FontEscapes.{line_interpolates}
use Rattle.fast_machine.proofs.fonts.put_font.Goals.{then-not-begins_font-via-then-not-begins_font, then-not-begins_font-via-else-not-begins_font+then-not-is_in_line}
use Rattle.fast_machine.proofs.fonts.put_font.Goals as goal

pub returns-then-not-begins_font-clause-longest : goal.returns-then-not-begins_font-clause-longest
returns-then-not-begins_font-clause-longest c = λ none line begins. elim c.then-not-begins_font.branch [
  | then-not-begins_font-via-then-not-begins_font w ↦ c.begins_font.ensures w.if-not-begins_font.true (is_in_text c.args.formatter.now.reader.half) begins
  | then-not-begins_font-via-else-not-begins_font+then-not-is_in_line w ↦ let wrong : true ≡ false = sym line ∙ sym w.is_in_line.ensures ∙ w.if-not-is_in_line.true in cc
]

pub returns-clause-longest : goal.returns-clause-longest
returns-clause-longest c = λ none line begins. c.change_font.ensures.longest none (line_interpolates c.args.formatter.now line) begins

use Rattle.std.proofs.Common.{◌≡◌, ◌+◌, refl, sym, ap, ◌∙◌, subst, arith}
use Rattle.nr_reading.proofs.InText.{in_text}
use Rattle.nr_input.specs.declared.reader.Reader.{Reader}
use Rattle.nr_formatter.specs.Moves.{font_set}
use Rattle.nr_formatter.specs.Many.Runs.{is_in_line}
use Rattle.nr_formatter.specs.declared.formatter.Formatter.{Formatter}
use Rattle.nr_formatter.proofs.PlainText.{in_line}
use Rattle.fast_machine.specs.Running.{PutsText}
use Rattle.fast_machine.proofs.FontEscapes.{font_put, half_at_text, line_font, puts_font, text_reads}
use Rattle.fast_machine.proofs.fonts.change_font.Goals as goal

pub returns-in-Some-clause-in_line : goal.returns-in-Some-clause-in_line
returns-in-Some-clause-in_line c = λ line.
    let f = c.args.formatter.now in
    let bs = c.args.bytes.now in
    let h = c.take_in_font.new.reader.half in
    let run = c.in-Some.run' in
    let taken_in = c.in-Some.ensures in
    let moves = taken_in.in_line (in_text f.reader.half (in_line f line).half).mode in
    let is : c.set_font.new.self ≡ font_put h f = c.set_font.ensures ∙ ap (λ (r : Reader). font_set (record f { reader = r })) taken_in.reader in
    record {
      puts = λ some.
          subst (λ (x : Formatter). PutsText bs run.taken (run.taken + 1) f x) (sym is)
          (subst (λ m. PutsText bs run.taken (m + 1) f (font_put h f)) moves
          (puts_font bs f run h (text_reads f c.requires.text) taken_in.taken_in taken_in.font taken_in.least (omega (arith, moves)) (omega (arith, moves))));
      line = λ some. ap is_in_line is ∙ line_font h f c.requires.text taken_in.afterwards;
      left = λ none. absurd (omega (arith, none, taken_in.least));
    }

pub returns-in-Some-clause-at_start : goal.returns-in-Some-clause-at_start
returns-in-Some-clause-at_start c = λ start.
    let f = c.args.formatter.now in
    let bs = c.args.bytes.now in
    let h = c.take_in_font.new.reader.half in
    let run = c.in-Some.run' in
    let taken_in = c.in-Some.ensures in
    let moves = taken_in.at_start start.mode in
    let count : run.moves + 1 ≡ run.taken + 2 = omega (arith, moves) in
    let is : c.set_font.new.self ≡ font_put h f = c.set_font.ensures ∙ ap (λ (r : Reader). font_set (record f { reader = r })) taken_in.reader in
    record {
      puts = λ some.
          subst (λ (x : Formatter). PutsText bs run.taken (run.taken + 2) f x) (sym is)
          (subst (λ m. PutsText bs run.taken m f (font_put h f)) count
          (puts_font bs f run h (text_reads f c.requires.text) taken_in.taken_in taken_in.font taken_in.least (omega (arith, moves)) (omega (arith, moves))));
      line = λ some. ap is_in_line is ∙ line_font h f c.requires.text taken_in.afterwards;
      left = λ none. absurd (omega (arith, none, taken_in.least));
    }

pub returns-in-None-clause-longest : goal.returns-in-None-clause-longest
returns-in-None-clause-longest c =
    λ zero shown begins. c.in-None.ensures.longest refl (half_at_text c.args.formatter.now c.requires.text) shown begins

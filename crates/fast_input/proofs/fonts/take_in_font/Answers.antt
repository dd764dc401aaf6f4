use Rattle.nr_reading.specs.Many.InText.{is_in_text}
use Rattle.fast_input.proofs.FontEscapes.{is_font}
use Rattle.fast_input.proofs.fonts.take_in_font.Goals as goal

pub returns-clause-longest : goal.returns-clause-longest
returns-clause-longest c = λ none at plain begins.
    c.take_in_next_font.ensures.longest none at plain (is_font (is_in_text c.args.reader.now.half) c.args.bytes.now begins)

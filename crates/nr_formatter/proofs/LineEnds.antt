-- The newline that ends a text line, where it ends its word, and the count of the line, where it changes nothing.
use Rattle.std.proofs.Common.{◌≡◌, ◌-◌, Bool, true, false, ◌&&◌, None, refl, sym, ap, ◌∙◌, arith}
use Rattle.std.specs.Prelude.{◌==◌, if◌then◌else◌, not, Option}
use Rattle.std.proofs.lemmas.Bool.{and_parts, eqb-true}
use Rattle.nr_fill.specs.Piece.{Collected, ends_in_joint, is_nil}
use Rattle.nr_reading.specs.declared.event.Event.TheVariants as events
use Rattle.nr_reading.specs.declared.mode.Mode.TheVariants as modes
use Rattle.nr_formatter.specs.Access.{collected, is_filling, with_collected}
use Rattle.nr_formatter.specs.Many.LineEnds.{line_gapped}
use Rattle.nr_formatter.specs.Lines.{breaks_after, count, count_input, fits_line, flow_line, input_macro, input_trap_after}
use Rattle.nr_formatter.specs.Moves.{heard}
use Rattle.nr_formatter.specs.Text.{line_end, text_line_end, word_line_ended}
use Rattle.nr_formatter.specs.declared.formatter.Formatter.{Formatter}
use Rattle.nr_formatter.specs.declared.lines.Going.{Going}
use Rattle.nr_formatter.specs.declared.tasks.After.TheVariants as afters
use Rattle.nr_formatter.specs.declared.tasks.Task.TheVariants as tasks
use Rattle.nr_formatter.proofs.PlainText.{EndsWord, pointed-plain}

-- ---- the newline

-- with what is collected where the word ends
abbrev line_after : Collected → Formatter → Formatter
line_after c f = record (with_collected (line_gapped c) f) {
  event = events.Nothing;
  breaks = f.breaks && not (breaks_after f);
  task = tasks.Flow afters.Line (breaks_after f);
}

-- the newline was heard
abbrev pub line_flows : Formatter → Formatter
line_flows f = record (with_collected (line_gapped (collected f)) f) { event = events.Nothing; task = tasks.Flow afters.Line false }

line_after-is : (f : Formatter) → EndsWord f → line_after (collected f) f ≡ line_flows f
line_after-is f ends = rw ends.breaks refl

newline_heard : (f : Formatter) → EndsWord f → ends_in_joint (collected f).word ≡ false → f.reader.half.reading.mode ≡ modes.Start
    → heard events.EndLine f ≡ word_line_ended afters.Line f
unfolding line_end text_line_end
newline_heard f ends joint mode = rw (mode, ends.filling, joint, ends.field) refl

-- it is heard as the word's end
pub heard-newline : (f : Formatter) → EndsWord f → ends_in_joint (collected f).word ≡ false → f.reader.half.reading.mode ≡ modes.Start
    → heard events.EndLine f ≡ line_flows f
heard-newline f ends joint mode =
    newline_heard f ends joint mode ∙ ap (λ c. line_after c f) (pointed-plain f ends.filling ends.words) ∙ line_after-is f ends

-- nothing goes out where nothing is full
pub none_out : (f : Formatter) → is_filling f ≡ true → fits_line (line_gapped (collected f)) ≡ true → flow_line afters.Line false (line_flows f) ≡ None
none_out f filling fits = rw (filling, fits) (either_way (is_nil (line_gapped (collected f)).pieces))
  where
    either_way : (b : Bool) → ◌≡◌ {A = Option Going} (if b then None else None) None
    either_way true = refl
    either_way false = refl

-- ---- the line is counted

-- where lines are filled none is centred
none_centred : (f : Formatter) → is_filling f ≡ true → f.settings.filling.centred ≡ 0
none_centred f filling =
    let both = and_parts f.settings.filling.fill (f.settings.filling.centred == 0) filling in
    eqb-true f.settings.filling.centred 0 both.1

-- none is centred, and none underlined
pub count-none : (f : Formatter) → is_filling f ≡ true → f.settings.fonts.underlined ≡ 0 → count f ≡ record f { task = tasks.InputTrap }
count-none f filling under =
    let centred : f.settings.filling.centred - 1 ≡ f.settings.filling.centred = omega (arith, none_centred f filling) in
    let underlined : f.settings.fonts.underlined - 1 ≡ f.settings.fonts.underlined = omega (arith, under) in
    ap (λ n. record f {
      settings = record f.settings {
        filling = record f.settings.filling { centred = n };
        fonts = record f.settings.fonts { underlined = f.settings.fonts.underlined - 1 };
      };
      task = tasks.InputTrap;
    }) centred
    ∙ ap (λ n. record f { settings = record f.settings { fonts = record f.settings.fonts { underlined = n } }; task = tasks.InputTrap }) underlined

-- and no trap is there
pub count_input-none : (f : Formatter) → f.input_trap ≡ None → count_input f ≡ record f { task = tasks.Read }
count_input-none f none =
    ap (λ t. record f { input_trap = input_trap_after t; springs = input_macro t f.springs; task = tasks.Read }) none
    ∙ ap (λ t. record f { input_trap = t; task = tasks.Read }) (sym none)

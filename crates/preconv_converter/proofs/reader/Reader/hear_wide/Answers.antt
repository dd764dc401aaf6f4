use Rattle.std.proofs.Common.{◌++◌, sym, ◌∙◌, ap}
use Rattle.preconv_converter.specs.Reading.{Emitted}
use Rattle.preconv_converter.proofs.Hearing.{wide_heard}
use Rattle.preconv_converter.proofs.reader.Reader.hear_wide.Goals as goal

pub returns-then-takes_wide-clause-reader : goal.returns-then-takes_wide-clause-reader
returns-then-takes_wide-clause-reader c =
    ap (λ (t : Emitted). t.reader) (sym (wide_heard c.args.code c.args.self.now c.takes_wide.new.self (c.takes_wide.ensures.taken c.if-takes_wide.true)))

pub returns-then-takes_wide-clause-items : goal.returns-then-takes_wide-clause-items
returns-then-takes_wide-clause-items c =
    c.say_character.ensures.items
    ∙ ap (λ (t : Emitted). c.args.out.now.items ++ t.bytes) (sym (wide_heard c.args.code c.args.self.now c.takes_wide.new.self (c.takes_wide.ensures.taken c.if-takes_wide.true)))

pub returns-then-takes_wide-clause-steps : goal.returns-then-takes_wide-clause-steps
returns-then-takes_wide-clause-steps c =
    ap (λ (t : Emitted). t.steps) (sym (wide_heard c.args.code c.args.self.now c.takes_wide.new.self (c.takes_wide.ensures.taken c.if-takes_wide.true)))

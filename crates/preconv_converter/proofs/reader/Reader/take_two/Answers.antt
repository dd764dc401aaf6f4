use Rattle.std.proofs.Common.{ℕ, ◌++◌, ◌∙◌, ap}
use Rattle.preconv_lines.specs.declared.half.Coming.TheVariants.{Wide}
use Rattle.preconv_converter.specs.Reading.{heard}
use Rattle.preconv_converter.proofs.WholeTaken.{Takes-two}
use Rattle.preconv_converter.proofs.reader.Reader.take_two.Goals as goal

pub returns-clause-taken : goal.returns-clause-taken
returns-clause-taken c =
    let r = c.args.self.now in
    Takes-two c.args.bytes.now r c.hear_wide.new.self c.args.out.now.items c.hear_wide.new.out.items c.hear_wide.result
    c.requires.long c.requires.pending c.requires.cooked c.requires.two
    (c.hear_wide.ensures.reader ∙ ap (λ (k : ℕ). (heard (Wide k) r).reader) c.two_code-code.ensures)
    (c.hear_wide.ensures.items ∙ ap (λ (k : ℕ). c.args.out.now.items ++ (heard (Wide k) r).bytes) c.two_code-code.ensures)
    (c.hear_wide.ensures.steps ∙ ap (λ (k : ℕ). (heard (Wide k) r).steps) c.two_code-code.ensures)

use Rattle.std.proofs.lemmas.Grind.{common_steps}
use Rattle.std.proofs.Common.{◌++◌, sym, ◌∙◌, ap, arith}
use Rattle.preconv_lines.specs.declared.half.Half.{Half}
use Rattle.preconv_lines.specs.declared.half.Coming.{Coming}
use Rattle.preconv_converter.specs.Reading.{Emitted, heard_in, with_half}
use Rattle.preconv_converter.proofs.Plain.{heard_as_is}
use Rattle.preconv_converter.proofs.reader.Reader.hears_as_is.Goals as goal

pub returns-in-Byte-clause-reader : goal.returns-in-Byte-clause-reader
returns-in-Byte-clause-reader c = λ _.
    let r = c.args.self.now in
    ap (λ (h : Half). with_half h r) c.takes.ensures
    ∙ ap (λ (t : Emitted). t.reader)
    (sym (ap (λ (x : Coming). heard_in c.args.most x r) c.in-Byte.is
    ∙ heard_as_is c.args.most c.in-Byte.byte r c.if-most-gt0.true (sym c.takes_as_is.ensures ∙ c.if-takes_as_is.true)))

pub returns-in-Byte-clause-items : goal.returns-in-Byte-clause-items
returns-in-Byte-clause-items c = λ _.
    let r = c.args.self.now in
    c.push.ensures.items
    ∙ ap (λ (t : Emitted). c.args.out.now.items ++ t.bytes)
    (sym (ap (λ (x : Coming). heard_in c.args.most x r) c.in-Byte.is
    ∙ heard_as_is c.args.most c.in-Byte.byte r c.if-most-gt0.true (sym c.takes_as_is.ensures ∙ c.if-takes_as_is.true)))

pub returns-in-Byte-clause-steps : goal.returns-in-Byte-clause-steps
returns-in-Byte-clause-steps c = λ _.
    let r = c.args.self.now in
    ap (λ (t : Emitted). t.steps)
    (ap (λ (x : Coming). heard_in c.args.most x r) c.in-Byte.is
    ∙ heard_as_is c.args.most c.in-Byte.byte r c.if-most-gt0.true (sym c.takes_as_is.ensures ∙ c.if-takes_as_is.true))

pub returns-in-Byte-clause-few : goal.returns-in-Byte-clause-few
returns-in-Byte-clause-few c = grind (arith, common_steps)

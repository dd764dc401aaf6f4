use Rattle.std.proofs.Common.{[], ◌∷◌, sym, ◌∙◌, ap}
use Rattle.preconv_lines.specs.declared.half.Half.{Half}
use Rattle.preconv_converter.specs.Reading.{emitted, with_half}
use Rattle.preconv_converter.proofs.Plain.{read_as_is}
use Rattle.preconv_converter.proofs.reader.Reader.passes.Goals as goal

pub returns-clause-taken : goal.returns-clause-taken
returns-clause-taken c = λ _.
    let b = c.args.byte in
    let r = c.args.self.now in
    read_as_is b r c.requires (sym c.is_raw.ensures ∙ c.if-is_raw.false) (sym c.takes_as_is.ensures ∙ c.if-not-takes_as_is.false)
    ∙ ap (λ (h : Half). emitted (with_half h r) (b ∷ []) 1) (sym c.takes.ensures)

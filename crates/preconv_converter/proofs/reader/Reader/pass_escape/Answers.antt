use Rattle.std.proofs.Common.{◌∙◌, sym, subst}
use Rattle.preconv_lines.specs.declared.half.Half.{Half}
use Rattle.preconv_converter.specs.Reading.{with_half}
use Rattle.preconv_converter.specs.Passing.{Passes}
use Rattle.preconv_converter.proofs.PlainEscapes.{kept_passes, font_passes}
use Rattle.preconv_converter.proofs.reader.Reader.pass_escape.Goals as goal

pub returns-then-begins_kept-clause-plain : goal.returns-then-begins_kept-clause-plain
returns-then-begins_kept-clause-plain c =
    let P : Half → Type 0 = λ h. Passes 2 c.args.bytes.now c.args.self.now (with_half h c.args.self.now) in
    subst P (sym c.takes_kept.ensures)
    (kept_passes c.args.bytes.now c.args.self.now c.requires (sym c.takes_plain_escape.ensures ∙ c.if-not-takes_plain_escape.false)
    (sym c.begins_kept.ensures ∙ c.if-begins_kept.true))

pub returns-then-begins_font-clause-plain : goal.returns-then-begins_font-clause-plain
returns-then-begins_font-clause-plain c =
    let P : Half → Type 0 = λ h. Passes 3 c.args.bytes.now c.args.self.now (with_half h c.args.self.now) in
    subst P (sym c.takes_font.ensures)
    (font_passes c.args.bytes.now c.args.self.now c.requires (sym c.takes_plain_escape.ensures ∙ c.if-not-takes_plain_escape.false)
    (sym c.begins_font.ensures.value ∙ c.if-begins_font.true))

use Rattle.std.proofs.Common.{◌∙◌, ap}
use Rattle.preconv_lines.specs.declared.half.Half.{Half}
use Rattle.preconv_characters.specs.declared.marks.Mark.{Mark}
use Rattle.preconv_characters.specs.declared.said.Said.TheVariants.{Character}
use Rattle.preconv_lines.specs.Half.{taken}
use Rattle.preconv_lines.specs.Hyphens.{placed}
use Rattle.preconv_lines.proofs.WideText.{wide_offered}
use Rattle.preconv_lines.proofs.half.Half.takes_wide.Goals as goal

pub returns-in-Text-clause-taken : goal.returns-in-Text-clause-taken
returns-in-Text-clause-taken c e =
    let h = c.args.self.now in
    ap (λ (k : Half). taken (Character c.args.code) k) (c.places.ensures ∙ ap (λ (m : Mark). placed m h) c.wide_mark.ensures)
    ∙ wide_offered c.args.code h c.in-Plain.is c.in-Text.is

use Prim.Native.Char.{code}
use Rattle.std.proofs.Common.{ℕ, ◌∙◌, ap, get_or, not, ◌==◌}
use Rattle.preconv_converter.specs.declared.runs.TheConstants.{TEXT}
use Rattle.preconv_converter.proofs.TextTable.{text_entry}
use Rattle.preconv_converter.proofs.runs.goes_on_text.Goals as goal

pub returns : goal.returns
returns c =
    ap (λ (b : ℕ). not (get_or TEXT b 0 == code "-")) c.from.ensures
    ∙ text_entry c.args.byte c.ranges.byte.fits

use Rattle.std.proofs.Common.{◌∙◌, ap, sym}
use Rattle.tbl_blocks.specs.Words.{with_reading}
use Rattle.tbl_blocks.proofs.Quiet.{quiet_unit}
use Rattle.tbl_blocks.proofs.blocks.Blocks.take_whole.Goals as goal

pub returns-then-is_quiet : goal.returns-then-is_quiet
returns-then-is_quiet c =
    ap (λ r. with_reading r c.args.self.now) c.print_plain.ensures
    ∙ sym (quiet_unit c.args.byte c.args.rest.now c.args.at c.args.self.now (sym c.is_quiet.ensures ∙ c.if-is_quiet.true))

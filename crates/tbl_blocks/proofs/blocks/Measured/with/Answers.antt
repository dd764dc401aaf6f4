use Rattle.std.proofs.Common.{sym, ◌∙◌}
use Rattle.tbl_blocks.proofs.Printing.{measured_printing}
use Rattle.tbl_blocks.proofs.blocks.Measured.with.Goals as goal

pub returns-then-is_printing : goal.returns-then-is_printing
returns-then-is_printing c =
    c.widened.ensures
    ∙ sym (measured_printing c.args.byte c.args.rest.now c.args.strings.now c.args.self c.if-self-gt0.false (sym c.is_printing.ensures ∙ c.if-is_printing.true))

use Rattle.tbl_stage.specs.Text.{bounds_in, set_text}
use Rattle.document_printing.proofs.setting.format_set.Goals as goal

pub returns-clause-answers : goal.returns-clause-answers
returns-clause-answers g c q is =
    c.format_joined-outcome.ensures.answers (set_text (bounds_in c.args.rooms.now) q) (c.set_tables-text.ensures.supply q is)

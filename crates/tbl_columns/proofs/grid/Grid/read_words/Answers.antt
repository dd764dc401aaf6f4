use Rattle.std.proofs.Common.{ap, ◌∙◌}
use Rattle.tbl_columns.specs.Held.{emptied}
use Rattle.tbl_columns.proofs.grid.Grid.read_words.Goals as goal

pub returns-clause-room : goal.returns-clause-room
returns-clause-room c =
    c.add_text.ensures.room ∙ ap (λ blocks. record (emptied c.args.self.now) { blocks = blocks }) c.read_field-seen.ensures.room

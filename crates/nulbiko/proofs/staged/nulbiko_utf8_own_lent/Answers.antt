use Rattle.std.proofs.Common.{refl}
use Rattle.preconv_coding.specs.UnderCoding.{text_of}
use Rattle.utf8_own_characters.specs.Table.{Characters}
use Rattle.utf8_own_sink.specs.Cells.{converted}
use Rattle.nulbiko.specs.Looked.{counts_in}
use Rattle.nulbiko.proofs.OwnRun.{made-as}
use Rattle.nulbiko.proofs.StagedRun.{made-own}
use Rattle.nulbiko.proofs.staged.nulbiko_utf8_own_lent.Goals as goal

pub returns-in_default-clause-made : goal.returns-in_default-clause-made
returns-in_default-clause-made c = λ done short. absurd (done refl)

pub returns-clause-made : goal.returns-clause-made
returns-clause-made c = λ done short.
    let page = text_of c.args.page.now in
    made-own page (λ (t : Characters). converted t c.args.escapes c.args.input.now) _ _ _ _ c.table-table.result c.of_bytes.ensures
    (made-as (counts_in page) _ _ c.table-table.ensures.made (c.in-Ok.ensures short.look))
    (c.show_text-written.ensures.handed short.text_is) (c.show_text-written.ensures.code short.text_is)

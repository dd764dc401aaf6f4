use Rattle.std.proofs.Common.{◌∙◌, ap}
use Rattle.tbl_table.specs.declared.signs.Signs.{Signs}
use Rattle.tbl_stage.specs.Memory.{limits_of}
use Rattle.tbl_stage.specs.Text.{bounds_in}
use Rattle.document_reader.specs.Page.{own_supply}
use Rattle.program_command.proofs.Shown.{OwnShows-of, short-own, short-whole}
use Rattle.program_command.proofs.own.print_own.Goals as goal

pub returns-clause-prints : goal.returns-clause-prints
returns-clause-prints g c = λ checks strikes q known unbroken short.
    let plan = c.args.plan.now in
    let is = c.own_showing-showing.ensures in
    let few = short-whole plan.stages q.bytes short in
    OwnShows-of plan c.args.table c.args.means c.args.desk.now c.own_showing-showing.result (bounds_in c.in-Ok.rooms) q c.print_page-output.result.1 _ _ is
    (c.in-Ok.ensures.tables ∙ ap (λ (s : Signs). limits_of c.args.means.limits plan.cells s) c.signs_of.ensures)
    (c.print_page-output.ensures.whole checks strikes (own_supply plan.stages c.args.table.now q)
    (c.read_own_page-coded.ensures.whole q known unbroken few.man_is few.plain_is) unbroken
    (short-own plan c.args.table c.args.means c.own_showing-showing.result q.bytes is short))

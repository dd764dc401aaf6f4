use Rattle.tbl_stage.specs.Text.{bounds_in}
use Rattle.program_command.proofs.Shown.{FixedShows-of, short-fixed}
use Rattle.program_command.proofs.printing.print_fixed.Goals as goal

pub returns-clause-prints : goal.returns-clause-prints
returns-clause-prints g c = λ checks strikes q known unbroken short.
    let is = c.fixed_showing-showing.ensures in
    FixedShows-of c.args.plan.now c.args.means c.args.desk.now c.fixed_showing-showing.result (bounds_in c.in-Ok.rooms) q c.print_page-output.result.1 _ _ is c.in-Ok.ensures.tables
    (c.print_page-output.ensures.whole checks strikes q known unbroken (short-fixed c.args.plan.now c.args.means c.fixed_showing-showing.result q.bytes is short))

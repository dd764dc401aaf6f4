use Rattle.std.proofs.Common.{refl}
use Rattle.document_printing.specs.declared.showing.PageTable.TheVariants.{Own}
use Rattle.nulbiko.proofs.OwnRun.{shown-coded}
use Rattle.nulbiko.proofs.printed.print_coded.Goals as goal

pub returns-clause-shown : goal.returns-clause-shown
returns-clause-shown c held short bytes is = (
  Own c.args.table,
  refl,
  shown-coded c.args.setup _ _ _ _ _ _ _ _ _ _ _ _ bytes
      (c.print_shown-pages.ensures.whole _ (c.read_own_page-coded.ensures.whole _ c.over-text.ensures.supply refl short.page short.plain) refl)
      c.coded_showing-showing.ensures.setup c.coded_showing-showing.ensures.spelling short.coded
      held is c.ended.ensures.moves c.ended.ensures.outcome,
)

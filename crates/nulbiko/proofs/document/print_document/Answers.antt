use Rattle.std.proofs.Common.{◌∙◌, Bool, ap, rules}
use Rattle.preconv_characters.specs.Targets.{target_of}
use Rattle.tbl_setting.specs.Drawing.{signs_of}
use Rattle.tbl_stage.specs.Text.{bounds_in}
use Rattle.nulbiko.specs.Document.{sets_of, tables_by}
use Rattle.nulbiko.specs.Printed.{form_of}
use Rattle.nulbiko.proofs.DocumentRun.{set_printed}
use Rattle.nulbiko.proofs.document.print_document.Goals as goal

pub returns-clause-printed : goal.returns-clause-printed
returns-clause-printed c sets characters held limits drawn short = record {
  options = c.options_for-options.result;
  asked = c.options_for-options.ensures;
  tables = bounds_in c.args.prepared.rooms;
  set_by = drawn ∙ ap (λ (z : Bool). tables_by c.args.asked.setup.now z (signs_of c.args.prepared.characters)) sets
      ∙ ap (λ t. tables_by c.args.asked.setup.now (sets_of c.args.asked.setup.now c.args.page.now) (signs_of t)) characters;
  moves = c.print_pages-pages.result.1.moves;
  outcome = c.print_pages-pages.result.1.outcome;
  bytes = c.as_slice-bytes.result.now;
  printed = set_printed _ _ _ _ _ _ _ _ _ _ _ _ _ _ _ _ _ _ (c.print_pages-pages.ensures.printed held short _ c.as_slice-bytes.ensures) sets (c.of-target.ensures ∙ ap (λ t. target_of t) characters) limits
      (c.form_of-form.ensures ∙ ap (λ t. form_of c.args.asked.setup.now.options.form t) characters) c.report_of.ensures.dropped;
  handed = search rules;
  code_is = search rules;
  moves_reported = search rules;
  limit = search rules;
  place = search rules;
}

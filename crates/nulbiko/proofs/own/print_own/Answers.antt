use Rattle.std.proofs.Common.{◌∙◌, Bool, ap, rules}
use Rattle.preconv_characters.specs.Targets.{target_of}
use Rattle.preconv_characters.specs.declared.target.Target.TheVariants.{Ascii}
use Rattle.tbl_stage.specs.Text.{bounds_in}
use Rattle.nulbiko.specs.Document.{table_for, tables_by}
use Rattle.nulbiko.specs.Own.{counts_for}
use Rattle.nulbiko.proofs.OwnRun.{coded-short, is-own, made-as, set-own}
use Rattle.nulbiko.proofs.own.print_own.Goals as goal

pub returns-clause-printed : goal.returns-clause-printed
returns-clause-printed c sets held limits drawn is short =
    let counts = counts_for c.args.asked.setup.now c.args.text.now in
    let made = made-as counts _ _ c.table-table.ensures.made is in
    let shown = c.print_coded-pages.ensures.shown held (coded-short c.args.asked.setup.now c.args.text.now _ _ c.stages_of.ensures short made) _ c.as_slice-bytes.ensures in
    record {
      table = shown.0;
      is = is-own counts _ _ shown.1 made;
      options = c.options_for-options.result;
      asked = c.options_for-options.ensures;
      tables = bounds_in c.args.prepared.rooms;
      set_by = drawn ∙ ap (λ (z : Bool). tables_by c.args.asked.setup.now z (bounds_in c.args.prepared.rooms).tables.signs) sets;
      bytes = c.as_slice-bytes.result.now;
      moves = c.print_coded-pages.result.1.moves;
      outcome = c.print_coded-pages.result.1.outcome;
      shown = set-own _ _ _ _ _ _ Ascii (target_of (table_for c.args.asked.setup.now.options.table c.args.text.now)) _ _ _ _ _ _ _ _ _ shown.2 c.stages_of.ensures sets limits;
      handed = search rules;
      code_is = search rules;
      moves_reported = search rules;
      limit = search rules;
      place = search rules;
      none_dropped = search rules;
    }

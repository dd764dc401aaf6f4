use Rattle.std.proofs.Common.{ℕ, ap, sym, refl, ◌∙◌, false}
use Rattle.tbl_drawing.proofs.Tapes.{draws_same}
use Rattle.tbl_setting.specs.declared.setting.Setting.{Setting}
use Rattle.tbl_setting.specs.Held.{table_set, table_strokes}
use Rattle.tbl_setting.specs.Setting.{block_goes_on, cut_off}
use Rattle.tbl_table.specs.Rows.{row_len}
use Rattle.tbl_setting.proofs.press.Press.divide_block.Goals as goal

pub returns-clause-draws : goal.returns-clause-draws
returns-clause-draws g c =
    draws_same c.put_table.ensures.draws (ap (λ (k : Setting). table_strokes false k) (sym c.cut_off.ensures.value))

pub returns-clause-setting : goal.returns-clause-setting
returns-clause-setting g c =
    let t = c.args.self.now.setting.now in
    record {
      same = refl;
      now = c.go_on.ensures.value
          ∙ ap (λ (k : Setting). block_goes_on c.row_len-column.result k)
          (c.put_table.ensures.value ∙ ap (λ (k : Setting). table_set false k) c.cut_off.ensures.value)
          ∙ ap (λ (n : ℕ). block_goes_on n (table_set false (cut_off t))) (c.row_len-column.ensures ∙ ap row_len c.table.ensures);
      room = c.go_on.ensures.room ∙ c.put_table.ensures.room ∙ c.cut_off.ensures.room;
    }

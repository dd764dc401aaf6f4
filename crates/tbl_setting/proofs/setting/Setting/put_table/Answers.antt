use Rattle.std.specs.Prelude.{◌||◌}
use Rattle.std.proofs.Common.{◌≡◌, Bool, true, false, refl, ap, sym, ◌∙◌}
use Rattle.tbl_drawing.specs.declared.layout.Layout.{Layout}
use Rattle.tbl_setting.specs.Held.{is_wide}
use Rattle.tbl_setting.specs.declared.setting.Setting.{Setting}
use Rattle.tbl_setting.proofs.setting.Setting.put_table.Goals as goal
use Rattle.tbl_setting.proofs.setting.Setting.put_table.Goals.{then-self, else-self}

first_is : (a b r : Bool) → a ≡ true → r ≡ true → r ≡ (a || b)
first_is true b r first is = is
first_is false b r first is = cc

other_is : (a b r : Bool) → a ≡ false → r ≡ b → r ≡ (a || b)
other_is true b r first is = cc
other_is false b r first is = is

-- the table went out, and whether it is wide was asked of it
table_out : (s : Setting) (l t : Layout) (w : Bool) → l ≡ t → w ≡ (s.wide || is_wide l)
    → record s { layout = l; wide = w } ≡ record s { layout = t; wide = s.wide || is_wide t }
table_out s l t w e is =
    ap (λ (k : Bool). record s { layout = l; wide = k }) is ∙ ap (λ (m : Layout). record s { layout = m; wide = s.wide || is_wide m }) e

pub returns-clause-value : goal.returns-clause-value
returns-clause-value g c =
    table_out c.args.self.now c.put_table.new.self _ c.if-self.self c.put_table.ensures.value
    (elim c.if-self.branch [
      | then-self w ↦ first_is c.args.self.now.wide (is_wide c.put_table.new.self) c.if-self.self w.if-self.true (w.self-is ∙ w.if-self.true)
      | else-self w ↦ other_is c.args.self.now.wide (is_wide c.put_table.new.self) c.if-self.self w.if-self.false (w.self-is ∙ c.is_wide-is_wide.ensures)
    ])

use Rattle.std.proofs.Common.{◌∙◌, List, Bool, Option, ap, subst, sym}
use Rattle.utf8_characters.specs.declared.table.FixedTable.{FixedTable}
use Rattle.utf8_own_characters.specs.declared.counting.Count.{Count}
use Rattle.utf8_own_page.specs.Needing.{lacks, may_need_own}
use Rattle.nulbiko.specs.Looked.{IsShortIf}
use Rattle.nulbiko.specs.Tables.{table_numbered}
use Rattle.nulbiko.proofs.StagedRun.{chosen-fixed, chosen-own, chosen-still}
use Rattle.nulbiko.proofs.looked.choose_in.Goals as goal

pub returns-then-not-may_need_own : goal.returns-then-not-may_need_own
returns-then-not-may_need_own c short =
    chosen-fixed c.args.text.now c.in_ok-fixed.fixed c.in_ok-fixed.ensures.is (sym c.may_need_own.ensures ∙ c.if-not-may_need_own.true)

pub returns-then-lacks : goal.returns-then-lacks
returns-then-lacks c short =
    let text = c.args.text.now in
    let asked = sym c.may_need_own.ensures ∙ c.if-not-may_need_own.false in
    chosen-own text c.in_ok-fixed.fixed c.in_ok-counts.counts.items c.lacks.result c.in_ok-fixed.ensures.is
    (c.in_ok-counts.ensures.items (subst (λ (b : Bool). IsShortIf b text) asked short)) asked
    (c.lacks.ensures ∙ ap (λ (o : Option FixedTable). lacks o c.deref.result.now) c.table_of.ensures
    ∙ ap (λ (xs : List Count). lacks (table_numbered c.in_ok-fixed.fixed) xs) c.deref.ensures.value)
    c.if-lacks.true

pub returns : goal.returns
returns c short =
    let text = c.args.text.now in
    let asked = sym c.may_need_own.ensures ∙ c.if-not-may_need_own.false in
    chosen-still text c.in_ok-fixed.fixed c.in_ok-counts.counts.items c.lacks.result c.in_ok-fixed.ensures.is
    (c.in_ok-counts.ensures.items (subst (λ (b : Bool). IsShortIf b text) asked short)) asked
    (c.lacks.ensures ∙ ap (λ (o : Option FixedTable). lacks o c.deref.result.now) c.table_of.ensures
    ∙ ap (λ (xs : List Count). lacks (table_numbered c.in_ok-fixed.fixed) xs) c.deref.ensures.value)
    c.if-lacks.false

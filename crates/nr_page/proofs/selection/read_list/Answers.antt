use Rattle.std.proofs.lemmas.Grind.{common_steps}
use Rattle.std.proofs.Common.{◌≡◌, ℕ, List, [], ◌∷◌, ◌++◌, length, sym, ap, subst, ◌∙◌, append_assoc, arith, rules}
use Rattle.nr_page.specs.declared.selection.PageRange.{PageRange}
use Rattle.nr_page.specs.Selection.{Spells}
use Rattle.nr_page.proofs.ListText.{first_item, Spells-cons, Continues-nil, Continues-comma, Continues-other}
use Rattle.nr_page.proofs.selection.read_list.Goals as goal

pub returns-in_err-item-clause-read : goal.returns-in_err-item-clause-read
returns-in_err-item-clause-read c items is_list =
    let left = c.loop-item.invariant.goes_on items is_list.spelled in
    let first = first_item left.0 c.loop-item.rest.now left.2 in
    absurd (c.in_err-item.ensures.read first.item first.prefix first.after first.spelled first.ends first.text_is)

pub returns-then-is_empty-clause-read : goal.returns-then-is_empty-clause-read
returns-then-is_empty-clause-read c items is_list =
    let left = c.loop-item.invariant.goes_on items is_list.spelled in
    let first = first_item left.0 c.loop-item.rest.now left.2 in
    let same = c.in_ok-item.ensures.read first.item first.prefix first.after first.spelled first.ends first.text_is in
    let pushed : c.try_push.new.self.items ≡ c.loop-item.list.items ++ c.in_ok-item.item ∷ [] = search rules in
    let at_end : c.in_ok-item.after.now ≡ [] = search rules in
    let alone = Continues-nil first.others first.after first.continues (sym same.1 ∙ at_end) in
    cc (pushed, left.1, first.items_are, same.0, alone)

pub returns-in_err-rest-clause-read : goal.returns-in_err-rest-clause-read
returns-in_err-rest-clause-read c items is_list =
    let left = c.loop-item.invariant.goes_on items is_list.spelled in
    let first = first_item left.0 c.loop-item.rest.now left.2 in
    let same = c.in_ok-item.ensures.read first.item first.prefix first.after first.spelled first.ends first.text_is in
    let ends = Continues-other first.others first.after first.continues (λ rest begins. c.in_err-rest.ensures.none rest (same.1 ∙ begins)) in
    let none : length c.in_ok-item.after.now ≡ 0 = ap length (same.1 ∙ ends) in
    absurd (grind (arith, none, c.if-is_empty.false, c.is_empty.ensures))

pub loop-item-preserved : goal.loop-item-preserved
loop-item-preserved c =
    let list = c.loop-item.list.items in
    let item = c.in_ok-item.item in
    let rest = c.in_ok-rest.rest.now in
    let pushed : c.try_push.new.self.items ≡ c.loop-item.list.items ++ c.in_ok-item.item ∷ [] = search rules in
    record {
      spells = λ more spelled.
          let found = c.in_ok-item.ensures.found in
          let longer = Spells-cons item more found.0 rest c.loop-item.rest.now found.2
          (found.1 ∙ ap (λ (xs : List ℕ). found.0 ++ xs) c.in_ok-rest.ensures.found) spelled in
          subst (λ (xs : List PageRange). Spells xs c.args.text.now)
          (sym (append_assoc list (item ∷ []) more) ∙ ap (λ (xs : List PageRange). xs ++ more) (sym pushed))
          (c.loop-item.invariant.spells (item ∷ more) longer);
      goes_on = λ items spelled.
          let left = c.loop-item.invariant.goes_on items spelled in
          let first = first_item left.0 c.loop-item.rest.now left.2 in
          let same = c.in_ok-item.ensures.read first.item first.prefix first.after first.spelled first.ends first.text_is in (
            first.others,
            cc (pushed, left.1, first.items_are, same.0, append_assoc list (item ∷ []) first.others),
            Continues-comma first.others first.after rest first.continues (sym same.1 ∙ c.in_ok-rest.ensures.found),
          );
    }

pub returns-in_err-ok-clause-read : goal.returns-in_err-ok-clause-read
returns-in_err-ok-clause-read c = grind (arith, common_steps)

pub returns-then-is_empty-clause-listed : goal.returns-then-is_empty-clause-listed
returns-then-is_empty-clause-listed c = grind (arith, common_steps)

pub loop-item-smaller : goal.loop-item-smaller
loop-item-smaller c = grind (arith, common_steps)

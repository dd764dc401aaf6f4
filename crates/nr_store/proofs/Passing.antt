-- Lemmas on a level that goes on, or ends, and reads no text.
use Rattle.std.proofs.Common.{◌≡◌, ℕ, ◌-◌, ◌≤◌, Some, arith, rules}
use Rattle.std.proofs.lemmas.Grind.{common_steps}
use Rattle.nr_vectors.specs.Items.{Items}
use Rattle.nr_pool.specs.Texts.{Texts}
use Rattle.nr_symbol_tables.specs.Rows.{SymbolTable}
use Rattle.nr_levels.specs.Levels.{Levels, next_item_of, advanced, closed, resumed, charge_of_newest, HasMark}
use Rattle.nr_levels.specs.declared.frame.NextItem.TheVariants as next_items
use Rattle.nr_store.specs.declared.named.Sense.{Sense}
use Rattle.nr_store.specs.declared.element.Element.{Element}
use Rattle.nr_store.specs.declared.element.Draft.{Draft}
use Rattle.nr_store.specs.Holders.{Beside, IsStore}

module _ {K : Type 0} (p : Texts Element) (names : SymbolTable Sense) (drafts : Items Draft) (levels : Levels K) (beside : Beside) (charge limit : ℕ) (h : IsStore p names drafts levels beside charge limit) where
  -- it goes on
  pub byte_passed : (b : ℕ) → next_item_of levels.levels ≡ Some (next_items.Byte b) → IsStore p names drafts (record levels { levels = advanced levels.levels }) beside charge limit
  byte_passed b is = search rules

  pub text_passed : (id place : ℕ) → next_item_of levels.levels ≡ Some (next_items.Text id place) → IsStore p names drafts (record levels { levels = advanced levels.levels }) beside charge limit
  text_passed id place is = search rules

  -- it is taken away
  pub byte_stands : (b : ℕ) → next_item_of levels.levels ≡ Some (next_items.Byte b) → IsStore p names drafts (closed levels.levels levels) beside (charge - charge_of_newest levels.levels) limit
  byte_stands b is = grind (arith, common_steps)

  pub byte_paid : (b : ℕ) → next_item_of levels.levels ≡ Some (next_items.Byte b) → charge_of_newest levels.levels ≤ charge
  byte_paid b is = grind (arith, common_steps)

  pub end_stands : next_item_of levels.levels ≡ Some next_items.End → IsStore p names drafts (closed levels.levels levels) beside (charge - charge_of_newest levels.levels) limit
  end_stands is = grind (arith, common_steps)

  pub end_paid : next_item_of levels.levels ≡ Some next_items.End → charge_of_newest levels.levels ≤ charge
  end_paid is = grind (arith, common_steps)

  pub mark_gone : HasMark (next_item_of levels.levels) → IsStore p names drafts (resumed levels.levels levels) beside charge limit
  mark_gone is = search rules

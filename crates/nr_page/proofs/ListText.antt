-- How the text of a page list falls apart: its first item, and what stands after it.
use Rattle.std.proofs.Common.{◌≡◌, ℕ, List, [], ◌∷◌, ◌++◌, refl, sym, subst, append-nil}
use Rattle.nr_page.specs.declared.selection.PageRange.{PageRange}
use Rattle.nr_page.specs.Selection.{SpellsItem, Spells, comma}
use Rattle.nr_page.specs.SelectionReading.{BeginsAfterItem}

-- what stands after an item: nothing, or a comma and the other items
abbrev pub Continues : List PageRange → List ℕ → Type 0
Continues [] after = after ≡ []
Continues (next ∷ others) after = (rest : List ℕ) × (after ≡ comma ∷ rest) × Spells (next ∷ others) rest

-- the first of the items, and the others
pub record FirstItem (items : List PageRange) (text : List ℕ) : Type 0 where
  pub item : PageRange
  pub others : List PageRange
  pub prefix : List ℕ
  pub after : List ℕ
  pub items_are : items ≡ item ∷ others
  pub text_is : text ≡ prefix ++ after
  pub spelled : SpellsItem item prefix
  pub ends : BeginsAfterItem after
  pub continues : Continues others after

-- a page list begins with an item
pub first_item : (items : List PageRange) (text : List ℕ) → Spells items text → FirstItem items text
first_item [] text spelled = absurd spelled
first_item (item ∷ []) text spelled = record {
  item = item;
  others = [];
  prefix = text;
  after = [];
  items_are = refl;
  text_is = sym (append-nil text);
  spelled = spelled;
  ends = tt;
  continues = refl;
}
first_item (item ∷ next ∷ others) text (prefix, rest, text_is, spelled, rest_spelled) = record {
  item = item;
  others = next ∷ others;
  prefix = prefix;
  after = comma ∷ rest;
  items_are = refl;
  text_is = text_is;
  spelled = spelled;
  ends = refl;
  continues = (rest, refl, rest_spelled);
}

-- one more item in front
pub Spells-cons : (item : PageRange) (others : List PageRange) (prefix rest text : List ℕ) → SpellsItem item prefix → text ≡ prefix ++ comma ∷ rest
    → Spells others rest → Spells (item ∷ others) text
Spells-cons item [] prefix rest text spelled is rest_spelled = absurd rest_spelled
Spells-cons item (next ∷ others) prefix rest text spelled is rest_spelled = (prefix, rest, is, spelled, rest_spelled)

-- after an item at which the text ends there is none
pub Continues-nil : (others : List PageRange) (after : List ℕ) → Continues others after → after ≡ [] → others ≡ []
Continues-nil [] after continues is = refl
Continues-nil (next ∷ others) after (rest, after_is, _) is = cc

-- after a comma there are more
pub Continues-comma : (others : List PageRange) (after rest : List ℕ) → Continues others after → after ≡ comma ∷ rest → Spells others rest
Continues-comma [] after rest continues is = cc
Continues-comma (next ∷ others) after rest (more, after_is, spelled) is =
    let same : more ≡ rest = cc in subst (λ (xs : List ℕ). Spells (next ∷ others) xs) same spelled

-- else the text is at its end
pub Continues-other : (others : List PageRange) (after : List ℕ) → Continues others after → ((rest : List ℕ) → after ≡ comma ∷ rest → ⊥) → after ≡ []
Continues-other [] after continues other = continues
Continues-other (next ∷ others) after (rest, after_is, _) other = absurd (other rest after_is)

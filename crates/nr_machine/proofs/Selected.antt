-- Which pages are printed, as facts.
use Rattle.std.proofs.Common.{◌≡◌, ℕ, suc, ◌<◌, Bool, true, false, ◌&&◌, ◌||◌, T, List, [], ◌∷◌, length, get_or, Option, None, Some, ℤ, pos, ◌≤ℤ◌, int_le, IsTrue, refl, sym, ◌∙◌, subst, arith}
use Rattle.std.specs.List.{list_any}
use Rattle.std.proofs.lemmas.Int.{ints}
use Rattle.std.proofs.lemmas.Bool.{false≢true}
use Rattle.nr_page.specs.Selection.{Includes, Selects}
use Rattle.nr_page.specs.declared.selection.PageRange.{PageRange}
use Rattle.nr_page.specs.declared.selection.PageRange.TheVariants.{One, Between, UpTo, From}
use Rattle.nr_machine.specs.Printing.{includes, selects}

in_order : (a b : ℤ) → int_le a b ≡ true → a ≤ℤ b
in_order a b e = record { le = subst T (sym e) tt }

same : (n : ℕ) (page : ℤ) → pos n ≤ℤ page → page ≤ℤ pos n → page ≡ pos n
same n page a b = omega (arith, ints)

first : (a b : Bool) → (a && b) ≡ true → a ≡ true
first true b e = refl
first false b e = e

second : (a b : Bool) → (a && b) ≡ true → b ≡ true
second true b e = e
second false b e = absurd (false≢true e)

included : (item : PageRange) (page : ℤ) → includes item page ≡ true → Includes item page
included (One n) page e = same n page (in_order (pos n) page (first (int_le (pos n) page) (int_le page (pos n)) e)) (in_order page (pos n) (second (int_le (pos n) page) (int_le page (pos n)) e))
included (Between n m) page e =
    (in_order (pos n) page (first (int_le (pos n) page) (int_le page (pos m)) e), in_order page (pos m) (second (int_le (pos n) page) (int_le page (pos m)) e))
included (UpTo n) page e = in_order page (pos n) e
included (From n) page e = in_order (pos n) page e

-- an item that passes, and its place
record Passing (items : List PageRange) (page : ℤ) : Type 0 where
  at : ℕ
  item : PageRange
  within : at < length items
  is : (d : PageRange) → get_or items at d ≡ item
  names : Includes item page

passing_first : (x : PageRange) (xs : List PageRange) (page : ℤ) (b : Bool) → includes x page ≡ b → (list_any (λ item. includes item page) xs ≡ true → Passing xs page)
    → (b || list_any (λ item. includes item page) xs) ≡ true → Passing (x ∷ xs) page
passing_first x xs page true is rest e = record { at = 0; item = x; within = omega arith; is = λ d. refl; names = included x page is }
passing_first x xs page false is rest e = let p = rest e in record { at = suc p.at; item = p.item; within = omega (arith, p.within); is = p.is; names = p.names }

passing : (items : List PageRange) (page : ℤ) → list_any (λ item. includes item page) items ≡ true → Passing items page
passing [] page e = absurd (false≢true e)
passing (x ∷ xs) page e = passing_first x xs page (includes x page) refl (passing xs page) e

selected : (list : Option (List PageRange)) (page : ℤ) → selects list page ≡ true → Selects list page
selected None page e = tt
selected (Some items) page e = let p = passing items page e in (p.at, p.item, p.within, p.is p.item, p.names)

not_selected_by : (list : Option (List PageRange)) (page : ℤ) (r b : Bool) → selects list page ≡ b → (Selects list page → IsTrue r) → r ≡ false → b ≡ false
not_selected_by list page r true is selects_it out = absurd (false≢true (sym out ∙ selects_it (selected list page is)))
not_selected_by list page r false is selects_it out = refl

-- a page that is not selected is not printed
pub not_selected : (list : Option (List PageRange)) (page : ℤ) (r : Bool) → (Selects list page → IsTrue r) → r ≡ false → selects list page ≡ false
not_selected list page r selects_it out = not_selected_by list page r (selects list page) refl selects_it out

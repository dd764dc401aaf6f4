-- Page selection: how a page list is spelled, and which pages it selects. (CSTR 54, usage, option -o.)
use Prim.Native.Char.{code}
use Rattle.std.specs.Prelude.{◌≡◌, ℕ, ◌≤◌, List, [], ◌∷◌, ◌++◌, length, Option, Some, None, Any, ℤ, pos, ◌≤ℤ◌}
use Rattle.std.specs.Str.Parse.{IsNumeral, digits_value}
use Rattle.nr_page.specs.declared.selection.PageRange.{PageRange}
use Rattle.nr_page.specs.declared.selection.PageRange.TheVariants.{One, Between, UpTo, From}

-- the bytes `,` and `-`
abbrev pub comma : ℕ
comma = code ","

abbrev pub hyphen : ℕ
hyphen = code "-"

-- the text is decimal digits that write n: one or more, leading zeros allowed, no sign; n is at most 2147483647
pub record WritesNumber (n : ℕ) (text : List ℕ) : Type 0 where
  pub digits : IsNumeral 10 text
  pub value : n ≡ digits_value 10 text
  pub in_range : n ≤ 2147483647

-- the text writes the item: `N`, `N-M` with N not above M, `-N`, or `N-`
abbrev pub SpellsItem : PageRange → List ℕ → Type 0
SpellsItem (One n) text = WritesNumber n text
SpellsItem (Between n m) text = (first : List ℕ) × (last : List ℕ) × (text ≡ first ++ hyphen ∷ last)
    × WritesNumber n first × WritesNumber m last × (n ≤ m)
SpellsItem (UpTo n) text = (last : List ℕ) × (text ≡ hyphen ∷ last) × WritesNumber n last
SpellsItem (From n) text = (first : List ℕ) × (text ≡ first ++ hyphen ∷ []) × WritesNumber n first

-- the text writes the items in order, one or more, with a comma between each two
abbrev pub Spells : List PageRange → List ℕ → Type 0
Spells [] text = ⊥
Spells (item ∷ []) text = SpellsItem item text
Spells (item ∷ next ∷ items) text = (prefix : List ℕ) × (rest : List ℕ) × (text ≡ prefix ++ comma ∷ rest)
    × SpellsItem item prefix × Spells (next ∷ items) rest

-- the text is a page list of these items: 1 to 64 of them
pub record IsPageList (items : List PageRange) (text : List ℕ) : Type 0 where
  pub spelled : Spells items text
  pub at_most : length items ≤ 64

-- the page is one of those that the item names
abbrev pub Includes : PageRange → ℤ → Type 0
Includes (One n) page = page ≡ pos n
Includes (Between n m) page = (pos n ≤ℤ page) × (page ≤ℤ pos m)
Includes (UpTo n) page = page ≤ℤ pos n
Includes (From n) page = pos n ≤ℤ page

-- the page is selected: some item of the list names it, or there is no list
abbrev pub Selects : Option (List PageRange) → ℤ → Type 0
Selects None page = Unit {0}
Selects (Some items) page = Any (λ item. Includes item page) items

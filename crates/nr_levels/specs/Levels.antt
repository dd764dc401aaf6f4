-- A stack of levels: texts that are being read, with what their ends restore.
use Rattle.std.specs.Prelude.{ℕ, ◌+◌, ◌^◌, ◌<◌, List, [], ◌∷◌, ◌++◌, take, drop, slice_index_or, sum_by, Option, Some, None}
use Rattle.nr_levels.specs.declared.frame.NextItem.{NextItem}
use Rattle.nr_levels.specs.declared.frame.NextItem.TheVariants as next_items

-- what a level still reads: a text from a place on, or bytes; or its end was taken, and a mode is still to be resumed
pub data Source (K : Type 0) : Type 0 where
  Text : ℕ → ℕ → Source K
  Own : List ℕ → Source K
  Mark : K → Source K

-- a level: the arguments that its end restores, what it is charged, and the mode that is resumed after its end
pub record Open (K : Type 0) : Type 0 where
  pub source : Source K
  pub old : List (List ℕ)
  pub charge : ℕ
  pub resume : Option K

-- the levels, the newest first, and the arguments in force; how many bytes there is room for, and levels
pub record Levels (K : Type 0) : Type 0 where
  pub levels : List (Open K)
  pub arguments : List (List ℕ)
  pub capacity : ℕ
  pub most : ℕ

-- the bytes cut up by these lengths
abbrev pub cut : List ℕ → List ℕ → List (List ℕ)
cut [] bytes = []
cut (n ∷ ns) bytes = take n bytes ∷ cut ns (drop n bytes)

-- an argument; an absent one is empty
abbrev pub argument : List (List ℕ) → ℕ → List ℕ
argument arguments n = slice_index_or arguments n []

-- what all levels are charged
abbrev pub total : {K : Type 0} → List (Open K) → ℕ
total levels = sum_by (λ (l : Open _). l.charge) levels

-- what comes next of a source
abbrev pub next_item : {K : Type 0} → Source K → NextItem K
next_item (Text id place) = next_items.Text id place
next_item (Own []) = next_items.End
next_item (Own (b ∷ bs)) = next_items.Byte b
next_item (Mark mode) = next_items.Resume mode

-- what comes next of the newest level
abbrev pub next_item_of : {K : Type 0} → List (Open K) → Option (NextItem K)
next_item_of [] = None
next_item_of (l ∷ ls) = Some (next_item l.source)

-- a source after what comes next
abbrev pub afterwards : {K : Type 0} → Source K → Source K
afterwards (Text id place) = Text id (place + 1)
afterwards (Own bytes) = Own (drop 1 bytes)
afterwards (Mark mode) = Mark mode

-- the newest level after what comes next
abbrev pub advanced : {K : Type 0} → List (Open K) → List (Open K)
advanced [] = []
advanced (l ∷ ls) = record l { source = afterwards l.source } ∷ ls

-- an element comes next, where the text has one
abbrev pub HasNext : {K : Type 0} → Option (NextItem K) → Type 0
HasNext None = ⊥
HasNext (Some (next_items.Text id place)) = place + 1 < 2 ^ 32
HasNext (Some (next_items.Byte b)) = Unit {0}
HasNext (Some next_items.End) = ⊥
HasNext (Some (next_items.Resume mode)) = ⊥

-- there is a level whose end is still to be taken
abbrev pub HasEnd : {K : Type 0} → Option (NextItem K) → Type 0
HasEnd None = ⊥
HasEnd (Some (next_items.Text id place)) = Unit {0}
HasEnd (Some (next_items.Byte b)) = Unit {0}
HasEnd (Some next_items.End) = Unit {0}
HasEnd (Some (next_items.Resume mode)) = ⊥

-- a mode that is to be resumed comes next
abbrev pub HasMark : {K : Type 0} → Option (NextItem K) → Type 0
HasMark None = ⊥
HasMark (Some (next_items.Text id place)) = ⊥
HasMark (Some (next_items.Byte b)) = ⊥
HasMark (Some next_items.End) = ⊥
HasMark (Some (next_items.Resume mode)) = Unit {0}

-- with one level more
abbrev pub deeper : {K : Type 0} → Source K → List (List ℕ) → ℕ → Option K → Levels K → Levels K
deeper source arguments charge resume v = record v {
  levels = record { source = source; old = v.arguments; charge = charge; resume = resume } ∷ v.levels;
  arguments = arguments;
}

-- what stays of a level whose end is taken: the mode that is to be resumed, if there is one
abbrev pub marks : {K : Type 0} → Option K → List (List ℕ) → List (Open K)
marks None old = []
marks (Some mode) old = record { source = Mark mode; old = old; charge = 0; resume = None } ∷ []

-- where the newest level's end is taken
abbrev pub closed : {K : Type 0} → List (Open K) → Levels K → Levels K
closed [] v = v
closed (l ∷ ls) v = record v { levels = marks l.resume l.old ++ ls; arguments = l.old }

-- where the newest level's mode is resumed
abbrev pub resumed : {K : Type 0} → List (Open K) → Levels K → Levels K
resumed [] v = v
resumed (l ∷ ls) v = record v { levels = ls }

-- what the newest level is charged
abbrev pub charge_of_newest : {K : Type 0} → List (Open K) → ℕ
charge_of_newest [] = 0
charge_of_newest (l ∷ ls) = l.charge

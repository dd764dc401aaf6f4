-- What the newest frame gives next, and how it goes on.
use Rattle.std.specs.Prelude.{◌≡◌, ℕ, ◌+◌, ◌-◌, ◌^◌, ◌<◌, ◌≤◌, List, [], ◌∷◌, Option, Some, None}
use Rattle.nr_levels.specs.Levels.{HasMark}
use Rattle.nr_levels.specs.declared.frame.Next.{Next}
use Rattle.nr_levels.specs.declared.frame.Next.TheVariants as nexts
use Rattle.nr_levels.specs.declared.frame.NextItem.{NextItem}
use Rattle.nr_levels.specs.declared.frame.NextItem.TheVariants as next_items
use Rattle.nr_levels.specs.declared.frame.Frame.{Frame}
use Rattle.nr_levels.specs.declared.frame.Reads.{Reads}
use Rattle.nr_levels.specs.declared.frame.Reads.TheVariants as reads

-- this says what comes next of the newest level
abbrev pub Comes : {K : Type 0} → Next → Option (NextItem K) → Type 0
Comes nexts.Nothing next_item = next_item ≡ None
Comes (nexts.Text id place) next_item = next_item ≡ Some (next_items.Text id place)
Comes (nexts.Byte b) next_item = next_item ≡ Some (next_items.Byte b)
Comes nexts.End next_item = next_item ≡ Some next_items.End
Comes nexts.Resume next_item = HasMark next_item

-- what a frame reads, so many elements further on
abbrev pub gone_on : ℕ → Reads → Reads
gone_on n (reads.Text id place) = reads.Text id (place + n)
gone_on n (reads.Own s) = reads.Own (record s { first = s.first + n })
gone_on n reads.Mark = reads.Mark

-- it has so many
abbrev pub MayGoOn : ℕ → Reads → Type 0
MayGoOn n (reads.Text id place) = 0 < n → place + n < 2 ^ 32
MayGoOn n (reads.Own s) = n ≤ s.last - s.first
MayGoOn n reads.Mark = Unit {0}

-- the newest frame, so many elements further on
abbrev pub newest_gone_on : ℕ → List Frame → List Frame
newest_gone_on n [] = []
newest_gone_on n (f ∷ fs) = record f { reads = gone_on n f.reads } ∷ fs

abbrev pub NewestMayGoOn : ℕ → List Frame → Type 0
NewestMayGoOn n [] = ⊥
NewestMayGoOn n (f ∷ fs) = MayGoOn n f.reads

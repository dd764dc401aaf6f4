-- The bytes of the source that are to come, item by item, and how the program stands before them.
use Prim.Native.Char.{code}
use Rattle.std.specs.Prelude.{◌≡◌, ℕ, ◌+◌, ◌≤◌, ◌^◌, Bool, true, false, not, ◌==◌, ◌&&◌, if◌then◌else◌, List, [], ◌∷◌, Option, Some, Result, Ok, Err, ⊤}
use Rattle.nr_units.specs.Source.{Supply, Never, MayFail, MayGive, one_later}
use Rattle.nr_store.specs.declared.element.Element.{Element}
use Rattle.nr_store.specs.declared.element.Element.TheVariants as elements
use Rattle.nr_store.specs.declared.shown.Shown.{Shown}
use Rattle.nr_store.specs.declared.shown.Shown.TheVariants as shows
use Rattle.nr_reading.specs.declared.next_item.NextItem.{NextItem}
use Rattle.nr_reading.specs.declared.next_item.NextItem.TheVariants as next_items
use Rattle.nr_input.specs.declared.place.Ahead.{Ahead}
use Rattle.nr_input.specs.declared.place.Ahead.TheVariants.{Unseen, Byte, End, Failed, TooMany}
use Rattle.nr_input.specs.declared.refusal.Refusal.{Refusal}
use Rattle.nr_input.specs.declared.refusal.Refusal.TheVariants as refusals

pub record Coming : Type 0 where
  -- the bytes that are to come, and when the source of them fails
  pub supply : Supply
  -- how many bytes were taken
  pub taken : ℕ
  -- the last of them is no newline: one is added after it where the input ends
  pub inside : Bool

-- the whole input
abbrev pub whole : Supply → Coming
whole supply = record { supply = supply; taken = 0; inside = false }

-- nothing of it any more
abbrev pub emptied : Coming → Coming
emptied c = record { supply = record { bytes = []; faults = Never }; taken = c.taken; inside = false }

-- ---- the items

-- what the source has next: a byte, the newline that is added, or nothing
abbrev pub next_item_of : List ℕ → Bool → NextItem
next_item_of (b ∷ bs) inside = next_items.Byte b
next_item_of [] true = next_items.Byte (code "\n")
next_item_of [] false = next_items.Over

abbrev pub element_item : Element → NextItem
element_item (elements.Byte b) = next_items.Byte b
element_item (elements.Cell c) = next_items.Cell c
element_item (elements.LineEnd h) = next_items.LineEnd h

-- the next item of the list: the levels' first, by what a look at them shows
abbrev pub next_item : {K : Type 0} → Shown K → Coming → NextItem
next_item shows.Nothing c = next_item_of c.supply.bytes c.inside
next_item shows.End c = next_items.Mark
next_item (shows.Item x) c = element_item x
next_item (shows.Resume k) c = next_items.Resume

abbrev pub after_item_of : List ℕ → Coming → Coming
after_item_of (b ∷ bs) c =
    record {
      supply = record { bytes = bs; faults = one_later c.supply.faults };
      taken = c.taken + 1;
      inside = not (b == code "\n");
    }
after_item_of [] c = record c { inside = false }

-- what is to come of the source after the next item of the list
abbrev pub afterwards : {K : Type 0} → Shown K → Coming → Coming
afterwards shows.Nothing c = after_item_of c.supply.bytes c
afterwards s c = c

-- the byte that is there, if one is, would be the 2^40th
abbrev pub IsOneTooMany : List ℕ → ℕ → Type 0
IsOneTooMany [] taken = ⊥
IsOneTooMany (b ∷ bs) taken = 2 ^ 40 ≤ taken + 1

-- the source may be looked at
abbrev pub MaySee : Coming → Type 0
MaySee c = MayGive c.supply.faults × (IsOneTooMany c.supply.bytes c.taken → ⊥)

-- it may refuse that
abbrev pub RefusesSight : Coming → Refusal → Type 0
RefusesSight c refusals.ReadFault = MayFail c.supply.faults
RefusesSight c refusals.TooLong = MayGive c.supply.faults × IsOneTooMany c.supply.bytes c.taken
RefusesSight c r = ⊥

-- ---- the program

-- how far it took the source, with what it read ahead
pub record Reached : Type 0 where
  pub ahead : Ahead
  pub taken : ℕ
  pub inside : Bool

abbrev pub nothing_reached : Reached
nothing_reached = record { ahead = Unseen; taken = 0; inside = false }

-- how many bytes were read ahead
abbrev pub waiting : Ahead → ℕ
waiting (Byte b) = 1
waiting a = 0

abbrev pub is_unseen : Ahead → Bool
is_unseen Unseen = true
is_unseen a = false

abbrev pub is_seen : Ahead → Bool
is_seen (Byte b) = true
is_seen End = true
is_seen a = false

-- What was read ahead is still to come, and the source goes on after it; and what it refused it refuses still.
abbrev pub HoldsSupply : Coming → Ahead → Option Supply → Type 0
HoldsSupply c Unseen supply = supply ≡ Some c.supply
HoldsSupply c End supply = (c.supply.bytes ≡ []) × MaySee c
HoldsSupply c (Byte b) supply =
    (bs : List ℕ) × (c.supply.bytes ≡ b ∷ bs) × MaySee c
    × (supply ≡ Some (record { bytes = bs; faults = one_later c.supply.faults }))
HoldsSupply c Failed supply = RefusesSight c refusals.ReadFault
HoldsSupply c TooMany supply = RefusesSight c refusals.TooLong

-- the program stands before this input, in front of a source that is about to give its bytes
pub record HoldsComing (c : Coming) (p : Reached) (supply : Option Supply) : Type 0 where
  pub taken : p.taken ≡ c.taken
  pub inside : p.inside ≡ c.inside
  pub stands : HoldsSupply c p.ahead supply

-- the source was looked at, or not
abbrev pub AfterSee : Coming → Result (Unit {0}) Refusal → Reached → Option Supply → Type 0
AfterSee c (Ok x) p supply = HoldsComing c p supply × MaySee c
AfterSee c (Err r) p supply = HoldsComing c p supply × RefusesSight c r

-- the source is looked at where there is no level
abbrev pub MayLook : {K : Type 0} → Shown K → Coming → Type 0
MayLook shows.Nothing c = MaySee c
MayLook s c = Unit {0}

abbrev pub RefusesLook : {K : Type 0} → Shown K → Coming → Refusal → Type 0
RefusesLook shows.Nothing c r = RefusesSight c r
RefusesLook s c r = ⊥

-- the next item of the list was looked at, or not
abbrev pub AfterLook : {K : Type 0} → Shown K → Coming → Result NextItem Refusal → Reached
    → Option Supply → Type 0
AfterLook s c (Ok f) p supply = (f ≡ next_item s c) × HoldsComing c p supply × MayLook s c
AfterLook s c (Err r) p supply = HoldsComing c p supply × RefusesLook s c r

-- the next item of the list was looked at
abbrev pub is_ready : {K : Type 0} → Shown K → Ahead → Bool
is_ready shows.Nothing ahead = is_seen ahead
is_ready s ahead = true

-- what the source has next, once it was looked at
abbrev pub seen_item : Ahead → Bool → NextItem
seen_item (Byte b) inside = next_items.Byte b
seen_item End inside = if inside then next_items.Byte (code "\n") else next_items.Over
seen_item a inside = next_items.Over

-- after it
abbrev pub passed_by : Ahead → Reached → Reached
passed_by (Byte b) p = record { ahead = Unseen; taken = p.taken + 1; inside = not (b == code "\n") }
passed_by End p = record p { inside = false }
passed_by a p = p

abbrev pub passed : Reached → Reached
passed p = passed_by p.ahead p

-- so many bytes were taken, and this was the last
abbrev pub passed_run : ℕ → ℕ → Reached → Reached
passed_run last n p = record { ahead = Unseen; taken = p.taken + n; inside = not (last == code "\n") }

-- the next item, as the program sees it once the source was looked at
abbrev pub next_item_seen : {K : Type 0} → Shown K → Reached → NextItem
next_item_seen shows.Nothing p = seen_item p.ahead p.inside
next_item_seen shows.End p = next_items.Mark
next_item_seen (shows.Item x) p = element_item x
next_item_seen (shows.Resume k) p = next_items.Resume

-- after it: where there is a level the source stays
abbrev pub passed_in : {K : Type 0} → Shown K → Reached → Reached
passed_in shows.Nothing p = passed p
passed_in s p = p

-- nothing is to come of the source
abbrev pub ended : Reached → Reached
ended p = record p { ahead = End; inside = false }

-- what was read ahead may be another, all else is as it was
pub record StaysThere (p q : Reached) : Type 0 where
  pub taken : q.taken ≡ p.taken
  pub inside : q.inside ≡ p.inside

abbrev pub is_read_fault : {X : Type 0} → Result X Refusal → Bool
is_read_fault (Err refusals.ReadFault) = true
is_read_fault r = false

abbrev pub has_failed : Ahead → Bool
has_failed Failed = true
has_failed a = false

-- what the source refused is kept
abbrev pub KeepsRefusal : {X : Type 0} → Result X Refusal → Ahead → Type 0
KeepsRefusal (Err refusals.ReadFault) ahead = ahead ≡ Failed
KeepsRefusal (Err refusals.TooLong) ahead = ahead ≡ TooMany
KeepsRefusal r ahead = ⊤

-- and refused again wherever the source would be looked at
abbrev pub RefusesAgain : {X : Type 0} → Ahead → Result X Refusal → Type 0
RefusesAgain Failed r = r ≡ Err refusals.ReadFault
RefusesAgain TooMany r = r ≡ Err refusals.TooLong
RefusesAgain ahead r = ⊤

-- the source fails in this very call
abbrev pub fails_now : {X : Type 0} → Ahead → Result X Refusal → Bool
fails_now ahead r = is_read_fault r && not (has_failed ahead)

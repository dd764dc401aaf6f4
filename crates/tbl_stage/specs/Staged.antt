-- A page with tables is turned a part at a time: what goes out of bytes that are to come, and of the end
-- after them, if it comes.
use Rattle.std.specs.Prelude.{◌≡◌, ℕ, ◌+◌, ◌≤◌, List, [], ◌∷◌, ◌++◌, length, Bool, true, false, not, ◌&&◌}
use Rattle.std.specs.Prelude.{nat_le, nat_lt, Option, None, Some, if◌then◌else◌}
use Rattle.nr_vectors.specs.Items.{Items}
use Rattle.tbl_reader.specs.declared.complaint.Complaint.{Complaint}
use Rattle.tbl_reader.specs.Ending.{first_page, next_read}
use Rattle.tbl_reader.specs.Pages.{Page, Effect}
use Rattle.tbl_reader.specs.Reading.{Fits}
use Rattle.tbl_setting.specs.declared.setting.Setting.{Setting}
use Rattle.tbl_setting.specs.Bounds.{Bounds, page_setting}
use Rattle.tbl_setting.specs.Running.{bounds_in}
use Rattle.tbl_setting.specs.Setting.{set}
use Rattle.tbl_setting.specs.Stepping.{next_bytes}
use Rattle.tbl_stage.specs.Rooms.{Room}

-- what was read of a page, and what is set of it; how many bytes came, and whether more would have gone out
-- at once than may
pub record Held : Type 0 where
  pub page : Page
  pub setting : Setting
  pub taken : ℕ
  pub is_full : Bool

abbrev pub held_in : Room → ℕ → Bool → Held
held_in r taken full = record { page = r.page; setting = r.setting; taken = taken; is_full = full }

-- a page begins
abbrev pub first_held : Bounds → Held
first_held b = record { page = first_page b.limits; setting = page_setting b; taken = 0; is_full = false }

-- the first page in these rooms, or the next one
abbrev pub begun_in : Room → Held
begun_in r = first_held (bounds_in r.page r.setting)

-- what comes next, a byte or the end, comes to this
abbrev pub bytes_for : Option ℕ → Held → List ℕ
bytes_for next h = next_bytes next h.page h.setting

-- so many bytes were read, and these pieces said
abbrev pub after : Effect → ℕ → Held → Held
after e n h = record h { page = e.page; setting = set e.pieces h.setting; taken = h.taken + n }

abbrev pub after_byte : ℕ → Held → Held
after_byte b h = after (next_read (Some b) h.page) 1 h

-- no more goes out for it at once than may, and fewer than 2^40 bytes came before
abbrev pub has_room : ℕ → Option ℕ → Held → Bool
has_room most next h =
    not h.is_full && (nat_le (length (bytes_for next h)) most && nat_lt h.taken 1099511627776)

-- all that there is room for, and nothing from then on
abbrev pub said : ℕ → Held → Bool → List ℕ → List ℕ
said most h ends [] = if ends && has_room most None h then bytes_for None h else []
said most h ends (b ∷ bs) =
    if has_room most (Some b) h then bytes_for (Some b) h ++ said most (after_byte b h) ends bs else []

-- there is room for all
abbrev pub has_all : ℕ → Held → List ℕ → Bool
has_all most h [] = has_room most None h
has_all most h (b ∷ bs) = has_room most (Some b) h && has_all most (after_byte b h) bs

-- ---- steps

-- complaints were kept as far as there was room, and where some were missed, there is none
abbrev pub HoldsFirst : Items Complaint → Bool → Type 0
HoldsFirst kept missed = (length kept.items ≤ kept.capacity) × (missed ≡ true → length kept.items ≡ kept.capacity)

-- a page that isn't full can be read on
pub record Stands (p : Page) (taken : ℕ) : Type 0 where
  pub fits : Fits p
  pub lines : p.state.line ≤ taken + 1
  pub few : taken ≤ 1099511627776

-- these bytes came, and this went out
pub record Turned (most : ℕ) (h h' : Held) (bytes items : List ℕ) : Type 0 where
  pub says : (ends : Bool) (rest : List ℕ) → said most h ends (bytes ++ rest) ≡ items ++ said most h' ends rest
  pub fits : (rest : List ℕ) → has_all most h (bytes ++ rest) ≡ has_all most h' rest

abbrev pub IsAfter : Option ℕ → Held → Held → Type 0
IsAfter None h h' = Unit {0}
IsAfter (Some b) h h' = h' ≡ after_byte b h

-- a byte or the end came, for which there was room, or not
pub record Stepped (most : ℕ) (next : Option ℕ) (h h' : Held) (items : List ℕ) (fits : Bool) : Type 0 where
  pub has : fits ≡ has_room most next h
  pub went : items ≡ (if fits then bytes_for next h else [])
  pub goes_on : fits ≡ true → IsAfter next h h'
  pub full : fits ≡ false → h'.is_full ≡ true

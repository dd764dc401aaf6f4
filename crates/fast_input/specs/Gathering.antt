-- The bytes that a text line of levels brings, with those of the arguments, registers and strings that are spliced between them (CSTR
-- 54, 7.2, 7.3, 8).
use Prim.Native.Char.{code}
use Rattle.std.specs.Prelude.{◌≡◌, ℕ, suc, ◌+◌, ◌*◌, ◌<◌, ◌≤◌, Bool, true, false, List, [], ◌∷◌, ◌++◌, length, map, take, drop, slice_get, slice_index, Option, None, Some}
use Rattle.nr_units.specs.Source.{Supply}
use Rattle.nr_symbol_tables.specs.Table.{find}
use Rattle.nr_store.specs.Store.{Stored, charge_of, left, shown, words}
use Rattle.nr_store.specs.Windows.{rest_of, left_times}
use Rattle.nr_store.specs.declared.element.Element.{Element}
use Rattle.nr_store.specs.declared.element.Element.TheVariants as elements
use Rattle.nr_store.specs.declared.shown.Shown.TheVariants as shows
use Rattle.nr_reading.specs.declared.event.Event.TheVariants as events
use Rattle.fast_input.specs.declared.gathering.Gathered.{Gathered}
use Rattle.nr_input.specs.declared.reader.Reader.{Reader}
use Rattle.fast_input.specs.declared.splices.Splice.{Splice}
use Rattle.nr_input.specs.Place.{Coming, Reached, HoldsComing}
use Rattle.fast_input.specs.Interpolations.{opened}
use Rattle.nr_input.specs.Moving.{situation}
use Rattle.fast_input.specs.Runs.{HasRead, PaysAll}

-- n moves of a text line tell nothing and take nothing of the source: only the levels are others then, with the arguments in force,
-- the name that was asked for last, and how often was spliced
pub record LeadsInText {K : Type 0} (n : ℕ) (v : Stored K) (r : Reader) (w : Stored K)
    (q : Reader) : Type 0 where
  pub reads : (c : Coming) (p : Reached) (supply : Option Supply) → HoldsComing c p supply
      → HasRead n (situation v c r) events.Nothing w q p supply
  pub pays : (p : Reached) → PaysAll n v p r events.Nothing w p q
  pub stored : w ≡ record v { levels = w.levels; texts = w.texts; arguments = w.arguments }
  pub reader : q ≡ record r
      { half = record r.half { notes = record r.half.notes { asked = q.half.notes.asked } }; burst = q.burst }
  pub charge : charge_of v ≤ v.limit → charge_of w ≤ w.limit
  pub depth : length v.levels ≤ v.deepest → length w.levels ≤ w.deepest

-- These bytes come one after another, each as what the levels show, and are taken; n moves lead to the first and between them.
abbrev pub Brings : {K : Type 0} → ℕ → List ℕ → Stored K → Reader → Stored K → Reader → Type 0
Brings n [] v r w q = (n ≡ 0) × (w ≡ v) × (q ≡ r)
Brings {K} n (b ∷ bs) v r w q =
    (k : ℕ) × (m : ℕ) × (u : Stored K) × (s : Reader) × (n ≡ k + m) × LeadsInText k v r u s
    × (shown u.levels ≡ shows.Item (elements.Byte b)) × Brings m bs (left u.levels u) s w q

-- They come and are taken so, n moves with those on after the last of them, where it goes on there.
pub record Leaves {K : Type 0} (goes : Bool) (n : ℕ) (bytes : List ℕ) (v : Stored K) (r : Reader)
    (w : Stored K) (q : Reader) : Type 0 where
  pub before : ℕ
  pub afterwards : ℕ
  pub there : Stored K
  pub reader : Reader
  pub counted : n ≡ before + afterwards
  pub brings : Brings before bytes v r there reader
  pub leads : LeadsInText afterwards there reader w q
  pub stays : goes ≡ false → (afterwards ≡ 0) × (w ≡ there) × (q ≡ reader)

-- ---- what was gathered

-- the reader where so many were spliced more, and this name was asked for last
abbrev pub spliced : ℕ → List ℕ → Reader → Reader
spliced k name r =
    record r { half = record r.half { notes = record r.half.notes { asked = name } }; burst = r.burst + k }

-- the name that was asked for last after these, where it was this before them
abbrev pub last_asked : List Splice → List ℕ → List ℕ
last_asked [] name = name
last_asked (s ∷ ss) name = last_asked ss s.asked

-- how many bytes come before those of the next, or how many there are where there is none
abbrev pub bytes_before : Option Splice → ℕ → ℕ
bytes_before None count = count
bytes_before (Some s) count = s.before

-- the bytes that it brings
abbrev pub own_bytes : Splice → List ℕ → List ℕ
own_bytes s bytes = take s.count (drop s.before bytes)

-- The bytes from this on, up to those of the next or to the last, are the items of the level from this on.
pub record AreItems (item from : ℕ) (next : Option Splice) (bytes : List ℕ) (items : ℕ)
    (rest : List Element) : Type 0 where
  pub each : (n : ℕ) → from + n < bytes_before next (length bytes)
      → slice_get rest (item + n) ≡ Some (elements.Byte (slice_index bytes (from + n)))
  pub last : next ≡ None → item + length bytes ≡ items + from

-- The k-th is spliced: its escape leads into a level of its bytes, which may be opened, and after the end of that level come items of the
-- level that it stands in.
pub record IsSpliced {K : Type 0} (k : ℕ) (s : Splice) (next : Option Splice) (bytes : List ℕ) (items : ℕ)
    (v : Stored K) (r : Reader) : Type 0 where
  pub few : s.moves < 8 * (k + 1)
  pub short : s.afterwards ≤ s.before + 6 * (k + 1)
  pub within : s.before + s.count ≤ length bytes
  pub there : s.afterwards ≤ length (rest_of v.levels)
  pub opens : Leaves true s.moves (take s.before bytes) v r
      (opened s.named (own_bytes s bytes) s.asked (left_times s.afterwards v)) (spliced (k + 1) s.asked r)
  pub text : s.named ≡ true → words (find s.asked v.names) ≡ Some (map elements.Byte (own_bytes s bytes))
  pub ends : Leaves true (s.moves + 1) (take (s.before + s.count) bytes) v r (left_times s.afterwards v)
      (spliced (k + 1) s.asked r)
  pub charge : charge_of (left_times s.afterwards v) + (32 + s.count) ≤ (left_times s.afterwards v).limit
  pub depth : length (left_times s.afterwards v).levels < (left_times s.afterwards v).deepest
  pub burst : r.burst + k < r.most
  pub run : AreItems s.afterwards (s.before + s.count) next bytes items (rest_of v.levels)

-- These bytes were gathered of so many items, in so many moves besides those that they are put in, with these spliced.
pub record AreGathered {K : Type 0} (bytes : List ℕ) (items moves : ℕ) (splices : List Splice) (v : Stored K)
    (r : Reader) : Type 0 where
  pub few : length bytes ≤ 4096
  pub most : length splices ≤ 8
  pub there : items ≤ length (rest_of v.levels)
  pub short : items ≤ length bytes + 6 * length splices
  pub cheap : moves ≤ 8 * length splices
  pub whole : Leaves true moves bytes v r (left_times items v)
      (spliced (length splices) (last_asked splices r.half.notes.asked) r)
  pub first : AreItems 0 0 (slice_get splices 0) bytes items (rest_of v.levels)
  pub each : (k : ℕ) (s : Splice) → slice_get splices k ≡ Some s
      → IsSpliced k s (slice_get splices (suc k)) bytes items v r

-- `\}` stands in a level, after so many of its items
abbrev pub HasBrace : ℕ → List Element → Type 0
HasBrace items rest =
    (slice_get rest items ≡ Some (elements.Byte (code "\\")))
    × (slice_get rest (suc items) ≡ Some (elements.Byte (code "}")))

-- how many items that is, where it stands there
abbrev pub brace_items : Bool → ℕ
brace_items true = 2
brace_items false = 0

-- These bytes were gathered. Where it closes, `\}` stands after them; where it ends, a newline after that.
pub record IsGathered {K : Type 0} (bytes : List ℕ) (v : Stored K) (r : Reader) (g : Gathered) : Type 0 where
  pub count : g.count ≡ length bytes
  pub gathered : AreGathered bytes g.items g.moves g.splices v r
  pub closes : g.closes ≡ true → HasBrace g.items (rest_of v.levels)
  pub ends : g.ends ≡ true → slice_get (rest_of v.levels) (g.items + brace_items g.closes)
      ≡ Some (elements.Byte (code "\n"))

-- and the reader is where that many were spliced
pub record IsGathering {K : Type 0} (bytes : List ℕ) (v : Stored K) (r q : Reader)
    (g : Gathered) : Type 0 where
  pub gathered : AreGathered bytes g.items g.moves g.splices v r
  pub reader : q ≡ spliced (length g.splices) (last_asked g.splices r.half.notes.asked) r

-- nothing
abbrev pub nothing_gathered : Gathered
nothing_gathered = record { items = 0; count = 0; closes = false; ends = false; moves = 0; splices = [] }

-- with so many bytes of the level more
abbrev pub passed : ℕ → Gathered → Gathered
passed n g = record g { items = g.items + n; count = g.count + n }

-- with so many bytes more that are spliced, whose escape has so many items and was taken in by so many moves; whether they are this name's text
abbrev pub with_splice : ℕ → ℕ → ℕ → List ℕ → Bool → Gathered → Gathered
with_splice items moves count asked named g = record g {
  items = g.items + items;
  count = g.count + count;
  moves = g.moves + moves + 2;
  splices =
      g.splices ++ record {
        afterwards = g.items + items;
        before = g.count;
        count = count;
        moves = g.moves + moves + 1;
        asked = asked;
        named = named;
      } ∷ [];
}

-- As many were gathered as could be: after the items that were taken in the level shows no byte but a newline or a `\`, or 64 bytes were.
abbrev pub StopsGathering : List Element → ℕ → ℕ → Type 0
StopsGathering rest items count =
    (b : ℕ) → slice_get rest items ≡ Some (elements.Byte b) → (b ≡ code "\n" → ⊥)
    → (b ≡ code "\\" → ⊥) → 64 ≤ count

-- The same, and a `\}` that stands after them was not left, nor the newline after that.
pub record GathersMost (rest : List Element) (g : Gathered) : Type 0 where
  pub stops : StopsGathering rest g.items g.count
  pub closes : HasBrace g.items rest → g.closes ≡ true
  pub ends : slice_get rest (g.items + brace_items g.closes) ≡ Some (elements.Byte (code "\n"))
      → g.ends ≡ true

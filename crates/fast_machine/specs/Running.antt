-- Many moves of a run at once: how many were made, and what they paid.
use Prim.Native.Char.{code}
use Rattle.std.specs.Prelude.{◌≡◌, ℕ, ◌+◌, ◌-◌, ◌*◌, ◌≤◌, ◌<◌, Bool, List, [], length, take, drop, slice_index, Option, true, false}
use Rattle.std.specs.Option.{option_map}
use Rattle.nr_units.specs.Source.{Supply, skipped}
use Rattle.nr_reading.specs.Many.InText.{is_in_text}
use Rattle.nr_reading.specs.Many.Interpolations.{interpolates}
use Rattle.fast_input.specs.AtHand.{ComeNext}
use Rattle.nr_input.specs.Place.{Coming, HoldsComing, has_failed, is_unseen, passed_run}
use Rattle.fast_input.specs.Fonts.{BeginsFont}
use Rattle.fast_input.specs.Gathering.{Brings, GathersMost, IsGathered, Leaves}
use Rattle.fast_input.specs.declared.gathering.Gathered.{Gathered}
use Rattle.nr_input.specs.declared.reader.Reader.{Reader}
use Rattle.nr_fill.specs.Piece.{line_cells, text_cells}
use Rattle.nr_fill.specs.Plain.{IsPlain}
use Rattle.nr_formatter.specs.Access.{collected}
use Rattle.nr_formatter.specs.Limits.{FitsMemory}
use Rattle.nr_formatter.specs.Many.LineBeginnings.{BeginsText, is_at_text}
use Rattle.nr_formatter.specs.Many.LineEnds.{IsNewline}
use Rattle.nr_formatter.specs.Many.Runs.{IsGap, is_in_line}
use Rattle.nr_formatter.specs.declared.formatter.Formatter.{Formatter}
use Rattle.nr_formatter.specs.declared.tasks.Resume.{Resume}
use Rattle.nr_store.specs.Store.{Stored as StoredOf}
use Rattle.nr_store.specs.Windows.{rest_of, run_left}
use Rattle.nr_machine.specs.State.{State}
use Rattle.nr_machine.specs.Holding.{Shape, at, Stands, Made, weight, worth}
use Rattle.nr_machine.specs.Limits.{limits_of}
use Rattle.fast_machine.specs.NextEscapes.{BeginsEscape}

-- n moves were made, at whatever state the engine stood, and nothing went out
pub record Makes (n : ℕ) (e f : Shape) (supply supply' : Option Supply) : Type 0 where
  pub makes : (held : Option (List ℕ)) (s : State) → Stands [] supply s e
      → Made [] (at e s) n f supply' held held
  pub limit : f.formatter.store.limit ≡ e.formatter.store.limit
  pub most : f.formatter.reader.most ≡ e.formatter.reader.most
  pub limits : limits_of f ≡ limits_of e
  pub spends : weight f + n + worth e * e.place.taken ≤ weight e + worth e * f.place.taken

-- n moves were made, whatever the source is about to give, of which nothing was taken
pub record MakesInPlace (n : ℕ) (e f : Shape) : Type 0 where
  pub makes : (supply : Option Supply) → Makes n e f supply supply
  pub place : f.place ≡ e.place

-- the same, whatever the engine has besides the formatter
abbrev pub MakesInText : ℕ → Formatter → Formatter → Type 0
MakesInText n f g = (e : Shape) → MakesInPlace n (record e { formatter = f }) (record e { formatter = g })

-- n moves were made and no call of the source failed in them; `old` and `new` count its failed calls before and after
pub record MakesReading (n : ℕ) (e f : Shape) (supply supply' : Option Supply) (old new : ℕ) : Type 0 where
  pub makes : Makes n e f supply supply'
  pub failures : new ≡ old
  pub unfailed : has_failed e.place.ahead ≡ false → has_failed f.place.ahead ≡ false

-- So many moves were paid, and as many besides as `saved` says.
abbrev pub Saves : ℕ → ℕ → Shape → Shape → Type 0
Saves saved n e f = weight f + n + saved + worth e * e.place.taken ≤ weight e + worth e * f.place.taken

-- ---- text of the source that is at hand

-- after a byte of the source nothing was spliced
abbrev pub unburst : Formatter → Formatter
unburst f = record f { reader = record f.reader { burst = 0 } }

-- the first n of these bytes were taken, and this is the formatter after them
abbrev pub taken_shape : List ℕ → ℕ → Formatter → Shape → Shape
taken_shape bs n g e =
    record e { formatter = unburst g; place = passed_run (slice_index bs (n - 1)) n e.place }

-- these bytes of the source are read next
pub record HasNext (bs : List ℕ) (e : Shape) (supply : Option Supply) : Type 0 where
  pub levels : e.formatter.store.levels ≡ []
  pub unseen : is_unseen e.place.ahead ≡ true
  pub next : (c : Coming) → HoldsComing c e.place supply → ComeNext bs c

-- So many of these bytes were put, one to five moves each, whatever the engine has besides the formatter, and 20 moves more are
-- paid. What was spliced before them does not matter.
pub record PutsText (bs : List ℕ) (taken moves : ℕ) (f g : Formatter) : Type 0 where
  pub prefix : taken ≤ length bs
  pub least : taken ≤ moves
  pub most : moves ≤ 5 * taken
  pub none : taken ≡ 0 → g ≡ f
  pub store : g.store ≡ f.store
  pub makes : (e : Shape) (supply : Option Supply) → unburst e.formatter ≡ unburst f
      → HasNext bs e supply → 0 < taken
      → Makes moves e (taken_shape bs taken g e) supply (option_map (skipped taken) supply)
  pub saves : (e : Shape) (supply : Option Supply) → unburst e.formatter ≡ unburst f
      → HasNext bs e supply → 0 < taken
      → Saves 20 moves e (taken_shape bs taken g e)

-- ---- text of levels

-- the formatter with this stored and read
abbrev pub with_read : StoredOf Resume → Reader → Formatter → Formatter
with_read v r f = record f { store = v; reader = r }

-- Of what the formatter stores and reads only the levels and their texts are others here, the arguments in force, the name that was asked
-- for last, and how often was spliced.
pub record IsFurther (f : Formatter) (v : StoredOf Resume) (r : Reader) : Type 0 where
  pub stored : v ≡ record f.store { levels = v.levels; texts = v.texts; arguments = v.arguments }
  pub reader : r ≡ record f.reader {
    half = record f.reader.half { notes = record f.reader.half.notes { asked = r.half.notes.asked } };
    burst = r.burst;
  }

-- Wherever these bytes come of levels, with moves that lead to each, they lead from one formatter to the other, in so many moves besides
-- those.
abbrev pub Flows : List ℕ → ℕ → Formatter → Formatter → Type 0
Flows bs moves f g =
    (n : ℕ) (v : StoredOf Resume) (r : Reader) (w : StoredOf Resume) (q : Reader) → IsFurther f v r
    → FitsMemory (with_read v r f) → Brings n bs v r w q
    → MakesInText (moves + n) (with_read v r f) (with_read w q g)

-- So many of these bytes were put, up to five moves each, wherever they come of levels.
pub record PutsOfFlow (bs : List ℕ) (taken moves : ℕ) (f g : Formatter) : Type 0 where
  pub prefix : taken ≤ length bs
  pub most : moves ≤ 5 * taken
  pub store : g.store ≡ f.store
  pub reader : g.reader ≡ f.reader
  pub within : line_cells (collected f) ≤ f.line.limit → line_cells (collected g) ≤ g.line.limit
  pub makes : Flows (take taken bs) moves f g

-- ---- how much was put

-- As many bytes of a line's words were put as could be: in the midst of a line that is not full, what comes next is neither a plain
-- byte nor a blank that does nothing but end its word.
pub record LongestWords (bs : List ℕ) (taken : ℕ) (f : Formatter) : Type 0 where
  pub stops : taken < length bs → is_in_line f ≡ true → IsPlain (slice_index bs taken)
      → text_cells (collected f) ≡ f.line.limit
  pub blank : taken < length bs → is_in_line f ≡ true → slice_index bs taken ≡ code " " → IsGap f → ⊥

-- A newline that came next of the newest level was taken, or no other comes next that does nothing but end its line.
pub record EndsLine (f g : Formatter) : Type 0 where
  pub newlines : ℕ
  pub left : g.store ≡ run_left newlines f.store
  pub newline : IsNewline g → ⊥

-- The same of all the bytes that could be gathered of the levels: those that were put were taken, and where those are all and a newline
-- ends them, that does not come next where it does nothing but end its line.
pub record LongestOfLevels (v : StoredOf Resume) (r : Reader) (f : Formatter) : Type 0 where
  pub bytes : List ℕ
  pub gathered : Gathered
  pub are : IsGathered bytes v r gathered
  pub most : GathersMost (rest_of v.levels) gathered
  pub taken : ℕ
  pub goes : Bool
  pub moves : ℕ
  pub there : StoredOf Resume
  pub reader : Reader
  pub leaves : Leaves goes moves (take taken bytes) v r there reader
  pub newlines : ℕ
  pub left : f.store ≡ run_left newlines there
  pub words : LongestWords bytes taken f
  pub newline : taken ≡ length bytes → gathered.ends ≡ true → IsNewline f → ⊥

-- As many of these bytes were put as could be, one to five moves each: what comes next is none of a line's words, no escape that is put
-- at once, no newline that does nothing but end its line, at a line's beginning no text that is put, and no font escape with its name.
pub record Longest (bs : List ℕ) (taken moves : ℕ) (f : Formatter) : Type 0 where
  pub least : taken ≤ moves
  pub most : moves ≤ 5 * taken
  pub words : LongestWords bs taken f
  pub newline : taken < length bs → slice_index bs taken ≡ code "\n" → IsNewline f → ⊥
  pub begins : is_at_text f ≡ true → is_in_line f ≡ false → BeginsText (drop taken bs) f → ⊥
  pub font : is_at_text f ≡ true → interpolates f.reader.half ≡ true
      → BeginsFont (is_in_text f.reader.half) (drop taken bs) → ⊥
  pub escape : is_in_line f ≡ true → BeginsEscape (drop taken bs) f → ⊥

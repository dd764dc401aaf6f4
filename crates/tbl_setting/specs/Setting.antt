-- What a page says is set: what becomes of the table that is held and of what is known of the page, and which strokes go out. Text outside
-- of tables goes out as it stands; a table, or the rows of it that take all the room there is, as its lines.
use Rattle.std.specs.Prelude.{◌≡◌, ℕ, List, [], ◌∷◌, ◌++◌, length, take, Bool, true, false, nat_lt, Option, Some, ◌⊎◌, codes, if◌then◌else◌}
use Rattle.std.specs.Borrow.{MutBor}
use Rattle.nr_units.specs.Failures.{SinkFailures}
use Rattle.nr_vectors.specs.Items.{Items}
use Rattle.tbl_reader.specs.declared.complaint.Complaint.{Complaint}
use Rattle.tbl_reader.specs.declared.telling.Tell.{Tell}
use Rattle.tbl_reader.specs.declared.telling.Tell.TheVariants as tells
use Rattle.tbl_reader.specs.declared.running.ReadEnd.{ReadEnd}
use Rattle.tbl_reader.specs.declared.running.ReadEnd.TheVariants.{WriteFault}
use Rattle.tbl_reader.specs.Telling.{Piece}
use Rattle.tbl_drawing.specs.Held.{has_begun}
use Rattle.tbl_drawing.specs.Pens.{Bytes, Stroke, bytes_of, first}
use Rattle.tbl_drawing.specs.Tapes.{Tape, Draws}
use Rattle.tbl_setting.specs.declared.setting.Setting.{Setting}
use Rattle.tbl_setting.specs.Bounds.{Bounds, page_setting}
use Rattle.tbl_setting.specs.Hearing.{called_heard, empty_added, form_of, line_heard, looks_of}
use Rattle.tbl_setting.specs.Held.{emptied, page_heard, table, table_begun, table_set, table_strokes, wide_reported, with_table}
use Rattle.tbl_table.specs.Formats.{formats_begun, formats_ended, text_added}
use Rattle.tbl_table.specs.Rows.{block_ended, field_added, is_full, is_tight, mark_added, row_ended, row_len, text_begun}
use Rattle.tbl_table.specs.Table.{looking}

-- ---- rows that take all the room there is go out, and the table goes on

abbrev pub relieved : Setting → Setting
relieved s = if is_tight (table s) then table_set false s else s

abbrev pub relief : Setting → List Stroke
relief s = if is_tight (table s) then table_strokes false s else []

-- ---- a block: where there is no room for a byte of it the row ends with what was read of it, and goes out; the block goes on in the
-- same column of the next row

abbrev pub cut_off : Setting → Setting
cut_off s = with_table (row_ended (block_ended (table s))) s

abbrev pub block_goes_on : ℕ → Setting → Setting
block_goes_on column s = with_table (text_begun (empty_added column (table s))) s

abbrev pub divided : Setting → Setting
divided s = block_goes_on (row_len (table s)) (table_set false (cut_off s))

abbrev pub room_made : Setting → Setting
room_made s = if is_full (table s) then divided s else s

abbrev pub room_strokes : Setting → List Stroke
room_strokes s = if is_full (table s) then table_strokes false (cut_off s) else []

abbrev pub byte_held : ℕ → Setting → Setting
byte_held b s = with_table (text_added b (table s)) s

abbrev pub block_byte : ℕ → Setting → Setting
block_byte b s = byte_held b (room_made s)

abbrev pub block_added : List ℕ → Setting → Setting
block_added [] s = s
block_added (b ∷ bs) s = block_added bs (block_byte b s)

abbrev pub block_strokes : List ℕ → Setting → List Stroke
block_strokes [] s = []
block_strokes (b ∷ bs) s = room_strokes s ++ block_strokes bs (block_byte b s)

-- ---- a table that isn't set further: what was read of it goes out, and lines follow that stand as they are

abbrev pub begun_ended : Setting → Setting
begun_ended s = if has_begun s.layout then table_set true s else s

abbrev pub begun_strokes : Setting → List Stroke
begun_strokes s = if has_begun s.layout then table_strokes true s else []

abbrev pub plain_begin : List ℕ
plain_begin = codes ".br\n.nr *u \\n(.u\n.nf\n"

abbrev pub plain_end : List ℕ
plain_end = codes ".if \\n(*u .fi\n"

-- ---- by what is said: what becomes of the table and of what is known of the page, and what goes out

abbrev pub line_set : Tell → List ℕ → Setting → Setting
line_set tell text s = with_table (line_heard tell text (table s)) s

abbrev pub set_in : Tell → List ℕ → Setting → Setting
set_in (tells.Table line) text s = table_begun line s
set_in (tells.Options options) text s = with_table (looking (looks_of options) (table s)) s
set_in tells.Formats text s = with_table (formats_begun (table s)) s
set_in (tells.Format called) text s = with_table (called_heard called (table s)) s
set_in tells.FormatsEnd text s = with_table (formats_ended (table s)) s
set_in (tells.Field prefix) text s = with_table (field_added text prefix (table s)) s
set_in (tells.Mark mark) text s = with_table (mark_added (form_of mark) (table s)) s
set_in tells.Block text s = with_table (text_begun (table s)) s
set_in tells.BlockText text s = block_added text s
set_in tells.BlockEnd text s = with_table (block_ended (table s)) s
set_in tells.Row text s = relieved (line_set tells.Row text s)
set_in tells.Rule text s = relieved (line_set tells.Rule text s)
set_in tells.Request text s = relieved (line_set tells.Request text s)
set_in tells.TableEnd text s = table_set true s
set_in tells.Plain text s = begun_ended s
set_in tells.Pass text s = page_heard text s
set_in tells.PlainEnd text s = s
set_in (tells.Wrong complaint) text s = s

abbrev pub strokes_in : Tell → List ℕ → Setting → List Stroke
strokes_in (tells.Table line) text s = []
strokes_in (tells.Options options) text s = []
strokes_in tells.Formats text s = []
strokes_in (tells.Format called) text s = []
strokes_in tells.FormatsEnd text s = []
strokes_in (tells.Field prefix) text s = []
strokes_in (tells.Mark mark) text s = []
strokes_in tells.Block text s = []
strokes_in tells.BlockText text s = block_strokes text s
strokes_in tells.BlockEnd text s = []
strokes_in tells.Row text s = relief (line_set tells.Row text s)
strokes_in tells.Rule text s = relief (line_set tells.Rule text s)
strokes_in tells.Request text s = relief (line_set tells.Request text s)
strokes_in tells.TableEnd text s = table_strokes true s
strokes_in tells.Plain text s = begun_strokes s ++ Bytes plain_begin ∷ []
strokes_in tells.Pass text s = Bytes text ∷ []
strokes_in tells.PlainEnd text s = Bytes plain_end ∷ []
strokes_in (tells.Wrong complaint) text s = []

-- one thing after the other
abbrev pub set : List Piece → Setting → Setting
set [] s = s
set (p ∷ ps) s = set ps (set_in p.tell p.text s)

abbrev pub strokes : List Piece → Setting → List Stroke
strokes [] s = []
strokes (p ∷ ps) s = strokes_in p.tell p.text s ++ strokes ps (set_in p.tell p.text s)

-- what a page comes to
abbrev pub set_bytes : Bounds → List Piece → List ℕ
set_bytes b said = bytes_of (strokes said (page_setting b)) first

-- ---- what is wrong

abbrev pub end_reported : Setting → List Complaint
end_reported s = wide_reported (table_set true s)

abbrev pub begun_reported : Setting → List Complaint
begun_reported s = if has_begun s.layout then end_reported s else []

abbrev pub wrong_in : Tell → Setting → List Complaint
wrong_in tells.TableEnd s = end_reported s
wrong_in tells.Plain s = begun_reported s
wrong_in (tells.Wrong complaint) s = complaint ∷ []
wrong_in tell s = []

abbrev pub wrongs : List Piece → Setting → List Complaint
wrongs [] s = []
wrongs (p ∷ ps) s = wrong_in p.tell s ++ wrongs ps (set_in p.tell p.text s)

-- of these complaints the first are kept, as many as there is room for
pub record Keeps (all : List Complaint) (kept : Items Complaint) (missed : Bool) : Type 0 where
  pub first : kept.items ≡ take kept.capacity all
  pub others : missed ≡ nat_lt kept.capacity (length all)

-- what was reported with them stays, and these were reported too
abbrev pub KeepsMore : Items Complaint → Bool → Items Complaint → Bool → List Complaint → Type 0
KeepsMore old before new missed more =
    (all : List Complaint) → Keeps all old before → Keeps (all ++ more) new missed

-- the same complaints that were lent, with these among them
pub record Notes (old new : MutBor (Items Complaint)) (before missed : Bool)
    (more : List Complaint) : Type 0 where
  pub same : new.ghost_name ≡ old.ghost_name
  pub room : new.now.capacity ≡ old.now.capacity
  pub keeps : KeepsMore old.now before new.now missed more

-- nothing was reported
abbrev pub IsSame : MutBor (Items Complaint) → Bool → MutBor (Items Complaint) → Bool → Type 0
IsSame old before new missed = (new ≡ old) × (missed ≡ before)

-- ---- who sets tables

-- what was lent has become this, in the same room
pub record Becomes (old new : MutBor Setting) (s : Setting) : Type 0 where
  pub same : new.ghost_name ≡ old.ghost_name
  pub now : new.now ≡ s
  pub room : emptied new.now ≡ emptied old.now

abbrev pub first_tape : Option (List ℕ) → SinkFailures → Tape
first_tape held failures =
    record { held = held; failures = failures; pending = []; failed = false; pen = first }

-- what its output held at first and how many of its calls had failed, the table that it had and what was known of the page, what was wrong
-- before, and what it heard since; which of these and which complaints it was lent, with room for so many
pub record Shown : Type 0 where
  pub held : Option (List ℕ)
  pub failures : SinkFailures
  pub setting : Setting
  pub wrong : List Complaint
  pub said : List Piece
  pub setting_name : ℕ
  pub name : ℕ
  pub capacity : ℕ

abbrev pub hears : Piece → Shown → Shown
hears p s = record s { said = s.said ++ p ∷ [] }

pub record Shows (tape : Tape) (setting : MutBor Setting) (kept : MutBor (Items Complaint)) (missed : Bool)
    (s : Shown) : Type 0 where
  pub draws : Draws (first_tape s.held s.failures) tape (strokes s.said s.setting)
  pub setting_same : setting.ghost_name ≡ s.setting_name
  pub setting_now : setting.now ≡ set s.said s.setting
  pub setting_room : emptied setting.now ≡ emptied s.setting
  pub same : kept.ghost_name ≡ s.name
  pub room : kept.now.capacity ≡ s.capacity
  pub keeps : Keeps (s.wrong ++ wrongs s.said s.setting) kept.now missed

-- all that waits went out, or the output failed
abbrev pub EndsAs : ReadEnd → ReadEnd → Tape → Type 0
EndsAs wanted outcome tape =
    ((outcome ≡ wanted) × (tape.failed ≡ false) × (tape.pending ≡ [])) ⊎ ((outcome ≡ WriteFault)
    × (tape.failed ≡ true))

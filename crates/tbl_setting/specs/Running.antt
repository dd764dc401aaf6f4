-- The tables of a page are turned: what goes out is one function of the bytes that came, and what is wrong with them was reported.
use Rattle.std.specs.Prelude.{◌≡◌, ℕ, ◌+◌, List, length, Bool, true, false, Option, ◌⊎◌}
use Rattle.std.specs.Io.KnownBytes.{Appends}
use Rattle.nr_vectors.specs.Items.{Items}
use Rattle.nr_units.specs.Sink.{AppendsPrefix}
use Rattle.nr_units.specs.Source.{Supply}
use Rattle.tbl_reader.specs.declared.complaint.Complaint.{Complaint}
use Rattle.tbl_reader.specs.declared.reader.Limits.{Limits}
use Rattle.tbl_reader.specs.declared.running.ReadEnd.{ReadEnd}
use Rattle.tbl_reader.specs.declared.running.ReadEnd.TheVariants.{Done, ReadFault, TooLong, WriteFault}
use Rattle.tbl_reader.specs.Ending.{first_page, page_said}
use Rattle.tbl_reader.specs.Pages as reading
use Rattle.tbl_reader.specs.Pages.{Page}
use Rattle.tbl_reader.specs.Reading.{fed}
use Rattle.tbl_reader.specs.Running.{Came, Ends}
use Rattle.tbl_reader.specs.Telling.{Piece}
use Rattle.tbl_setting.specs.declared.setting.Setting.{Setting}
use Rattle.tbl_setting.specs.Bounds.{Bounds, page_setting}
use Rattle.tbl_setting.specs.Held as held
use Rattle.tbl_setting.specs.Setting.{Keeps, set, set_bytes, wrongs}

-- the elements of memory that pages are turned in: what waits to go out, what is read, and a table with what is known of the page
abbrev pub memory_of : Limits → ℕ
memory_of l = 4096 + reading.memory_of l + held.memory_of l.formats l.row

-- by what the memory that was taken sets pages
abbrev pub bounds_in : Page → Setting → Bounds
bounds_in p s = record {
  signs = s.layout.grid.table.signs;
  limits = p.limits;
  cells = s.cells;
  fits = s.fits;
}

abbrev pub with_fits : Bool → Bounds → Bounds
with_fits fits b = record b { fits = fits }

-- what a page of these bytes comes to, and what it comes to so far where more bytes may follow
abbrev pub set_page : Bounds → List ℕ → List ℕ
set_page b bytes = set_bytes b (page_said b.limits bytes)

abbrev pub said_so_far : Limits → List ℕ → List Piece
said_so_far l bytes = (fed bytes (first_page l)).pieces

abbrev pub set_so_far : Bounds → List ℕ → List ℕ
set_so_far b bytes = set_bytes b (said_so_far b.limits bytes)

-- these bytes went out, what is wrong with what was said was reported, and whether a table that was held went out in parts whose columns may
-- differ
pub record Puts (out : List ℕ) (said : List Piece) (s : Setting) (held new : Option (List ℕ)) (kept : Items Complaint)
    (missed uneven : Bool) : Type 0 where
  pub went_out : Appends held new out
  pub keeps : Keeps (wrongs said s) kept missed
  pub parts : uneven ≡ (set said s).layout.uneven

-- all bytes came
pub record IsDone (b : Bounds) (first last : Option Supply)
    (held new : Option (List ℕ)) (kept : Items Complaint) (missed uneven : Bool) : Type 0 where
  pub bytes : List ℕ
  pub came : Came first bytes last
  pub ends : Ends first last
  pub puts : Puts (set_page b bytes) (page_said b.limits bytes) (page_setting b) held new kept missed uneven

-- so many bytes came, and what is half read neither went out nor was reported
pub record IsCut (b : Bounds) (first last : Option Supply)
    (held new : Option (List ℕ)) (kept : Items Complaint) (missed uneven : Bool) (at : ℕ) : Type 0 where
  pub bytes : List ℕ
  pub came : Came first bytes last
  pub count : length bytes ≡ at
  pub puts : Puts (set_so_far b bytes) (said_so_far b.limits bytes) (page_setting b) held new kept missed uneven

-- a part of these bytes went out, what is wrong with what was said was reported, and so were such parts
pub record PutsPrefix (out : List ℕ) (said : List Piece) (s : Setting) (held new : Option (List ℕ)) (kept : Items Complaint)
    (missed uneven : Bool) : Type 0 where
  pub went_out : AppendsPrefix held new out
  pub keeps : Keeps (wrongs said s) kept missed
  pub parts : uneven ≡ (set said s).layout.uneven

-- some bytes came, and a part of what they come to went out, without the end or with it
pub record IsBroken (b : Bounds) (first last : Option Supply)
    (held new : Option (List ℕ)) (kept : Items Complaint) (missed uneven : Bool) : Type 0 where
  pub bytes : List ℕ
  pub came : Came first bytes last
  pub puts : PutsPrefix (set_so_far b bytes) (said_so_far b.limits bytes) (page_setting b) held new kept missed uneven
      ⊎ PutsPrefix (set_page b bytes) (page_said b.limits bytes) (page_setting b) held new kept missed uneven

abbrev pub Ran : Bounds → Option Supply → Option Supply → Option (List ℕ) → Option (List ℕ)
    → Items Complaint → Bool → Bool → ReadEnd → Type 0
Ran b first last held new kept missed uneven Done = IsDone b first last held new kept missed uneven
Ran b first last held new kept missed uneven (ReadFault at) = IsCut b first last held new kept missed uneven at
Ran b first last held new kept missed uneven TooLong = IsCut b first last held new kept missed uneven 1099511627776
Ran b first last held new kept missed uneven WriteFault = IsBroken b first last held new kept missed uneven

abbrev pub is_read_fault : ReadEnd → Bool
is_read_fault (ReadFault at) = true
is_read_fault outcome = false

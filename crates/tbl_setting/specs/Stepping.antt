-- A page is turned a byte at a time.
use Rattle.std.specs.Prelude.{◌≡◌, ℕ, List, Bool, true, Option, ◌⊎◌}
use Rattle.std.specs.Io.KnownBytes.{Appends}
use Rattle.nr_units.specs.Failures.{SinkFailures, put_counted_if}
use Rattle.nr_units.specs.Sink.{AppendsPrefix}
use Rattle.nr_vectors.specs.Items.{Items}
use Rattle.tbl_drawing.specs.Pens.{bytes_of, first}
use Rattle.tbl_reader.specs.declared.complaint.Complaint.{Complaint}
use Rattle.tbl_reader.specs.Ending.{next_read}
use Rattle.tbl_reader.specs.Pages.{Page}
use Rattle.tbl_reader.specs.Telling.{Piece}
use Rattle.tbl_setting.specs.declared.setting.Setting.{Setting}
use Rattle.tbl_setting.specs.Setting.{Keeps, strokes}

-- what goes out for what is said, where this table is held
abbrev pub pieces_bytes : List Piece → Setting → List ℕ
pieces_bytes said s = bytes_of (strokes said s) first

-- for what comes next
abbrev pub next_bytes : Option ℕ → Page → Setting → List ℕ
next_bytes next p s = pieces_bytes (next_read next p).pieces s

-- of some complaints the first are kept
abbrev pub AreKept : Items Complaint → Bool → Type 0
AreKept kept missed = (all : List Complaint) × Keeps all kept missed

-- these bytes went out; or a call of the sink failed, and a part of them did
abbrev pub Sent : List ℕ → Option (List ℕ) → Option (List ℕ) → SinkFailures → SinkFailures → Type 0
Sent bytes held new before after =
    (Appends held new bytes × (after ≡ before)) ⊎ (AppendsPrefix held new bytes × (after ≡ put_counted_if true before))

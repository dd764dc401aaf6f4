-- What those who read events bring into the input, and what they take of it.
use Rattle.std.specs.Prelude.{ℕ, Bool, true, false, if◌then◌else◌, List, [], None, Some, Result, Ok, Err}
use Rattle.nr_symbol_tables.specs.Table.{find}
use Rattle.nr_store.specs.Store.{Stored, afforded, begun, text_of, words, entered, reading_bytes}
use Rattle.nr_store.specs.declared.refusal.StoredBytes.{StoredBytes}
use Rattle.nr_reading.specs.Setting.{sprung, defining}
use Rattle.nr_input.specs.declared.reader.Reader.{Reader}
use Rattle.nr_input.specs.declared.refusal.Refusal.{Refusal}
use Rattle.nr_input.specs.declared.splicing.Definition.{Definition}
use Rattle.nr_input.specs.declared.splicing.Definition.TheVariants as definitions
use Rattle.nr_input.specs.Acting.{on_half, expanded, has_text}
use Rattle.nr_input.specs.Refusal.{Called, called, called_by, splicing_answer}

-- ---- texts that are given: those of built-in registers, and of widths

-- They are spliced, the arguments staying in force.
abbrev pub giving : {K : Type 0} → List ℕ → Stored K → Reader → Called K (Result (Unit {0}) Refusal)
giving bytes v r = let new = reading_bytes bytes v in
    called_by (splicing_answer true new r) new (expanded r) tt v r

-- ---- springing (CSTR 54, 7.5)

-- A sprung text comes before the rest of the list, and begins a line; it counts as a splice. A name without text springs nothing.
abbrev pub sprung_reader : Bool → Reader → Reader
sprung_reader is_text r = if is_text then on_half sprung (expanded r) else r

abbrev pub springing_text : {K : Type 0} → Bool → Stored K → Stored K → Reader
    → Called K (Result Bool Refusal)
springing_text is_text new v r =
    called_by (splicing_answer is_text new r) new (sprung_reader is_text r) is_text v r

abbrev pub springing : {K : Type 0} → List ℕ → K → Stored K → Reader → Called K (Result Bool Refusal)
springing name mode v r =
    springing_text (has_text name v) (entered name (words (find name v.names)) (Some mode) v) v r

-- ---- definitions whose lines follow (CSTR 54, 7.1)

-- A text is built apart: for `.am` from a copy of the old one. `.ig` keeps nothing.
abbrev pub base : {K : Type 0} → Definition → List ℕ → Stored K → Stored K
base definitions.De name v = begun [] None v
base definitions.Am name v = begun (text_of name v) None v
base definitions.Ig name v = v

abbrev pub base_answer : {K : Type 0} → Definition → List ℕ → Stored K → Result (Unit {0}) StoredBytes
base_answer definitions.Ig name v = Ok tt
base_answer d name v = afforded (base d name v) tt

abbrev pub keeps : Definition → Bool
keeps definitions.Ig = false
keeps d = true

abbrev pub beginning : {K : Type 0} → Result (Unit {0}) StoredBytes → Definition → List ℕ → List ℕ → Stored K
    → Reader → Called K (Result (Unit {0}) StoredBytes)
beginning (Ok x) d name ending v r =
    called (base d name v) (on_half (defining name ending (keeps d)) r) (Ok x)
beginning (Err e) d name ending v r = called v r (Err e)

abbrev pub defining_lines : {K : Type 0} → Definition → List ℕ → List ℕ → Stored K → Reader
    → Called K (Result (Unit {0}) StoredBytes)
defining_lines d name ending v r = beginning (base_answer d name v) d name ending v r

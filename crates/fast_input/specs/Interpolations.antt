-- Interpolations that are read at once.
use Rattle.std.specs.Prelude.{◌≡◌, ℕ, ◌+◌, ◌<◌, ◌≤◌, Bool, false, true, List, length, map, None, Some}
use Rattle.nr_symbol_tables.specs.Table.{find}
use Rattle.nr_store.specs.Store.{Stored, charge_of, entered, reading_bytes, words}
use Rattle.nr_store.specs.declared.element.Element.TheVariants as elements
use Rattle.nr_reading.specs.declared.ask.Sign.{Sign}
use Rattle.nr_reading.specs.declared.ask.Sign.TheVariants as signs
use Rattle.nr_reading.specs.declared.mode.PendingAct.{PendingAct}
use Rattle.nr_reading.specs.declared.mode.PendingAct.TheVariants as pending_acts
use Rattle.nr_input.specs.declared.reader.Reader.{Reader}
use Rattle.nr_input.specs.Acting.{act, is_look, splicing, splicing_bytes}
use Rattle.nr_input.specs.Refusal.{answer, splicing_answer}

-- what is pending is to splice these bytes
pub record IsSplice {K : Type 0} (bytes : List ℕ) (v : Stored K) (r : Reader) : Type 0 where
  pub waits : is_look r.half.reading.pending_act ≡ false
  pub acts : act r.half.reading.pending_act v r ≡ splicing_bytes bytes v r
  pub answers : answer r.half.reading.pending_act v r ≡ splicing_answer true (reading_bytes bytes v) r

-- the sign by which a register's step is added, or taken away
abbrev pub stepping : Bool → Sign
stepping true = signs.Plus
stepping false = signs.Minus

-- a level of these bytes may be opened
pub record HasRoom {K : Type 0} (bytes : List ℕ) (v : Stored K) (r : Reader) : Type 0 where
  pub charge : charge_of v + (32 + length bytes) ≤ v.limit
  pub depth : length v.levels < v.deepest
  pub burst : r.burst < r.most

-- ---- levels of bytes that are gathered

-- with a level of these bytes: of this name's text, which they are then, and no arguments in force; or of their own
abbrev pub opened : {K : Type 0} → Bool → List ℕ → List ℕ → Stored K → Stored K
opened false bytes name v = reading_bytes bytes v
opened true bytes name v = entered name (Some (map elements.Byte bytes)) None v

-- whether what is pending is to splice the text of the name that was asked for
abbrev pub brings_text : PendingAct → Bool
brings_text pending_acts.Splice = true
brings_text d = false

-- the same with a level of the bytes that are pending
abbrev pub opened_pending : {K : Type 0} → List ℕ → Stored K → Reader → Stored K
opened_pending bytes v r = opened (brings_text r.half.reading.pending_act) bytes r.half.notes.asked v

-- what is pending is to open a level of these bytes
pub record OpensLevel {K : Type 0} (bytes : List ℕ) (v : Stored K) (r : Reader) : Type 0 where
  pub waits : is_look r.half.reading.pending_act ≡ false
  pub acts : act r.half.reading.pending_act v r ≡ splicing true (opened_pending bytes v r) r
  pub answers : answer r.half.reading.pending_act v r ≡ splicing_answer true (opened_pending bytes v r) r
  pub text : brings_text r.half.reading.pending_act ≡ true → words (find r.half.notes.asked v.names)
      ≡ Some (map elements.Byte bytes)

-- these bytes are to be spliced, and a level of them may be opened
pub record MaySplice {K : Type 0} (bytes : List ℕ) (v : Stored K) (r : Reader) : Type 0 where
  pub splice : OpensLevel bytes v r
  pub room : HasRoom bytes v r

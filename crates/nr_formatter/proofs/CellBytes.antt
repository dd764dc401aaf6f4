-- A byte that goes to the word of a text line and does not end it.
use Prim.Native.Char.{code}
use Rattle.std.proofs.Common.{◌≡◌, ℕ, ◌+◌, ◌-◌, ◌≤◌, Bool, true, false, Option, None, Some, refl, sym, subst, arith}
use Rattle.std.specs.Prelude.{◌==◌, ◌&&◌, if◌then◌else◌, not, unwrap_or}
use Rattle.std.proofs.lemmas.Bool.{cond_both, eqb-true}
use Rattle.nr_vectors.specs.declared.cell.Cell.{Cell}
use Rattle.nr_settings.specs.declared.indents.Margins.{Margins}
use Rattle.nr_settings.specs.declared.stops.Stop.{Stop}
use Rattle.nr_fill.specs.declared.piece.CutAfter.TheVariants.{Hyphen}
use Rattle.nr_fill.specs.Piece.{Collected, add_cells, begins_line, is_nil}
use Rattle.nr_fill.specs.Tabs.{column, first_beyond, is_aligned, to_stop}
use Rattle.nr_reading.specs.declared.event.Event.TheVariants as events
use Rattle.nr_reading.specs.declared.mode.Mode.TheVariants as modes
use Rattle.nr_formatter.specs.Access.{cell, collected, done, is_filling, margins}
use Rattle.nr_formatter.specs.Many.CellBytes.{byte_added, byte_put, goes_to_word}
use Rattle.nr_formatter.specs.Lines.{reads_a_field}
use Rattle.nr_formatter.specs.Moves.{heard}
use Rattle.nr_formatter.specs.Text.{blank, tab, text_byte}
use Rattle.nr_formatter.specs.Weights.{weight_of_line}
use Rattle.nr_formatter.specs.declared.formatter.Formatter.{Formatter}
use Rattle.nr_formatter.proofs.LineWeights.{weight-add_blank, weight-add_cell, weight-tabbed}

not_true : (b : Bool) → not b ≡ true → b ≡ false
not_true true is = absurd (let wrong : false ≡ true = is in cc)
not_true false is = refl

-- which byte it is
pub data CellByte (b : ℕ) (f : Formatter) : Type 0 where
  Blank : b ≡ code " " → is_filling f ≡ false → CellByte b f
  Tab : b ≡ code "\t" → reads_a_field f ≡ false → CellByte b f
  Dash : b ≡ code "-" → CellByte b f

pub cell_byte : (b : ℕ) (f : Formatter) → goes_to_word b f ≡ true → CellByte b f
cell_byte b f goes = by_blank (b == code " ") refl goes
  where
    by_tab : (x : Bool) → (b == code "\t") ≡ x → (if x then not (reads_a_field f) else b == code "-") ≡ true → CellByte b f
    by_tab true is other = Tab (eqb-true b (code "\t") is) (not_true (reads_a_field f) other)
    by_tab false is other = Dash (eqb-true b (code "-") other)

    by_blank : (x : Bool) → (b == code " ") ≡ x → (if x then not (is_filling f) else (if b == code "\t" then not (reads_a_field f) else b == code "-")) ≡ true → CellByte b f
    by_blank true is other = Blank (eqb-true b (code " ") is) (not_true (is_filling f) other)
    by_blank false is other = by_tab (b == code "\t") refl other

-- ---- it is heard

module _ (f : Formatter) (mode : f.reader.half.reading.mode ≡ modes.Text) (begun : begins_line (collected f) ≡ false) where
  heard_blank : is_filling f ≡ false → heard (events.Byte (code " ")) f ≡ done (byte_put (code " ") f)
  unfolding text_byte blank
  heard_blank filling = rw (mode, filling, begun) refl

  heard_tab : reads_a_field f ≡ false → heard (events.Byte (code "\t")) f ≡ done (byte_put (code "\t") f)
  unfolding text_byte tab
  heard_tab field = rw (mode, field, begun) refl

  heard_hyphen : heard (events.Byte (code "-")) f ≡ done (byte_put (code "-") f)
  unfolding text_byte
  heard_hyphen = rw (mode, begun) refl

  heard_by : (b : ℕ) → CellByte b f → heard (events.Byte b) f ≡ done (byte_put b f)
  heard_by b (Blank is filling) = subst (λ n. heard (events.Byte n) f ≡ done (byte_put n f)) (sym is) (heard_blank filling)
  heard_by b (Tab is field) = subst (λ n. heard (events.Byte n) f ≡ done (byte_put n f)) (sym is) (heard_tab field)
  heard_by b (Dash is) = subst (λ n. heard (events.Byte n) f ≡ done (byte_put n f)) (sym is) heard_hyphen

  -- as what goes to the word
  pub heard-byte : (b : ℕ) → goes_to_word b f ≡ true → heard (events.Byte b) f ≡ done (byte_put b f)
  heard-byte b goes = heard_by b (cell_byte b f goes)

-- ---- the line

and_false : (b : Bool) → (b && false) ≡ false
and_false true = refl
and_false false = refl

begun-cells : (m : Margins) (x : Cell) (n : ℕ) (c : Collected) → begins_line (add_cells m x n c) ≡ false
begun-cells m x n c = cond_both (n == 0) _ _ (λ d. begins_line d ≡ false) (λ _. and_false (is_nil c.pieces)) (λ _. and_false (is_nil c.pieces))

begun-to_stop : (m : Margins) (aligned : Bool) (fill : Cell) (c : Collected) (s : Option Stop) → begins_line (to_stop m aligned fill c s) ≡ false
begun-to_stop m aligned fill c None = and_false (is_nil c.pieces)
begun-to_stop m aligned fill c (Some s) =
    cond_both (is_aligned aligned s.kind) _ _ (λ d. begins_line d ≡ false) (λ _. and_false (is_nil c.pieces)) (λ _. begun-cells m fill (s.column - column c) c)

-- the line has begun after it
pub begun-byte : (b : ℕ) (f : Formatter) → begins_line (byte_added b f) ≡ false
begun-byte b f =
    let c = collected f in
    cond_both (b == code " ") _ _ (λ d. begins_line d ≡ false) (λ _. and_false (is_nil c.pieces))
    (λ _. cond_both (b == code "\t") _ _ (λ d. begins_line d ≡ false)
    (λ _. begun-to_stop (margins f) (not f.settings.filling.fill) (cell (unwrap_or f.settings.tabs.tab (code " ")) f) c (first_beyond (column c) f.settings.tabs.stops))
    (λ _. and_false (is_nil c.pieces)))

-- it may add 176
pub weight-byte : (b : ℕ) (f : Formatter) → weight_of_line (byte_added b f) ≤ weight_of_line (collected f) + 176
weight-byte b f =
    let c = collected f in
    cond_both (b == code " ") _ _ (λ d. weight_of_line d ≤ weight_of_line c + 176) (λ _. omega (arith, weight-add_blank (margins f) c))
    (λ _. cond_both (b == code "\t") _ _ (λ d. weight_of_line d ≤ weight_of_line c + 176)
    (λ _. weight-tabbed (margins f) f.settings.tabs.stops (not f.settings.filling.fill) (cell (unwrap_or f.settings.tabs.tab (code " ")) f) c)
    (λ _. omega (arith, weight-add_cell (margins f) Hyphen (cell b f) c)))

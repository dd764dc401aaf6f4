-- How much the line weighs with what is read, and after what goes out.
use Rattle.std.proofs.Common.{◌≡◌, ◌≤◌, ◌<◌, ℕ, ◌+◌, ◌-◌, ◌==◌, nat_lt, Bool, true, if◌then◌else◌, List, [], ◌∷◌, length, Option, None, Some, refl, ap, arith, length-append, length-drop}
use Rattle.std.proofs.lemmas.Bool.{cond_both}
use Rattle.std.specs.Option.{option_map}
use Rattle.nr_vectors.specs.declared.cell.Cell.{Cell}
use Rattle.nr_settings.specs.declared.filling.Align.{Align}
use Rattle.nr_settings.specs.declared.indents.Margins.{Margins}
use Rattle.nr_settings.specs.declared.stops.Stop.{Stop}
use Rattle.nr_fill.specs.declared.piece.CutAfter.{CutAfter}
use Rattle.nr_fill.specs.declared.piece.CutAfter.TheVariants.{Letter, Hyphen, Dash}
use Rattle.nr_fill.specs.declared.piece.Point.{Point}
use Rattle.nr_fill.specs.declared.piece.Point.TheVariants as points
use Rattle.nr_fill.specs.declared.stops.Pending.{Pending}
use Rattle.nr_fill.specs.declared.stops.Pending.TheVariants.{Nothing, AtPoint, ForStop}
use Rattle.nr_fill.specs.Piece.{Word, Collected, word_or_new, with_word, ended_at, ended, pending_after, pending_named, with_named_point, pending_soft, with_soft_point, pending_without_point, add_cell_after, add_cell, add_blank, add_cells, marked, pointed_here, barred_here, joined_at, shortened, without_blanks, reads_field, append, word_length}
use Rattle.nr_fill.specs.Tabs.{to_stop, tabbed, first_beyond, column, is_aligned, filled_by, with_field_filled}
use Rattle.nr_fill.specs.Setting.{afterwards}
use Rattle.nr_formatter.specs.Weights.{weight_of_pending, weight_of_word, weight_of_line}

-- ---- what waits after the word

weight-pending_if : (b : Bool) (p : Pending) (n : ℕ) → weight_of_pending p ≡ 0 → weight_of_pending (if b then p else Nothing) ≤ n
weight-pending_if b p n none = cond_both b p Nothing (λ q. weight_of_pending q ≤ n) (λ _. omega arith) (λ _. omega arith)

weight-pending_after : (mark : CutAfter) (n : ℕ) (p : Pending) → weight_of_pending (pending_after mark n p) ≤ weight_of_pending p
weight-pending_after Letter n Nothing = omega arith
weight-pending_after Letter n (AtPoint q) = omega arith
weight-pending_after Letter n (ForStop f) = omega arith
weight-pending_after Hyphen n Nothing = weight-pending_if (nat_lt 1 n) (AtPoint points.Hard) 0 refl
weight-pending_after Hyphen n (AtPoint q) = weight-pending_if (nat_lt 1 n) (AtPoint points.Hard) 0 refl
weight-pending_after Hyphen n (ForStop f) = omega arith
weight-pending_after Dash n Nothing = weight-pending_if (nat_lt 2 n) (AtPoint points.Hard) 0 refl
weight-pending_after Dash n (AtPoint q) = weight-pending_if (nat_lt 2 n) (AtPoint points.Hard) 0 refl
weight-pending_after Dash n (ForStop f) = omega arith

weight-pending_soft : (n : ℕ) (p : Pending) → weight_of_pending (pending_soft n p) ≤ weight_of_pending p
weight-pending_soft n Nothing = weight-pending_if (nat_lt 0 n) (AtPoint points.Soft) 0 refl
weight-pending_soft n (AtPoint q) = omega arith
weight-pending_soft n (ForStop f) = omega arith

weight-pending_named : (q : Point) (n : ℕ) (p : Pending) → weight_of_pending (pending_named q n p) ≤ weight_of_pending p
weight-pending_named q n Nothing = weight-pending_if (nat_lt 0 n) (AtPoint q) 0 refl
weight-pending_named q n (AtPoint r) = cond_both (nat_lt 0 n) (AtPoint q) (AtPoint r) (λ p. weight_of_pending p ≤ 0) (λ _. omega arith) (λ _. omega arith)
weight-pending_named q n (ForStop f) = omega arith

weight-pending_without_point : (p : Pending) → weight_of_pending (pending_without_point p) ≤ weight_of_pending p
weight-pending_without_point Nothing = omega arith
weight-pending_without_point (AtPoint q) = omega arith
weight-pending_without_point (ForStop f) = omega arith

-- ---- a word

weight-word_or_new : (gap : ℕ) (o : Option Word) → weight_of_word (Some (word_or_new gap o)) ≤ weight_of_word o + 170
weight-word_or_new gap None = omega arith
weight-word_or_new gap (Some w) = omega arith

weight-ended_at : (p : Pending) (w : Word) → weight_of_word (Some (ended_at p w)) ≤ weight_of_word (Some w) + 5
weight-ended_at Nothing w = omega arith
weight-ended_at (AtPoint q) w = omega (arith, length-append w.parts (w.last ∷ []))
weight-ended_at (ForStop f) w = omega arith

weight-add_cell_after : (afterwards : CutAfter) (x : Cell) (w : Word) → weight_of_word (Some (add_cell_after afterwards x w)) ≤ weight_of_word (Some w)
weight-add_cell_after afterwards x w = omega (arith, weight-pending_after afterwards (word_length (append (x ∷ []) w)) w.pending)

weight-with_soft_point : (o : Option Word) → weight_of_word (option_map with_soft_point o) ≤ weight_of_word o
weight-with_soft_point None = omega arith
weight-with_soft_point (Some w) = omega (arith, weight-pending_soft (length w.last.cells) w.pending)

weight-with_named_point : (q : Point) (o : Option Word) → weight_of_word (option_map (with_named_point q) o) ≤ weight_of_word o
weight-with_named_point q None = omega arith
weight-with_named_point q (Some w) = omega (arith, weight-pending_named q (length w.last.cells) w.pending)

-- ---- what is read

-- a word that takes something is there from now on, and may have a piece more
weight_of_begun : (c : Collected) → weight_of_word (Some (ended (word_or_new c.gap c.word))) ≤ weight_of_word c.word + 175
weight_of_begun c = let w = word_or_new c.gap c.word in omega (arith, weight-word_or_new c.gap c.word, weight-ended_at w.pending w)

pub weight-with_word : (m : Margins) (c : Collected) → weight_of_line (with_word m c) ≤ weight_of_line c + 170
weight-with_word m c = omega (arith, weight-word_or_new c.gap c.word)

pub weight-add_cell : (m : Margins) (b : CutAfter) (x : Cell) (c : Collected) → weight_of_line (add_cell m b x c) ≤ weight_of_line c + 175
weight-add_cell m b x c = omega (arith, weight_of_begun c, weight-add_cell_after b x (ended (word_or_new c.gap c.word)))

pub weight-add_blank : (m : Margins) (c : Collected) → weight_of_line (add_blank m c) ≤ weight_of_line c + 175
weight-add_blank m c = omega (arith, weight_of_begun c)

pub weight-add_cells : (m : Margins) (x : Cell) (n : ℕ) (c : Collected) → weight_of_line (add_cells m x n c) ≤ weight_of_line c + 175
weight-add_cells m x n c = cond_both (n == 0) _ _ (λ d. weight_of_line d ≤ weight_of_line c + 175) (λ _. omega (arith, weight-word_or_new c.gap c.word)) (λ _. omega (arith, weight_of_begun c))

pub weight-marked : (m : Margins) (c : Collected) → weight_of_line (marked m c) ≤ weight_of_line c + 170
weight-marked m c = omega (arith, weight-word_or_new c.gap c.word)

weight-to_stop : (m : Margins) (aligned : Bool) (fill : Cell) (c : Collected) (s : Option Stop) → weight_of_line (to_stop m aligned fill c s) ≤ weight_of_line c + 176
weight-to_stop m aligned fill c None = omega (arith, weight-with_word m c)
weight-to_stop m aligned fill c (Some s) = cond_both (is_aligned aligned s.kind) _ _ (λ d. weight_of_line d ≤ weight_of_line c + 176) (λ _. omega (arith, weight_of_begun c)) (λ _. omega (arith, weight-add_cells m fill (s.column - column c) c))

pub weight-tabbed : (m : Margins) (stops : List Stop) (aligned : Bool) (fill : Cell) (c : Collected) → weight_of_line (tabbed m stops aligned fill c) ≤ weight_of_line c + 176
weight-tabbed m stops aligned fill c = weight-to_stop m aligned fill c (first_beyond (column c) stops)

pub weight-barred_here : (c : Collected) → weight_of_line (barred_here c) ≤ weight_of_line c
weight-barred_here c = omega (arith, weight-with_soft_point c.word)

pub weight-pointed_here : (q : Point) (c : Collected) → weight_of_line (pointed_here q c) ≤ weight_of_line c
weight-pointed_here q c = omega (arith, weight-with_named_point q c.word)

-- ---- a line that is not filled ends

weight-joined_at : (p : Pending) (w : Word) → weight_of_word (Some (joined_at p w)) ≤ weight_of_word (Some w)
weight-joined_at Nothing w = omega arith
weight-joined_at (AtPoint q) w = omega arith
weight-joined_at (ForStop f) w = omega arith

weight-shortened_word : (o : Option Word) → weight_of_word (option_map shortened (option_map (λ w. joined_at w.pending w) o)) ≤ weight_of_word o
weight-shortened_word None = omega arith
weight-shortened_word (Some w) = omega (arith, weight-joined_at w.pending w, weight-pending_without_point (joined_at w.pending w).pending)

pub weight-without_blanks : (c : Collected) → weight_of_line (without_blanks c) ≤ weight_of_line c
weight-without_blanks c = omega (arith, weight-shortened_word c.word)

-- ---- the text for a stop ends

weight-filled_by : (p : Pending) (w : Word) → w.pending ≡ p → reads_field (Some w) ≡ true → weight_of_word (Some (filled_by p w)) + 1 ≤ weight_of_word (Some w)
weight-filled_by Nothing w is reads = cc
weight-filled_by (AtPoint q) w is reads = cc
weight-filled_by (ForStop f) w is reads = omega (arith, ap weight_of_pending is)

weight-filled_word : (o : Option Word) → reads_field o ≡ true → weight_of_word (option_map (λ (w : Word). filled_by w.pending w) o) + 1 ≤ weight_of_word o
weight-filled_word None reads = cc
weight-filled_word (Some w) reads = weight-filled_by w.pending w refl reads

pub weight-with_field_filled : (c : Collected) → reads_field c.word ≡ true → weight_of_line (with_field_filled c) + 1 ≤ weight_of_line c
weight-with_field_filled c reads = omega (arith, weight-filled_word c.word reads)

-- ---- a line goes out

pub weight-afterwards : (m : Margins) (align : Align) (c : Collected) (n : ℕ) → 0 < n → 0 < length c.pieces → weight_of_line (afterwards m align c n) + 5 ≤ weight_of_line c
weight-afterwards m align c n some pieces = omega (arith, length-drop n c.pieces)

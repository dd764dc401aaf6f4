-- What waits after the piece that is being read, as it changes.
use Rattle.std.proofs.Common.{◌≡◌, ℕ, ◌+◌, ◌-◌, ◌≤◌, ◌<◌, ◌^◌, nat_lt, ◌&&◌, length, Option, Some, true, false, refl, arith, inl, inr, length-drop}
use Rattle.std.proofs.lemmas.Bool.{cases_Bool, cases_lt, lt-ltb, le-ltb, ltb-true}
use Rattle.std.proofs.lemmas.List.Sums.{sum_by-take-drop}
use Rattle.nr_fill.specs.declared.line.WordState.{WordState}
use Rattle.nr_fill.specs.declared.piece.CutAfter.{CutAfter}
use Rattle.nr_fill.specs.declared.piece.CutAfter.TheVariants.{Letter, Hyphen, Dash}
use Rattle.nr_fill.specs.declared.piece.Point.{Point}
use Rattle.nr_fill.specs.declared.stops.Pending.{Pending}
use Rattle.nr_fill.specs.declared.stops.Pending.TheVariants.{Nothing, AtPoint, ForStop}
use Rattle.nr_fill.specs.declared.title.TitleState.{TitleState}
use Rattle.nr_fill.specs.Cutting.{join_width, piece_width}
use Rattle.nr_fill.specs.Laid.{Laid, read_cells}
use Rattle.nr_fill.specs.PieceRow.{cells_needed, IsLine}
use Rattle.nr_fill.specs.Piece.{Piece, pending_after, pending_named, pending_soft, pending_without_point, is_for_stop, is_inside}
use Rattle.nr_fill.proofs.Lines.{the_word, is_line_word, widths_small}

pub needed_blanks : (p : Pending) (b k n : ℕ) → cells_needed p b k ≤ n → b ≤ k + n
needed_blanks Nothing b k n h = omega arith
needed_blanks (AtPoint point) b k n h = omega arith
needed_blanks (ForStop f) b k n h = omega arith

pub needed_none : (p : Pending) (b k n : ℕ) → cells_needed p b k ≤ n → cells_needed p 0 k ≤ n
needed_none Nothing b k n h = omega arith
needed_none (AtPoint point) b k n h = omega arith
needed_none (ForStop f) b k n h = omega arith

pub needed_soft : (p : Pending) (b k n : ℕ) → cells_needed p b k ≤ n → cells_needed (pending_soft n p) b k ≤ n
needed_soft Nothing b k n h = elim (cases_Bool (nat_lt 0 n)) [
  | inl below ↦ let some = ltb-true 0 n below in rw below (omega arith)
  | inr above ↦ rw above h
]
needed_soft (AtPoint point) b k n h = h
needed_soft (ForStop f) b k n h = h

pub needed_named : (q : Point) (p : Pending) (b k n : ℕ) → cells_needed p b k ≤ n → cells_needed (pending_named q n p) b k ≤ n
needed_named q Nothing b k n h = elim (cases_Bool (nat_lt 0 n)) [
  | inl below ↦ let some = ltb-true 0 n below in rw below (omega arith)
  | inr above ↦ rw above h
]
needed_named q (AtPoint point) b k n h = elim (cases_Bool (nat_lt 0 n)) [ inl below ↦ rw below h | inr above ↦ rw above h ]
needed_named q (ForStop f) b k n h = h

pub needed_after : (mark : CutAfter) (m : ℕ) (p : Pending) (b k n : ℕ) → cells_needed p b k ≤ n → cells_needed (pending_after mark m p) 0 k ≤ n + 1
needed_after Letter m (ForStop f) b k n h = omega arith
needed_after Hyphen m (ForStop f) b k n h = omega arith
needed_after Dash m (ForStop f) b k n h = omega arith
needed_after Letter m Nothing b k n h = omega arith
needed_after Letter m (AtPoint point) b k n h = omega arith
needed_after Hyphen m Nothing b k n h = elim (cases_Bool (nat_lt 1 m)) [ inl below ↦ rw below (omega arith) | inr above ↦ rw above (omega arith) ]
needed_after Hyphen m (AtPoint point) b k n h = elim (cases_Bool (nat_lt 1 m)) [ inl below ↦ rw below (omega arith) | inr above ↦ rw above (omega arith) ]
needed_after Dash m Nothing b k n h = elim (cases_Bool (nat_lt 2 m)) [ inl below ↦ rw below (omega arith) | inr above ↦ rw above (omega arith) ]
needed_after Dash m (AtPoint point) b k n h = elim (cases_Bool (nat_lt 2 m)) [ inl below ↦ rw below (omega arith) | inr above ↦ rw above (omega arith) ]

pub needed_without_point : (p : Pending) (b k n : ℕ) → cells_needed p b k ≤ n → cells_needed (pending_without_point p) b k ≤ n
needed_without_point Nothing b k n h = h
needed_without_point (AtPoint point) b k n h = omega arith
needed_without_point (ForStop f) b k n h = h

pub needed_dropped : (p : Pending) (b k n : ℕ) → cells_needed p b k ≤ n → cells_needed (pending_without_point p) 0 k ≤ n - b
needed_dropped Nothing b k n h = omega arith
needed_dropped (AtPoint point) b k n h = omega arith
needed_dropped (ForStop f) b k n h = omega arith

pub needed_more : (p : Pending) (b k n m : ℕ) → cells_needed p b k ≤ n → cells_needed p (b + m) k ≤ n + m
needed_more Nothing b k n m h = omega arith
needed_more (AtPoint point) b k n m h = omega arith
needed_more (ForStop f) b k n m h = omega arith

-- cells after a point inside the piece
pub needed_after_point : (p : Pending) (b k m : ℕ) → is_for_stop p ≡ false → b < m → cells_needed p b k ≤ m
needed_after_point Nothing b k m other h = omega arith
needed_after_point (AtPoint point) b k m other h = omega arith
needed_after_point (ForStop f) b k m other h = absurd (let e : true ≡ false = other in cc)

-- a word with something else after it
pub is_line_pending : {row : Laid} {limit pieces wide : ℕ} {w : WordState} {gap : ℕ} {title : Option TitleState} (p : Pending) (b : ℕ) → IsLine row limit pieces wide (Some w) gap title
    → cells_needed p b w.parted ≤ length row.last → IsLine row limit pieces wide (Some (record w { pending = p; blanks = b })) gap title
is_line_pending {w = w} p b h needed =
    let iw = the_word h in
    is_line_word (record w { pending = p; blanks = b }) h (record {
      parted_is = iw.parted_is;
      wide_is = iw.wide_is;
      pieces_have_cells = iw.pieces_have_cells;
      join_within = iw.join_within;
      needed = needed;
    })

-- the numbers of a word are small
pub record AreSmall (row : Laid) (limit pieces wide : ℕ) (w : WordState) : Type 0 where
  pub room : limit ≤ row.capacity
  pub small : limit < 2 ^ 32
  pub text : pieces + read_cells row ≤ limit
  pub parted : w.parted + length row.last ≤ read_cells row
  pub pieces_are : length row.pieces ≤ pieces + w.parted
  pub low : pieces ≤ length row.pieces
  pub widths : wide + w.wide < 2 ^ 44
  pub join : join_width w.join ≤ 1365
  pub needed : cells_needed w.pending w.blanks w.parted ≤ length row.last

pub are_small : {row : Laid} {limit pieces wide : ℕ} {w : WordState} {gap : ℕ} {title : Option TitleState} → IsLine row limit pieces wide (Some w) gap title → AreSmall row limit pieces wide w
are_small {row} {pieces = pieces} h =
    let iw = the_word h in
    let parts = sum_by-take-drop (λ (q : Piece). length q.cells) row.pieces pieces in
    let widths = sum_by-take-drop piece_width row.pieces pieces in
    let parted = iw.parted_is in
    let first = h.wide_is in
    let other = iw.wide_is in
    let some = iw.pieces_have_cells in
    let low = h.pieces_within in
    let small = widths_small h in
    record {
      room = omega (arith, h.room);
      small = h.is_small;
      text = omega (arith, h.within);
      parted = omega arith;
      pieces_are = omega (arith, length-drop pieces row.pieces);
      low = low;
      widths = omega arith;
      join = iw.join_within;
      needed = iw.needed;
    }

-- what it says of a place to be inside a piece
pub inside_at : (at b n : ℕ) (p : Pending) → is_inside at b n p ≡ true → (0 < at) × (at + b < n) × (is_for_stop p ≡ false)
inside_at at b n (ForStop f) h = elim (cases_Bool (nat_lt 0 at && nat_lt (at + b) n)) [
  | inl both ↦ absurd (let e : false ≡ true = (rw both at h) in cc)
  | inr neither ↦ absurd (let e : false ≡ true = (rw neither at h) in cc)
]
inside_at at b n Nothing h = elim (cases_lt 0 at) [
  | inl some ↦ elim (cases_lt (at + b) n) [
    | inl below ↦ (some, below, refl)
    | inr above ↦ absurd (let e : false ≡ true = (rw (lt-ltb 0 at some, le-ltb (at + b) n above) at h) in cc)
  ]
  | inr none ↦ absurd (let e : false ≡ true = (rw (le-ltb 0 at none) at h) in cc)
]
inside_at at b n (AtPoint point) h = elim (cases_lt 0 at) [
  | inl some ↦ elim (cases_lt (at + b) n) [
    | inl below ↦ (some, below, refl)
    | inr above ↦ absurd (let e : false ≡ true = (rw (lt-ltb 0 at some, le-ltb (at + b) n above) at h) in cc)
  ]
  | inr none ↦ absurd (let e : false ≡ true = (rw (le-ltb 0 at none) at h) in cc)
]

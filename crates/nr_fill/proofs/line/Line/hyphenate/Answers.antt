use Rattle.std.proofs.Common.{◌≡◌, ℕ, ◌+◌, ◌-◌, ◌<◌, Bool, ◌∷◌, [], length, take, drop, ap, ap₂, sym, ◌∙◌, refl, arith, true, false}
use Rattle.nr_fill.specs.Laid.{Laid}
use Rattle.nr_fill.specs.declared.line.WordState.{WordState}
use Rattle.nr_fill.specs.Piece.{cells_in}
use Rattle.nr_fill.proofs.Lines.{the_word, is_line_untitled, is_line_closed}
use Rattle.nr_fill.proofs.Pendings.{are_small}
use Rattle.nr_fill.specs.declared.piece.Join.TheVariants.{Soft}
use Rattle.nr_fill.specs.declared.stops.Pending.{Pending}
use Rattle.nr_fill.specs.Piece.{Piece, is_for_stop, is_inside}
use Rattle.std.proofs.lemmas.List.{take-append-le, drop-append-le}
use Rattle.nr_fill.proofs.Pendings.{inside_at, needed_after_point}
use Rattle.nr_fill.proofs.line.Line.hyphenate.Goals as goal

-- what is known of a place inside the piece that is being read
inside_row : (row : Laid) (at blanks : ℕ) (p : Pending) {cleared : Laid} {len : ℕ} {is : Bool} → len ≡ length cleared.last → cleared ≡ record row { title = [] } → is ≡ is_inside at blanks len p → is ≡ true
    → (0 < at) × (at + blanks < length row.last) × (is_for_stop p ≡ false)
inside_row row at blanks p long clear said inside =
    inside_at at blanks (length row.last) p (ap (λ n. is_inside at blanks n p) (sym (long ∙ ap (λ (l : Laid). length l.last) clear)) ∙ sym said ∙ inside)

pub invariant_of-self-then-not-is_inside : goal.invariant_of-self-then-not-is_inside
invariant_of-self-then-not-is_inside c = let h = rw c.in-Some.is at (is_line_untitled c.self.invariant) in rw c.clear_title.ensures h

pub returns-then-not-is_inside : goal.returns-then-not-is_inside
returns-then-not-is_inside c =
    let s = c.self.inside in
    let h = rw c.in-Some.is at (is_line_untitled c.self.invariant) in
    let iw = the_word h in
    let w = c.in-Some.word in
    let len : c.last_len.result ≡ length s.row.last = c.last_len.ensures ∙ ap (λ (l : Laid). length l.last) c.clear_title.ensures in
    let at_is : c.saturating_sub-at.result ≡ c.args.place - cells_in (drop s.pieces s.row.pieces) = c.saturating_sub-at.ensures ∙ ap (λ k. c.args.place - k) (sym iw.parted_is) in
    let not_inside : is_inside (c.args.place - cells_in (drop s.pieces s.row.pieces)) w.blanks (length s.row.last) w.pending ≡ false =
    ap₂ (λ a b. is_inside a w.blanks b w.pending) (sym at_is) (sym len) ∙ sym c.is_inside.ensures ∙ c.if-not-is_inside.true in
    rw (c.clear_title.ensures, ← c.self.view_is, c.in-Some.is, not_inside) refl

pub close-requires-clause-room : goal.close-requires-clause-room
close-requires-clause-room c =
    let h = rw c.in-Some.is at (is_line_untitled c.self.invariant) in
    let small = are_small h in
    let inside = inside_row c.self.inside.row c.saturating_sub-at.result c.in-Some.word.blanks c.in-Some.word.pending c.last_len.ensures c.clear_title.ensures c.is_inside.ensures c.if-not-is_inside.false in
    rw c.clear_title.ensures (omega (arith, small.room, small.text, small.parted, small.pieces_are))

pub overflow_add-word-3 : goal.overflow_add-word-3
overflow_add-word-3 c =
    let h = rw c.in-Some.is at (is_line_untitled c.self.invariant) in
    let small = are_small h in
    let inside = inside_row c.self.inside.row c.saturating_sub-at.result c.in-Some.word.blanks c.in-Some.word.pending c.last_len.ensures c.clear_title.ensures c.is_inside.ensures c.if-not-is_inside.false in
    let join = c.from.ensures ∙ c.width.ensures in
    omega (arith, small.widths, small.join, small.small, small.text, small.parted)

pub invariant_of-self-2 : goal.invariant_of-self-2
invariant_of-self-2 c =
    let s = c.self.inside in
    let h = rw c.in-Some.is at (is_line_untitled c.self.invariant) in
    let w = c.in-Some.word in
    let at = c.saturating_sub-at.result in
    let inside = inside_row c.self.inside.row c.saturating_sub-at.result c.in-Some.word.blanks c.in-Some.word.pending c.last_len.ensures c.clear_title.ensures c.is_inside.ensures c.if-not-is_inside.false in
    let width = c.from.ensures ∙ c.width.ensures in
    let v : WordState = record { join = Soft; pending = w.pending; blanks = w.blanks; parted = w.parted + at; wide = w.wide + (c.from.result + at) } in
    let needed = needed_after_point w.pending w.blanks v.parted (length s.row.last - at) inside.2 (omega arith) in
    rw (c.close.ensures, c.clear_title.ensures) (is_line_closed v at h (omega arith) inside.0 refl (omega arith) (omega arith) needed)

pub returns : goal.returns
returns c =
    let s = c.self.inside in
    let h = rw c.in-Some.is at (is_line_untitled c.self.invariant) in
    let w = c.in-Some.word in
    let at = c.saturating_sub-at.result in
    let len : c.last_len.result ≡ length s.row.last = c.last_len.ensures ∙ ap (λ (l : Laid). length l.last) c.clear_title.ensures in
    let at_is : at ≡ c.args.place - cells_in (drop s.pieces s.row.pieces) = c.saturating_sub-at.ensures ∙ ap (λ k. c.args.place - k) (sym (the_word h).parted_is) in
    let is : is_inside (c.args.place - cells_in (drop s.pieces s.row.pieces)) w.blanks (length s.row.last) w.pending ≡ true =
    ap₂ (λ a b. is_inside a w.blanks b w.pending) (sym at_is) (sym len) ∙ sym c.is_inside.ensures ∙ c.if-not-is_inside.false in
    let p : Piece = record { join = w.join; cells = take at s.row.last } in
    let prefix = take-append-le s.pieces s.row.pieces (p ∷ []) (are_small h).low in
    let back = drop-append-le s.pieces s.row.pieces (p ∷ []) (are_small h).low in
    rw (c.close.ensures, c.clear_title.ensures, prefix, back, ← c.self.view_is, c.in-Some.is, is, ← at_is) refl

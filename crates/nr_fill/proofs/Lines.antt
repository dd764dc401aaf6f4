-- What a line's fields tell of its value, and how they change.
use Rattle.std.proofs.Common.{◌≡◌, ℕ, ◌+◌, ◌-◌, ◌*◌, ◌^◌, ◌≤◌, ◌<◌, List, [], ◌∷◌, ◌++◌, length, take, drop, sum_by, Option, None, Some, is_none, is_some, Bool, true, false, All, refl, ap, sym, ◌∙◌, append_assoc, arith, length-take, length-drop, length-append, eqb, get_or, subst, suc, inl, inr}
use Rattle.std.proofs.lemmas.List.{take-append-drop, take_all, drop_all, drop-drop, drop-take, take-take, length-take-le, take-append-le, drop-append-le}
use Rattle.std.proofs.lemmas.Bool.{ne_eqb, cases_lt}
use Rattle.std.proofs.lemmas.List.Elements.{All-drop, All-push, All-take}
use Rattle.std.proofs.lemmas.List.Sums.{sum_by-cons, sum_by_push, sum_by-take-drop}
use Rattle.nr_vectors.specs.declared.cell.Cell.{Cell}
use Rattle.nr_fill.specs.declared.line.WordState.{WordState}
use Rattle.nr_settings.specs.declared.indents.Margins.{Margins}
use Rattle.nr_fill.specs.declared.margins.Turn.{Turn}
use Rattle.nr_fill.specs.declared.piece.Join.{Join}
use Rattle.nr_fill.specs.declared.piece.Join.TheVariants.{Gap}
use Rattle.nr_fill.specs.declared.stops.Pending.TheVariants.{Nothing}
use Rattle.nr_fill.specs.declared.title.TitleState.{TitleState}
use Rattle.nr_fill.specs.declared.title.TitleState.TheVariants as states
use Rattle.nr_fill.specs.Cutting.{join_width, piece_width, pieces_width}
use Rattle.nr_fill.specs.Laid.{Laid, read_cells}
use Rattle.nr_fill.specs.PieceRow.{word_of, collected_of, cells_needed, IsWord, IsLine}
use Rattle.nr_fill.specs.Piece.{Piece, cells_in, text_cells, line_cells, is_nil, join_before, word_pieces, word_or_new, new_word}
use Rattle.nr_fill.specs.Titling.{title_of, parted_title, next_state}
use Rattle.nr_fill.specs.Title.{Title, title_cells, title_or_empty, with_cell}
use Rattle.nr_fill.proofs.PiecesOf.{length-flat_map}
use Rattle.std.specs.List.{flat_map}
use Rattle.std.specs.Option.{option_map}

-- ---- the measure

-- 1 and its cells for each piece
charge_of : (ps : List Piece) → sum_by (λ (p : Piece). 1 + length p.cells) ps ≡ length ps + cells_in ps
charge_of [] = refl
charge_of (p ∷ ps) =
    let one = sum_by-cons (λ (q : Piece). 1 + length q.cells) p ps in
    let cells = sum_by-cons (λ (q : Piece). length q.cells) p ps in
    let more = charge_of ps in
    omega arith

pub text_cells-collected_of : {row : Laid} {limit pieces wide : ℕ} {word : Option WordState} {gap : ℕ} {title : Option TitleState} (barred sentence : Bool) (margins : Margins) (turn : Turn)
    → IsLine row limit pieces wide word gap title → text_cells (collected_of row pieces word gap barred sentence margins turn title) ≡ pieces + read_cells row
text_cells-collected_of {row} {pieces = pieces} {word = None} barred sentence margins turn h =
    let charge = charge_of (take pieces row.pieces) in
    let long = length-take-le pieces row.pieces h.pieces_within in
    let all = h.no_word refl in
    let same = ap cells_in (take_all pieces row.pieces (omega arith)) in
    omega arith
text_cells-collected_of {row} {pieces = pieces} {word = Some w} barred sentence margins turn h =
    let charge = charge_of (take pieces row.pieces) in
    let long = length-take-le pieces row.pieces h.pieces_within in
    let parts = sum_by-take-drop (λ (p : Piece). length p.cells) row.pieces pieces in
    omega arith

pub title_cells-title_of : (title : Option TitleState) (cells : List Cell) → ((t : TitleState) → title ≡ Some t → parted_title t ≤ length cells) → (is_none title ≡ true → length cells ≡ 0)
    → title_cells (title_of title cells) ≡ length cells
title_cells-title_of None cells some none = sym (none refl)
title_cells-title_of (Some states.Left) cells some none = omega arith
title_cells-title_of (Some (states.Centre left)) cells some none =
    let within : left ≤ length cells = some (states.Centre left) refl in
    omega (arith, length-take-le left cells within, length-drop left cells)
title_cells-title_of (Some (states.Right left centre)) cells some none =
    let within : left + centre ≤ length cells = some (states.Right left centre) refl in
    omega (arith, length-take-le left cells (omega arith), length-take centre (drop left cells), length-drop centre (drop left cells), length-drop left cells)

pub line_cells-collected_of : {row : Laid} {limit pieces wide : ℕ} {word : Option WordState} {gap : ℕ} {title : Option TitleState} (barred sentence : Bool) (margins : Margins) (turn : Turn)
    → IsLine row limit pieces wide word gap title → line_cells (collected_of row pieces word gap barred sentence margins turn title) ≡ pieces + read_cells row + length row.title
line_cells-collected_of {row} {title = title} barred sentence margins turn h =
    let text = text_cells-collected_of barred sentence margins turn h in
    let cells = title_cells-title_of title row.title h.title_is h.no_title in
    omega arith

-- ---- widths

pub pieces_width-le : (ps : List Piece) → All (λ (p : Piece). join_width p.join ≤ 1365) ps → pieces_width ps ≤ 1365 * length ps + cells_in ps
pieces_width-le [] h = omega arith
pieces_width-le (p ∷ ps) h =
    let wide = sum_by-cons piece_width p ps in
    let cells = sum_by-cons (λ (q : Piece). length q.cells) p ps in
    let others : All (λ (q : Piece). join_width q.join ≤ 1365) ps = λ k d below. h (suc k) d (omega arith) in
    let more = pieces_width-le ps others in
    let here : join_width p.join ≤ 1365 = h 0 p (omega arith) in
    omega arith

-- pieces and cells are no more than the limit
pub pieces_fit : {row : Laid} {limit pieces wide : ℕ} {word : Option WordState} {gap : ℕ} {title : Option TitleState} → IsLine row limit pieces wide word gap title
    → length row.pieces + length row.last ≤ pieces + read_cells row
pieces_fit {row} {pieces = pieces} {word = None} h = let all = h.no_word refl in omega arith
pieces_fit {row} {pieces = pieces} {word = Some w} h =
    let iw = h.word_is w refl in
    let some = iw.pieces_have_cells in
    let parted = iw.parted_is in
    let parts = sum_by-take-drop (λ (p : Piece). length p.cells) row.pieces pieces in
    omega (arith, length-drop pieces row.pieces)

-- the widths of a line fit
pub widths_small : {row : Laid} {limit pieces wide : ℕ} {word : Option WordState} {gap : ℕ} {title : Option TitleState} → IsLine row limit pieces wide word gap title
    → pieces_width row.pieces < 2 ^ 44
widths_small {row} h =
    let wide = pieces_width-le row.pieces h.gaps_within in
    let fit = pieces_fit h in
    let within = h.within in
    let small = h.is_small in
    omega arith

-- ---- words

-- the word's state is that of the word
pub the_word : {row : Laid} {limit pieces wide : ℕ} {w : WordState} {gap : ℕ} {title : Option TitleState} → IsLine row limit pieces wide (Some w) gap title
    → IsWord w (drop pieces row.pieces) row.last
the_word {w = w} h = h.word_is w refl

-- a word of which this is known
only_word : {ps : List Piece} {cells : List Cell} (w : WordState) → IsWord w ps cells → (v : WordState) → Some w ≡ Some v → IsWord v ps cells
only_word {ps} {cells} w h v e = let same : w ≡ v = (cc) in subst (λ (x : WordState). IsWord x ps cells) same h

is_some_word : {T : Type 0} (w : WordState) → is_none (Some w) ≡ true → T
is_some_word w e = absurd (let f : false ≡ true = e in cc)

no_title_state : {T : Type 0} (t : TitleState) → ◌≡◌ {A = Option TitleState} None (Some t) → T
no_title_state t e = absurd (cc)

-- the same pieces with other cells after them, another word and another title
is_line_after : {row : Laid} {limit pieces wide : ℕ} {word : Option WordState} {gap : ℕ} {title : Option TitleState} (last cells : List Cell) (v : Option WordState) (k : ℕ) (t : Option TitleState) → IsLine row limit pieces wide word gap title
    → pieces + (cells_in row.pieces + length last) + length cells ≤ limit → k ≤ 1365
    → ((w : WordState) → v ≡ Some w → IsWord w (drop pieces row.pieces) last) → (is_none v ≡ true → (length row.pieces ≡ pieces) × (length last ≡ 0))
    → ((u : TitleState) → t ≡ Some u → parted_title u ≤ length cells) → (is_none t ≡ true → length cells ≡ 0)
    → IsLine (record row { last = last; title = cells }) limit pieces wide v k t
is_line_after last cells v k t h within gap_within word_is no_word title_is no_title = record {
  room = h.room;
  is_small = h.is_small;
  within = within;
  pieces_within = h.pieces_within;
  wide_is = h.wide_is;
  gaps_within = h.gaps_within;
  gap_within = gap_within;
  word_is = word_is;
  no_word = no_word;
  title_is = title_is;
  no_title = no_title;
}

-- without a title
pub is_line_untitled : {row : Laid} {limit pieces wide : ℕ} {word : Option WordState} {gap : ℕ} {title : Option TitleState} → IsLine row limit pieces wide word gap title
    → IsLine (record row { title = [] }) limit pieces wide word gap None
is_line_untitled {row} {word = word} {gap = gap} h =
    is_line_after row.last [] word gap None h (omega (arith, h.within)) h.gap_within h.word_is h.no_word (λ t e. no_title_state t e) (λ none. refl)

-- with another state of the word
pub is_line_word : {row : Laid} {limit pieces wide : ℕ} {word : Option WordState} {gap : ℕ} {title : Option TitleState} (w : WordState) → IsLine row limit pieces wide word gap title
    → IsWord w (drop pieces row.pieces) row.last → IsLine row limit pieces wide (Some w) gap title
is_line_word {row} {gap = gap} {title = title} w h hw =
    is_line_after row.last row.title (Some w) gap title h h.within h.gap_within (only_word w hw) (λ none. is_some_word w none) h.title_is h.no_title

-- a word that opens
pub is_line_opened : {row : Laid} {limit pieces wide : ℕ} {gap : ℕ} {title : Option TitleState} (w : WordState) → IsLine row limit pieces wide None gap title
    → w ≡ record { join = Gap gap; pending = Nothing; blanks = 0; parted = 0; wide = 0 }
    → IsLine row limit pieces wide (Some w) 0 title
is_line_opened {row} {pieces = pieces} {title = title} w h is =
    let all = h.no_word refl in
    let none : drop pieces row.pieces ≡ [] = drop_all pieces row.pieces (omega arith) in
    let hw : IsWord w (drop pieces row.pieces) row.last = rw (is, none) record {
      parted_is = refl;
      wide_is = refl;
      pieces_have_cells = omega arith;
      join_within = h.gap_within;
      needed = omega arith;
    } in
    is_line_after row.last row.title (Some w) 0 title h h.within (omega arith) (only_word w hw) (λ none. is_some_word w none) h.title_is h.no_title

-- with other cells of the piece that is being read
pub is_line_last : {row : Laid} {limit pieces wide : ℕ} {word : Option WordState} {gap : ℕ} {title : Option TitleState} (last : List Cell) (w : WordState) → IsLine row limit pieces wide word gap title
    → IsWord w (drop pieces row.pieces) last → pieces + (cells_in row.pieces + length last) + length row.title ≤ limit
    → IsLine (record row { last = last }) limit pieces wide (Some w) gap title
is_line_last {row} {gap = gap} {title = title} last w h hw within =
    is_line_after last row.title (Some w) gap title h within h.gap_within (only_word w hw) (λ none. is_some_word w none) h.title_is h.no_title

-- cells of the piece that is being read are a piece
pub is_word_closed : {ps : List Piece} {last : List Cell} {w : WordState} (v : WordState) (n : ℕ) → IsWord w ps last → n ≤ length last → 0 < n
    → v.parted ≡ w.parted + n → v.wide ≡ w.wide + join_width w.join + n → join_width v.join ≤ 1365 → cells_needed v.pending v.blanks v.parted ≤ length last - n
    → IsWord v (ps ++ record { join = w.join; cells = take n last } ∷ []) (drop n last)
is_word_closed {ps} {last} {w} v n h within some parted_is wide_is join needed =
    let p : Piece = record { join = w.join; cells = take n last } in
    let long = length-take-le n last within in
    let cells = sum_by_push (λ (q : Piece). length q.cells) ps p in
    let wide = sum_by_push piece_width ps p in
    let parted = h.parted_is in
    let all_wide = h.wide_is in
    record {
      parted_is = omega arith;
      wide_is = omega arith;
      pieces_have_cells = omega (arith, h.pieces_have_cells, length-append ps (p ∷ []));
      join_within = join;
      needed = omega (arith, length-drop n last);
    }

pub is_line_closed : {row : Laid} {limit pieces wide : ℕ} {w : WordState} {gap : ℕ} {title : Option TitleState} (v : WordState) (n : ℕ) → IsLine row limit pieces wide (Some w) gap title
    → n ≤ length row.last → 0 < n
    → v.parted ≡ w.parted + n → v.wide ≡ w.wide + join_width w.join + n → join_width v.join ≤ 1365 → cells_needed v.pending v.blanks v.parted ≤ length row.last - n
    → IsLine (record row { pieces = row.pieces ++ record { join = w.join; cells = take n row.last } ∷ []; last = drop n row.last }) limit pieces wide (Some v) gap title
is_line_closed {row} {pieces = pieces} {w = w} v n h within some parted_is wide_is join needed =
    let p : Piece = record { join = w.join; cells = take n row.last } in
    let iw = the_word h in
    let closed = is_word_closed v n iw within some parted_is wide_is join needed in
    let low = h.pieces_within in
    let same = take-append-le pieces row.pieces (p ∷ []) low in
    let afterwards = drop-append-le pieces row.pieces (p ∷ []) low in
    let cells = sum_by_push (λ (q : Piece). length q.cells) row.pieces p in
    let long = length-take-le n row.last within in
    record {
      room = h.room;
      is_small = h.is_small;
      within = omega (arith, h.within, length-drop n row.last);
      pieces_within = omega (arith, length-append row.pieces (p ∷ []));
      wide_is = ap pieces_width same ∙ h.wide_is;
      gaps_within = All-push (λ (q : Piece). join_width q.join ≤ 1365) row.pieces p h.gaps_within iw.join_within;
      gap_within = h.gap_within;
      word_is = only_word v (rw afterwards closed);
      no_word = λ none. is_some_word v none;
      title_is = h.title_is;
      no_title = h.no_title;
    }

-- joins are not wide
pub join_before-within : (ps : List Piece) (j : Join) → All (λ (p : Piece). join_width p.join ≤ 1365) ps → join_width j ≤ 1365 → join_width (join_before ps j) ≤ 1365
join_before-within [] j all h = h
join_before-within (p ∷ ps) j all h = all 0 p (omega arith)

-- pieces of the word after the first n of the row have no end
pub is_line_opened_after : {row : Laid} {limit pieces wide : ℕ} {word : Option WordState} {gap : ℕ} {title : Option TitleState} (v : WordState) (n : ℕ) → IsLine row limit pieces wide word gap title
    → pieces ≤ n → n ≤ length row.pieces
    → IsWord v (drop pieces (take n row.pieces)) (flat_map (λ (p : Piece). p.cells) (drop n row.pieces) ++ row.last)
    → IsLine (record row { pieces = take n row.pieces; last = flat_map (λ (p : Piece). p.cells) (drop n row.pieces) ++ row.last }) limit pieces wide (Some v) gap title
is_line_opened_after {row} {pieces = pieces} v n h low high hw =
    let cells = sum_by-take-drop (λ (p : Piece). length p.cells) row.pieces n in
    let others = flat_map (λ (p : Piece). p.cells) (drop n row.pieces) in
    let same = take-take pieces n row.pieces low in
    record {
      room = h.room;
      is_small = h.is_small;
      within = omega (arith, h.within, length-append others row.last, length-flat_map (drop n row.pieces));
      pieces_within = omega (arith, length-take-le n row.pieces high);
      wide_is = ap pieces_width same ∙ h.wide_is;
      gaps_within = All-take (λ (p : Piece). join_width p.join ≤ 1365) n row.pieces h.gaps_within;
      gap_within = h.gap_within;
      word_is = only_word v hw;
      no_word = λ none. is_some_word v none;
      title_is = h.title_is;
      no_title = h.no_title;
    }

-- the word's pieces are the line's
pub is_line_ended : {row : Laid} {limit pieces wide : ℕ} {w : WordState} {gap : ℕ} {title : Option TitleState} (more all_wide : ℕ) → IsLine row limit pieces wide (Some w) gap title
    → pieces + more ≡ length row.pieces + 1 → all_wide ≡ wide + (w.wide + join_width w.join + length row.last)
    → pieces + more + read_cells row + length row.title ≤ limit
    → IsLine (record row { pieces = row.pieces ++ record { join = w.join; cells = take (length row.last) row.last } ∷ []; last = drop (length row.last) row.last })
    limit (pieces + more) all_wide None gap title
is_line_ended {row} {pieces = pieces} {w = w} more all_wide h more_is wide_is within =
    let p : Piece = record { join = w.join; cells = take (length row.last) row.last } in
    let iw = the_word h in
    let longer = length-append row.pieces (p ∷ []) in
    let long = length-take-le (length row.last) row.last (omega arith) in
    let cells = sum_by_push (λ (q : Piece). length q.cells) row.pieces p in
    let wide = sum_by_push piece_width row.pieces p in
    let parts = sum_by-take-drop piece_width row.pieces pieces in
    let first = h.wide_is in
    let other = iw.wide_is in
    let all = take_all (pieces + more) (row.pieces ++ p ∷ []) (omega arith) in
    let total : pieces_width (row.pieces ++ p ∷ []) ≡ all_wide = omega arith in
    record {
      room = h.room;
      is_small = h.is_small;
      within = omega (arith, length-drop (length row.last) row.last);
      pieces_within = omega arith;
      wide_is = ap pieces_width all ∙ total;
      gaps_within = All-push (λ (q : Piece). join_width q.join ≤ 1365) row.pieces p h.gaps_within iw.join_within;
      gap_within = h.gap_within;
      word_is = λ v e. absurd (let f : ◌≡◌ {A = Option WordState} None (Some v) = e in cc);
      no_word = λ none. (omega arith, omega (arith, length-drop (length row.last) row.last));
      title_is = h.title_is;
      no_title = h.no_title;
    }

-- a word opens with these cells
pub is_line_begun : {row : Laid} {limit pieces wide : ℕ} {gap : ℕ} {title : Option TitleState} (w : WordState) (cells : List Cell) → IsLine row limit pieces wide None gap title
    → w ≡ record { join = Gap gap; pending = Nothing; blanks = 0; parted = 0; wide = 0 } → pieces + (cells_in row.pieces + length cells) + length row.title ≤ limit
    → IsLine (record row { last = cells }) limit pieces wide (Some w) 0 title
is_line_begun w cells h is within =
    let opened = is_line_opened w h is in
    let iw = the_word opened in
    is_line_last cells w opened (record {
      parted_is = iw.parted_is;
      wide_is = iw.wide_is;
      pieces_have_cells = iw.pieces_have_cells;
      join_within = iw.join_within;
      needed = rw is (omega arith);
    }) within

-- a word of one piece is read at once
pub is_line_worded : {row : Laid} {limit pieces wide : ℕ} {gap : ℕ} {title : Option TitleState} (cells : List Cell) (n : ℕ) → IsLine row limit pieces wide None gap title
    → length cells ≡ n → pieces + read_cells row + length row.title + n < limit
    → IsLine (record row { pieces = row.pieces ++ record { join = Gap gap; cells = cells } ∷ []; last = [] }) limit (pieces + 1) (wide + (gap + n)) None 1 title
is_line_worded {row} {limit} {pieces} {wide} {gap} {title} cells n h many within =
    let p : Piece = record { join = Gap gap; cells = cells } in
    let none = h.no_word refl in
    let longer = length-append row.pieces (p ∷ []) in
    let counted = sum_by_push (λ (q : Piece). length q.cells) row.pieces p in
    let widths = sum_by_push piece_width row.pieces p in
    let old = ap pieces_width (take_all pieces row.pieces (omega arith)) in
    let first = h.wide_is in
    let all = take_all (pieces + 1) (row.pieces ++ p ∷ []) (omega arith) in
    let total : pieces_width (row.pieces ++ p ∷ []) ≡ wide + (gap + n) = omega arith in
    record {
      room = h.room;
      is_small = h.is_small;
      within = omega arith;
      pieces_within = omega arith;
      wide_is = ap pieces_width all ∙ total;
      gaps_within = All-push (λ (q : Piece). join_width q.join ≤ 1365) row.pieces p h.gaps_within h.gap_within;
      gap_within = omega arith;
      word_is = λ v e. absurd (let f : ◌≡◌ {A = Option WordState} None (Some v) = e in cc);
      no_word = λ same. (omega arith, refl);
      title_is = h.title_is;
      no_title = h.no_title;
    }

-- the first pieces are gone
pub is_line_removed : {row : Laid} {limit pieces wide : ℕ} {word : Option WordState} {gap : ℕ} {title : Option TitleState} (n taken_wide : ℕ) → IsLine row limit pieces wide word gap title
    → n ≤ pieces → taken_wide ≡ pieces_width (take n row.pieces)
    → IsLine (record row { pieces = drop n row.pieces }) limit (pieces - n) (wide - taken_wide) word gap title
is_line_removed {row} {pieces = pieces} {word = word} n taken_wide h within wide_is =
    let cells = sum_by-take-drop (λ (p : Piece). length p.cells) row.pieces n in
    let fewer = length-drop n row.pieces in
    let low = h.pieces_within in
    let rest : n + (pieces - n) ≡ pieces = omega arith in
    let afterwards : drop (pieces - n) (drop n row.pieces) ≡ drop pieces row.pieces = drop-drop (pieces - n) n row.pieces ∙ ap (λ k. drop k row.pieces) rest in
    let prefix : take (pieces - n) (drop n row.pieces) ≡ drop n (take pieces row.pieces) = sym (drop-take n (pieces - n) row.pieces) ∙ ap (λ k. drop n (take k row.pieces)) rest in
    let part : take n (take pieces row.pieces) ≡ take n row.pieces = take-take n pieces row.pieces within in
    let widths = sum_by-take-drop piece_width (take pieces row.pieces) n in
    let first = ap pieces_width part in
    let all = h.wide_is in
    record {
      room = h.room;
      is_small = h.is_small;
      within = omega (arith, h.within);
      pieces_within = omega arith;
      wide_is = ap pieces_width prefix ∙ (let e : pieces_width (drop n (take pieces row.pieces)) ≡ _ - taken_wide = omega arith in e);
      gaps_within = All-drop (λ (p : Piece). join_width p.join ≤ 1365) n row.pieces h.gaps_within;
      gap_within = h.gap_within;
      word_is = λ w e. rw afterwards (h.word_is w e);
      no_word = λ none. let old = h.no_word none in (omega arith, old.1);
      title_is = h.title_is;
      no_title = h.no_title;
    }

-- ---- titles

-- with another state of the title
pub is_line_titled : {row : Laid} {limit pieces wide : ℕ} {word : Option WordState} {gap : ℕ} {title : Option TitleState} (t : TitleState) → IsLine row limit pieces wide word gap title
    → parted_title t ≤ length row.title → IsLine row limit pieces wide word gap (Some t)
is_line_titled {row} {word = word} {gap = gap} t h within =
    is_line_after row.last row.title word gap (Some t) h h.within h.gap_within h.word_is h.no_word
    (λ u e. let same : t ≡ u = (cc) in subst (λ (x : TitleState). parted_title x ≤ length row.title) same within) (λ none. absurd (let f : false ≡ true = none in cc))

-- one cell more of a title
pub is_line_title_cell : {row : Laid} {limit pieces wide : ℕ} {word : Option WordState} {gap : ℕ} {title : Option TitleState} (x : Cell) → IsLine row limit pieces wide word gap title
    → is_none title ≡ false → pieces + read_cells row + length row.title < limit → IsLine (record row { title = row.title ++ x ∷ [] }) limit pieces wide word gap title
is_line_title_cell {row} {word = word} {gap = gap} {title = title} x h some below =
    let longer = length-append row.title (x ∷ []) in
    is_line_after row.last (row.title ++ x ∷ []) word gap title h (omega arith) h.gap_within h.word_is h.no_word
    (λ t e. let old = h.title_is t e in omega arith) (λ none. absurd (let f : true ≡ false = sym none ∙ some in cc))

-- what has no value is None
pub none_from_is_some : (word : Option WordState) → is_some word ≡ false → word ≡ None
none_from_is_some None h = refl
none_from_is_some (Some w) h = (cc)

none_from_title_of : (title : Option TitleState) (cells : List Cell) → title_of title cells ≡ None → is_none title ≡ true
none_from_title_of None cells h = refl
none_from_title_of (Some states.Left) cells h = (cc)
none_from_title_of (Some (states.Centre left)) cells h = (cc)
none_from_title_of (Some (states.Right left centre)) cells h = (cc)

-- where no word and no title is collected there is no state of one
pub none_from_word_of : (word : Option WordState) (ps : List Piece) (cells : List Cell) → word_of word ps cells ≡ None → word ≡ None
none_from_word_of None ps cells h = refl
none_from_word_of (Some w) ps cells h = (cc)

pub no_title_of : (title : Option TitleState) (cells : List Cell) → title_of title cells ≡ None → title ≡ None
no_title_of None cells h = refl
no_title_of (Some states.Left) cells h = (cc)
no_title_of (Some (states.Centre left)) cells h = (cc)
no_title_of (Some (states.Right left centre)) cells h = (cc)

-- without a title there are no cells of one
pub no_title_cells : {row : Laid} {limit pieces wide : ℕ} {word : Option WordState} {gap : ℕ} {title : Option TitleState} → IsLine row limit pieces wide word gap title
    → title_of title row.title ≡ None → length row.title ≡ 0
no_title_cells {row} {title = title} h none = h.no_title (none_from_title_of title row.title none)

pub parted-next_state : (t : TitleState) (n : ℕ) → parted_title t ≤ n → parted_title (next_state n t) ≤ n
parted-next_state states.Left n h = omega arith
parted-next_state (states.Centre left) n h = omega arith
parted-next_state (states.Right left centre) n h = h

-- the title with one cell more
pub title_of_push : (title : Option TitleState) (cells : List Cell) (x : Cell) → ((t : TitleState) → title ≡ Some t → parted_title t ≤ length cells)
    → title_of title (cells ++ x ∷ []) ≡ option_map (with_cell x) (title_of title cells)
title_of_push None cells x h = refl
title_of_push (Some states.Left) cells x h = refl
title_of_push (Some (states.Centre left)) cells x h =
    let within : left ≤ length cells = h (states.Centre left) refl in
    rw (take-append-le left cells (x ∷ []) within, drop-append-le left cells (x ∷ []) within) refl
title_of_push (Some (states.Right left centre)) cells x h =
    let within : left + centre ≤ length cells = h (states.Right left centre) refl in
    let low : left ≤ length cells = omega arith in
    let rest : centre ≤ length (drop left cells) = omega (arith, length-drop left cells) in
    rw (take-append-le left cells (x ∷ []) low, drop-append-le left cells (x ∷ []) low, take-append-le centre (drop left cells) (x ∷ []) rest, drop-append-le centre (drop left cells) (x ∷ []) rest) refl

-- a line keeps within its limit
pub line_cells-le : {row : Laid} {limit pieces wide : ℕ} {word : Option WordState} {gap : ℕ} {title : Option TitleState} (barred sentence : Bool) (margins : Margins) (turn : Turn)
    → IsLine row limit pieces wide word gap title → line_cells (collected_of row pieces word gap barred sentence margins turn title) ≤ limit
line_cells-le barred sentence margins turn h = let all = line_cells-collected_of barred sentence margins turn h in omega (arith, h.within)

-- the word's pieces after the line's
pub ended_pieces : (pieces more : ℕ) (ps : List Piece) (p : Piece) → pieces ≤ length ps → pieces + more ≡ length ps + 1
    → take (pieces + more) (ps ++ p ∷ []) ≡ take pieces ps ++ (drop pieces ps ++ p ∷ [])
ended_pieces pieces more ps p low is =
    take_all (pieces + more) (ps ++ p ∷ []) (omega (arith, length-append ps (p ∷ []))) ∙ ap (λ qs. qs ++ p ∷ []) (sym (take-append-drop pieces ps)) ∙ append_assoc (take pieces ps) (drop pieces ps) (p ∷ [])

-- the first piece's join
pub first_is : (ps : List Piece) (j : Join) (d : Piece) → 0 < length ps → ((p : Piece) (qs : List Piece) → ps ≡ p ∷ qs → j ≡ p.join) → j ≡ (get_or ps 0 d).join
first_is [] j d h is = absurd (omega arith)
first_is (p ∷ ps) j d h is = is p ps refl

-- nothing is left where all of the pieces go
pub is_nil_left : (n pieces : ℕ) (ps : List Piece) → n ≤ pieces → pieces ≤ length ps → is_nil (drop n (take pieces ps)) ≡ eqb (pieces - n) 0
is_nil_left n pieces ps h low =
    let long = length-drop n (take pieces ps) in
    let all = length-take-le pieces ps low in
    is_nil-length (drop n (take pieces ps)) ∙ ap (λ k. eqb k 0) (let e : length (drop n (take pieces ps)) ≡ pieces - n = omega arith in e)
  where
    is_nil-length : (qs : List Piece) → is_nil qs ≡ eqb (length qs) 0
    is_nil-length [] = refl
    is_nil-length (q ∷ qs) = sym (ne_eqb (suc (length qs)) 0 (omega arith))

-- a word is being read where there is a state of one
pub is_none_word : (word : Option WordState) (ps : List Piece) (cells : List Cell) → is_none (word_of word ps cells) ≡ is_none word
is_none_word None ps cells = refl
is_none_word (Some w) ps cells = refl

-- the pieces after the first ones
pub pieces_after : (n pieces : ℕ) (ps : List Piece) → n ≤ pieces
    → (take (pieces - n) (drop n ps) ≡ drop n (take pieces ps)) × (drop (pieces - n) (drop n ps) ≡ drop pieces ps)
pieces_after n pieces ps h =
    let rest : n + (pieces - n) ≡ pieces = omega arith in
    (sym (drop-take n (pieces - n) ps) ∙ ap (λ k. drop n (take k ps)) rest, drop-drop (pieces - n) n ps ∙ ap (λ k. drop k ps) rest)

-- the pieces of the line and of its word, or of one that is still to begin
pub column_pieces : {row : Laid} {limit pieces wide : ℕ} {word : Option WordState} {gap : ℕ} {title : Option TitleState} (barred sentence : Bool) (margins : Margins) (turn : Turn)
    → IsLine row limit pieces wide word gap title
    → take pieces row.pieces ++ word_pieces (Some (word_or_new gap (word_of word (drop pieces row.pieces) row.last)))
    ≡ row.pieces ++ (word_or_new gap (word_of word (drop pieces row.pieces) row.last)).last ∷ []
column_pieces {row} {pieces = pieces} {word = None} {gap} barred sentence margins turn h =
    let all = h.no_word refl in
    ap (λ ps. ps ++ (new_word gap).last ∷ []) (take_all pieces row.pieces (omega arith))
column_pieces {row} {pieces = pieces} {word = Some w} {gap} barred sentence margins turn h =
    let last : Piece = record { join = w.join; cells = row.last } in
    sym (append_assoc (take pieces row.pieces) (drop pieces row.pieces) (last ∷ [])) ∙ ap (λ ps. ps ++ last ∷ []) (take-append-drop pieces row.pieces)

-- the parts of a title are no longer than it
pub parts_within : (t : Option Title) → (length (title_or_empty t).left ≤ title_cells t) × (length (title_or_empty t).centre ≤ title_cells t) × (length (title_or_empty t).right ≤ title_cells t)
parts_within None = (omega arith, omega arith, omega arith)
parts_within (Some t) = (omega arith, omega arith, omega arith)

-- what is wide has pieces
pub has_pieces : {row : Laid} {limit pieces wide n : ℕ} {word : Option WordState} {gap : ℕ} {title : Option TitleState} → IsLine row limit pieces wide word gap title → n < wide → 0 < pieces
has_pieces {row} {pieces = pieces} h some = elim (cases_lt 0 pieces) [
  | inl more ↦ more
  | inr none ↦
      let is : pieces ≡ 0 = omega arith in
      let width : pieces_width (take pieces row.pieces) ≡ 0 = ap (λ k. pieces_width (take k row.pieces)) is in
      absurd (omega (arith, h.wide_is))
]

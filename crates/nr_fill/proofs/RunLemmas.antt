-- A run of bytes, read byte by byte and at once.
use Rattle.std.proofs.Common.{◌≡◌, ℕ, suc, ◌+◌, ◌-◌, ◌<◌, ◌≤◌, List, [], ◌∷◌, ◌++◌, length, map, take, drop, get_or, Option, None, Some, Bool, true, false, ◌&&◌, if◌then◌else◌, refl, ap, sym, ◌∙◌, append_assoc, arith}
use Rattle.std.proofs.lemmas.List.{get_or-take, length-map, length-take, length-take-le, nil_from_length, take-take, take_all, drop_all}
use Rattle.nr_vectors.specs.declared.cell.Cell.{Cell}
use Rattle.nr_vectors.specs.declared.cell.Look.{Look}
use Rattle.nr_settings.specs.declared.indents.Margins.{Margins}
use Rattle.nr_fill.specs.declared.piece.CutAfter.TheVariants.{Letter}
use Rattle.nr_fill.specs.declared.stops.Pending.{Pending}
use Rattle.nr_fill.specs.declared.stops.Pending.TheVariants.{Nothing, AtPoint, ForStop}
use Rattle.nr_fill.specs.Piece.{Collected, Word, add_cell, add_cell_after, append, begins_line, end_word, ended, ended_at, ends_sentence, in_word, is_nil, one_blank_more, pending_after, pending_without_point, with_word, word_length, word_or_new}
use Rattle.nr_fill.specs.Plain.{run_cell}
use Rattle.nr_fill.specs.Runs.{add_run, add_word, run_after}
use Rattle.nr_fill.specs.declared.piece.Join.TheVariants.{Gap}
use Rattle.nr_fill.specs.declared.line.WordState.{WordState}
use Rattle.nr_fill.specs.declared.title.TitleState.{TitleState}
use Rattle.nr_fill.specs.Laid.{Laid, read_cells}
use Rattle.nr_fill.specs.PieceRow.{IsLine}
use Rattle.nr_fill.proofs.Lines.{is_line_begun, is_line_worded}

-- whether a sentence ends after a run, where one ended before it or not
run_sentence : Bool → Look → List ℕ → Bool
run_sentence before look [] = before
run_sentence before look (b ∷ bs) = run_sentence (ends_sentence (run_cell look b)) look bs

run_sentence-last : (before : Bool) (look : Look) (b : ℕ) (bs : List ℕ) → run_sentence before look (b ∷ bs) ≡ ends_sentence (run_cell look (get_or (b ∷ bs) (length (b ∷ bs) - 1) 0))
unfolding run_sentence
run_sentence-last before look b [] = refl
run_sentence-last before look b (x ∷ bs) =
    let at : length (b ∷ x ∷ bs) - 1 ≡ suc (length (x ∷ bs) - 1) = omega arith in
    run_sentence-last (ends_sentence (run_cell look b)) look x bs ∙ ap (λ k. ends_sentence (run_cell look (get_or (b ∷ x ∷ bs) k 0))) (sym at)

-- ---- what waits after a letter

after_letter : (n : ℕ) (p : Pending) → pending_after Letter n p ≡ pending_without_point p
after_letter n Nothing = refl
after_letter n (AtPoint point) = refl
after_letter n (ForStop f) = refl

-- no break point waits
abbrev pub HasNoPoint : Pending → Type 0
HasNoPoint p = pending_without_point p ≡ p

no_point_without : (p : Pending) → HasNoPoint (pending_without_point p)
no_point_without Nothing = refl
no_point_without (AtPoint point) = refl
no_point_without (ForStop f) = refl

pub ended_at-none : (p : Pending) (w : Word) → HasNoPoint p → ended_at p w ≡ w
ended_at-none Nothing w h = refl
ended_at-none (AtPoint point) w h = absurd (let e : Nothing ≡ AtPoint point = h in cc)
ended_at-none (ForStop f) w h = refl

-- ---- a word that a run goes to

-- what is collected with this word, and no title
abbrev pub at_word : Collected → Word → Bool → Collected
at_word c w sentence = record c { word = Some w; title = None; sentence = sentence }

and_false : (b : Bool) → (b && false) ≡ false
and_false true = refl
and_false false = refl

pub with_word-at_word : (m : Margins) (c : Collected) (w : Word) (sentence : Bool) → with_word m (at_word c w sentence) ≡ at_word c w sentence
with_word-at_word m c w sentence = rw (and_false (is_nil c.pieces)) refl

-- a letter more
add_cell-at_word : (m : Margins) (look : Look) (b : ℕ) (c : Collected) (w : Word) (sentence : Bool) → HasNoPoint w.pending
    → add_cell m Letter (run_cell look b) (at_word c w sentence) ≡ at_word c (run_after look (b ∷ []) w) (ends_sentence (run_cell look b))
add_cell-at_word m look b c w sentence none =
    let x : Cell = run_cell look b in
    ap (λ (k : Collected). record (in_word (add_cell_after Letter x) (in_word ended k)) { sentence = ends_sentence x }) (with_word-at_word m c w sentence)
    ∙ ap (λ (v : Word). at_word c (add_cell_after Letter x v) (ends_sentence x)) (ended_at-none w.pending w none)
    ∙ ap (λ (p : Pending). at_word c (record (append (x ∷ []) w) { pending = p }) (ends_sentence x)) (after_letter (word_length (append (x ∷ []) w)) w.pending)

-- one run after another
run_after-cons : (look : Look) (b : ℕ) (bs : List ℕ) (w : Word) → run_after look bs (run_after look (b ∷ []) w) ≡ run_after look (b ∷ bs) w
run_after-cons look b bs w =
    let xs = map (run_cell look) bs in
    ap (λ (cells : List Cell). record w { last = record w.last { cells = cells }; blanks = 0; pending = pending_without_point (pending_without_point w.pending) })
    (append_assoc w.last.cells (run_cell look b ∷ []) xs)
    ∙ ap (λ (p : Pending). record w { last = record w.last { cells = w.last.cells ++ run_cell look b ∷ xs }; blanks = 0; pending = p }) (no_point_without w.pending)

add_run-at_word : (m : Margins) (look : Look) (b : ℕ) (bs : List ℕ) (c : Collected) (w : Word) (sentence : Bool) → HasNoPoint w.pending
    → add_run m look (b ∷ bs) (at_word c w sentence) ≡ at_word c (run_after look (b ∷ bs) w) (run_sentence sentence look (b ∷ bs))
unfolding run_sentence
add_run-at_word m look b [] c w sentence none = add_cell-at_word m look b c w sentence none
add_run-at_word m look b (x ∷ bs) c w sentence none =
    ap (add_run m look (x ∷ bs)) (add_cell-at_word m look b c w sentence none)
    ∙ add_run-at_word m look x bs c (run_after look (b ∷ []) w) (ends_sentence (run_cell look b)) (no_point_without w.pending)
    ∙ ap (λ (v : Word). at_word c v (run_sentence sentence look (b ∷ x ∷ bs))) (run_after-cons look b (x ∷ bs) w)

-- ---- a run at once

-- the first letter takes the word from where it stands
add_cell-ended : (m : Margins) (look : Look) (b : ℕ) (c : Collected)
    → add_cell m Letter (run_cell look b) c
    ≡ at_word (with_word m c) (run_after look (b ∷ []) (ended (word_or_new c.gap c.word))) (ends_sentence (run_cell look b))
add_cell-ended m look b c =
    let x : Cell = run_cell look b in
    let w = ended (word_or_new c.gap c.word) in
    ap (λ (p : Pending). at_word (with_word m c) (record (append (x ∷ []) w) { pending = p }) (ends_sentence x)) (after_letter (word_length (append (x ∷ []) w)) w.pending)

add_run-at_once : (m : Margins) (look : Look) (b : ℕ) (bs : List ℕ) (c : Collected)
    → add_run m look (b ∷ bs) c
    ≡ record (in_word (run_after look (b ∷ bs)) (in_word ended (with_word m c))) { sentence = ends_sentence (run_cell look (get_or (b ∷ bs) (length (b ∷ bs) - 1) 0)) }
unfolding run_sentence
add_run-at_once m look b [] c = add_cell-ended m look b c
add_run-at_once m look b (x ∷ bs) c =
    let w = ended (word_or_new c.gap c.word) in
    ap (add_run m look (x ∷ bs)) (add_cell-ended m look b c)
    ∙ add_run-at_word m look x bs (with_word m c) (run_after look (b ∷ []) w) (ends_sentence (run_cell look b)) (no_point_without w.pending)
    ∙ ap (λ (v : Word). at_word (with_word m c) v (run_sentence c.sentence look (b ∷ x ∷ bs))) (run_after-cons look b (x ∷ bs) w)
    ∙ ap (λ s. at_word (with_word m c) (run_after look (b ∷ x ∷ bs) w) s) (run_sentence-last c.sentence look b (x ∷ bs))

pub add_run-run : (m : Margins) (look : Look) (bs : List ℕ) (c : Collected) → 0 < length bs
    → add_run m look bs c
    ≡ record (in_word (run_after look bs) (in_word ended (with_word m c))) { sentence = ends_sentence (run_cell look (get_or bs (length bs - 1) 0)) }
add_run-run m look [] c some = absurd (omega arith)
add_run-run m look (b ∷ bs) c some = add_run-at_once m look b bs c

-- a run that begins a word
pub add_run-none : (m : Margins) (look : Look) (bs : List ℕ) (c : Collected) → c.word ≡ None → 0 < length bs
    → add_run m look bs c
    ≡ record c {
      word = Some (record { parts = []; last = record { join = Gap c.gap; cells = map (run_cell look) bs }; pending = Nothing; blanks = 0 });
      gap = 0;
      sentence = ends_sentence (run_cell look (get_or bs (length bs - 1) 0));
      margins = if begins_line c then m else c.margins;
      title = None;
    }
add_run-none m look bs c none some = add_run-run m look bs c some ∙ rw none refl

-- a word at once, and the blank after it
pub add_word-none : (m : Margins) (look : Look) (bs : List ℕ) (c : Collected) → c.word ≡ None → 0 < length bs
    → add_word m look bs c
    ≡ record c {
      pieces = c.pieces ++ record { join = Gap c.gap; cells = map (run_cell look) bs } ∷ [];
      word = None;
      gap = 1;
      barred = false;
      sentence = ends_sentence (run_cell look (get_or bs (length bs - 1) 0));
      margins = if begins_line c then m else c.margins;
      title = None;
    }
add_word-none m look bs c none some = ap (λ (k : Collected). one_blank_more (end_word k)) (add_run-none m look bs c none some)

-- ---- a run of the bytes that there is room for

module _ (count most : ℕ) (bytes : List ℕ) (prefix : count ≤ length (take most bytes)) where
  -- it begins all bytes
  pub taken_prefix : take count (take most bytes) ≡ take count bytes
  taken_prefix = take-take count most bytes (omega (arith, prefix, length-take most bytes))

  pub length_prefix : length (take count bytes) ≡ count
  length_prefix = length-take-le count bytes (omega (arith, prefix, length-take most bytes))

  -- its last byte
  pub last_prefix : 0 < count → get_or (take most bytes) (count - 1) 0 ≡ get_or (take count bytes) (length (take count bytes) - 1) 0
  last_prefix some =
      let within : count - 1 < most = omega (arith, some, prefix, length-take most bytes) in
      let below : count - 1 < count = omega (arith, some) in
      get_or-take most bytes (count - 1) 0 within ∙ sym (get_or-take count bytes (count - 1) 0 below) ∙ ap (λ k. get_or (take count bytes) (k - 1) 0) (sym length_prefix)

  -- what it makes of a line in which neither a word nor a title is read
  module _ {row : Laid} {limit pieces wide : ℕ} {word : Option WordState} {gap : ℕ} {title : Option TitleState} (look : Look) (h : IsLine row limit pieces wide word gap title)
      (no_word : word ≡ None) (no_title : title ≡ None) (room : pieces + read_cells row + most ≤ limit) where
    untitled : IsLine row limit pieces wide None gap None
    untitled = rw (no_word, no_title) at h

    nothing_read : row.last ≡ []
    nothing_read = nil_from_length row.last (untitled.no_word refl).1

    length_run : length (map (run_cell look) (take count (take most bytes))) ≡ count
    length_run = length-map (take count (take most bytes)) (run_cell look) ∙ length-take-le count (take most bytes) prefix

    -- a word that goes on
    pub run_begun : (w : WordState) → w ≡ record { join = Gap gap; pending = Nothing; blanks = 0; parted = 0; wide = 0 }
        → IsLine (record row { last = row.last ++ map (run_cell look) (take count (take most bytes)) }) limit pieces wide (Some w) 0 title
    run_begun w is =
        let titled = untitled.no_title refl in
        let read = untitled.no_word refl in
        rw (nothing_read, no_title) (is_line_begun w (map (run_cell look) (take count (take most bytes))) untitled is (omega (arith, titled, read, length_run, room, prefix, length-take most bytes)))

    -- a word that a blank ends
    pub run_worded : count < most → IsLine (record row {
      pieces = row.pieces ++ record { join = Gap gap; cells = take count (row.last ++ map (run_cell look) (take count (take most bytes))) } ∷ [];
      last = drop count (row.last ++ map (run_cell look) (take count (take most bytes)));
    }) limit (pieces + 1) (wide + (gap + count)) word 1 title
    run_worded below =
        let run = map (run_cell look) (take count (take most bytes)) in
        let titled = untitled.no_title refl in
        let whole : take count run ≡ run = take_all count run (omega (arith, length_run)) in
        let nothing : drop count run ≡ [] = drop_all count run (omega (arith, length_run)) in
        rw (nothing_read, whole, nothing, no_word, no_title) (is_line_worded run count untitled length_run (omega (arith, titled, room, below)))

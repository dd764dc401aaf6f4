-- Texts that are set in lines have parts that stay as they are, and no run of these is longer than the longest word that is known of them.
use Rattle.std.proofs.Common.{◌≡◌, ℕ, ◌+◌, ◌-◌, ◌<◌, ◌≤◌, min, max, true, false, nat_lt, List, [], ◌∷◌, ◌++◌, length, get_or, take, drop, slice_range, refl, sym, ap, subst, arith, ◌∙◌, length-append, length-set, inl, inr}
use Rattle.std.specs.Prelude.{◌⊎◌}
use Rattle.std.proofs.Math.ListN.{get_or-append}
use Rattle.std.proofs.Math.Seq.{drop-append_seam, get_or-append_seam}
use Rattle.std.proofs.lemmas.List.{drop-append-le, get_or_past, length-drop, take-append-le, take_all}
use Rattle.tbl_blocks.specs.declared.blocks.Blocks.{Blocks}
use Rattle.tbl_blocks.specs.declared.parts.Line.{Line}
use Rattle.tbl_blocks.specs.declared.parts.Part.{Part}
use Rattle.tbl_blocks.specs.declared.parts.Seen.{Seen}
use Rattle.tbl_blocks.specs.Blocks.{longest_run, longest_word, some_parts}
use Rattle.tbl_blocks.specs.Filling.{longest}
use Rattle.tbl_blocks.specs.Laws.{HasNoIndents, spread_width}
use Rattle.tbl_blocks.proofs.Longest.{longest_fits, words_no_shorter}
use Rattle.tbl_blocks.proofs.PartsAdded.{blocks_are_added, fields_are_added}
use Rattle.tbl_columns.specs.declared.grid.Block.{Block}
use Rattle.tbl_columns.specs.declared.grid.Cell.{Cell}
use Rattle.tbl_columns.specs.declared.grid.Grid.{Grid}
use Rattle.tbl_columns.specs.Held.{no_block, text}
use Rattle.tbl_columns.specs.Laws.{lines_in}
use Rattle.tbl_columns.specs.Texts.{block_read_in, end_of, filled_text, font_of, parts, read_block, read_words, text_added, text_from, text_lines, widest_line, with_blocks, with_lines, words_read_in}
use Rattle.tbl_columns.proofs.Turns.{set_has}
use Rattle.tbl_drawing.proofs.Below.{below_or, by_cases, two}
use Rattle.tbl_table.specs.Held.{text_of}
use Rattle.tbl_table.specs.Sums.{sum}

-- ---- a text among the parts

abbrev pub IsText : Block → Blocks → Type 0
IsText b s =
    (b.first ≤ b.«end») × ((b.«end» ≤ length s.parts.items) × (longest false (some_parts b.first b.«end» s) ≤ b.word))

abbrev pub TextsStand : Grid → Type 0
TextsStand t = (n : ℕ) → n < length t.texts.items → IsText (text t n) t.blocks

same_parts : (xs ys : List Part) (first end : ℕ) → first ≤ end → end ≤ length xs → slice_range (xs ++ ys) first end ≡ slice_range xs first end
same_parts xs ys first end order within =
    let short : length (drop first xs) ≡ length xs - first = length-drop first xs in
    ap (λ (ps : List Part). take (end - first) ps) (drop-append-le first xs ys (omega (arith, order, within)))
    ∙ take-append-le (end - first) (drop first xs) ys (omega (arith, short, order, within))

-- with parts added, it is the same
stays_text : (b : Block) (s t : Blocks) (new : List Part) → t.parts.items ≡ s.parts.items ++ new → IsText b s → IsText b t
stays_text b s t new e (order, (within, fits)) =
    let long : length t.parts.items ≡ length s.parts.items + length new = ap length e ∙ length-append s.parts.items new in
    let same : some_parts b.first b.«end» t ≡ some_parts b.first b.«end» s =
    ap (λ (ps : List Part). slice_range ps b.first b.«end») e ∙ same_parts s.parts.items new b.first b.«end» order within in
    let run : longest false (some_parts b.first b.«end» t) ≤ b.word = omega (arith, ap (longest false) same, fits) in
    (order, (omega (arith, within, long), run))

added_parts : (xs new : List Part) → slice_range (xs ++ new) (length xs) (length (xs ++ new)) ≡ new
added_parts xs new =
    let long : length (xs ++ new) ≡ length xs + length new = length-append xs new in
    ap (take (length (xs ++ new) - length xs)) (drop-append_seam xs new) ∙ take_all (length (xs ++ new) - length xs) new (omega (arith, long))

-- a text is added with its parts
module _ (n first word : ℕ) (seen : Seen) (t : Grid) (b : Blocks) (new : List Part) (are : b.parts.items ≡ t.blocks.parts.items ++ new)
    (is : IsText (text_from first word seen (with_blocks b t)) b) (stand : TextsStand t) where
  old_stands : (i : ℕ) → i < length t.texts.items → IsText (text t i) b
  old_stands i less = stays_text (text t i) t.blocks b new are (stand i less)

  text_stands : TextsStand (text_added n first word seen (with_blocks b t))
  text_stands = by_cases (λ (bs : List Block). (i : ℕ) → i < length bs → IsText (get_or bs i no_block) b) (nat_lt (length t.texts.items) t.texts.capacity)
      (t.texts.items ++ text_from first word seen (with_blocks b t) ∷ []) t.texts.items
      (λ e i less. here i (two i (length t.texts.items) (omega (arith, less, length-append t.texts.items (text_from first word seen (with_blocks b t) ∷ [])))))
      (λ e. old_stands)
    where
      here : (i : ℕ) → (i < length t.texts.items) ⊎ (i ≡ length t.texts.items)
          → IsText (get_or (t.texts.items ++ text_from first word seen (with_blocks b t) ∷ []) i no_block) b
      here i (inl less) =
          subst (λ (x : Block). IsText x b) (sym (get_or-append t.texts.items (text_from first word seen (with_blocks b t) ∷ []) no_block i less)) (old_stands i less)
      here i (inr last) =
          subst (λ (x : Block). IsText x b)
          (sym (ap (λ (k : ℕ). get_or (t.texts.items ++ text_from first word seen (with_blocks b t) ∷ []) k no_block) last
          ∙ get_or-append_seam t.texts.items (text_from first word seen (with_blocks b t)) [] no_block)) is

-- the parts that are new, by the numbers that are held of them
new_parts : (s b : Blocks) (new : List Part) → b.parts.items ≡ s.parts.items ++ new
    → some_parts (length s.parts.items) (length b.parts.items) b ≡ new
new_parts s b new are =
    ap (λ (ps : List Part). slice_range ps (length s.parts.items) (length ps)) are ∙ added_parts s.parts.items new

first_held : (s b : Blocks) (new : List Part) → b.parts.items ≡ s.parts.items ++ new → length s.parts.items ≤ length b.parts.items
first_held s b new are =
    let long : length b.parts.items ≡ length s.parts.items + length new = ap length are ∙ length-append s.parts.items new in
    omega (arith, long)

least_of : (low high : ℕ) → low ≤ high → min low high ≡ low
least_of low high h = omega (arith, h)

pub block_stands : (n : ℕ) (f : Cell) (t : Grid) → TextsStand t → TextsStand (read_block n f t)
block_stands n f t stand =
    with_new (blocks_are_added (text_of t.table f.field.span) f.field.span.start (font_of f) t.spreads t.blocks)
  where
    with_new : (new : List Part) × ((block_read_in n f t).parts.items ≡ t.blocks.parts.items ++ new) → TextsStand (read_block n f t)
    with_new (new, are) =
        let b : Blocks = block_read_in n f t in
        let within : parts t ≤ length b.parts.items = first_held t.blocks b new are in
        let low : min (parts t) (length b.parts.items) ≡ parts t = least_of (parts t) (length b.parts.items) within in
        let run : longest false (some_parts (parts t) (length b.parts.items) b) ≤ longest_run (min (parts t) (length b.parts.items)) (length b.parts.items) b =
        omega (arith, ap (λ (k : ℕ). longest false (some_parts k (length b.parts.items) b)) low) in
        text_stands n (parts t) (longest_run (min (parts t) (length b.parts.items)) (length b.parts.items) b) b.reading.seen t b new are
        (within, (omega arith, run)) stand

pub words_stand : (n : ℕ) (f : Cell) (t : Grid) → TextsStand t → TextsStand (read_words n f t)
words_stand n f t stand = with_new (fields_are_added (text_of t.table f.field.span) f.field.span.start (font_of f) t.blocks)
  where
    with_new : (new : List Part) × (((words_read_in f t).parts.items ≡ t.blocks.parts.items ++ new) × HasNoIndents new) → TextsStand (read_words n f t)
    with_new (new, (are, plain)) =
        let b : Blocks = words_read_in f t in
        let within : parts t ≤ length b.parts.items = first_held t.blocks b new are in
        let low : min (parts t) (length b.parts.items) ≡ parts t = least_of (parts t) (length b.parts.items) within in
        let own : some_parts (parts t) (length b.parts.items) b ≡ new = new_parts t.blocks b new are in
        let longer : longest false new ≤ longest true new = words_no_shorter new plain in
        let run : longest false (some_parts (parts t) (length b.parts.items) b) ≤ longest_word (min (parts t) (length b.parts.items)) (length b.parts.items) b =
        omega (arith, ap (longest false) own, ap (longest true) own, longer, ap (λ (k : ℕ). longest true (some_parts k (length b.parts.items) b)) low) in
        text_stands n (parts t) (longest_word (min (parts t) (length b.parts.items)) (length b.parts.items) b) b.reading.seen t b new are
        (within, (omega arith, run)) stand

-- its lines are counted
pub filled_stands : (n place width : ℕ) (t : Grid) → TextsStand t → TextsStand (filled_text n place width t)
filled_stands n place width t stand i less =
    let x : Block = with_lines (length t.blocks.lines.items) (text t place) (text_lines (text t place) width t) in
    let inside : i < length t.texts.items = omega (arith, less, length-set t.texts.items place x) in
    set_has (λ (b : Block). IsText b t.blocks) t.texts.items place x no_block i (stand i inside)
    (λ e. stand place (subst (λ (k : ℕ). k < length t.texts.items) e inside))

-- ---- its lines are no wider than what it is filled in, where that is no less than its longest word

all_stand : (t : Grid) (n : ℕ) → TextsStand t → IsText (text t n) t.blocks
all_stand t n stand = by_place (below_or n (length t.texts.items))
  where
    by_place : (n < length t.texts.items) ⊎ (length t.texts.items ≤ n) → IsText (text t n) t.blocks
    by_place (inl less) = stand n less
    by_place (inr past) =
        subst (λ (b : Block). IsText b t.blocks) (sym (get_or_past t.texts.items n no_block past)) (omega arith, (omega arith, omega arith))

widths_are : (ls : List Line) → widest_line ls ≡ spread_width ls
widths_are [] = refl
widths_are (l ∷ ls) = ap (λ (w : ℕ). max (sum l.cells l.lack) w) (widths_are ls)

pub text_fits : (t : Grid) (n width : ℕ) → TextsStand t → (text t n).word ≤ width → widest_line (lines_in width (text t n) t) ≤ width
text_fits t n width stand wide = fits (all_stand t n stand)
  where
    fits : IsText (text t n) t.blocks → widest_line (lines_in width (text t n) t) ≤ width
    fits (order, (within, run)) =
        let b : Block = text t n in
        let last : end_of b t ≡ b.«end» = least_of b.«end» (parts t) within in
        let first : min b.first (end_of b t) ≡ b.first = ap (λ (k : ℕ). min b.first k) last ∙ least_of b.first b.«end» order in
        let same : some_parts (min b.first (end_of b t)) (end_of b t) t.blocks ≡ some_parts b.first b.«end» t.blocks =
        ap (λ (k : ℕ). some_parts k (end_of b t) t.blocks) first ∙ ap (λ (k : ℕ). some_parts b.first k t.blocks) last in
        let few : longest false (some_parts (min b.first (end_of b t)) (end_of b t) t.blocks) ≤ width = omega (arith, ap (longest false) same, run, wide) in
        let filled : spread_width (lines_in width b t) ≤ width =
        longest_fits (record { width = width; spread = b.spread }) (min b.first (end_of b t)) (some_parts (min b.first (end_of b t)) (end_of b t) t.blocks) few in
        omega (arith, widths_are (lines_in width b t), filled)

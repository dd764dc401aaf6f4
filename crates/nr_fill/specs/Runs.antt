-- Runs of bytes that stand for themselves, and of blanks.
use Prim.Native.Char.{code}
use Rattle.std.specs.Prelude.{◌≡◌, ℕ, zero, suc, ◌+◌, ◌<◌, Bool, true, List, [], ◌∷◌, ◌++◌, length, map, replicate, slice_index, None}
use Rattle.nr_vectors.specs.Cell.{blank}
use Rattle.nr_vectors.specs.declared.cell.Look.{Look}
use Rattle.nr_settings.specs.declared.indents.Margins.{Margins}
use Rattle.nr_fill.specs.declared.piece.CutAfter.TheVariants.{Letter}
use Rattle.nr_fill.specs.Piece.{Collected, Word, add_blank, add_cell, append, end_word, one_blank_more, pending_without_point}
use Rattle.nr_fill.specs.Plain.{run_cell}

-- the bytes one after another, each a cell after which no line may be cut
abbrev pub add_run : Margins → Look → List ℕ → Collected → Collected
add_run margins look [] c = c
add_run margins look (b ∷ bs) c = add_run margins look bs (add_cell margins Letter (run_cell look b) c)

-- the cells of a run after those of a word: no break point waits after them
abbrev pub run_after : Look → List ℕ → Word → Word
run_after look bs w =
    record (append (map (run_cell look) bs) w) { pending = pending_without_point w.pending }

-- the bytes as a word, and the blank after it
abbrev pub add_word : Margins → Look → List ℕ → Collected → Collected
add_word margins look bs c = one_blank_more (end_word (add_run margins look bs c))

-- a word of so many of these bytes ends at a blank after it, where blanks end words and it begins there
pub record EndsWord (ends : Bool) (n : ℕ) (bs : List ℕ) (c : Collected) : Type 0 where
  pub some : 0 < n
  pub within : n < length bs
  pub blank : slice_index bs n ≡ code " "
  pub ends_is : ends ≡ true
  pub word : c.word ≡ None

-- so many blanks one after another, each a cell of the word
abbrev pub add_blanks : Margins → ℕ → Collected → Collected
add_blanks margins zero c = c
add_blanks margins (suc n) c = add_blanks margins n (add_blank margins c)

-- so many blanks after the cells of a word
abbrev pub blanks_after : ℕ → Word → Word
blanks_after n w =
    record w { last = record w.last { cells = w.last.cells ++ replicate n blank }; blanks = w.blanks + n }

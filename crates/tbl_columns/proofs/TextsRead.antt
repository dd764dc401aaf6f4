-- The words of a field, as they are read.
use Rattle.std.proofs.Common.{◌≡◌, ℕ, min, length, ap, ◌∙◌}
use Rattle.tbl_blocks.specs.declared.blocks.Blocks.{Blocks}
use Rattle.tbl_blocks.specs.declared.parts.Seen.{Seen}
use Rattle.tbl_blocks.specs.Blocks.{longest_run, longest_word}
use Rattle.tbl_columns.specs.declared.grid.Cell.{Cell}
use Rattle.tbl_columns.specs.declared.grid.Grid.{Grid}
use Rattle.tbl_columns.specs.Texts.{block_read_in, parts, read_block, read_words, text_added, with_blocks, words_read_in}

module _ (longest : ℕ → ℕ → Blocks → ℕ) (n : ℕ) (g u : Grid) (b made : Blocks) (first end word : ℕ) (seen : Seen) where
  added_is : b ≡ made → first ≡ parts g → end ≡ length b.parts.items → word ≡ longest (min first end) end b → seen ≡ b.reading.seen
      → u ≡ text_added n first word seen (with_blocks b g)
      → u ≡ text_added n (parts g) (longest (min (parts g) (length made.parts.items)) (length made.parts.items) made) made.reading.seen (with_blocks made g)
  added_is read first_is end_is word_is seen_is is =
      is
      ∙ ap (λ (k : ℕ). text_added n k word seen (with_blocks b g)) first_is
      ∙ ap (λ (w : ℕ). text_added n (parts g) w seen (with_blocks b g))
      (word_is ∙ ap (λ (k : ℕ). longest (min k end) end b) first_is ∙ ap (λ (k : ℕ). longest (min (parts g) k) k b) end_is)
      ∙ ap (λ (s : Seen). text_added n (parts g) (longest (min (parts g) (length b.parts.items)) (length b.parts.items) b) s (with_blocks b g)) seen_is
      ∙ ap (λ (x : Blocks). text_added n (parts g) (longest (min (parts g) (length x.parts.items)) (length x.parts.items) x) x.reading.seen (with_blocks x g)) read

pub block_is : (n : ℕ) (f : Cell) (g u : Grid) (b : Blocks) (first end word : ℕ) (seen : Seen) → b ≡ block_read_in n f g → first ≡ parts g
    → end ≡ length b.parts.items → word ≡ longest_run (min first end) end b → seen ≡ b.reading.seen
    → u ≡ text_added n first word seen (with_blocks b g) → u ≡ read_block n f g
block_is n f g u b first end word seen = added_is longest_run n g u b (block_read_in n f g) first end word seen

pub words_are : (n : ℕ) (f : Cell) (g u : Grid) (b : Blocks) (first end word : ℕ) (seen : Seen) → b ≡ words_read_in f g → first ≡ parts g
    → end ≡ length b.parts.items → word ≡ longest_word (min first end) end b → seen ≡ b.reading.seen
    → u ≡ text_added n first word seen (with_blocks b g) → u ≡ read_words n f g
words_are n f g u b first end word seen = added_is longest_word n g u b (words_read_in f g) first end word seen

-- Lemmas on hyphenation words.
use Rattle.std.proofs.Common.{◌*◌, ◌≤◌, List, [], ◌∷◌, length, map, sum_by, arith}
use Rattle.std.proofs.lemmas.List.Sums.{sum_by-cons}
use Rattle.nr_symbol_tables.specs.Word.{word_weight}
use Rattle.nr_symbol_tables.specs.Given.{word_in}
use Rattle.nr_symbol_tables.specs.declared.word.HyphenationWord.{HyphenationWord}

-- each word is charged 16 at least
pub words_length : (ws : List HyphenationWord) → 16 * length ws ≤ sum_by word_weight (map word_in ws)
words_length [] = omega arith
words_length (w ∷ ws) =
    let rest = words_length ws in
    let all = sum_by-cons word_weight (word_in w) (map word_in ws) in
    omega arith

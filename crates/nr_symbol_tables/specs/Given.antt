-- How a hyphenation word lies in its bytes.
use Rattle.std.specs.Prelude.{◌≡◌, ℕ, ◌+◌, List, ◌++◌, length, take, drop}
use Rattle.nr_symbol_tables.specs.Word.{Word}
use Rattle.nr_symbol_tables.specs.declared.word.HyphenationWord.{HyphenationWord}

-- the bytes that count
abbrev pub filled : HyphenationWord → List ℕ
filled w = take w.len w.bytes

-- its letters stand before the places where it may be cut
abbrev pub word_in : HyphenationWord → Word
word_in w = record { letters = take w.letters (filled w); points = drop w.letters (filled w) }

-- with bytes more
pub record IsLonger (old new : HyphenationWord) (more : List ℕ) : Type 0 where
  pub filled : filled new ≡ filled old ++ more
  pub letters : new.letters ≡ old.letters
  pub len : new.len ≡ old.len + length more

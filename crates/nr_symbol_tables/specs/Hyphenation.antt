-- How hyphenation words are found by their letters: those of a kind in a chain, the latest first.
use Rattle.std.specs.Prelude.{◌≡◌, ℕ, ◌+◌, ◌-◌, ◌*◌, ◌%◌, ◌<◌, ◌≤◌, true, false, List, [], length, map, slice_index_or}
use Rattle.std.specs.List.{fold}
use Rattle.nr_symbol_tables.specs.Word.{Word, is_given}
use Rattle.nr_symbol_tables.specs.Given.{word_in}
use Rattle.nr_symbol_tables.specs.declared.hyphenation.Linked.{Linked}

-- the kind of a word with these letters, of 256
abbrev pub kind : List ℕ → ℕ
kind letters = fold (λ k b. (k * 31 + b) % 256) 0 letters

-- the words, their kinds, and what each is linked to
abbrev pub words_in : List Linked → List Word
words_in ls = map (λ (l : Linked). word_in l.word) ls

abbrev pub kinds : List Linked → List ℕ
kinds ls = map (λ (l : Linked). kind (word_in l.word).letters) ls

abbrev pub earliers : List Linked → List ℕ
earliers ls = map (λ (l : Linked). l.earlier) ls

abbrev pub no_word : Word
no_word = record { letters = []; points = [] }

abbrev pub word_at : List Word → ℕ → Word
word_at ws k = slice_index_or ws k no_word

abbrev pub number_at : List ℕ → ℕ → ℕ
number_at ns k = slice_index_or ns k 0

-- Each kind has the place of its latest word, and each word that of the latest of its kind before it: counted from 1, and 0 where there
-- is none.
pub record IsChained (kinds earlier latest : List ℕ) : Type 0 where
  pub reaches : (k : ℕ) → k < length kinds → k < number_at latest (number_at kinds k)
  pub latest_in : (c : ℕ) → number_at latest c ≤ length kinds
  pub latest_of : (c : ℕ) → 0 < number_at latest c → number_at kinds (number_at latest c - 1) ≡ c
  pub passes : (k j : ℕ) → k < length kinds → j < k → number_at kinds j ≡ number_at kinds k
      → j < number_at earlier k
  pub earlier_in : (k : ℕ) → k < length kinds → number_at earlier k ≤ k
  pub earlier_of : (k : ℕ) → k < length kinds → 0 < number_at earlier k
      → number_at kinds (number_at earlier k - 1) ≡ number_at kinds k

-- the latest word with these letters, counted from 1, or 0
pub record IsLatest (letters : List ℕ) (ws : List Word) (at : ℕ) : Type 0 where
  pub within : at ≤ length ws
  pub is : 0 < at → (word_at ws (at - 1)).letters ≡ letters
  pub last : (k : ℕ) → at ≤ k → k < length ws → (word_at ws k).letters ≡ letters → ⊥

-- the latest word that these bytes are, counted from 1, or 0
pub record IsLatestGiven (bytes : List ℕ) (ws : List Word) (at : ℕ) : Type 0 where
  pub within : at ≤ length ws
  pub is : 0 < at → is_given bytes (word_at ws (at - 1)) ≡ true
  pub last : (k : ℕ) → at ≤ k → k < length ws → is_given bytes (word_at ws k) ≡ false

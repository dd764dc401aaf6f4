-- A name that begins so.
use Rattle.std.proofs.Common.{◌≡◌, ◌≢◌, ℕ, List, ◌++◌, length, drop, Bool, true, false, ◌==◌, if◌then◌else◌, refl, sym, ap, codes}
use Rattle.std.specs.List.{starts_with}
use Rattle.std.specs.Cmp.{unsigned_Decides}
use Rattle.std.proofs.lemmas.Slice.Eq.{starts_is}
use Rattle.filters_own.specs.Names.{file_of}

abbrev begins : List ℕ → Bool
begins word = starts_with (λ a b. a == b) word (codes "own:")

with_own : (b : Bool) (word file : List ℕ) → b ≡ true → word ≡ codes "own:" ++ file → file ≡ (if b then drop 4 word else word)
with_own true word file is word_is = sym (ap (drop 4) word_is)
with_own false word file is word_is = absurd (let no : false ≡ true = is in cc)

without_own : (b : Bool) (word : List ℕ) → (b ≡ true → ⊥) → word ≡ (if b then drop 4 word else word)
without_own false word apart = refl
without_own true word apart = absurd (apart refl)

pub file-named : (word file : List ℕ) → word ≡ codes "own:" ++ file → file ≡ file_of word
file-named word file is =
    let said = starts_is unsigned_Decides word (codes "own:") (begins word) refl in
    with_own (begins word) word file (said.1 file is) is

pub file-unnamed : (word : List ℕ) → ((file : List ℕ) → word ≢ codes "own:" ++ file) → word ≡ file_of word
file-unnamed word none =
    let said = starts_is unsigned_Decides word (codes "own:") (begins word) refl in
    without_own (begins word) word (λ is. none (drop 4 word) (said.0 is))

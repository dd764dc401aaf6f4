-- The words of a line, as they are stored one after another.
use Rattle.std.specs.Prelude.{nat_lt, ◌==◌, length}
use Rattle.std.proofs.lemmas.Bool.{le-ltb, lt-ltb, ltb-true, ltb-false, cond-true, cond-false}
use Rattle.std.proofs.lemmas.List.Sums.{sum_by-cons}
use Rattle.std.proofs.Common.{◌≡◌, ◌∷◌, ℕ, zero, suc, ◌+◌, ◌-◌, ◌<◌, ◌≤◌, List, Bool, true, false, if◌then◌else◌, Result, Ok, Err, refl, ap, sym, ◌∙◌, arith}
use Rattle.nr_symbol_tables.specs.Word.{word_weight, word_of}
use Rattle.nr_store.specs.declared.refusal.StoredBytes.{StoredBytes}
use Rattle.nr_store.specs.Store.{Stored, afforded, charge_of, worded}
use Rattle.nr_settings.specs.Arguments.{word_in, after_word}
use Rattle.nr_formatter.specs.Names.{with_words}

-- one word more
pub words-more : {K : Type 0} (n i : ℕ) (line : List ℕ) (v : Stored K) → i < n → length (word_in line) == 0 ≡ false
    → with_words (n - i) line v ≡ with_words (n - (i + 1)) (after_word line) (worded (word_in line) v)
words-more {K} n i line v less some =
    let one : n - i ≡ suc (n - (i + 1)) = omega arith in
    ap (λ k. with_words k line v) one ∙ cond-false (length (word_in line) == 0) v (with_words (n - (i + 1)) (after_word line) (worded (word_in line) v)) some

-- no word more
words-none_by : {K : Type 0} (n : ℕ) (line : List ℕ) (v : Stored K) → length (word_in line) == 0 ≡ true → with_words n line v ≡ v
words-none_by zero line v none = refl
words-none_by (suc n) line v none = cond-true (length (word_in line) == 0) v (with_words n (after_word line) (worded (word_in line) v)) none

pub words-none : {K : Type 0} (n i : ℕ) (line : List ℕ) (v : Stored K) → length (word_in line) == 0 ≡ true → with_words (n - i) line v ≡ v
words-none n i line v none = words-none_by (n - i) line v none

-- ---- what they are charged

charged-if : {K : Type 0} (b : Bool) (u v w : Stored K) → charge_of u ≤ charge_of v → charge_of u ≤ charge_of w → charge_of u ≤ charge_of (if b then v else w)
charged-if true u v w first second = first
charged-if false u v w first second = second

limit-if : {K : Type 0} (b : Bool) (u v w : Stored K) → v.limit ≡ u.limit → w.limit ≡ u.limit → (if b then v else w).limit ≡ u.limit
limit-if true u v w first second = first
limit-if false u v w first second = second

pub charge-worded : {K : Type 0} (word : List ℕ) (v : Stored K) → charge_of v ≤ charge_of (worded word v)
charge-worded word v =
    charged-if (nat_lt 64 (length word)) v v (record v { words = word_of word ∷ v.words }) (omega arith) (omega (arith, sum_by-cons word_weight (word_of word) v.words))

pub limit-worded : {K : Type 0} (word : List ℕ) (v : Stored K) → (worded word v).limit ≡ v.limit
limit-worded word v = limit-if (nat_lt 64 (length word)) v v (record v { words = word_of word ∷ v.words }) refl refl

charge-words : {K : Type 0} (n : ℕ) (line : List ℕ) (v : Stored K) → charge_of v ≤ charge_of (with_words n line v)
charge-words zero line v = omega arith
charge-words (suc n) line v =
    let w = worded (word_in line) v in
    charged-if (length (word_in line) == 0) v v (with_words n (after_word line) w) (omega arith)
    (let one = charge-worded (word_in line) v in let more = charge-words n (after_word line) w in omega (arith, one, more))

limit-words : {K : Type 0} (n : ℕ) (line : List ℕ) (v : Stored K) → (with_words n line v).limit ≡ v.limit
limit-words zero line v = refl
limit-words (suc n) line v =
    let w = worded (word_in line) v in
    limit-if (length (word_in line) == 0) v v (with_words n (after_word line) w) refl (limit-words n (after_word line) w ∙ limit-worded (word_in line) v)

-- ---- what refuses one word refuses all

above : (stored : Bool) (e : StoredBytes) → Err e ≡ (if stored then Err (record {}) else Ok (tt {0})) → stored ≡ true
above true e is = refl
above false e is = cc

within : (stored : Bool) → ◌≡◌ {A = Result (Unit {0}) StoredBytes} (Ok tt) (if stored then Err (record {}) else Ok tt) → stored ≡ false
within false is = refl
within true is = cc

pub refused-more : {K : Type 0} (v w : Stored K) (e : StoredBytes) → Err e ≡ afforded v (tt {0}) → charge_of v ≤ charge_of w → w.limit ≡ v.limit → Err e ≡ afforded w (tt {0})
refused-more v w e is more same =
    let less : v.limit < charge_of v = ltb-true v.limit (charge_of v) (above (nat_lt v.limit (charge_of v)) e is) in
    let over : nat_lt w.limit (charge_of w) ≡ true = lt-ltb w.limit (charge_of w) (omega arith) in
    rw over refl

pub made-within : {K : Type 0} (v : Stored K) → Ok (tt {0}) ≡ afforded v (tt {0}) → charge_of v ≤ v.limit
made-within v is = ltb-false v.limit (charge_of v) (within (nat_lt v.limit (charge_of v)) is)

pub within-made : {K : Type 0} (v : Stored K) → charge_of v ≤ v.limit → Ok (tt {0}) ≡ afforded v (tt {0})
within-made v fits = rw (le-ltb v.limit (charge_of v) fits) refl

-- the words after a word that is refused
pub words-refused : {K : Type 0} (n i : ℕ) (line word : List ℕ) (v w : Stored K) (e : StoredBytes) → i < n → length word == 0 ≡ false → word ≡ word_in line
    → with_words (n - i) line v ≡ w → Err e ≡ afforded (worded word v) (tt {0}) → Err e ≡ afforded w (tt {0})
words-refused {K} n i line word v w e less some first all is =
    let u = worded (word_in line) v in
    let none : length (word_in line) == 0 ≡ false = rw (← first) some in
    let one : with_words (n - (i + 1)) (after_word line) u ≡ w = sym (words-more n i line v less none) ∙ all in
    let alone : Err e ≡ afforded u (tt {0}) = is ∙ ap (λ (x : List ℕ). afforded (worded x v) (tt {0})) first in
    let refused : Err e ≡ afforded (with_words (n - (i + 1)) (after_word line) u) (tt {0}) =
    refused-more u (with_words (n - (i + 1)) (after_word line) u) e alone (charge-words (n - (i + 1)) (after_word line) u) (limit-words (n - (i + 1)) (after_word line) u) in
    refused ∙ ap (λ (x : Stored K). afforded x (tt {0})) one

-- and after one that is stored
pub words-kept : {K : Type 0} (n i : ℕ) (line rest word : List ℕ) (v u w : Stored K) → i < n → length word == 0 ≡ false → word ≡ word_in line → rest ≡ after_word line
    → u ≡ worded word v → with_words (n - i) line v ≡ w → with_words (n - (i + 1)) rest u ≡ w
words-kept {K} n i line rest word v u w less some first left new all =
    let none : length (word_in line) == 0 ≡ false = rw (← first) some in
    let one : u ≡ worded (word_in line) v = new ∙ ap (λ (x : List ℕ). worded x v) first in
    ap (λ (x : Stored K). with_words (n - (i + 1)) rest x) one ∙ ap (λ (x : List ℕ). with_words (n - (i + 1)) x (worded (word_in line) v)) left
    ∙ sym (words-more n i line v less none) ∙ all

pub kept-within : {K : Type 0} (u v : Stored K) → u ≡ v → Ok (tt {0}) ≡ afforded v (tt {0}) → charge_of u ≤ u.limit
kept-within u v same is = rw same (made-within v is)

-- Lemmas on hyphenation words.
use Prim.Native.Char.{code}
use Rattle.std.proofs.Common.{◌≡◌, ℕ, ◌+◌, ◌-◌, ◌<◌, ◌≤◌, true, false, List, [], ◌∷◌, ◌++◌, length, map, take, drop, get_or, reverse, refl, ap, sym, ◌∙◌, inl, inr, eqb, arith, append_assoc, length-append}
use Rattle.std.specs.Prelude.{Bool, cond}
use Rattle.std.specs.List.{prefix_len, suffix_len}
use Rattle.std.proofs.lemmas.Bool.{cases_Bool, cond-true, cond-false}
use Rattle.std.proofs.lemmas.List.{append-nil, length-map, length-take, map-append, reverse-append, take_more, take-append-drop, take-map}
use Rattle.nr_vectors.specs.declared.cell.Cell.{Cell}
use Rattle.nr_symbol_tables.specs.Word.{bytes_of, closes, letters_of, points_from, stem}
use Rattle.nr_symbol_tables.specs.Given.{IsLonger}
use Rattle.nr_symbol_tables.specs.declared.word.HyphenationWord.{HyphenationWord}

-- ---- the letters and the places of a prefix

letters_at_minus : (b : ℕ) (bs : List ℕ) → eqb b (code "-") ≡ true → letters_of (b ∷ bs) ≡ letters_of bs
letters_at_minus b bs minus = cond-true (eqb b (code "-")) _ _ minus

letters_at_other : (b : ℕ) (bs : List ℕ) → eqb b (code "-") ≡ false → letters_of (b ∷ bs) ≡ b ∷ letters_of bs
letters_at_other b bs other = cond-false (eqb b (code "-")) _ _ other

points_at_minus : (place b : ℕ) (bs : List ℕ) → eqb b (code "-") ≡ true → points_from place (b ∷ bs) ≡ place ∷ points_from place bs
points_at_minus place b bs minus = cond-true (eqb b (code "-")) _ _ minus

points_at_other : (place b : ℕ) (bs : List ℕ) → eqb b (code "-") ≡ false → points_from place (b ∷ bs) ≡ points_from (place + 1) bs
points_at_other place b bs other = cond-false (eqb b (code "-")) _ _ other

pub letters_of-append : (xs ys : List ℕ) → letters_of (xs ++ ys) ≡ letters_of xs ++ letters_of ys
letters_of-append [] ys = refl
letters_of-append (x ∷ xs) ys = elim (cases_Bool (eqb x (code "-"))) [
  | inl minus ↦ letters_at_minus x (xs ++ ys) minus ∙ letters_of-append xs ys ∙ ap (λ l. l ++ letters_of ys) (sym (letters_at_minus x xs minus))
  | inr other ↦ letters_at_other x (xs ++ ys) other ∙ ap (λ l. x ∷ l) (letters_of-append xs ys) ∙ ap (λ l. l ++ letters_of ys) (sym (letters_at_other x xs other))
]

pub points_from-append : (place : ℕ) (xs ys : List ℕ) → points_from place (xs ++ ys) ≡ points_from place xs ++ points_from (place + length (letters_of xs)) ys
points_from-append place [] ys = ap (λ n. points_from n ys) (let e : place ≡ place + 0 = omega arith in e)
points_from-append place (x ∷ xs) ys = elim (cases_Bool (eqb x (code "-"))) [
  | inl minus ↦
      let same : place + length (letters_of xs) ≡ place + length (letters_of (x ∷ xs)) = ap (λ l. place + length l) (sym (letters_at_minus x xs minus)) in
      points_at_minus place x (xs ++ ys) minus ∙ ap (λ l. place ∷ l) (points_from-append place xs ys) ∙ ap (λ l. l ++ points_from (place + length (letters_of xs)) ys) (sym (points_at_minus place x xs minus))
      ∙ ap (λ n. points_from place (x ∷ xs) ++ points_from n ys) same
  | inr other ↦
      let long : length (letters_of (x ∷ xs)) ≡ 1 + length (letters_of xs) = ap length (letters_at_other x xs other) ∙ omega arith in
      let same : (place + 1) + length (letters_of xs) ≡ place + length (letters_of (x ∷ xs)) = omega arith in
      points_at_other place x (xs ++ ys) other ∙ points_from-append (place + 1) xs ys ∙ ap (λ l. l ++ points_from ((place + 1) + length (letters_of xs)) ys) (sym (points_at_other place x xs other))
      ∙ ap (λ n. points_from place (x ∷ xs) ++ points_from n ys) same
]

-- each byte is a letter, or a minus sign
pub length-parts : (place : ℕ) (xs : List ℕ) → length (letters_of xs) + length (points_from place xs) ≡ length xs
length-parts place [] = refl
length-parts place (x ∷ xs) = elim (cases_Bool (eqb x (code "-"))) [
  | inl minus ↦
      let rest = length-parts place xs in
      let letters : length (letters_of (x ∷ xs)) ≡ length (letters_of xs) = ap length (letters_at_minus x xs minus) in
      let points : length (points_from place (x ∷ xs)) ≡ 1 + length (points_from place xs) = ap length (points_at_minus place x xs minus) ∙ omega arith in
      omega arith
  | inr other ↦
      let rest = length-parts (place + 1) xs in
      let letters : length (letters_of (x ∷ xs)) ≡ 1 + length (letters_of xs) = ap length (letters_at_other x xs other) ∙ omega arith in
      let points : length (points_from place (x ∷ xs)) ≡ length (points_from (place + 1) xs) = ap length (points_at_other place x xs other) in
      omega arith
]

-- ---- one byte more

module _ (xs : List ℕ) (i d : ℕ) (below : i < length xs) where
  abbrev x : ℕ
  x = get_or xs i d

  pub letters_minus : eqb x (code "-") ≡ true → letters_of (take (i + 1) xs) ≡ letters_of (take i xs) ++ []
  letters_minus minus = ap letters_of (take_more xs i d below) ∙ letters_of-append (take i xs) (x ∷ []) ∙ ap (λ l. letters_of (take i xs) ++ l) (letters_at_minus x [] minus)

  pub letters_other : eqb x (code "-") ≡ false → letters_of (take (i + 1) xs) ≡ letters_of (take i xs) ++ x ∷ []
  letters_other other = ap letters_of (take_more xs i d below) ∙ letters_of-append (take i xs) (x ∷ []) ∙ ap (λ l. letters_of (take i xs) ++ l) (letters_at_other x [] other)

  points_one : points_from 0 (take (i + 1) xs) ≡ points_from 0 (take i xs) ++ points_from (length (letters_of (take i xs))) (x ∷ [])
  points_one =
      ap (points_from 0) (take_more xs i d below) ∙ points_from-append 0 (take i xs) (x ∷ [])
      ∙ ap (λ n. points_from 0 (take i xs) ++ points_from n (x ∷ [])) (let e : 0 + length (letters_of (take i xs)) ≡ length (letters_of (take i xs)) = omega arith in e)

  pub points_minus : eqb x (code "-") ≡ true → points_from 0 (take (i + 1) xs) ≡ points_from 0 (take i xs) ++ length (letters_of (take i xs)) ∷ []
  points_minus minus = points_one ∙ ap (λ l. points_from 0 (take i xs) ++ l) (points_at_minus (length (letters_of (take i xs))) x [] minus)

  pub points_other : eqb x (code "-") ≡ false → points_from 0 (take (i + 1) xs) ≡ points_from 0 (take i xs) ++ []
  points_other other = points_one ∙ ap (λ l. points_from 0 (take i xs) ++ l) (points_at_other (length (letters_of (take i xs))) x [] other)

  -- a place of a prefix is one of all
  pub points_fit : eqb x (code "-") ≡ true → length (points_from 0 (take i xs)) + 1 ≤ length (points_from 0 xs)
  points_fit minus =
      let ys = take (i + 1) xs in
      let zs = drop (i + 1) xs in
      let more : length (points_from 0 ys) ≡ length (points_from 0 (take i xs)) + 1 = ap length (points_minus minus) ∙ length-append (points_from 0 (take i xs)) (length (letters_of (take i xs)) ∷ []) in
      let whole : length (points_from 0 xs) ≡ length (points_from 0 ys) + length (points_from (0 + length (letters_of ys)) zs) = ap (λ l. length (points_from 0 l)) (sym (take-append-drop (i + 1) xs)) ∙ ap length (points_from-append 0 ys zs) ∙ length-append (points_from 0 ys) (points_from (0 + length (letters_of ys)) zs) in
      omega arith

-- the letters of a prefix are no more than its bytes
pub letters_few : (xs : List ℕ) (i : ℕ) → length (letters_of (take i xs)) ≤ i
letters_few xs i = let all = length-parts 0 (take i xs) in let long = length-take i xs in omega arith

-- ---- a word with bytes more

pub longer_more : (old cur new : HyphenationWord) (xs ys zs : List ℕ) → IsLonger old cur xs → IsLonger cur new ys → zs ≡ xs ++ ys → IsLonger old new zs
longer_more old cur new xs ys zs first second is =
    let long : length zs ≡ length xs + length ys = ap length is ∙ length-append xs ys in
    let first_len = first.len in
    let second_len = second.len in
    record {
      filled = second.filled ∙ ap (λ l. l ++ ys) first.filled ∙ append_assoc (take old.len old.bytes) xs ys ∙ ap (λ l. take old.len old.bytes ++ l) (sym is);
      letters = second.letters ∙ first.letters;
      len = omega arith;
    }

pub longer_along : (old new : HyphenationWord) (xs zs : List ℕ) → IsLonger old new xs → zs ≡ xs ++ [] → IsLonger old new zs
longer_along old new xs zs longer is =
    let same : zs ≡ xs = is ∙ append-nil xs in
    record {
      filled = longer.filled ∙ ap (λ l. take old.len old.bytes ++ l) (sym same);
      letters = longer.letters;
      len = longer.len ∙ ap (λ l. old.len + length l) (sym same);
    }

-- ---- the bytes of cells

prefix_len-map : {A B : Type 0} (f : A → B) (p : B → Bool) (xs : List A) → prefix_len p (map f xs) ≡ prefix_len (λ x. p (f x)) xs
prefix_len-map f p [] = refl
prefix_len-map f p (x ∷ xs) = ap (λ n. cond (p (f x)) (1 + n) 0) (prefix_len-map f p xs)

pub reverse-map : {A B : Type 0} (f : A → B) (xs : List A) → reverse (map f xs) ≡ map f (reverse xs)
reverse-map f [] = refl
reverse-map f (x ∷ xs) =
    reverse-append (f x ∷ []) (map f xs) ∙ ap (λ l. l ++ f x ∷ []) (reverse-map f xs) ∙ sym (map-append f (reverse xs) (x ∷ []))
    ∙ ap (map f) (sym (reverse-append (x ∷ []) xs))

pub suffix_len-map : {A B : Type 0} (f : A → B) (p : B → Bool) (xs : List A) → suffix_len p (map f xs) ≡ suffix_len (λ x. p (f x)) xs
suffix_len-map f p xs = ap (prefix_len p) (reverse-map f xs) ∙ prefix_len-map f p (reverse xs)

pub stem-bytes_of : (cells : List Cell) → stem (bytes_of cells) ≡ bytes_of (take (length cells - suffix_len (λ (x : Cell). closes x.byte) cells) cells)
stem-bytes_of cells =
    let byte : Cell → ℕ = λ x. x.byte in
    ap (λ n. take (n - suffix_len closes (bytes_of cells)) (bytes_of cells)) (length-map cells byte)
    ∙ ap (λ n. take (length cells - n) (bytes_of cells)) (suffix_len-map byte closes cells)
    ∙ take-map byte (length cells - suffix_len (λ (x : Cell). closes x.byte) cells) cells

-- Lemmas on hyphenation words in their chains.
use Prim.Native.Char.{code}
use Rattle.std.proofs.Common.{◌≡◌, ◌≢◌, ℕ, zero, suc, ◌+◌, ◌-◌, ◌<◌, ◌≤◌, List, [], ◌∷◌, ◌++◌, length, get_or, replicate, refl, ap, sym, subst, ◌∙◌, inl, inr, eqb, arith, length-append}
use Rattle.std.proofs.Math.ListN.{set}
use Rattle.std.specs.Prelude.{Bool, true, false, not, ◌&&◌, ◌||◌, max, Option, None, Some, map, find, unwrap_or, reverse}
use Rattle.std.specs.Option.{option_map}
use Rattle.std.specs.Str.{bytes_eq}
use Rattle.std.proofs.lemmas.Slice.Eq.{bytes_eq-Decides}
use Rattle.std.proofs.lemmas.Bool.{cases_Bool, cases_lt, cond-true, cond-false, ne_eqb}
use Rattle.std.proofs.lemmas.Grind.{get_or-set_at}
use Rattle.std.proofs.lemmas.List.{get_or-set_other, get_or_append_left, get_or-append_right, length-map, append_cancel_right, reverse-append}
use Rattle.nr_symbol_tables.specs.Given.{word_in}
use Rattle.nr_symbol_tables.specs.Hyphenation.{kind, kinds, earliers, words_in, word_at, number_at, IsChained, IsLatest, IsLatestGiven}
use Rattle.nr_symbol_tables.specs.Word.{Word, is_given, points_of, stem}
use Rattle.nr_symbol_tables.specs.declared.word.HyphenationWord.{HyphenationWord}
use Rattle.nr_symbol_tables.proofs.Words.{reverse-map}
use Rattle.nr_symbol_tables.specs.declared.hyphenation.Linked.{Linked}

-- ---- what stands at a place

pub set_at_case : (P : ℕ → Type 0) (ls : List ℕ) (c v d : ℕ) → c < length ls → (d ≡ c → P v) → (d ≢ c → P (number_at ls d)) → P (number_at (set ls c v) d)
set_at_case P ls c v d low same other = elim (cases_lt d c) [
  | inl below ↦ (let apart : d ≢ c = λ e. omega arith in subst P (sym (get_or-set_other ls c d v 0 apart)) (other apart))
  | inr above ↦ elim (cases_lt c d) [
    | inl beyond ↦ (let apart : d ≢ c = λ e. omega arith in subst P (sym (get_or-set_other ls c d v 0 apart)) (other apart))
    | inr within ↦ (let is : d ≡ c = omega arith in subst P (sym (get_or-set_at ls c d v 0 is low)) (same is))
  ]
]

pub last_at : (xs : List ℕ) (y k : ℕ) → k ≡ length xs → number_at (xs ++ y ∷ []) k ≡ y
last_at xs y k is =
    let none : k - length xs ≡ 0 = omega arith in
    get_or-append_right xs (y ∷ []) (length xs) k 0 refl (omega arith) ∙ ap (λ n. get_or (y ∷ []) n 0) none

pub push_at_case : (P : ℕ → Type 0) (xs : List ℕ) (y k : ℕ) → k ≤ length xs → (k < length xs → P (number_at xs k)) → (k ≡ length xs → P y) → P (number_at (xs ++ y ∷ []) k)
push_at_case P xs y k low prefix last = elim (cases_lt k (length xs)) [
  | inl below ↦ subst P (sym (get_or_append_left xs (y ∷ []) 0 k below)) (prefix below)
  | inr above ↦ (let is : k ≡ length xs = omega arith in subst P (sym (last_at xs y k is)) (last is))
]

-- ---- no words

pub zeros : (n c : ℕ) → number_at (replicate n 0) c ≡ 0
zeros zero c = refl
zeros (suc n) zero = refl
zeros (suc n) (suc c) = zeros n c

pub chained_none : (n : ℕ) → IsChained [] [] (replicate n 0)
chained_none n = record {
  reaches = λ k low. absurd (omega arith);
  latest_in = λ c. (let none = zeros n c in omega arith);
  latest_of = λ c some. (let none = zeros n c in absurd (omega arith));
  passes = λ k j low below same. absurd (omega arith);
  earlier_in = λ k low. absurd (omega arith);
  earlier_of = λ k low some. absurd (omega arith);
}

-- ---- one word more

module _ (ks es ls : List ℕ) (c : ℕ) (long : length es ≡ length ks) (low : c < length ls) (h : IsChained ks es ls) where
  n : ℕ
  n = length ks

  more : List ℕ
  more = ks ++ c ∷ []

  longer : length (ks ++ c ∷ []) ≡ length ks + 1
  longer = length-append ks (c ∷ [])

  prefix : (k : ℕ) → k < length ks → number_at (ks ++ c ∷ []) k ≡ number_at ks k
  prefix k below = get_or_append_left ks (c ∷ []) 0 k below

  pub chained_more : IsChained (ks ++ c ∷ []) (es ++ number_at ls c ∷ []) (set ls c (length ks + 1))
  chained_more = record {
    reaches = λ k within. push_at_case (λ m. k < number_at (set ls c (length ks + 1)) m) ks c k (omega (arith, longer))
        (λ below. set_at_case (λ m. k < m) ls c (length ks + 1) (number_at ks k) low (λ same. omega arith) (λ other. h.reaches k below))
        (λ is. set_at_case (λ m. k < m) ls c (length ks + 1) c low (λ same. omega arith) (λ other. absurd (other refl)));
    latest_in = λ d. set_at_case (λ m. m ≤ length (ks ++ c ∷ [])) ls c (length ks + 1) d low (λ same. omega (arith, longer)) (λ other. omega (arith, longer, h.latest_in d));
    latest_of = λ d. set_at_case (λ m. 0 < m → number_at (ks ++ c ∷ []) (m - 1) ≡ d) ls c (length ks + 1) d low
        (λ same some. last_at ks c ((length ks + 1) - 1) (omega arith) ∙ sym same)
        (λ other some. prefix (number_at ls d - 1) (omega (arith, h.latest_in d)) ∙ h.latest_of d some);
    passes = λ k j within below same.
        push_at_case (λ m. j < m) es (number_at ls c) k (omega (arith, longer))
        (λ in_prefix. h.passes k j (omega arith) below (sym (prefix j (omega arith)) ∙ same ∙ prefix k (omega arith)))
        (λ is. (let of_kind : number_at ks j ≡ c = sym (prefix j (omega arith)) ∙ same ∙ last_at ks c k (omega arith) in
        subst (λ d. j < number_at ls d) of_kind (h.reaches j (omega arith))));
    earlier_in = λ k within. push_at_case (λ m. m ≤ k) es (number_at ls c) k (omega (arith, longer)) (λ in_prefix. h.earlier_in k (omega arith)) (λ is. omega (arith, h.latest_in c));
    earlier_of = λ k within. push_at_case (λ m. 0 < m → number_at (ks ++ c ∷ []) (m - 1) ≡ number_at (ks ++ c ∷ []) k) es (number_at ls c) k (omega (arith, longer))
        (λ in_prefix some. prefix (number_at es k - 1) (omega (arith, h.earlier_in k (let e : k < length ks = omega arith in e))) ∙ h.earlier_of k (omega arith) some ∙ sym (prefix k (omega arith)))
        (λ is some. prefix (number_at ls c - 1) (omega (arith, h.latest_in c)) ∙ h.latest_of c some ∙ sym (last_at ks c k (omega arith)));
  }

-- ---- the columns of a row

pub kind_at : (ls : List Linked) (k : ℕ) → k < length ls → number_at (kinds ls) k ≡ kind (word_at (words_in ls) k).letters
kind_at [] k low = absurd (omega arith)
kind_at (l ∷ ls) zero low = refl
kind_at (l ∷ ls) (suc k) low = kind_at ls k (omega arith)

pub word_is : (ls : List Linked) (k : ℕ) (d : Linked) → k < length ls → word_at (words_in ls) k ≡ word_in (get_or ls k d).word
word_is [] k d low = absurd (omega arith)
word_is (l ∷ ls) zero d low = refl
word_is (l ∷ ls) (suc k) d low = word_is ls k d (omega arith)

pub earlier_is : (ls : List Linked) (k : ℕ) (d : Linked) → k < length ls → number_at (earliers ls) k ≡ (get_or ls k d).earlier
earlier_is [] k d low = absurd (omega arith)
earlier_is (l ∷ ls) zero d low = refl
earlier_is (l ∷ ls) (suc k) d low = earlier_is ls k d (omega arith)

-- ---- from one word of a kind to the one before it

pub length-kinds : (ls : List Linked) → length (kinds ls) ≡ length ls
length-kinds ls = length-map ls (λ (l : Linked). kind (word_in l.word).letters)

pub length-words_in : (ls : List Linked) → length (words_in ls) ≡ length ls
length-words_in ls = length-map ls (λ (l : Linked). word_in l.word)

module _ (row : List Linked) (latest bytes : List ℕ) (h : IsChained (kinds row) (earliers row) latest) where
  pub first_within : number_at latest (kind bytes) ≤ length row
  first_within = omega (arith, h.latest_in (kind bytes), length-kinds row)

  pub first_last : (k : ℕ) → number_at latest (kind bytes) ≤ k → k < length row → (word_at (words_in row) k).letters ≡ bytes → ⊥
  first_last k above below same =
      let of_kind : number_at (kinds row) k ≡ kind bytes = kind_at row k below ∙ ap kind same in
      let reaches : k < number_at latest (kind bytes) = subst (λ d. k < number_at latest d) of_kind (h.reaches k (omega (arith, length-kinds row))) in
      omega arith

  pub first_of_kind : 0 < number_at latest (kind bytes) → number_at (kinds row) (number_at latest (kind bytes) - 1) ≡ kind bytes
  first_of_kind some = h.latest_of (kind bytes) some

  module _ (at e : ℕ) (some : 0 < at) (within : at ≤ length row) (is : number_at (earliers row) (at - 1) ≡ e) where
    low : at - 1 < length (kinds row)
    low = omega (arith, length-kinds row)

    pub next_lower : e < at
    next_lower = let lower = h.earlier_in (at - 1) low in omega arith

    module _ (of_kind : number_at (kinds row) (at - 1) ≡ kind bytes) where
      pub next_of_kind : 0 < e → number_at (kinds row) (e - 1) ≡ kind bytes
      next_of_kind more =
          let there : number_at (kinds row) (number_at (earliers row) (at - 1) - 1) ≡ number_at (kinds row) (at - 1) = h.earlier_of (at - 1) low (omega arith) in
          sym (ap (λ n. number_at (kinds row) (n - 1)) is) ∙ there ∙ of_kind

      pub next_last : ((word_at (words_in row) (at - 1)).letters ≡ bytes → ⊥) → ((k : ℕ) → at ≤ k → k < length row → (word_at (words_in row) k).letters ≡ bytes → ⊥)
          → (k : ℕ) → e ≤ k → k < length row → (word_at (words_in row) k).letters ≡ bytes → ⊥
      next_last not_this last k above below same = elim (cases_lt k (at - 1)) [
        | inl before ↦ (
            let same_kind : number_at (kinds row) k ≡ number_at (kinds row) (at - 1) = kind_at row k below ∙ ap kind same ∙ sym of_kind in
            let passed = h.passes (at - 1) k low before same_kind in
            omega arith)
        | inr afterwards ↦ elim (cases_lt (at - 1) k) [
          | inl beyond ↦ last k (omega arith) below same
          | inr here ↦ (let is_here : k ≡ at - 1 = omega arith in not_this (subst (λ n. (word_at (words_in row) n).letters ≡ bytes) is_here same))
        ]
      ]

-- ---- whether bytes are a word, perhaps with an `s` more

module _ (bytes : List ℕ) (w : Word) where
  not_given : (w.letters ≡ bytes → length w.letters ≢ 0 → ⊥) → (w.letters ++ code "s" ∷ [] ≡ bytes → length w.letters ≢ 0 → ⊥) → is_given bytes w ≡ false
  not_given whole longer = elim (cases_Bool (eqb (length w.letters) 0)) [
    | inl none ↦ ap (λ t. not t && (bytes_eq bytes w.letters || bytes_eq bytes (w.letters ++ code "s" ∷ []))) none
    | inr some ↦ (
        let apart : length w.letters ≢ 0 = λ e. (let hit : eqb (length w.letters) 0 ≡ true = ap (λ n. eqb n 0) e in let wrong : true ≡ false = sym hit ∙ some in cc) in
        elim (cases_Bool (bytes_eq bytes w.letters)) [
          | inl same ↦ absurd (whole (sym ((bytes_eq-Decides bytes w.letters).0 same)) apart)
          | inr other ↦ elim (cases_Bool (bytes_eq bytes (w.letters ++ code "s" ∷ []))) [
            | inl same ↦ absurd (longer (sym ((bytes_eq-Decides bytes (w.letters ++ code "s" ∷ [])).0 same)) apart)
            | inr none ↦ ap (λ t. not t && (bytes_eq bytes w.letters || bytes_eq bytes (w.letters ++ code "s" ∷ []))) some ∙ ap (λ t. t || bytes_eq bytes (w.letters ++ code "s" ∷ [])) other ∙ none
          ]
        ])
  ]

  given_whole : length w.letters ≢ 0 → w.letters ≡ bytes → is_given bytes w ≡ true
  given_whole some is =
      ap (λ t. not t && (bytes_eq bytes w.letters || bytes_eq bytes (w.letters ++ code "s" ∷ []))) (ne_eqb (length w.letters) 0 some)
      ∙ ap (λ t. t || bytes_eq bytes (w.letters ++ code "s" ∷ [])) ((bytes_eq-Decides bytes w.letters).1 (sym is))

  given_longer : length w.letters ≢ 0 → w.letters ++ code "s" ∷ [] ≡ bytes → is_given bytes w ≡ true
  given_longer some is = elim (cases_Bool (bytes_eq bytes w.letters)) [
    | inl same ↦ given_whole some (sym ((bytes_eq-Decides bytes w.letters).0 same))
    | inr other ↦
        ap (λ t. not t && (bytes_eq bytes w.letters || bytes_eq bytes (w.letters ++ code "s" ∷ []))) (ne_eqb (length w.letters) 0 some)
        ∙ ap (λ t. t || bytes_eq bytes (w.letters ++ code "s" ∷ [])) other ∙ (bytes_eq-Decides bytes (w.letters ++ code "s" ∷ [])).1 (sym is)
  ]

-- bytes that don't end with an `s`, or are one byte
pub latest_whole : (bytes : List ℕ) (ws : List Word) (at : ℕ) → 0 < length bytes → (length bytes ≢ 1 → get_or bytes (length bytes - 1) 0 ≢ code "s") → IsLatest bytes ws at → IsLatestGiven bytes ws at
latest_whole bytes ws at some ends h = record {
  within = h.within;
  is = λ found. (let same = h.is found in given_whole bytes (word_at ws (at - 1)) (λ none. (let long : length (word_at ws (at - 1)).letters ≡ length bytes = ap length same in absurd (omega arith))) same);
  last = λ k above below. not_given bytes (word_at ws k) (λ same more. h.last k above below same)
      (λ same more. (
      let letters : List ℕ = (word_at ws k).letters in
      let long : length letters + 1 ≡ length bytes = sym (length-append letters (code "s" ∷ [])) ∙ ap length same in
      let last_is : get_or bytes (length bytes - 1) 0 ≡ code "s" = ap (λ bs. get_or bs (length bytes - 1) 0) (sym same) ∙ last_at letters (code "s") (length bytes - 1) (omega arith) in
      ends (λ one. more (omega arith)) last_is));
}

-- bytes that end with an `s`, and more before it
pub latest_of_both : (bytes prefix : List ℕ) (ws : List Word) (at before : ℕ) → bytes ≡ prefix ++ code "s" ∷ [] → 0 < length prefix → IsLatest bytes ws at → IsLatest prefix ws before → IsLatestGiven bytes ws (max at before)
latest_of_both bytes prefix ws at before is some h g =
    let long : length bytes ≡ length prefix + 1 = ap length is ∙ length-append prefix (code "s" ∷ []) in
    let ends : (letters : List ℕ) → letters ++ code "s" ∷ [] ≡ bytes → letters ≡ prefix = λ letters same. append_cancel_right letters prefix (code "s" ∷ []) (same ∙ is) in
    record {
      within = (let a = h.within in let b = g.within in omega arith);
      is = λ found. elim (cases_lt at before) [
        | inl lower ↦ (
            let most : max at before ≡ before = omega arith in
            let same = g.is (let e : 0 < before = omega arith in e) in
            subst (λ m. is_given bytes (word_at ws (m - 1)) ≡ true) (sym most)
            (given_longer bytes (word_at ws (before - 1)) (λ none. (let length_is : length (word_at ws (before - 1)).letters ≡ length prefix = ap length same in absurd (omega arith))) (ap (λ l. l ++ code "s" ∷ []) same ∙ sym is)))
        | inr higher ↦ (
            let most : max at before ≡ at = omega arith in
            let same = h.is (let e : 0 < at = omega arith in e) in
            subst (λ m. is_given bytes (word_at ws (m - 1)) ≡ true) (sym most)
            (given_whole bytes (word_at ws (at - 1)) (λ none. (let length_is : length (word_at ws (at - 1)).letters ≡ length bytes = ap length same in absurd (omega arith))) same))
      ];
      last = λ k above below. not_given bytes (word_at ws k) (λ same more. h.last k (omega arith) below same) (λ same more. g.last k (omega arith) below (ends (word_at ws k).letters same));
    }

-- ---- the latest word, where the latest come first

find_prefix : (p : Word → Bool) (xs ys : List Word) (x : Word) → find p xs ≡ Some x → find p (xs ++ ys) ≡ Some x
find_prefix p [] ys x is = cc
find_prefix p (w ∷ ws) ys x is = elim (cases_Bool (p w)) [
  | inl hit ↦ cond-true (p w) _ _ hit ∙ sym (cond-true (p w) _ _ hit) ∙ is
  | inr miss ↦ cond-false (p w) _ _ miss ∙ find_prefix p ws ys x (sym (cond-false (p w) _ _ miss) ∙ is)
]

find_after : (p : Word → Bool) (xs ys : List Word) → find p xs ≡ None → find p (xs ++ ys) ≡ find p ys
find_after p [] ys none = refl
find_after p (w ∷ ws) ys none = elim (cases_Bool (p w)) [
  | inl hit ↦ (let wrong : Some w ≡ None = sym (cond-true (p w) _ _ hit) ∙ none in cc)
  | inr miss ↦ cond-false (p w) _ _ miss ∙ find_after p ws ys (sym (cond-false (p w) _ _ miss) ∙ none)
]

find_none : (p : Word → Bool) (ws : List Word) → ((k : ℕ) → k < length ws → p (word_at ws k) ≡ false) → find p (reverse ws) ≡ None
find_none p [] none = refl
find_none p (w ∷ ws) none =
    ap (find p) (reverse-append (w ∷ []) ws) ∙ find_after p (reverse ws) (w ∷ []) (find_none p ws (λ k below. none (suc k) (omega arith)))
    ∙ cond-false (p w) _ _ (none 0 (omega arith))

find_last : (p : Word → Bool) (ws : List Word) (n : ℕ) → n < length ws → p (word_at ws n) ≡ true → ((k : ℕ) → n < k → k < length ws → p (word_at ws k) ≡ false) → find p (reverse ws) ≡ Some (word_at ws n)
find_last p [] n low hit last = absurd (omega arith)
find_last p (w ∷ ws) zero low hit last =
    ap (find p) (reverse-append (w ∷ []) ws) ∙ find_after p (reverse ws) (w ∷ []) (find_none p ws (λ k below. last (suc k) (omega arith) (omega arith)))
    ∙ cond-true (p w) _ _ hit
find_last p (w ∷ ws) (suc n) low hit last =
    ap (find p) (reverse-append (w ∷ []) ws)
    ∙ find_prefix p (reverse ws) (w ∷ []) (word_at ws n) (find_last p ws n (omega arith) hit (λ k above below. last (suc k) (omega arith) (omega arith)))

maps : (ls : List Linked) → map word_in (map (λ (l : Linked). l.word) ls) ≡ words_in ls
maps [] = refl
maps (l ∷ ls) = ap (λ t. word_in l.word ∷ t) (maps ls)

latest_first : (ls : List Linked) → map word_in (reverse (map (λ (l : Linked). l.word) ls)) ≡ reverse (words_in ls)
latest_first ls = sym (reverse-map word_in (map (λ (l : Linked). l.word) ls)) ∙ ap reverse (maps ls)

module _ (bytes : List ℕ) (ls : List Linked) (at : ℕ) (h : IsLatestGiven (stem bytes) (words_in ls) at) where
  abbrev items : List HyphenationWord
  items = reverse (map (λ (l : Linked). l.word) ls)

  abbrev points_if : Option Word → List ℕ
  points_if o = unwrap_or (option_map (λ (w : Word). w.points) o) []

  pub points_none : at ≡ 0 → [] ≡ points_of bytes (map word_in items)
  points_none none =
      sym (ap (λ ws. points_if (find (is_given (stem bytes)) ws)) (latest_first ls)
      ∙ ap points_if (find_none (is_given (stem bytes)) (words_in ls) (λ k below. h.last k (omega arith) below)))

  pub points_found : 0 < at → (word_at (words_in ls) (at - 1)).points ≡ points_of bytes (map word_in items)
  points_found some =
      let within = h.within in
      sym (ap (λ ws. points_if (find (is_given (stem bytes)) ws)) (latest_first ls)
      ∙ ap points_if (find_last (is_given (stem bytes)) (words_in ls) (at - 1) (omega arith) (h.is some) (λ k above below. h.last k (omega arith) below)))

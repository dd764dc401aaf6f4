-- Lemmas on what the pool's texts are charged, each once.
use Rattle.std.proofs.Common.{◌≡◌, ◌≢◌, ℕ, zero, suc, ◌+◌, ◌<◌, ◌≤◌, List, [], ◌∷◌, ◌++◌, length, map, get_or, sum_by, refl, ap, sym, ◌∙◌, inl, inr, arith}
use Rattle.std.specs.Prelude.{nat_lt, if◌then◌else◌}
use Rattle.std.specs.List.{range_with_len}
use Rattle.std.proofs.lemmas.Bool.{cases_lt, cases_eq, cond-true, cond-false, lt-ltb, le-ltb}
use Rattle.std.proofs.lemmas.List.Sums.{sum_by-cons, sum_by-append}
use Rattle.nr_pool.specs.Texts.{Texts, no_text, text, holders}
use Rattle.nr_pool.specs.Laws.{within_of_open}
use Rattle.nr_symbol_tables.specs.Table.{Named}
use Rattle.nr_levels.specs.Levels.{Source, Text, Own, Mark as Marked, Open, Levels, total}
use Rattle.nr_store.specs.declared.element.Element.{Element}
use Rattle.nr_store.specs.declared.element.Draft.{Draft}
use Rattle.nr_store.specs.declared.named.Sense.{Sense}
use Rattle.nr_store.specs.declared.named.Sense.TheVariants as senses
use Rattle.nr_store.specs.Senses.{ids_of_sense}
use Rattle.nr_store.specs.Store.{Means, Built, weight, weight_of, share, level_charge, charge_of}
use Rattle.nr_store.specs.Holders.{Beside, means_of, named_means, built_of, level_of, stored_of, count, ids_of_source, ids_of, values, draft_ids, held_ids, IsHeld, charge_of_text, charge_of_texts, beside_cost}
use Rattle.nr_store.proofs.Counting.{one_same, one_other, count-cons, count-append, cost, costs}
use Rattle.nr_store.proofs.Sharing.{texts_charge, source_charge, charged_level, named_free, unnamed_pays, again_free, first_pays}

-- ---- sums over numbers that lie in a row

module _ (f g : ℕ → ℕ) (id : ℕ) (same : (k : ℕ) → k ≢ id → f k ≡ g k) where
  -- of which this is none
  sum_apart : (a n : ℕ) → id < a → sum_by f (range_with_len a n) ≡ sum_by g (range_with_len a n)
  sum_apart a zero below = refl
  sum_apart a (suc n) below =
      let here = same a (λ e. absurd (omega (arith, e, below))) in
      let rest = sum_apart (a + 1) n (omega (arith, below)) in
      omega (arith, here, rest, sum_by-cons f a (range_with_len (a + 1) n), sum_by-cons g a (range_with_len (a + 1) n))

  -- of which this is one
  sum_at : (a n : ℕ) → a ≤ id → id < a + n → sum_by f (range_with_len a n) + g id ≡ sum_by g (range_with_len a n) + f id
  sum_at a zero from below = absurd (omega (arith, from, below))
  sum_at a (suc n) from below = elim (cases_eq a id) [
    | inl here ↦
        let rest = sum_apart (a + 1) n (omega (arith, here)) in
        let of_f : f a ≡ f id = ap f here in
        let of_g : g a ≡ g id = ap g here in
        omega (arith, rest, of_f, of_g, sum_by-cons f a (range_with_len (a + 1) n), sum_by-cons g a (range_with_len (a + 1) n))
    | inr apart ↦
        let here = same a apart in
        let rest = sum_at (a + 1) n (omega (arith, from, apart)) (omega (arith, below)) in
        omega (arith, here, rest, sum_by-cons f a (range_with_len (a + 1) n), sum_by-cons g a (range_with_len (a + 1) n))
  ]

sum_none : (f : ℕ → ℕ) → ((k : ℕ) → f k ≡ 0) → (a n : ℕ) → sum_by f (range_with_len a n) ≡ 0
sum_none f none a zero = refl
sum_none f none a (suc n) = omega (arith, none a, sum_none f none (a + 1) n, sum_by-cons f a (range_with_len (a + 1) n))

-- ---- what one text is charged

text_kept_pays : (p : Texts Element) (kept read : List ℕ) (id : ℕ) → 0 < count id kept → charge_of_text p kept read id ≡ weight (text p id)
text_kept_pays p kept read id some = cond-true _ _ _ (lt-ltb 0 (count id kept) some)

text_read_pays : (p : Texts Element) (kept read : List ℕ) (id : ℕ) → count id kept ≡ 0 → 0 < count id read → charge_of_text p kept read id ≡ share (text p id)
text_read_pays p kept read id none some =
    cond-false (nat_lt 0 (count id kept)) (weight (text p id)) (if nat_lt 0 (count id read) then share (text p id) else 0) (le-ltb 0 (count id kept) (omega (arith, none)))
    ∙ cond-true (nat_lt 0 (count id read)) (share (text p id)) 0 (lt-ltb 0 (count id read) some)

text_unheld : (p : Texts Element) (kept read : List ℕ) (id : ℕ) → count id kept ≡ 0 → count id read ≡ 0 → charge_of_text p kept read id ≡ 0
text_unheld p kept read id none unread =
    cond-false (nat_lt 0 (count id kept)) (weight (text p id)) (if nat_lt 0 (count id read) then share (text p id) else 0) (le-ltb 0 (count id kept) (omega (arith, none)))
    ∙ cond-false (nat_lt 0 (count id read)) (share (text p id)) 0 (le-ltb 0 (count id read) (omega (arith, unread)))

-- ---- texts that names and texts being built have

kept_once : (p : Texts Element) (ids : List ℕ) → ((k : ℕ) → count k ids ≤ 1) → ((k : ℕ) → 0 < count k ids → k < length p.texts)
    → charge_of_texts p ids [] ≡ sum_by (λ id. weight (text p id)) ids
kept_once p [] few within = sum_none (charge_of_text p [] []) (λ k. refl) 0 (length p.texts)
kept_once p (id ∷ ids) few within =
    let counted : count id (id ∷ ids) ≡ 1 + count id ids = omega (arith, count-cons id id ids, one_same id id refl) in
    let most = few id in
    let first : count id ids ≡ 0 = omega (arith, counted, most) in
    let rest = kept_once p ids (λ k. omega (arith, few k, count-cons k id ids)) (λ k some. within k (omega (arith, some, count-cons k id ids))) in
    let moved = sum_at (charge_of_text p (id ∷ ids) []) (charge_of_text p ids []) id
    (λ k apart. let same : count k (id ∷ ids) ≡ count k ids = omega (arith, count-cons k id ids, one_other k id (λ e. apart (sym e))) in
    ap (λ c. if nat_lt 0 c then weight (text p k) else if nat_lt 0 (count k []) then share (text p k) else 0) same)
    0 (length p.texts) (omega arith) (omega (arith, within id (omega (arith, counted)))) in
    let now = text_kept_pays p (id ∷ ids) [] id (omega (arith, counted)) in
    let before = text_unheld p ids [] id first refl in
    omega (arith, rest, moved, now, before, sum_by-cons (λ (k : ℕ). weight (text p k)) id ids)

-- ---- texts that levels read

module _ (p : Texts Element) (names : List (Named Sense)) (kept : List ℕ) where
  read_more : {K : Type 0} (older : List ℕ) (s : Source K) → ((k : ℕ) → 0 < count k (ids_of_source s) → (k < length p.texts) × (count k kept ≡ count k (values names)))
      → source_charge p names older s + charge_of_texts p kept older ≡ charge_of_texts p kept (ids_of_source s ++ older)
  read_more older (Text id place) holds =
      let is = holds id (omega (arith, count-cons id id [], one_same id id refl)) in
      let counted : count id (id ∷ older) ≡ 1 + count id older = omega (arith, count-cons id id older, one_same id id refl) in
      let n = if nat_lt 0 (count id older) then 0 else share (text p id) in
      let moved = sum_at (charge_of_text p kept (id ∷ older)) (charge_of_text p kept older) id
      (λ k apart. let same : count k (id ∷ older) ≡ count k older = omega (arith, count-cons k id older, one_other k id (λ e. apart (sym e))) in
      ap (λ c. if nat_lt 0 (count k kept) then weight (text p k) else if nat_lt 0 c then share (text p k) else 0) same)
      0 (length p.texts) (omega arith) (omega (arith, is.0)) in
      elim (cases_lt 0 (count id kept)) [
        | inl some ↦
            let now = text_kept_pays p kept (id ∷ older) id some in
            let before = text_kept_pays p kept older id some in
            let free = named_free id n names (omega (arith, some, is.1)) in
            omega (arith, moved, now, before, free)
        | inr none ↦
            let unkept : count id kept ≡ 0 = omega (arith, none) in
            let now = text_read_pays p kept (id ∷ older) id unkept (omega (arith, counted)) in
            let pays = unnamed_pays id n names (omega (arith, unkept, is.1)) in
            elim (cases_lt 0 (count id older)) [
              | inl again ↦
                  let before = text_read_pays p kept older id unkept again in
                  let free = again_free (share (text p id)) id older again in
                  omega (arith, moved, now, before, pays, free)
              | inr first ↦
                  let unread : count id older ≡ 0 = omega (arith, first) in
                  let before = text_unheld p kept older id unkept unread in
                  let once = first_pays (share (text p id)) id older unread in
                  omega (arith, moved, now, before, pays, once)
            ]
      ]
  read_more older (Own bytes) holds = omega arith
  read_more older (Marked mode) holds = omega arith

  read_once : {K : Type 0} (ls : List (Open K)) → ((k : ℕ) → 0 < count k (ids_of ls) → (k < length p.texts) × (count k kept ≡ count k (values names)))
      → texts_charge p names ls + charge_of_texts p kept [] ≡ charge_of_texts p kept (ids_of ls)
  read_once [] holds = omega arith
  read_once (l ∷ ls) holds =
      let rest = read_once ls (λ k some. holds k (omega (arith, some, count-append k (ids_of_source l.source) (ids_of ls)))) in
      let this = read_more (ids_of ls) l.source (λ k some. holds k (omega (arith, some, count-append k (ids_of_source l.source) (ids_of ls)))) in
      omega (arith, rest, this, charged_level p names l ls)

-- ---- what the pool's texts take

sum-le : {X : Type 0} (g : X → ℕ) (f : ℕ → ℕ) (d : X) (xs : List X) (a : ℕ) → ((k : ℕ) → k < length xs → g (get_or xs k d) ≤ f (a + k)) → sum_by g xs ≤ sum_by f (range_with_len a (length xs))
sum-le g f d [] a each = omega arith
sum-le g f d (x ∷ xs) a each =
    let here : g x ≤ f a = let first = each 0 (omega arith) in let same : f (a + 0) ≡ f a = ap f (let e : a + 0 ≡ a = omega arith in e) in omega (arith, first, same) in
    let rest = sum-le g f d xs (a + 1) (λ k below. let next = each (suc k) (omega (arith, below)) in let same : f (a + suc k) ≡ f (a + 1 + k) = ap f (let e : a + suc k ≡ a + 1 + k = omega arith in e) in omega (arith, next, same)) in
    omega (arith, here, rest, sum_by-cons g x xs, sum_by-cons f a (range_with_len (a + 1) (length xs)))

-- is within what they are charged
pub costs-le : (p : Texts Element) (kept read : List ℕ) → ((k : ℕ) → holders p k ≡ count k kept + count k read) → ((k : ℕ) → holders p k ≡ 0 → text p k ≡ []) → costs p ≤ charge_of_texts p kept read
costs-le p kept read held bare = sum-le cost (charge_of_text p kept read) no_text p.texts 0 (λ k below.
    let is : charge_of_text p kept read (0 + k) ≡ charge_of_text p kept read k = ap (charge_of_text p kept read) (let e : 0 + k ≡ k = omega arith in e) in
    elim (cases_lt 0 (count k kept)) [
      | inl some ↦ omega (arith, is, text_kept_pays p kept read k some)
      | inr none ↦ elim (cases_lt 0 (count k read)) [
        | inl read_too ↦ omega (arith, is, text_read_pays p kept read k (omega (arith, none)) read_too)
        | inr unread ↦
            let unheld : holders p k ≡ 0 = omega (arith, held k, none, unread) in
            let empty : length (text p k) ≡ 0 = ap length (bare k unheld) in
            omega (arith, unheld, empty)
      ]
    ])

-- ---- what names, texts being built and levels are charged

sense_weighs : (p : Texts Element) (m : Sense) (ids : List ℕ) → weight_of (means_of p m) + sum_by (λ id. weight (text p id)) ids ≡ sum_by (λ id. weight (text p id)) (ids_of_sense m ++ ids)
sense_weighs p (senses.Request r) ids = omega arith
sense_weighs p (senses.Text id) ids = sym (sum_by-cons (λ (k : ℕ). weight (text p k)) id ids)

names_weigh : (p : Texts Element) (names : List (Named Sense)) → sum_by (λ (n : Named Means). weight_of n.value) (map (named_means p) names) ≡ sum_by (λ id. weight (text p id)) (values names)
names_weigh p [] = refl
names_weigh p (n ∷ ns) =
    omega (arith, names_weigh p ns, sense_weighs p n.value (values ns), sum_by-cons (λ (m : Named Means). weight_of m.value) (named_means p n) (map (named_means p) ns))

drafts_weigh : (p : Texts Element) (drafts : List Draft) → sum_by (λ (b : Built). weight b.text) (map (built_of p) drafts) ≡ sum_by (λ id. weight (text p id)) (draft_ids drafts)
drafts_weigh p [] = refl
drafts_weigh p (d ∷ ds) =
    omega (arith, drafts_weigh p ds, sum_by-cons (λ (b : Built). weight b.text) (built_of p d) (map (built_of p) ds), sum_by-cons (λ (id : ℕ). weight (text p id)) d.id (draft_ids ds))

-- what is charged is a sum over the pool, in which each text stands once
pub each_once : {K : Type 0} (p : Texts Element) (names : List (Named Sense)) (drafts : List Draft) (levels : Levels K) (beside : Beside) (limit : ℕ)
    → IsHeld p (held_ids names (draft_ids drafts) levels.levels) → ((k : ℕ) → 0 < count k (draft_ids drafts) → holders p k ≡ 1) → ((k : ℕ) → count k (values names) ≤ 1) → sum_by level_charge (map (level_of p) levels.levels) ≡ total levels.levels
    → charge_of (stored_of p names drafts levels beside limit) ≡ charge_of_texts p (values names ++ draft_ids drafts) (ids_of levels.levels) + total levels.levels + beside_cost beside
each_once p names drafts levels beside limit held alone single all =
    let kept = values names ++ draft_ids drafts in
    let counts : (k : ℕ) → holders p k ≡ count k (values names) + (count k (draft_ids drafts) + count k (ids_of levels.levels)) =
    λ k. omega (arith, held.held k, count-append k (values names) (draft_ids drafts ++ ids_of levels.levels), count-append k (draft_ids drafts) (ids_of levels.levels)) in
    let of_kept : (k : ℕ) → count k kept ≡ count k (values names) + count k (draft_ids drafts) = λ k. count-append k (values names) (draft_ids drafts) in
    let within : (k : ℕ) → 0 < holders p k → k < length p.texts = λ k some. within_of_open p k some in
    let few : (k : ℕ) → count k kept ≤ 1 = λ k. elim (cases_lt 0 (count k (draft_ids drafts))) [
      | inl built ↦ omega (arith, alone k built, counts k, of_kept k)
      | inr none ↦ omega (arith, none, of_kept k, single k)
    ] in
    let of_texts = kept_once p kept few (λ k some. within k (omega (arith, some, counts k, of_kept k))) in
    let of_levels = read_once p names kept levels.levels (λ k some. (
      within k (omega (arith, some, counts k)),
      elim (cases_lt 0 (count k (draft_ids drafts))) [
        | inl built ↦ absurd (omega (arith, built, some, alone k built, counts k))
        | inr none ↦ omega (arith, none, of_kept k)
      ],
    )) in
    let weighs = sum_by-append (λ (id : ℕ). weight (text p id)) (values names) (draft_ids drafts) in
    omega (arith, of_texts, of_levels, weighs, names_weigh p names, drafts_weigh p drafts, all)

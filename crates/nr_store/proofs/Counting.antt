-- Lemmas on how often a text is held.
use Rattle.std.proofs.Common.{◌≡◌, ◌≢◌, ℕ, ◌+◌, ◌*◌, ◌-◌, ◌<◌, ◌≤◌, min, List, [], ◌∷◌, ◌++◌, length, sum_by, Some, refl, ap, sym, ◌∙◌, inl, inr, eqb, arith}
use Rattle.std.specs.List.{slice_get}
use Rattle.std.proofs.lemmas.List.{length-set}
use Rattle.std.proofs.lemmas.List.Sums.{sum_by-cons, sum_by-append, sum_by-le-sum_by, get_or-le-sum_by}
use Rattle.std.proofs.lemmas.Bool.{cases_lt, cases_eq, eq-eqb, ne_eqb, cond-true, cond-false}
use Rattle.std.proofs.lemmas.Option.{slice_get_within, get_or_from_slice_get}
use Rattle.nr_pool.specs.Texts.{Held, Texts, no_text, entry, text, holders, used, IsOpen, opened, with_text, with_holders, released}
use Rattle.nr_pool.specs.Laws.{within_of_open, entry-with_entry_same, entry-with_entry_other, text-with_text_other, holders-with_text, text-with_holders, holders-with_holders_same, holders-with_holders_other, released-held, released-last, entry-released_other}
use Rattle.nr_store.specs.Store.{share}
use Rattle.nr_store.specs.Holders.{one, count, IsHeld}
use Rattle.nr_store.specs.declared.element.Element.{Element}

-- ---- counts

pub one_same : (id k : ℕ) → k ≡ id → one id k ≡ 1
one_same id k same = cond-true {A = ℕ} (eqb k id) 1 0 (eq-eqb k id same)

pub one_other : (id k : ℕ) → k ≢ id → one id k ≡ 0
one_other id k apart = cond-false {A = ℕ} (eqb k id) 1 0 (ne_eqb k id apart)

pub count-cons : (id k : ℕ) (ks : List ℕ) → count id (k ∷ ks) ≡ one id k + count id ks
count-cons id k ks = sum_by-cons (one id) k ks

pub count-append : (id : ℕ) (js ks : List ℕ) → count id (js ++ ks) ≡ count id js + count id ks
count-append id js ks = sum_by-append (one id) js ks

-- `more` has one text once more than `less`
pub record AddsOne (id : ℕ) (less more : List ℕ) : Type 0 where
  pub counts : (k : ℕ) → count k more ≡ one k id + count k less

-- ---- what becomes of the holders

pub open_of_adds : (p : Texts Element) (id : ℕ) (less more : List ℕ) → IsHeld p more → AddsOne id less more → IsOpen p id
open_of_adds p id less more h adds =
    let is = h.held id in
    let counts = adds.counts id in
    let this = one_same id id refl in
    omega arith

pub held_opened : (p : Texts Element) (id : ℕ) (less more : List ℕ) → IsHeld p less → slice_get p.texts id ≡ Some no_text → AddsOne id less more → IsHeld (opened p id) more
held_opened p id less more h free adds =
    let within = slice_get_within p.texts id no_text free in
    let t : Held Element = record { elements = []; holders = 1 } in
    let here : entry (opened p id) id ≡ t = entry-with_entry_same p id t within in
    let was : holders p id ≡ 0 = ap (λ (u : Held _). u.holders) (get_or_from_slice_get p.texts id no_text no_text free) in
    record {
      held = λ k. elim (cases_eq k id) [
        | inl same ↦
            let now : holders (opened p id) k ≡ 1 = ap (holders (opened p id)) same ∙ ap (λ (u : Held _). u.holders) here in
            let old : holders p k ≡ 0 = ap (holders p) same ∙ was in
            let is = h.held k in
            let counts = adds.counts k in
            let this = one_same k id (sym same) in
            omega arith
        | inr apart ↦
            let now : holders (opened p id) k ≡ holders p k = ap (λ (u : Held _). u.holders) (entry-with_entry_other p id k t apart) in
            let is = h.held k in
            let counts = adds.counts k in
            let other = one_other k id (λ e. apart (sym e)) in
            omega arith
      ];
      bare = λ k none. elim (cases_eq k id) [
        | inl same ↦ ap (text (opened p id)) same ∙ ap (λ (u : Held _). u.elements) here
        | inr apart ↦
            let now = entry-with_entry_other p id k t apart in
            ap (λ (u : Held _). u.elements) now ∙ h.bare k (ap (λ (u : Held _). u.holders) (sym now) ∙ none)
      ];
    }

pub held_more : (p : Texts Element) (id : ℕ) (less more : List ℕ) → IsHeld p less → IsOpen p id → AddsOne id less more → IsHeld (with_holders p id (holders p id + 1)) more
held_more p id less more h is_open adds =
    let within = within_of_open p id is_open in
    let q = with_holders p id (holders p id + 1) in
    record {
      held = λ k. elim (cases_eq k id) [
        | inl same ↦
            let now : holders q k ≡ holders p id + 1 = ap (holders q) same ∙ holders-with_holders_same p id (holders p id + 1) within in
            let old : holders p k ≡ holders p id = ap (holders p) same in
            let is = h.held k in
            let counts = adds.counts k in
            let this = one_same k id (sym same) in
            omega arith
        | inr apart ↦
            let now : holders q k ≡ holders p k = holders-with_holders_other p id k (holders p id + 1) apart in
            let is = h.held k in
            let counts = adds.counts k in
            let other = one_other k id (λ e. apart (sym e)) in
            omega arith
      ];
      bare = λ k none. text-with_holders p id k (holders p id + 1) ∙ h.bare k (elim (cases_eq k id) [
        | inl same ↦
            let now : holders q k ≡ holders p id + 1 = ap (holders q) same ∙ holders-with_holders_same p id (holders p id + 1) within in
            absurd (omega arith)
        | inr apart ↦ sym (holders-with_holders_other p id k (holders p id + 1) apart) ∙ none
      ]);
    }

pub held_text : (p : Texts Element) (id : ℕ) (xs : List Element) (ids : List ℕ) → IsHeld p ids → IsOpen p id → IsHeld (with_text p id xs) ids
held_text p id xs ids h is_open = record {
  held = λ k. holders-with_text p id k xs ∙ h.held k;
  bare = λ k none. let was : holders p k ≡ 0 = sym (holders-with_text p id k xs) ∙ none in
      text-with_text_other p id k xs (λ same. let here : holders p id ≡ 0 = ap (holders p) (sym same) ∙ was in absurd (omega arith)) ∙ h.bare k was;
}

-- what a text has where one lets it go
pub record Let (p : Texts Element) (id : ℕ) : Type 0 where
  pub holders_here : holders (released p id) id ≡ holders p id - 1
  pub text_here : 1 < holders p id → text (released p id) id ≡ text p id
  pub text_gone : holders p id ≤ 1 → text (released p id) id ≡ []

pub let_go : (p : Texts Element) (id : ℕ) → IsOpen p id → Let p id
let_go p id is_open =
    let within = within_of_open p id is_open in
    record {
      holders_here = elim (cases_lt 1 (holders p id)) [
        | inl more ↦ ap (λ (q : Texts _). holders q id) (released-held p id more) ∙ holders-with_holders_same p id (holders p id - 1) within
        | inr last ↦
            let none : holders (released p id) id ≡ 0 = ap (λ (q : Texts _). holders q id) (released-last p id last) ∙ ap (λ (u : Held _). u.holders) (entry-with_entry_same p id no_text within) in omega arith
      ];
      text_here = λ more. ap (λ (q : Texts _). text q id) (released-held p id more) ∙ text-with_holders p id id (holders p id - 1);
      text_gone = λ last. ap (λ (q : Texts _). text q id) (released-last p id last) ∙ ap (λ (u : Held _). u.elements) (entry-with_entry_same p id no_text within);
    }

pub held_less : (p : Texts Element) (id : ℕ) (less more : List ℕ) → IsHeld p more → AddsOne id less more → IsHeld (released p id) less
held_less p id less more h adds =
    let is_open = open_of_adds p id less more h adds in
    let gone = let_go p id is_open in
    let q = released p id in
    record {
      held = λ k. elim (cases_eq k id) [
        | inl same ↦
            let now : holders q k ≡ holders p id - 1 = ap (holders q) same ∙ gone.holders_here in
            let old : holders p k ≡ holders p id = ap (holders p) same in
            let is = h.held k in
            let counts = adds.counts k in
            let this = one_same k id (sym same) in
            omega arith
        | inr apart ↦
            let now : holders q k ≡ holders p k = ap (λ (u : Held _). u.holders) (entry-released_other p id k apart) in
            let is = h.held k in
            let counts = adds.counts k in
            let other = one_other k id (λ e. apart (sym e)) in
            omega arith
      ];
      bare = λ k none. elim (cases_eq k id) [
        | inl same ↦
            let now : holders q k ≡ holders p id - 1 = ap (holders q) same ∙ gone.holders_here in
            ap (text q) same ∙ gone.text_gone (omega arith)
        | inr apart ↦
            let now = entry-released_other p id k apart in
            ap (λ (u : Held _). u.elements) now ∙ h.bare k (ap (λ (u : Held _). u.holders) (sym now) ∙ none)
      ];
    }

-- the pool stays as large
pub released_capacity : (p : Texts Element) (id : ℕ) → (released p id).capacity ≡ p.capacity
released_capacity p id = elim (cases_lt 1 (holders p id)) [
  | inl more ↦ ap (λ (q : Texts _). q.capacity) (released-held p id more)
  | inr last ↦ ap (λ (q : Texts _). q.capacity) (released-last p id last)
]

pub released_slots : (p : Texts Element) (id : ℕ) → length (released p id).texts ≡ length p.texts
released_slots p id = elim (cases_lt 1 (holders p id)) [
  | inl more ↦ ap (λ (q : Texts _). length q.texts) (released-held p id more) ∙ length-set p.texts id _
  | inr last ↦ ap (λ (q : Texts _). length q.texts) (released-last p id last) ∙ length-set p.texts id no_text
]

-- a text that is still held is as it was
pub text_kept : (p : Texts Element) (id k : ℕ) → IsOpen p id → IsOpen (released p id) k → text (released p id) k ≡ text p k
text_kept p id k is_open held = elim (cases_eq k id) [
  | inl same ↦
      let gone = let_go p id is_open in
      let here = gone.holders_here in
      let now : holders (released p id) k ≡ holders (released p id) id = ap (holders (released p id)) same in
      ap (text (released p id)) same ∙ gone.text_here (omega arith) ∙ ap (text p) (sym same)
  | inr apart ↦ ap (λ (u : Held _). u.elements) (entry-released_other p id k apart)
]

-- ---- what the pool's texts take

-- what a number of the pool takes of its slots and elements
abbrev pub cost : Held Element → ℕ
cost t = 16 * min t.holders 1 + length t.elements

abbrev pub costs : Texts Element → ℕ
costs p = sum_by cost p.texts

-- a text that is held costs this much
pub cost_in : (p : Texts Element) (id : ℕ) → IsOpen p id → share (text p id) ≤ costs p
cost_in p id is_open = let most = get_or-le-sum_by cost p.texts id no_text (within_of_open p id is_open) in omega arith

pub used-le : (p : Texts Element) → used p ≤ costs p
used-le p = sum_by-le-sum_by (λ (t : Held Element). length t.elements) cost p.texts (λ t. omega arith)

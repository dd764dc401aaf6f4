-- Lemmas on the slots with no text.
use Rattle.std.proofs.Common.{◌≡◌, ◌≢◌, ℕ, zero, suc, ◌+◌, ◌<◌, ◌⊎◌, List, length, map, set, sum, sum_by, refl, sym, ap, ◌∙◌, inl, inr, arith}
use Rattle.std.proofs.lemmas.List.{length-set, get_or-set_same}
use Rattle.std.proofs.lemmas.List.Sums.{sum-map, sum_by-set, sum_by-le}
use Rattle.std.proofs.lemmas.Bool.{cases_lt}
use Rattle.nr_pool.specs.Slot.{blank_slot, slot_at}
use Rattle.nr_pool.specs.Spares.{spare_at, taken, HasSpares}
use Rattle.nr_pool.specs.declared.slot.Slot.{Slot}
use Rattle.nr_pool.proofs.Places.{same_map, written_at}

-- t has a text if s has, and where neither has one, it names the same slot
pub record KeepsSpare (s t : Slot) : Type 0 where
  pub taken : taken t ≡ taken s
  pub next : s.holders ≡ 0 → t.start ≡ s.start

module _ (slots news : List Slot) (count first : ℕ) (lengths : length news ≡ length slots) (each : (j : ℕ) → KeepsSpare (slot_at slots j) (slot_at news j)) (spares : HasSpares slots count first) where
  spare_at_same : (k : ℕ) → k < count → spare_at news first k ≡ spare_at slots first k
  spare_at_same zero below = refl
  spare_at_same (suc k) below =
      ap (λ j. (slot_at news j).start) (spare_at_same k (omega arith)) ∙ (each (spare_at slots first k)).next (spares.unheld k (omega arith))

  -- where each slot keeps its place among the spare ones
  pub spares_same : HasSpares news count first
  spares_same = record {
    counted =
        let weights : map taken news ≡ map taken slots = same_map taken taken news slots blank_slot blank_slot lengths (λ k _. (each k).taken) in
        let sums : sum_by taken news ≡ sum_by taken slots = sym (sum-map taken news) ∙ ap sum weights ∙ sum-map taken slots in
        let counted = spares.counted in
        omega arith;
    within = λ k below. rw (spare_at_same k below, lengths) (spares.within k below);
    unheld = λ k below. rw (spare_at_same k below) (let same = (each (spare_at slots first k)).taken in let none = spares.unheld k below in omega arith);
    distinct = λ j k j_below k_below e. spares.distinct j k j_below k_below (sym (spare_at_same j j_below) ∙ e ∙ spare_at_same k k_below);
  }

-- a slot with a text is written, and has one
pub spares_set : (slots : List Slot) (i : ℕ) (new : Slot) (count first : ℕ) → i < length slots → 0 < (slot_at slots i).holders → 0 < new.holders → HasSpares slots count first → HasSpares (set slots i new) count first
spares_set slots i new count first within held new_held =
    spares_same slots (set slots i new) count first (length-set slots i new) (λ j. elim (written_at slots i new within j) [
      | inl h ↦ rw (h.1, h.0) record { taken = omega arith; next = λ none. absurd (omega arith) }
      | inr h ↦ rw h.1 record { taken = refl; next = λ _. refl }
    ])

-- with one slot written, how many have a text
counted_set : (slots : List Slot) (i : ℕ) (new : Slot) → i < length slots → sum_by taken (set slots i new) + taken (slot_at slots i) ≡ sum_by taken slots + taken new
counted_set slots i new within = sum_by-set taken slots i new blank_slot within

sum_taken-le : (slots : List Slot) → sum_by taken slots < length slots + 1
sum_taken-le slots = let most = sum_by-le taken 1 slots (λ k d below. omega arith) in omega arith

-- with no spare slot, each has a text
pub none_spare : (slots : List Slot) (count first : ℕ) → HasSpares slots count first → count ≡ 0 → (k : ℕ) → k < length slots → 0 < (slot_at slots k).holders
none_spare slots count first spares none k below = elim (cases_lt 0 (slot_at slots k).holders) [
  | inl some ↦ some
  | inr nothing ↦
      let new : Slot = record { start = 0; len = 0; holders = 1 } in
      let counts = counted_set slots k new below in
      let most = sum_taken-le (set slots k new) in
      let lengths = length-set slots k new in
      let counted = spares.counted in
      absurd (omega arith)
]

spare_at-next : (slots : List Slot) (first k : ℕ) → spare_at slots (slot_at slots first).start k ≡ spare_at slots first (suc k)
spare_at-next slots first zero = refl
spare_at-next slots first (suc k) = ap (λ j. (slot_at slots j).start) (spare_at-next slots first k)

spare_at_starts : (slots news : List Slot) (first : ℕ) → ((j : ℕ) → (slot_at news j).start ≡ (slot_at slots j).start) → (k : ℕ) → spare_at news first k ≡ spare_at slots first k
spare_at_starts slots news first same zero = refl
spare_at_starts slots news first same (suc k) = ap (λ j. (slot_at news j).start) (spare_at_starts slots news first same k) ∙ same (spare_at slots first k)

-- the first spare slot is given a text
pub spares_open : (slots : List Slot) (count m first : ℕ) (new : Slot) → HasSpares slots count first → count ≡ m + 1 → 0 < new.holders → new.start ≡ (slot_at slots first).start → HasSpares (set slots first new) m new.start
spares_open slots count m first new spares more held start =
    let news = set slots first new in
    let within : first < length slots = spares.within 0 (omega arith) in
    let at = written_at slots first new within in
    let starts : (j : ℕ) → (slot_at news j).start ≡ (slot_at slots j).start = λ j. elim (at j) [
      | inl h ↦ ap (λ (s : Slot). s.start) h.1 ∙ start ∙ ap (λ k. (slot_at slots k).start) (sym h.0)
      | inr h ↦ ap (λ (s : Slot). s.start) h.1
    ] in
    let moved : (k : ℕ) → spare_at news new.start k ≡ spare_at slots first (suc k) = λ k. spare_at_starts slots news new.start starts k ∙ ap (λ n. spare_at slots n k) start ∙ spare_at-next slots first k in
    let lengths = length-set slots first new in
    record {
      counted =
          let counts = counted_set slots first new within in
          let before = spares.unheld 0 (omega arith) in
          let counted = spares.counted in
          omega arith;
      within = λ k below. rw (moved k, lengths) (spares.within (suc k) (omega arith));
      unheld = λ k below. rw (moved k) (elim (at (spare_at slots first (suc k))) [
        | inl h ↦ absurd (let same : suc k ≡ 0 = spares.distinct (suc k) 0 (omega arith) (omega arith) h.0 in omega arith)
        | inr h ↦ ap (λ (s : Slot). s.holders) h.1 ∙ spares.unheld (suc k) (omega arith)
      ]);
      distinct = λ j k j_below k_below e. let same : suc j ≡ suc k = spares.distinct (suc j) (suc k) (omega arith) (omega arith) (sym (moved j) ∙ e ∙ moved k) in omega arith;
    }

-- the k-th spare slot was the j-th
record WasBefore (slots news : List Slot) (count first now k : ℕ) : Type 0 where
  before : ℕ
  next : k ≡ suc before
  below : before < count
  same : spare_at news now k ≡ spare_at slots first before

moved_by_close : (slots news : List Slot) (count first i : ℕ) → (slot_at news i).start ≡ first → ((k : ℕ) → k < count → (slot_at news (spare_at slots first k)).start ≡ (slot_at slots (spare_at slots first k)).start)
    → (k : ℕ) → k < count → spare_at news i (suc k) ≡ spare_at slots first k
moved_by_close slots news count first i start kept zero below = start
moved_by_close slots news count first i start kept (suc k) below =
    ap (λ j. (slot_at news j).start) (moved_by_close slots news count first i start kept k (omega arith)) ∙ kept k (omega arith)

split_first : (slots news : List Slot) (count first i : ℕ) → ((k : ℕ) → k < count → spare_at news i (suc k) ≡ spare_at slots first k)
    → (k : ℕ) → k < count + 1 → ((k ≡ 0) × (spare_at news i k ≡ i)) ⊎ WasBefore slots news count first i k
split_first slots news count first i moved zero below = inl (refl, refl)
split_first slots news count first i moved (suc k) below = inr record { before = k; next = refl; below = omega arith; same = moved k (omega arith) }

-- a slot with a text loses it
pub spares_close : (slots : List Slot) (count first i : ℕ) (new : Slot) → HasSpares slots count first → i < length slots → 0 < (slot_at slots i).holders → new.holders ≡ 0 → new.start ≡ first → HasSpares (set slots i new) (count + 1) i
spares_close slots count first i new spares within held none start =
    let news = set slots i new in
    let at = written_at slots i new within in
    let here : slot_at news i ≡ new = get_or-set_same slots i new blank_slot within in
    let lengths = length-set slots i new in
    -- none of the spare slots was this one
    let was_other : (k : ℕ) → k < count → spare_at slots first k ≢ i = λ k below e. let zero_there : (slot_at slots i).holders ≡ 0 = ap (λ m. (slot_at slots m).holders) (sym e) ∙ spares.unheld k below in omega arith in
    let kept : (k : ℕ) → k < count → slot_at news (spare_at slots first k) ≡ slot_at slots (spare_at slots first k) = λ k below. elim (at (spare_at slots first k)) [
      | inl h ↦ absurd (was_other k below h.0)
      | inr h ↦ h.1
    ] in
    let moved = moved_by_close slots news count first i (ap (λ (s : Slot). s.start) here ∙ start) (λ k below. ap (λ (s : Slot). s.start) (kept k below)) in
    let named : (k : ℕ) → k < count + 1 → ((k ≡ 0) × (spare_at news i k ≡ i)) ⊎ WasBefore slots news count first i k = split_first slots news count first i moved in
    record {
      counted =
          let counts = counted_set slots i new within in
          let counted = spares.counted in
          omega arith;
      within = λ k below. elim (named k below) [
        | inl h ↦ let is = h.1 in omega arith
        | inr h ↦ let is = h.same in let old = spares.within h.before h.below in omega arith
      ];
      unheld = λ k below. elim (named k below) [
        | inl h ↦ rw h.1 (ap (λ (s : Slot). s.holders) here ∙ none)
        | inr h ↦ rw h.same (ap (λ (s : Slot). s.holders) (kept h.before h.below) ∙ spares.unheld h.before h.below)
      ];
      distinct = λ j k j_below k_below e. elim (named j j_below) [
        | inl h ↦ elim (named k k_below) [
          | inl q ↦ h.0 ∙ sym q.0
          | inr q ↦ absurd (was_other q.before q.below (sym q.same ∙ sym e ∙ h.1))
        ]
        | inr h ↦ elim (named k k_below) [
          | inl q ↦ absurd (was_other h.before h.below (sym h.same ∙ e ∙ q.1))
          | inr q ↦ h.next ∙ ap suc (spares.distinct h.before q.before h.below q.below (sym h.same ∙ e ∙ q.same)) ∙ sym q.next
        ]
      ];
    }

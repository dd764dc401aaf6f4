-- Lemmas on two texts of the same length that change places.
use Rattle.std.proofs.Common.{◌≡◌, ◌≢◌, ℕ, ◌+◌, ◌<◌, ◌≤◌, ◌⊎◌, List, length, set, refl, sym, ap, ap₂, ◌∙◌, inl, inr, arith}
use Rattle.std.proofs.lemmas.List.{length-set, get_or-set_same, get_or-set_other}
use Rattle.std.proofs.lemmas.List.Sums.{sum_by-set}
use Rattle.std.proofs.lemmas.Bool.{cases_lt}
use Rattle.nr_pool.specs.Texts.{Held}
use Rattle.nr_pool.specs.Slot.{blank_slot, slot_at, held_of, IsPacked}
use Rattle.nr_pool.specs.Exchange.{LiesAt, IsSwapped, IsExchanged}
use Rattle.nr_pool.specs.declared.slot.Slot.{Slot}
use Rattle.nr_pool.proofs.Places.{written_at, same_map, same_part, same_slot}
use Rattle.nr_pool.proofs.Spares.{spares_set}

module _ {T : Type 0} (E F : List T) (slots : List Slot) (used a b n i j : ℕ) (new_i new_j : Slot) (packed : IsPacked (length E) slots used) (within : i < length slots) (lies : LiesAt slots j b n) (last : b + n ≡ used)
    (a_is : (slot_at slots i).start ≡ a) (n_is : (slot_at slots i).len ≡ n) (some : 0 < n) (before : a + n ≢ used)
    (start_i : new_i.start ≡ b) (len_i : new_i.len ≡ n) (holders_i : new_i.holders ≡ (slot_at slots i).holders)
    (start_j : new_j.start ≡ a) (len_j : new_j.len ≡ n) (holders_j : new_j.holders ≡ (slot_at slots j).holders) (swapped : IsSwapped E F a b n) where
  abbrev mid : List Slot
  mid = set slots i new_i

  abbrev news : List Slot
  news = set mid j new_j

  other : j ≢ i
  other e = let same = ap (λ k. (slot_at slots k).start) e in let at = lies.start_is in absurd (before (omega arith))

  within_j : j < length mid
  within_j = let long = length-set slots i new_i in let w = lies.within in omega arith

  mid_j : slot_at mid j ≡ slot_at slots j
  mid_j = get_or-set_other slots i j new_i blank_slot other

  held_i : 0 < (slot_at slots i).holders
  held_i = elim (cases_lt 0 (slot_at slots i).holders) [
    | inl held ↦ held
    | inr none ↦ let empty = packed.empty i (omega arith) in absurd (omega arith)
  ]

  held_j : 0 < (slot_at slots j).holders
  held_j = elim (cases_lt 0 (slot_at slots j).holders) [
    | inl held ↦ held
    | inr none ↦ let empty = packed.empty j (omega arith) in let len = lies.len_is in absurd (omega arith)
  ]

  -- which slot stands at a number now
  pub record IsOne (x : ℕ) : Type 0 where
    pub is : x ≡ i
    pub now : slot_at news x ≡ new_i

  pub record IsOther (x : ℕ) : Type 0 where
    pub is : x ≡ j
    pub now : slot_at news x ≡ new_j

  pub record IsNeither (x : ℕ) : Type 0 where
    pub not_i : x ≢ i
    pub not_j : x ≢ j
    pub now : slot_at news x ≡ slot_at slots x

  at : (x : ℕ) → IsOne x ⊎ (IsOther x ⊎ IsNeither x)
  at x = elim (written_at mid j new_j within_j x) [
    | inl h ↦ inr (inl (record { is = h.0; now = h.1 }))
    | inr h ↦ elim (written_at slots i new_i within x) [
      | inl m ↦ inl (record { is = m.0; now = h.1 ∙ m.1 })
      | inr m ↦ inr (inr (record { not_i = m.0; not_j = h.0; now = h.1 ∙ m.1 }))
    ]
  ]

  -- the first of the two lies before the last
  first_before : a + n ≤ b
  first_before =
      let inside = packed.inside i (omega arith) in
      let at_j = lies.start_is in
      let len = lies.len_is in
      packed_before (packed.apart j i other (omega arith) (omega arith))
    where
      packed_before : ((slot_at slots i).start < (slot_at slots j).start + (slot_at slots j).len → (slot_at slots i).start + (slot_at slots i).len ≤ (slot_at slots j).start) → a + n ≤ b
      packed_before h = let at_j = lies.start_is in let len = lies.len_is in let inside = packed.inside i (omega arith) in let le = h (omega arith) in omega arith

  -- another text lies beside each of the two
  beside : (x m : ℕ) → IsNeither x → (slot_at slots x).start ≤ m → m < (slot_at slots x).start + (slot_at slots x).len → ((m < a) ⊎ (a + n ≤ m)) × ((m < b) ⊎ (b + n ≤ m))
  beside x m neither low high =
      let at_j = lies.start_is in
      let len = lies.len_is in (
        elim (cases_lt m a) [ inl less ↦ inl less | inr more ↦ inr (let past = packed.apart x i neither.not_i (omega arith) (omega arith) (omega arith) in omega arith) ],
        elim (cases_lt m b) [ inl less ↦ inl less | inr more ↦ inr (let past = packed.apart x j neither.not_j (omega arith) (omega arith) (omega arith) in omega arith) ],
      )

  now_packed : IsPacked (length F) news used
  now_packed =
      let long = swapped.same_length in
      let at_j = lies.start_is in
      let len = lies.len_is in
      let low = first_before in
      record {
        fits = let fits = packed.fits in omega arith;
        room = let room = packed.room in omega arith;
        filled =
            let one = sum_by-set (λ (s : Slot). s.len) slots i new_i blank_slot within in
            let two = sum_by-set (λ (s : Slot). s.len) mid j new_j blank_slot within_j in
            let same : (slot_at mid j).len ≡ (slot_at slots j).len = ap (λ (s : Slot). s.len) mid_j in
            let filled = packed.filled in
            omega arith;
        empty = λ x. elim (at x) [
          | inl h ↦ rw h.now (λ none. let held = held_i in absurd (omega arith))
          | inr g ↦ elim g [
            | inl h ↦ rw h.now (λ none. let held = held_j in absurd (omega arith))
            | inr h ↦ rw h.now (packed.empty x)
          ]
        ];
        inside = λ x. elim (at x) [
          | inl h ↦ rw h.now (λ _. omega arith)
          | inr g ↦ elim g [
            | inl h ↦ rw h.now (λ _. let inside = packed.inside i (omega arith) in omega arith)
            | inr h ↦ rw h.now (packed.inside x)
          ]
        ];
        apart = λ x y ne. elim (at x) [
          | inl h ↦ elim (at y) [
            | inl k ↦ absurd (ne (h.is ∙ sym k.is))
            | inr q ↦ elim q [
              | inl k ↦ rw (h.now, k.now) (λ _ _ _. omega arith)
              | inr k ↦ rw (h.now, k.now) (λ sx sy begins. let afterwards = packed.apart j y (λ e. k.not_j (sym e)) (omega arith) sy (omega arith) in omega arith)
            ]
          ]
          | inr g ↦ elim g [
            | inl h ↦ elim (at y) [
              | inl k ↦ rw (h.now, k.now) (λ sx sy begins. absurd (omega arith))
              | inr q ↦ elim q [
                | inl k ↦ absurd (ne (h.is ∙ sym k.is))
                | inr k ↦ rw (h.now, k.now) (λ sx sy begins. let afterwards = packed.apart i y (λ e. k.not_i (sym e)) (omega arith) sy (omega arith) in omega arith)
              ]
            ]
            | inr h ↦ elim (at y) [
              | inl k ↦ rw (h.now, k.now) (λ sx sy begins. let afterwards = packed.apart x j h.not_j sx (omega arith) (omega arith) in omega arith)
              | inr q ↦ elim q [
                | inl k ↦ rw (h.now, k.now) (λ sx sy begins. let afterwards = packed.apart x i h.not_i sx (omega arith) (omega arith) in omega arith)
                | inr k ↦ rw (h.now, k.now) (packed.apart x y ne)
              ]
            ]
          ]
        ];
      }

  now_same : (x : ℕ) → held_of F (slot_at news x) ≡ held_of E (slot_at slots x)
  now_same x =
      let long = swapped.same_length in
      let room = packed.room in
      let at_j = lies.start_is in
      let len = lies.len_is in
      let low = first_before in
      elim (at x) [
        | inl h ↦
            rw (h.now, h.is) (same_slot E F (slot_at slots i) new_i holders_i (rw (start_i, len_i, n_is, a_is) (same_part F E b a n (λ _. omega arith) (λ _. omega arith) (λ k d below. swapped.second k d below))))
        | inr g ↦ elim g [
          | inl h ↦
              rw (h.now, h.is) (same_slot E F (slot_at slots j) new_j holders_j (rw (start_j, len_j, len, at_j) (same_part F E a b n (λ _. omega arith) (λ _. omega arith) (λ k d below. swapped.first k d below))))
          | inr h ↦
              let s = slot_at slots x in
              rw h.now (same_slot E F s s refl (same_part F E s.start s.start s.len
              (λ some. let inside = packed.inside x some in omega arith)
              (λ some. let inside = packed.inside x some in omega arith)
              (λ k d below. let out = beside x (s.start + k) h (omega arith) (omega arith) in swapped.others (s.start + k) d out.0 out.1)))
        ]
      ]

  pub exchanged : IsExchanged E F slots news used i
  exchanged =
      let long_mid = length-set slots i new_i in
      let long_news = length-set mid j new_j in
      let here : slot_at news i ≡ new_i = get_or-set_other mid j i new_j blank_slot (λ e. other (sym e)) ∙ get_or-set_same slots i new_i blank_slot within in
      let held_mid : 0 < (slot_at mid j).holders = let same = ap (λ (s : Slot). s.holders) mid_j in let held = held_j in omega arith in
      record {
        packed = now_packed;
        last = let start = ap (λ (s : Slot). s.start) here in let len = ap (λ (s : Slot). s.len) here in omega arith;
        spares = λ count first h.
            spares_set mid j new_j count first within_j held_mid (let held = held_j in omega arith) (spares_set slots i new_i count first within held_i (let held = held_i in omega arith) h);
        same = ap₂ (λ (c : ℕ) (ts : List (Held _)). record { capacity = c; texts = ts }) swapped.same_length
            (same_map (held_of F) (held_of E) news slots blank_slot blank_slot (long_news ∙ long_mid) (λ k _. now_same k));
      }

-- What it does to the slots and the elements to move one text after all others.
use Rattle.std.proofs.Common.{◌≡◌, ◌≢◌, ℕ, ◌+◌, ◌-◌, ◌<◌, ◌≤◌, ◌⊎◌, min, ltb, leb, true, false, List, ◌++◌, length, map, take, drop, set, get_or, sum, refl, sym, ap, ap₂, ◌∙◌, inl, inr, arith, rules}
use Rattle.std.proofs.lemmas.List.{get_or-map, get_or_past, length-map, length-set, places, get_or_default, take_all, drop_all, append-nil}
use Rattle.std.proofs.lemmas.List.Edits.{map_over_more}
use Rattle.std.proofs.lemmas.List.Sums.{sum-map}
use Rattle.std.proofs.lemmas.Bool.{cases_lt, cases_Bool, cond-true, cond-false, and_parts, and_cases, ltb-true, ltb-false, leb-true, leb-false}
use borrow.Rule.Slice.PartMut.{put_mid}
use Rattle.nr_pool.specs.Texts.{Held}
use Rattle.nr_pool.specs.Slot.{blank_slot, slot_at, held_of, texts_of, is_after, shifted, IsPacked}
use Rattle.nr_pool.specs.Spares.{HasSpares}
use Rattle.nr_pool.specs.declared.slot.Slot.{Slot}
use Rattle.nr_pool.proofs.Places.{same_map, same_part, same_slot, written_at}
use Rattle.nr_pool.proofs.Spares.{spares_same}

-- t is s, n further down if it has elements and began at e or after
pub record IsMoved (e n : ℕ) (s t : Slot) : Type 0 where
  pub len : t.len ≡ s.len
  pub holders : t.holders ≡ s.holders
  pub nothing : s.len ≡ 0 → t.start ≡ s.start
  pub low : s.start < e → t.start ≡ s.start
  pub high : 0 < s.len → e ≤ s.start → t.start ≡ s.start - n

moved_by_shift : (e n : ℕ) (s : Slot) → IsMoved e n s (shifted e n s)
moved_by_shift e n s = elim (cases_Bool (is_after e s)) [
  | inl afterwards ↦
      let parts = and_parts (ltb 0 s.len) (leb e s.start) afterwards in
      let some = ltb-true 0 s.len parts.0 in
      let high = leb-true e s.start parts.1 in
      rw (cond-true (is_after e s) (record s { start = s.start - n }) s afterwards) record { len = refl; holders = refl; nothing = λ h. absurd (omega arith); low = λ h. absurd (omega arith); high = λ _ _. refl }
  | inr before ↦
      rw (cond-false (is_after e s) (record s { start = s.start - n }) s before) record {
        len = refl;
        holders = refl;
        nothing = λ _. refl;
        low = λ _. refl;
        high = λ some h. elim (and_cases (ltb 0 s.len) (leb e s.start) before) [
          | inl none ↦ let none' = ltb-false 0 s.len none in absurd (omega arith)
          | inr low ↦ let low' = leb-false e s.start low in absurd (omega arith)
        ];
      }
]

-- the slot of the text that goes to the end
record IsLast (n u : ℕ) (s t : Slot) : Type 0 where
  len : t.len ≡ n
  holders : t.holders ≡ s.holders
  start : t.start ≡ u - n

pub moved_at : (e n : ℕ) (slots : List Slot) (j : ℕ) → IsMoved e n (slot_at slots j) (slot_at (map (shifted e n) slots) j)
moved_at e n slots j = elim (cases_lt j (length slots)) [
  | inl below ↦ rw (get_or-map (shifted e n) slots j blank_slot blank_slot below) (moved_by_shift e n (slot_at slots j))
  | inr past ↦
      rw (get_or_past slots j blank_slot past, get_or_past (map (shifted e n) slots) j blank_slot (omega (arith, length-map slots (shifted e n)))) record { len = refl; holders = refl; nothing = λ _. refl; low = λ _. refl; high = λ _ _. omega arith }
]

-- what stands at each number once the text at i has gone to the end
rotated_at : (u : ℕ) (slots : List Slot) (i : ℕ) (new : Slot) → (n e : ℕ) → i < length slots → IsLast n u (slot_at slots i) new → (j : ℕ)
    → ((j ≡ i) × IsLast n u (slot_at slots i) (slot_at (set (map (shifted e n) slots) i new) j)) ⊎ ((j ≢ i) × IsMoved e n (slot_at slots j) (slot_at (set (map (shifted e n) slots) i new) j))
rotated_at u slots i new n e within last j = elim (written_at (map (shifted e n) slots) i new (omega (arith, length-map slots (shifted e n))) j) [
  | inl h ↦ inl (h.0, rw h.1 last)
  | inr h ↦ inr (h.0, rw h.1 (moved_at e n slots j))
]

-- a text that stays in its part lies before the one that doesn't, or after it and then goes n down
pub record IsBefore (e n u : ℕ) (moving s t : Slot) : Type 0 where
  pub len : t.len ≡ s.len
  pub start : t.start ≡ s.start
  pub below : s.start + s.len ≤ moving.start

pub record IsAfter (e n u : ℕ) (moving s t : Slot) : Type 0 where
  pub len : t.len ≡ s.len
  pub start : t.start + n ≡ s.start
  pub above : e ≤ s.start
  pub inside : s.start + s.len ≤ u

pub side_of : (capacity u : ℕ) (slots : List Slot) (i : ℕ) (n e : ℕ) → IsPacked capacity slots u → n ≡ (slot_at slots i).len → 0 < n → e ≡ (slot_at slots i).start + n
    → (j : ℕ) (t : Slot) → j ≢ i → IsMoved e n (slot_at slots j) t → 0 < t.len → IsBefore e n u (slot_at slots i) (slot_at slots j) t ⊎ IsAfter e n u (slot_at slots i) (slot_at slots j) t
side_of capacity u slots i n e packed n_is nonempty e_is j t other moved some =
    let len = moved.len in
    elim (cases_lt (slot_at slots j).start e) [
      | inl low ↦ inl record { len = moved.len; start = moved.low low; below = packed.apart i j (λ q. other (sym q)) (omega arith) (omega arith) (omega arith) }
      | inr high ↦ inr record { len = moved.len; start = let start = moved.high (omega arith) high in omega arith; above = high; inside = packed.inside j (omega arith) }
    ]

-- two others lie apart as before
pub apart_moved : (capacity u : ℕ) (slots : List Slot) (i : ℕ) (n e : ℕ) → IsPacked capacity slots u → n ≡ (slot_at slots i).len → 0 < n → e ≡ (slot_at slots i).start + n
    → (b c : ℕ) (s t : Slot) → b ≢ c → b ≢ i → c ≢ i → IsMoved e n (slot_at slots b) s → IsMoved e n (slot_at slots c) t → 0 < s.len → 0 < t.len → t.start < s.start + s.len
    → t.start + t.len ≤ s.start
apart_moved capacity u slots i n e packed n_is nonempty e_is b c s t ne other_b other_c moved_b moved_c some_b some_c begins =
    let side = side_of capacity u slots i n e packed n_is nonempty e_is in
    let lb = moved_b.len in
    let lc = moved_c.len in
    let old = packed.apart b c ne (omega arith) (omega arith) in
    elim (side b s other_b moved_b some_b) [
      | inl x ↦ let m = x.start in let w = x.below in elim (side c t other_c moved_c some_c) [
        | inl y ↦ let o = y.start in let v = y.below in let q = old (omega arith) in omega arith
        | inr y ↦ let o = y.start in let v = y.above in absurd (omega arith)
      ]
      | inr x ↦ let m = x.start in let w = x.above in elim (side c t other_c moved_c some_c) [
        | inl y ↦ let o = y.start in let v = y.below in omega arith
        | inr y ↦ let o = y.start in let v = y.above in let q = old (omega arith) in omega arith
      ]
    ]

-- the slots still lie apart and fill the same part
packed_by_shift : (capacity u : ℕ) (slots : List Slot) (i : ℕ) (new : Slot) (n e : ℕ) → IsPacked capacity slots u → i < length slots → n ≡ (slot_at slots i).len → 0 < n → e ≡ (slot_at slots i).start + n
    → IsLast n u (slot_at slots i) new → IsPacked capacity (set (map (shifted e n) slots) i new) u
packed_by_shift capacity u slots i new n e packed within n_is nonempty e_is last =
    let s = slot_at slots i in
    let news = set (map (shifted e n) slots) i new in
    let at = rotated_at u slots i new n e within last in
    let here = packed.inside i (omega arith) in
    let side = side_of capacity u slots i n e packed n_is nonempty e_is in
    let lens : map (λ (t : Slot). t.len) news ≡ map (λ (t : Slot). t.len) slots =
    same_map (λ (t : Slot). t.len) (λ (t : Slot). t.len) news slots blank_slot blank_slot (length-set (map (shifted e n) slots) i new ∙ length-map slots (shifted e n)) (λ k below. elim (at k) [
      | inl h ↦ h.1.len ∙ n_is ∙ ap (λ m. (slot_at slots m).len) (sym h.0)
      | inr h ↦ h.1.len
    ]) in
    record {
      fits = packed.fits;
      room = packed.room;
      filled = sym (sum-map (λ (t : Slot). t.len) news) ∙ ap sum lens ∙ sum-map (λ (t : Slot). t.len) slots ∙ packed.filled;
      empty = λ j closed. elim (at j) [
        | inl h ↦ let none = packed.empty i (sym h.1.holders ∙ closed) in absurd (omega arith)
        | inr h ↦ h.1.len ∙ packed.empty j (sym h.1.holders ∙ closed)
      ];
      inside = λ j some. elim (at j) [
        | inl h ↦ let t = h.1.start in let l = h.1.len in omega arith
        | inr h ↦ elim (side j (slot_at news j) h.0 h.1 some) [
          | inl before ↦ let l = before.len in let t = before.start in let b = before.below in omega arith
          | inr afterwards ↦ let l = afterwards.len in let t = afterwards.start in let b = afterwards.inside in omega arith
        ]
      ];
      apart = λ b c ne some_b some_c begins. elim (at b) [
        | inl h ↦ elim (at c) [
          | inl k ↦ absurd (ne (h.0 ∙ sym k.0))
          | inr k ↦ elim (side c (slot_at news c) k.0 k.1 some_c) [
            | inl before ↦ let t = h.1.start in let l = before.len in let m = before.start in let w = before.below in omega arith
            | inr afterwards ↦ let t = h.1.start in let l = afterwards.len in let m = afterwards.start in let w = afterwards.inside in omega arith
          ]
        ]
        | inr h ↦ elim (at c) [
          | inl k ↦ elim (side b (slot_at news b) h.0 h.1 some_b) [
            | inl before ↦ let t = k.1.start in let l = before.len in let m = before.start in let w = before.below in absurd (omega arith)
            | inr afterwards ↦ let t = k.1.start in let l = afterwards.len in let m = afterwards.start in let w = afterwards.inside in absurd (omega arith)
          ]
          | inr k ↦ apart_moved capacity u slots i n e packed n_is nonempty e_is b c (slot_at news b) (slot_at news c) ne h.0 k.0 h.1 k.1 some_b some_c begins
        ]
      ];
    }

-- the elements once those of the part from a to u have gone n to the left, and the first n of them to its end
module _ {T : Type 0} (E R : List T) (a n u : ℕ) (rotated : R ≡ drop n (take (u - a) (drop a E)) ++ take n (take (u - a) (drop a E))) (moves : a + n ≤ u) (fits : u ≤ length E) where
  pub length_rotated : length (put_mid a (u - a) E R) ≡ length E
  length_rotated = rw rotated (search (rules, places))

  pub rotated_before : (k : ℕ) (d : T) → k < a → get_or (put_mid a (u - a) E R) k d ≡ get_or E k d
  rotated_before k d below = search (rules, places)

  pub rotated_within : (k : ℕ) (d : T) → a ≤ k → k + n < u → get_or (put_mid a (u - a) E R) k d ≡ get_or E (k + n) d
  rotated_within k d above below = rw rotated (search (rules, places))

  pub rotated_last : (k : ℕ) (d : T) → k < n → get_or (put_mid a (u - a) E R) (u - n + k) d ≡ get_or E (a + k) d
  rotated_last k d below = rw rotated (grind (arith, places))

-- each text is what it was
texts_by_shift : {T : Type 0} (E R : List T) (u : ℕ) (slots : List Slot) (i : ℕ) (new : Slot) (a n e : ℕ) → IsPacked (length E) slots u → i < length slots → a ≡ (slot_at slots i).start → n ≡ (slot_at slots i).len → 0 < n → e ≡ (slot_at slots i).start + n
    → R ≡ drop n (take (u - a) (drop a E)) ++ take n (take (u - a) (drop a E)) → IsLast n u (slot_at slots i) new
    → texts_of (put_mid a (u - a) E R) (set (map (shifted e n) slots) i new) ≡ texts_of E slots
texts_by_shift E R u slots i new a n e packed within a_is n_is nonempty e_is rotated last =
    let F = put_mid a (u - a) E R in
    let s = slot_at slots i in
    let news = set (map (shifted e n) slots) i new in
    let at = rotated_at u slots i new n e within last in
    let here = packed.inside i (omega arith) in
    let room = packed.room in
    let length_F = length_rotated E R a n u rotated (omega arith) (omega arith) in
    let side = side_of (length E) u slots i n e packed n_is nonempty e_is in
    let each : (j : ℕ) → held_of F (slot_at news j) ≡ held_of E (slot_at slots j) =
    λ j. let t = slot_at news j in let o = slot_at slots j in elim (at j) [
      | inl h ↦
          let start = h.1.start in
          let len = h.1.len in
          let i_slot : o ≡ s = ap (slot_at slots) h.0 in
          rw i_slot (same_slot E F s t h.1.holders (ap (λ m. take m (drop t.start F)) (len ∙ n_is) ∙ same_part F E t.start s.start s.len (λ _. omega arith) (λ _. omega arith) (λ k d below.
          ap (λ m. get_or F (m + k) d) start ∙ rotated_last E R a n u rotated (omega arith) (omega arith) k d (omega arith) ∙ ap (λ m. get_or E (m + k) d) a_is)))
      | inr h ↦
          let len = h.1.len in
          same_slot E F o t h.1.holders (elim (cases_lt 0 t.len) [
            | inl some ↦ elim (side j t h.0 h.1 some) [
              | inl before ↦
                  let start = before.start in
                  let below = before.below in
                  rw (len, start) (same_part F E o.start o.start o.len (λ _. omega arith) (λ _. omega arith) (λ k d in_len.
                  rotated_before E R a n u rotated (omega arith) (omega arith) (o.start + k) d (omega arith)))
              | inr afterwards ↦
                  let start = afterwards.start in
                  let above = afterwards.above in
                  let inside = afterwards.inside in
                  rw len (same_part F E t.start o.start o.len (λ _. omega arith) (λ _. omega arith) (λ k d in_len.
                  rotated_within E R a n u rotated (omega arith) (omega arith) (t.start + k) d (omega arith) (omega arith) ∙ ap (λ m. get_or E m d) (omega arith)))
            ]
            | inr none ↦
                let no_t : t.len ≡ 0 = omega arith in
                let no_o : o.len ≡ 0 = omega arith in
                rw (no_t, no_o) refl
          ])
    ] in
    ap₂ (λ (c : ℕ) (ts : List (Held _)). record { capacity = c; texts = ts }) length_F
    (same_map (held_of F) (held_of E) news slots blank_slot blank_slot (length-set (map (shifted e n) slots) i new ∙ length-map slots (shifted e n)) (λ k _. each k))

-- both, as a function that moves the elements, then the slots, and then writes the slot of the text
pub record IsBroughtLast {T : Type 0} (E F : List T) (slots news : List Slot) (u : ℕ) : Type 0 where
  pub packed : IsPacked (length F) news u
  pub spares : (count first : ℕ) → HasSpares slots count first → HasSpares news count first
  pub same : texts_of F news ≡ texts_of E slots

pub brought_last : {T : Type 0} (E R : List T) (u : ℕ) (slots shifts : List Slot) (i : ℕ) (new : Slot) (a n e : ℕ) → IsPacked (length E) slots u → i < length slots → 0 < (slot_at slots i).holders
    → a ≡ (slot_at slots i).start → n ≡ (slot_at slots i).len → 0 < n → e ≡ (slot_at slots i).start + n
    → R ≡ drop n (take (u - a) (drop a E)) ++ take n (take (u - a) (drop a E)) → shifts ≡ map (shifted e n) slots → new ≡ record { start = u - n; len = (slot_at shifts i).len; holders = (slot_at shifts i).holders }
    → IsBroughtLast E (put_mid a (u - a) E R) slots (set shifts i new) u
brought_last E R u slots shifts i new a n e packed within held a_is n_is nonempty e_is rotated shifts_is new_is =
    let moved = moved_at e n slots i in
    let last : IsLast n u (slot_at slots i) new = rw (new_is, shifts_is) record { len = moved.len ∙ sym n_is; holders = moved.holders; start = refl } in
    let here = packed.inside i (omega arith) in
    let room = packed.room in
    rw shifts_is record {
      packed = rw (length_rotated E R a n u rotated (omega arith) (omega arith)) (packed_by_shift (length E) u slots i new n e packed within n_is nonempty e_is last);
      spares = λ count first. spares_same slots (set (map (shifted e n) slots) i new) count first (length-set (map (shifted e n) slots) i new ∙ length-map slots (shifted e n)) (λ j. elim (rotated_at u slots i new n e within last j) [
        | inl h ↦ rw h.0 record { taken = ap (λ m. min m 1) (rw h.0 at h.1.holders); next = λ none. absurd (omega arith) }
        | inr h ↦ record { taken = ap (λ m. min m 1) h.1.holders; next = λ none. h.1.nothing (packed.empty j none) }
      ]);
      same = texts_by_shift E R u slots i new a n e packed within a_is n_is nonempty e_is rotated last;
    }

-- the loop that moves the slots, at its end
pub all_shifted : (e n k : ℕ) (slots now : List Slot) → now ≡ map (shifted e n) (take k slots) ++ drop k slots → length slots ≤ k → now ≡ map (shifted e n) slots
all_shifted e n k slots now is all =
    is ∙ ap₂ (λ prefix back. map (shifted e n) prefix ++ back) (take_all k slots all) (drop_all k slots all) ∙ append-nil (map (shifted e n) slots)

-- the same loop, one slot further
shift_step : (e n k : ℕ) (slots now : List Slot) → k < length slots → length now ≡ length slots → now ≡ map (shifted e n) (take k slots) ++ drop k slots
    → set now k (shifted e n (slot_at now k)) ≡ map (shifted e n) (take (k + 1) slots) ++ drop (k + 1) slots
shift_step e n k slots now within lengths is =
    map_over_more (shifted e n) slots now k (slot_at now k) within is (get_or_default now k blank_slot (slot_at now k) (omega arith))

pub shift_step_moves : (e n k : ℕ) (slots now after : List Slot) → k < length slots → length now ≡ length slots → now ≡ map (shifted e n) (take k slots) ++ drop k slots
    → is_after e (slot_at now k) ≡ true → after ≡ set now k (record (slot_at now k) { start = (slot_at now k).start - n }) → after ≡ map (shifted e n) (take (k + 1) slots) ++ drop (k + 1) slots
shift_step_moves e n k slots now after within lengths is afterwards written =
    let o = slot_at now k in
    written ∙ ap (set now k) (sym (cond-true (is_after e o) (record o { start = o.start - n }) o afterwards)) ∙ shift_step e n k slots now within lengths is

pub shift_step_keeps : (e n k : ℕ) (slots now after : List Slot) → k < length slots → length now ≡ length slots → now ≡ map (shifted e n) (take k slots) ++ drop k slots
    → is_after e (slot_at now k) ≡ false → after ≡ set now k (slot_at now k) → after ≡ map (shifted e n) (take (k + 1) slots) ++ drop (k + 1) slots
shift_step_keeps e n k slots now after within lengths is before written =
    let o = slot_at now k in
    written ∙ ap (set now k) (sym (cond-false (is_after e o) (record o { start = o.start - n }) o before)) ∙ shift_step e n k slots now within lengths is

-- What it does to the slots and the elements to remove one text.
use Rattle.std.proofs.Common.{◌≡◌, ◌≢◌, ℕ, ◌+◌, ◌-◌, ◌<◌, ◌≤◌, ◌⊎◌, List, length, map, set, get_or, sum, sum_by, min, refl, sym, ap, ◌∙◌, subst, inl, inr, arith}
use Rattle.std.specs.List.{SameBelow, CopiedTo}
use Rattle.std.proofs.lemmas.List.{length-map, length-set, get_or-set_same, map-set}
use Rattle.std.proofs.lemmas.List.Sums.{sum-map, sum_by-set}
use Rattle.std.proofs.lemmas.Bool.{cases_lt}
use Rattle.nr_pool.specs.Texts.{Held, no_text, IsOpen, without_text}
use Rattle.nr_pool.specs.Slot.{blank_slot, slot_at, held_of, texts_of, shifted, IsPacked}
use Rattle.nr_pool.specs.Exchange.{IsExchanged}
use Rattle.nr_pool.specs.Removal.{spare_before, IsRemoved}
use Rattle.nr_pool.specs.declared.slot.Slot.{Slot}
use Rattle.nr_pool.proofs.Places.{same_map, same_part, same_slot, written_at, entry_is, found, rewritten, removed, set_last, set_same}
use Rattle.nr_pool.proofs.Rotation.{IsMoved, moved_at, side_of, apart_moved}
use Rattle.nr_pool.proofs.Spares.{spares_close, spares_same}

-- ---- a gap of n elements is closed after the slot at i, which has none then

module _ (capacity u : ℕ) (slots : List Slot) (i n e : ℕ) (new : Slot) (packed : IsPacked capacity slots u) (within : i < length slots) (n_is : n ≡ (slot_at slots i).len) (some : 0 < n)
    (e_is : e ≡ (slot_at slots i).start + n) (none : new.len ≡ 0) where
  -- the slots then
  abbrev closed : List Slot
  closed = set (map (shifted e n) slots) i new

  -- what stands at each number
  closed_at : (j : ℕ) → ((j ≡ i) × (slot_at closed j ≡ new)) ⊎ ((j ≢ i) × IsMoved e n (slot_at slots j) (slot_at closed j))
  closed_at j = elim (written_at (map (shifted e n) slots) i new (omega (arith, length-map slots (shifted e n))) j) [
    | inl h ↦ inl h
    | inr h ↦ inr (h.0, rw h.1 (moved_at e n slots j))
  ]

  -- they fill n elements less
  filled_closed : sum_by (λ (s : Slot). s.len) closed ≡ u - n
  filled_closed =
      let shifts = map (shifted e n) slots in
      let len_of : Slot → ℕ = λ (s : Slot). s.len in
      let lens : map len_of shifts ≡ map len_of slots = same_map len_of len_of shifts slots blank_slot blank_slot (length-map slots (shifted e n)) (λ k _. (moved_at e n slots k).len) in
      let all : sum_by len_of shifts ≡ u = sym (sum-map len_of shifts) ∙ ap sum lens ∙ sum-map len_of slots ∙ packed.filled in
      let taken = sum_by-set len_of shifts i new blank_slot (omega (arith, length-map slots (shifted e n))) in
      let here = (moved_at e n slots i).len in
      omega arith

  -- and lie apart
  pub packed_closed : IsPacked capacity closed (u - n)
  packed_closed =
      let here = packed.inside i (omega arith) in
      let room = packed.room in
      let side = side_of capacity u slots i n e packed n_is some e_is in
      record {
        fits = packed.fits;
        room = omega arith;
        filled = filled_closed;
        empty = λ j unheld. elim (closed_at j) [
          | inl h ↦ ap (λ (s : Slot). s.len) h.1 ∙ none
          | inr h ↦ h.1.len ∙ packed.empty j (sym h.1.holders ∙ unheld)
        ];
        inside = λ j long. elim (closed_at j) [
          | inl h ↦ let len = ap (λ (s : Slot). s.len) h.1 in absurd (omega arith)
          | inr h ↦ elim (side j (slot_at closed j) h.0 h.1 long) [
            | inl before ↦ let l = before.len in let t = before.start in let b = before.below in omega arith
            | inr afterwards ↦ let l = afterwards.len in let t = afterwards.start in let b = afterwards.inside in omega arith
          ]
        ];
        apart = λ b c ne some_b some_c begins. elim (closed_at b) [
          | inl h ↦ let len = ap (λ (s : Slot). s.len) h.1 in absurd (omega arith)
          | inr h ↦ elim (closed_at c) [
            | inl k ↦ let len = ap (λ (s : Slot). s.len) k.1 in absurd (omega arith)
            | inr k ↦ apart_moved capacity u slots i n e packed n_is some e_is b c (slot_at closed b) (slot_at closed c) ne h.0 k.0 h.1 k.1 some_b some_c begins
          ]
        ];
      }

-- what lies after the gap moved to its beginning
pub record IsClosed {T : Type 0} (E F : List T) (a n u : ℕ) : Type 0 where
  pub same_length : length F ≡ length E
  pub before : SameBelow E F a
  pub afterwards : CopiedTo E F (a + n) a (u - (a + n))

-- ---- each other text is what it was

module _ {T : Type 0} (E F : List T) (u : ℕ) (slots : List Slot) (i n e : ℕ) (new : Slot) (packed : IsPacked (length E) slots u) (within : i < length slots) (n_is : n ≡ (slot_at slots i).len) (some : 0 < n)
    (e_is : e ≡ (slot_at slots i).start + n) (none : new.len ≡ 0) (unheld : new.holders ≡ 0) (moved : IsClosed E F (slot_at slots i).start n u) where
  -- the slots then
  abbrev news : List Slot
  news = closed (length E) u slots i n e new packed within n_is some e_is none

  -- what the other slots stand for
  others : (j : ℕ) → j ≢ i → held_of F (slot_at news j) ≡ held_of E (slot_at slots j)
  others j other =
      let s = slot_at slots j in
      let t = slot_at news j in
      let here = packed.inside i (omega arith) in
      let room = packed.room in
      let lengths = moved.same_length in
      elim (closed_at (length E) u slots i n e new packed within n_is some e_is none j) [
        | inl h ↦ absurd (other h.0)
        | inr h ↦
            let len = h.1.len in
            same_slot E F s t h.1.holders (elim (cases_lt 0 t.len) [
              | inl long ↦ elim (side_of (length E) u slots i n e packed n_is some e_is j t other h.1 long) [
                | inl before ↦
                    let start = before.start in
                    let below = before.below in
                    rw (len, start) (same_part F E s.start s.start s.len (λ _. omega arith) (λ _. omega arith) (λ k d in_len. moved.before (s.start + k) d (omega arith)))
                | inr afterwards ↦
                    let start = afterwards.start in
                    let above = afterwards.above in
                    let inside = afterwards.inside in
                    rw len (same_part F E t.start s.start s.len (λ _. omega arith) (λ _. omega arith) (λ k d in_len.
                    moved.afterwards (t.start + k) d (omega arith) (omega arith) ∙ ap (λ m. get_or E m d) (omega arith)))
              ]
              | inr short ↦
                  let no_t : t.len ≡ 0 = omega arith in
                  let no_s : s.len ≡ 0 = omega arith in
                  rw (no_t, no_s) refl
            ])
      ]

  -- the text at i is none now
  pub texts_closed : texts_of F news ≡ without_text (texts_of E slots) i
  texts_closed =
      let here : held_of F (slot_at news i) ≡ no_text =
      ap (held_of F) (get_or-set_same (map (shifted e n) slots) i new blank_slot (omega (arith, length-map slots (shifted e n)))) ∙ rw (none, unheld) refl in
      rewritten E F slots news (texts_of E slots) i i no_text refl refl moved.same_length (length-set (map (shifted e n) slots) i new ∙ length-map slots (shifted e n)) here others

-- ---- the text is removed

module _ {T : Type 0} (E : List T) (slots : List Slot) (u i next : ℕ) (packed : IsPacked (length E) slots u) (within : i < length slots) (held : 0 < (slot_at slots i).holders) where
  -- where others lie after it, which move
  pub gap_removed : (F : List T) (news : List Slot) → 0 < (slot_at slots i).len → IsClosed E F (slot_at slots i).start (slot_at slots i).len u
      → news ≡ map (shifted ((slot_at slots i).start + (slot_at slots i).len) (slot_at slots i).len) (set slots i (spare_before next)) → IsRemoved E F slots news u i next
  gap_removed F news some closing news_is =
      let new = spare_before next in
      let n = (slot_at slots i).len in
      let e = (slot_at slots i).start + n in
      let emptied = set slots i new in
      let short : (j : ℕ) → (slot_at emptied j).holders ≡ 0 → (slot_at emptied j).len ≡ 0 = λ j. elim (written_at slots i new within j) [
        | inl h ↦ rw h.1 (λ _. refl)
        | inr h ↦ rw h.1 (packed.empty j)
      ] in
      rw news_is record {
        packed = rw (closing.same_length, map-set (shifted e n) slots i new) (packed_closed (length E) u slots i n e new packed within refl some refl refl);
        spares = λ count spares.
            spares_same emptied (map (shifted e n) emptied) (count + 1) i (length-map emptied (shifted e n)) (λ j.
            let moved = moved_at e n emptied j in
            record { taken = ap (λ h. min h 1) moved.holders; next = λ none. moved.nothing (short j none) }) (spares_close slots count next i new spares within held refl refl);
        texts = rw (map-set (shifted e n) slots i new) (texts_closed E F u slots i n e new packed within refl some refl refl refl closing);
      }

  -- where none do, or it has no elements
  pub last_removed : ((slot_at slots i).len ≡ 0) ⊎ (u ≤ (slot_at slots i).start + (slot_at slots i).len) → IsRemoved E E slots (set slots i (spare_before next)) u i next
  last_removed last =
      let new = spare_before next in
      let n = (slot_at slots i).len in
      let room = packed.room in
      record {
        packed = elim (cases_lt 0 n) [
          | inl some ↦
              let inside = packed.inside i some in
              let afterwards : u ≤ (slot_at slots i).start + n = elim last [ inl none ↦ absurd (omega arith) | inr h ↦ h ] in
              set_last (length E) u slots i new (u - n) packed within (omega arith) (omega arith) (omega arith) (λ long. absurd (omega arith)) (λ _. refl)
          | inr none ↦
              let nothing : u ≡ u - n = omega arith in
              subst (λ m. IsPacked (length E) (set slots i new) m) nothing (set_same (length E) u slots i new packed within (omega arith) (λ long. absurd (omega arith)) (λ _. refl))
        ];
        spares = λ count spares. spares_close slots count next i new spares within held refl refl;
        texts = removed E slots (texts_of E slots) i i new refl refl refl refl;
      }

-- where it has changed places with the text that lay last
pub exchanged_removed : {T : Type 0} (E F : List T) (slots mid : List Slot) (u i next : ℕ) → IsPacked (length E) slots u → 0 < (slot_at slots i).holders → IsExchanged E F slots mid u i
    → IsRemoved E F slots (set mid i (spare_before next)) u i next
exchanged_removed E F slots mid u i next packed held exchanged =
    let p = texts_of E slots in
    let holders_is = ap (λ (t : Held _). t.holders) (entry_is E slots i) in
    let is_open : IsOpen p i = omega arith in
    let old = found E slots u p i i packed refl refl is_open in
    let now = found F mid u p i i exchanged.packed exchanged.same refl is_open in
    let last = exchanged.last in
    let gone = last_removed F mid u i next exchanged.packed now.within now.held (inr (omega arith)) in
    record {
      packed = subst (λ n. IsPacked (length F) (set mid i (spare_before next)) (u - n)) (sym now.len_is ∙ old.len_is) gone.packed;
      spares = λ count spares. gone.spares count (exchanged.spares count next spares);
      texts = gone.texts ∙ ap (λ q. without_text q i) exchanged.same;
    }

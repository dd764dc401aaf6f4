-- What holds of the texts at the beginning of a pool's room holds of the pool.
use Rattle.std.proofs.Common.{◌≡◌, ℕ, zero, suc, ◌+◌, ◌-◌, ◌<◌, ◌≤◌, ◌⊎◌, List, [], ◌∷◌, ◌++◌, length, take, drop, map, set, get_or, slice_get, Some, replicate, All, sum_by, ◌^◌, refl, sym, ap, ◌∙◌, inl, inr, subst, append_assoc, length-drop, arith}
use Rattle.std.proofs.lemmas.List.{length-append, length-map, length-set, map-append, set-append_left, replicate-append-replicate, get_or_append_left, append-nil, take_at, length-take-le}
use Rattle.std.proofs.lemmas.List.Sums.{sum_by-append}
use Rattle.std.proofs.lemmas.List.Folds.{sum_by-replicate}
use Rattle.std.proofs.lemmas.Option.{slice_get-get_or, get_or_from_slice_get, slice_get_within}
use Rattle.nr_pool.specs.Texts.{Held, Texts, no_text, entry, text, holders, IsOpen, used, with_entry, with_text, with_holders}
use Rattle.nr_pool.specs.Slot.{blank_slot, slot_at, held_of, texts_of, IsPacked}
use Rattle.nr_pool.specs.Rooms.{with_room, texts_within, written, IsKept}
use borrow.Rule.Slice.PartMut.{put_mid}
use Rattle.nr_pool.specs.declared.slot.Slot.{Slot}
use Rattle.nr_pool.proofs.Places.{same_map, same_part, same_slot, used_is, IsExtended, part_more}

-- what stands after a list by default changes none of its elements
get_or_padded : {X : Type 0} (xs : List X) (k i : ℕ) (d : X) → get_or (xs ++ replicate k d) i d ≡ get_or xs i d
get_or_padded [] zero i d = refl
get_or_padded [] (suc k) zero d = refl
get_or_padded [] (suc k) (suc i) d = get_or_padded [] k i d
get_or_padded (x ∷ xs) k zero d = refl
get_or_padded (x ∷ xs) k (suc i) d = get_or_padded xs k i d

-- each number has what it has without the room
pub entry-with_room : {T : Type 0} (c m : ℕ) (q : Texts T) (id : ℕ) → entry (with_room c m q) id ≡ entry q id
entry-with_room c m q id = get_or_padded q.texts (m - length q.texts) id no_text

pub used-with_room : {T : Type 0} (c m : ℕ) (q : Texts T) → used (with_room c m q) ≡ used q
used-with_room {T = T} c m q =
    let afterwards : List (Held T) = replicate (m - length q.texts) no_text in
    let none : sum_by (λ (t : Held T). length t.elements) afterwards ≡ 0 = sum_by-replicate (λ (t : Held T). length t.elements) (m - length q.texts) no_text ∙ omega arith in
    sum_by-append (λ (t : Held T). length t.elements) q.texts afterwards ∙ ap (λ n. used q + n) none ∙ omega arith

with_entry-with_room : {T : Type 0} (c m : ℕ) (q : Texts T) (id : ℕ) (t : Held T) → id < length q.texts → with_room c m (with_entry q id t) ≡ with_entry (with_room c m q) id t
with_entry-with_room c m q id t within =
    ap (λ (ts : List (Held _)). record { capacity = c; texts = ts })
    (ap (λ n. set q.texts id t ++ replicate (m - n) no_text) (length-set q.texts id t) ∙ sym (set-append_left q.texts (replicate (m - length q.texts) no_text) id t within))

module _ {T : Type 0} (c m : ℕ) (p q : Texts T) (view : with_room c m q ≡ p) where
  -- each number has the same in the one as in the other
  pub same_entry : (id : ℕ) → entry p id ≡ entry q id
  same_entry id = ap (λ (s : Texts _). entry s id) (sym view) ∙ entry-with_room c m q id

  pub open_in : (id : ℕ) → IsOpen p id → IsOpen q id
  open_in id is_open = let same = ap (λ (t : Held _). t.holders) (same_entry id) in omega arith

  pub same_used : used p ≡ used q
  same_used = ap used (sym view) ∙ used-with_room c m q

  -- and one is written as the other
  pub lifted : (r : Texts T) (id : ℕ) (t : Held T) → id < length q.texts → r ≡ with_entry q id t → with_room c m r ≡ with_entry p id t
  lifted r id t within is = ap (with_room c m) is ∙ with_entry-with_room c m q id t within ∙ ap (λ (s : Texts _). with_entry s id t) view

  pub lifted_text : (r : Texts T) (id : ℕ) (f : List T → List T) → id < length q.texts → r ≡ with_text q id (f (text q id)) → with_room c m r ≡ with_text p id (f (text p id))
  lifted_text r id f within is =
      lifted r id (record { elements = f (text q id); holders = holders q id }) within is
      ∙ ap (λ (t : Held _). with_entry p id (record { elements = f t.elements; holders = t.holders })) (sym (same_entry id))

  pub lifted_holders : (r : Texts T) (id : ℕ) (f : ℕ → ℕ) → id < length q.texts → r ≡ with_holders q id (f (holders q id)) → with_room c m r ≡ with_holders p id (f (holders p id))
  lifted_holders r id f within is =
      lifted r id (record { elements = text q id; holders = f (holders q id) }) within is
      ∙ ap (λ (t : Held _). with_entry p id (record { elements = t.elements; holders = f t.holders })) (sym (same_entry id))

-- ---- elements after those of all texts

pub packed_within : (c d n : ℕ) (slots : List Slot) → c ≤ d → d < 2 ^ 32 → IsPacked c slots n → IsPacked d slots n
packed_within c d n slots more fits packed = record {
  fits = fits;
  room = let room = packed.room in omega arith;
  filled = packed.filled;
  empty = packed.empty;
  inside = packed.inside;
  apart = packed.apart;
}

-- more of them change no text
pub texts_lengthened : {T : Type 0} (E more : List T) (slots : List Slot) (n c m : ℕ) → IsPacked (length E) slots n → texts_within c m (E ++ more) slots ≡ texts_within c m E slots
texts_lengthened E more slots n c m packed =
    let long = length-append E more in
    let room = packed.room in
    ap (λ (ts : List (Held _)). record { capacity = c; texts = ts ++ replicate (m - length ts) no_text })
    (same_map (held_of (E ++ more)) (held_of E) slots slots blank_slot blank_slot refl (λ k _.
    let s = slot_at slots k in
    same_slot E (E ++ more) s s refl (same_part (E ++ more) E s.start s.start s.len
    (λ some. let inside = packed.inside k some in omega arith)
    (λ some. let inside = packed.inside k some in omega arith)
    (λ j d below. let inside = packed.inside k (omega arith) in get_or_append_left E more d (s.start + j) (omega arith)))))

-- the elements were made more
pub record IsLonger {T : Type 0} (F : List T) (slots : List Slot) (n c m : ℕ) (p : Texts T) : Type 0 where
  pub packed : IsPacked (length F) slots n
  pub view : texts_within c m F slots ≡ p

pub longer : {T : Type 0} (E F more : List T) (slots : List Slot) (n count first c m : ℕ) (p : Texts T) → IsKept E slots n count first c m → texts_within c m E slots ≡ p → F ≡ E ++ more → length F ≤ c → IsLonger F slots n c m p
longer E F more slots n count first c m p kept view is within =
    let long : length F ≡ length E + length more = ap length is ∙ length-append E more in
    record {
      packed = packed_within (length E) (length F) n slots (omega arith) (omega (arith, kept.elements_fit)) kept.packed;
      view = ap (λ xs. texts_within c m xs slots) is ∙ texts_lengthened E more slots n c m kept.packed ∙ view;
    }

-- ---- a slot more, without a text

-- it stands for what was there
pub texts_spared : {T : Type 0} (E : List T) (slots : List Slot) (c m : ℕ) → length slots < m → texts_within c m E (slots ++ blank_slot ∷ []) ≡ texts_within c m E slots
texts_spared E slots c m room =
    let ts = map (held_of E) slots in
    let long : length ts ≡ length slots = length-map slots (held_of E) in
    let k = m - (length slots + 1) in
    let afterwards : length (ts ++ no_text ∷ []) ≡ length slots + 1 = omega (arith, length-append ts (no_text ∷ [])) in
    let all : 1 + k ≡ m - length slots = omega arith in
    ap (λ (us : List (Held _)). record { capacity = c; texts = us })
    (ap (λ (us : List (Held _)). us ++ replicate (m - length us) no_text) (map-append (held_of E) slots (blank_slot ∷ []))
    ∙ ap (λ n. (ts ++ no_text ∷ []) ++ replicate (m - n) no_text) afterwards
    ∙ append_assoc ts (no_text ∷ []) (replicate k no_text)
    ∙ ap (λ us. ts ++ us) (replicate-append-replicate 1 k no_text)
    ∙ ap (λ n. ts ++ replicate n no_text) (all ∙ ap (λ n. m - n) (sym long)))

pub packed_spared : (c n : ℕ) (slots : List Slot) → IsPacked c slots n → IsPacked c (slots ++ blank_slot ∷ []) n
packed_spared c n slots packed =
    let at : (i : ℕ) → slot_at (slots ++ blank_slot ∷ []) i ≡ slot_at slots i = λ i. get_or_padded slots 1 i blank_slot in
    record {
      fits = packed.fits;
      room = packed.room;
      filled = let filled = packed.filled in omega (arith, sum_by-append (λ (s : Slot). s.len) slots (blank_slot ∷ []));
      empty = λ i. rw (at i) (packed.empty i);
      inside = λ i. rw (at i) (packed.inside i);
      apart = λ i j. rw (at i, at j) (packed.apart i j);
    }

-- the slots as they are, or with one more
pub record IsSpared {T : Type 0} (E : List T) (news : List Slot) (n c m : ℕ) (p : Texts T) : Type 0 where
  pub packed : IsPacked (length E) news n
  pub view : texts_within c m E news ≡ p

pub spared : {T : Type 0} (E : List T) (slots news : List Slot) (n count first c m : ℕ) (p : Texts T) → IsKept E slots n count first c m → texts_within c m E slots ≡ p → (news ≡ slots) ⊎ (news ≡ slots ++ blank_slot ∷ []) → length news ≤ m
    → IsSpared E news n c m p
spared E slots news n count first c m p kept view which few = elim which [
  | inl same ↦ rw same record { packed = kept.packed; view = view }
  | inr more ↦
      let long : length news ≡ length slots + 1 = ap length more ∙ length-append slots (blank_slot ∷ []) in
      rw more record { packed = packed_spared (length E) n slots kept.packed; view = texts_spared E slots c m (omega arith) ∙ view }
]

-- ---- numbers with and without a text

-- a number of the prefix with no text is one of the pool with none
pub free_within : {T : Type 0} (c m : ℕ) (p q : Texts T) (id : ℕ) → with_room c m q ≡ p → slice_get q.texts id ≡ Some no_text → slice_get p.texts id ≡ Some no_text
free_within c m p q id view free =
    let within = slice_get_within q.texts id no_text free in
    let long = length-append q.texts (replicate (m - length q.texts) no_text) in
    ap (λ (s : Texts _). slice_get s.texts id) (sym view)
    ∙ slice_get-get_or (q.texts ++ replicate (m - length q.texts) no_text) id no_text (omega arith)
    ∙ ap (λ (t : _). Some t) (get_or_padded q.texts (m - length q.texts) id no_text ∙ get_or_from_slice_get q.texts id no_text no_text free)

-- where the prefix has all numbers, and each has a text
pub all_within : {T : Type 0} (c m : ℕ) (p q : Texts T) → with_room c m q ≡ p → length q.texts ≡ m → All (λ t. 0 < t.holders) q.texts → All (λ t. 0 < t.holders) p.texts
all_within c m p q view full all =
    let none : m - length q.texts ≡ 0 = omega arith in
    subst (λ (s : Texts _). All (λ t. 0 < t.holders) s.texts) view (rw none (subst (λ ts. All (λ t. 0 < t.holders) ts) (sym (append-nil q.texts)) all))

-- ---- whether elements fit

-- where k elements more do not
pub too_many : {T : Type 0} (E : List T) (slots : List Slot) (n k count first c m : ℕ) (p : Texts T) → IsKept E slots n count first c m → texts_within c m E slots ≡ p → c - n < k → p.capacity < used p + k
too_many E slots n k count first c m p kept view more =
    let all = same_used c m p (texts_of E slots) view ∙ used_is E slots n (texts_of E slots) kept.packed refl in
    let room : c ≡ p.capacity = ap (λ (q : Texts _). q.capacity) view in
    let within = kept.packed.room in
    let held = kept.elements_within in
    omega arith

-- where they do
pub not_too_many : {T : Type 0} (E : List T) (slots : List Slot) (n k count first c m : ℕ) (p : Texts T) → IsKept E slots n count first c m → texts_within c m E slots ≡ p → k ≤ c - n → p.capacity < used p + k → ⊥
not_too_many E slots n k count first c m p kept view fits more =
    let all = same_used c m p (texts_of E slots) view ∙ used_is E slots n (texts_of E slots) kept.packed refl in
    let room : c ≡ p.capacity = ap (λ (q : Texts _). q.capacity) view in
    let within = kept.packed.room in
    let held = kept.elements_within in
    omega arith

-- ---- elements that are written

pub is_written : {X : Type 0} (xs zs ys ws : List X) (a k size : ℕ) → zs ≡ xs → size ≡ length xs → a + k ≤ length xs → ws ≡ ys → k ≡ length ys
    → take size (put_mid a k zs ws ++ drop (length (put_mid a k zs ws)) xs) ≡ written xs a ys
is_written {X = X} xs zs ys ws a k size same all within is long = rw (same, is, long)
    (let whole : length (written xs a ys) ≡ size = length_written xs ys a size all (omega arith) in take_at (written xs a ys) (drop (length (written xs a ys)) xs) size whole)
  where
    length_written : (xs ys : List X) (a size : ℕ) → size ≡ length xs → a + length ys ≤ length xs → length (written xs a ys) ≡ size
    length_written xs ys a size all within = omega (arith, length-append (take a xs) (ys ++ drop (length ys) (drop a xs)), length-append ys (drop (length ys) (drop a xs)), length-take-le a xs (omega arith), length-drop (length ys) (drop a xs), length-drop a xs)

pub written_more : {T : Type 0} (E F : List T) (n : ℕ) (xs : List T) → F ≡ written E n xs → n + length xs ≤ length E → IsExtended E F xs n
written_more E F n xs is room = subst (λ zs. IsExtended E zs xs n) (sym is) (part_more E n (length xs) xs xs refl refl room)

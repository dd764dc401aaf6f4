-- Lemmas on where the texts of a pool lie.
use Rattle.std.proofs.Common.{◌≡◌, ◌≢◌, ℕ, ◌+◌, ◌-◌, ◌<◌, ◌≤◌, ◌⊎◌, List, [], ◌∷◌, ◌++◌, length, map, take, drop, set, get_or, slice_get, Some, All, sum, refl, sym, ap, ap₂, ◌∙◌, subst, inl, inr, add-zero, arith, rules}
use Rattle.std.proofs.lemmas.List.{get_or-map, get_or_past, length-map, length-set, length-take-le, length-append, length-drop, same_lists, get_or-set_same, get_or-set_other, get_or-take, get_or-drop, get_or_append_left, get_or-append_right, map-set, take-take, places, get_or_default}
use Rattle.std.proofs.lemmas.List.Sums.{sum-map, sum_by-set}
use Rattle.std.proofs.lemmas.Bool.{cases_lt, cases_eq}
use Rattle.std.proofs.lemmas.Option.{slice_get-get_or, get_or_from_slice_get, slice_get_within}
use Rattle.std.specs.List.{SameBelow, CopiedTo}
use borrow.Rule.Slice.PartMut.{put_mid}
use Rattle.nr_pool.specs.Texts.{Held, Texts, no_text, entry, text, holders, IsOpen, used, with_entry, opened, with_text, with_holders, without_text}
use Rattle.nr_pool.specs.Slot.{blank_slot, slot_at, held_of, texts_of, IsPacked}
use Rattle.nr_pool.specs.declared.slot.Slot.{Slot}

-- a part within a list has its length
pub length_part : {T : Type 0} (E : List T) (start len : ℕ) → (0 < len → start + len ≤ length E) → length (take len (drop start E)) ≡ len
length_part E start len fits = elim (cases_lt 0 len) [
  | inl some ↦ let inside = fits some in length-take-le len (drop start E) (rw length-drop (omega arith))
  | inr none ↦ let nothing : len ≡ 0 = omega arith in rw nothing refl
]

-- a function of each element, where the two lists' elements give the same
pub same_map : {X Y Z : Type 0} (f : X → Z) (g : Y → Z) (xs : List X) (ys : List Y) (d : X) (e : Y) → length xs ≡ length ys → ((k : ℕ) → k < length xs → f (get_or xs k d) ≡ g (get_or ys k e)) → map f xs ≡ map g ys
same_map f g xs ys d e same_length same = same_lists _ _ (length-map xs f ∙ same_length ∙ sym (length-map ys g)) (λ k z below.
    let in_xs : k < length xs = omega (arith, length-map xs f) in
    get_or-map f xs k d z in_xs ∙ same k in_xs ∙ sym (get_or-map g ys k e z (omega arith)))

-- what stands at each number once one slot is written
pub written_at : (slots : List Slot) (i : ℕ) (new : Slot) → i < length slots → (j : ℕ)
    → ((j ≡ i) × (slot_at (set slots i new) j ≡ new)) ⊎ ((j ≢ i) × (slot_at (set slots i new) j ≡ slot_at slots j))
written_at slots i new within j = elim (cases_eq j i) [
  | inl same ↦ inl (same, ap (slot_at (set slots i new)) same ∙ get_or-set_same slots i new blank_slot within)
  | inr other ↦ inr (other, get_or-set_other slots i j new blank_slot other)
]

-- the slot that an index gives
pub slot_is : (slots : List Slot) (i : ℕ) (s : Slot) → s ≡ get_or slots i s → i < length slots → s ≡ slot_at slots i
slot_is slots i s is within = is ∙ get_or_default slots i s blank_slot within

-- what a number has is what its slot stands for
pub entry_is : {T : Type 0} (E : List T) (slots : List Slot) (i : ℕ) → get_or (map (held_of E) slots) i no_text ≡ held_of E (slot_at slots i)
entry_is E slots i = elim (cases_lt i (length slots)) [
  | inl below ↦ get_or-map (held_of E) slots i blank_slot no_text below
  | inr past ↦
      let old = get_or_past slots i blank_slot past in
      get_or_past (map (held_of E) slots) i no_text (omega (arith, length-map slots (held_of E))) ∙ ap (held_of E) (sym old)
]

-- the slot of an open text
pub record IsAt {T : Type 0} (E : List T) (slots : List Slot) (p : Texts T) (i id : ℕ) : Type 0 where
  pub within : i < length slots
  pub held : 0 < (slot_at slots i).holders
  pub holders_is : holders p id ≡ (slot_at slots i).holders
  pub text_is : text p id ≡ take (slot_at slots i).len (drop (slot_at slots i).start E)
  pub len_is : length (text p id) ≡ (slot_at slots i).len

pub found : {T : Type 0} (E : List T) (slots : List Slot) (used : ℕ) (p : Texts T) (i id : ℕ)
    → IsPacked (length E) slots used → texts_of E slots ≡ p → i ≡ id → IsOpen p id → IsAt E slots p i id
found E slots used p i id packed view at is_open =
    let s = slot_at slots i in
    let entry_p : entry p id ≡ held_of E s = ap (λ (q : Texts _). entry q id) (sym view) ∙ ap (λ k. get_or (map (held_of E) slots) k no_text) (sym at) ∙ entry_is E slots i in
    let holders_is : holders p id ≡ s.holders = ap (λ (h : Held _). h.holders) entry_p in
    let text_is : text p id ≡ take s.len (drop s.start E) = ap (λ (h : Held _). h.elements) entry_p in
    let held : 0 < s.holders = omega arith in
    record {
      within = elim (cases_lt i (length slots)) [
        | inl below ↦ below
        | inr past ↦ let none : s.holders ≡ 0 = ap (λ (t : Slot). t.holders) (get_or_past slots i blank_slot past) in absurd (omega arith)
      ];
      held = held;
      holders_is = holders_is;
      text_is = text_is;
      len_is = ap length text_is ∙ length_part E s.start s.len (λ some. let inside = packed.inside i some in let room = packed.room in omega arith);
    }

-- the lengths of all texts add up to how many elements are in use
pub used_is : {T : Type 0} (E : List T) (slots : List Slot) (n : ℕ) (p : Texts T) → IsPacked (length E) slots n → texts_of E slots ≡ p → used p ≡ n
used_is E slots n p packed view =
    let len_of : Held _ → ℕ = λ (t : Held _). length t.elements in
    let lens : map len_of (map (held_of E) slots) ≡ map (λ (s : Slot). s.len) slots =
    same_map len_of (λ (s : Slot). s.len) (map (held_of E) slots) slots no_text blank_slot (length-map slots (held_of E)) (λ k below. ap len_of (entry_is E slots k)
    ∙ length_part E (slot_at slots k).start (slot_at slots k).len (λ some. let inside = packed.inside k some in let room = packed.room in omega arith)) in
    ap used (sym view) ∙ sym (sum-map len_of (map (held_of E) slots)) ∙ ap sum lens ∙ sum-map (λ (s : Slot). s.len) slots ∙ packed.filled

-- a slot that lies last: every other text ends before it
below_last : (capacity n : ℕ) (slots : List Slot) (i j : ℕ) → IsPacked capacity slots n → (slot_at slots i).start + (slot_at slots i).len ≡ n → j ≢ i → 0 < (slot_at slots j).len
    → (slot_at slots j).start + (slot_at slots j).len ≤ (slot_at slots i).start
below_last capacity n slots i j packed last other some =
    let inside = packed.inside j some in
    elim (cases_lt 0 (slot_at slots i).len) [
      | inl nonempty ↦ packed.apart i j (λ e. other (sym e)) nonempty some (omega arith)
      | inr empty ↦ omega arith
    ]

-- the text that lies last may be made shorter or longer, or be removed
pub set_last : (capacity n : ℕ) (slots : List Slot) (i : ℕ) (new : Slot) (m : ℕ) → IsPacked capacity slots n → i < length slots
    → (slot_at slots i).start + (slot_at slots i).len ≡ n → (slot_at slots i).start + new.len ≡ m → m ≤ capacity
    → (0 < new.len → new.start ≡ (slot_at slots i).start) → (new.holders ≡ 0 → new.len ≡ 0)
    → IsPacked capacity (set slots i new) m
set_last capacity n slots i new m packed within last sum room start empty =
    let at = written_at slots i new within in
    let lower : (j : ℕ) → j ≢ i → 0 < (slot_at slots j).len → (slot_at slots j).start + (slot_at slots j).len ≤ (slot_at slots i).start =
    λ j other some. below_last capacity n slots i j packed last other some in
    record {
      fits = packed.fits;
      room = room;
      filled = let total = sum_by-set (λ (s : Slot). s.len) slots i new blank_slot within in let filled = packed.filled in omega arith;
      empty = λ j. elim (at j) [
        | inl h ↦ rw h.1 empty
        | inr h ↦ rw h.1 (packed.empty j)
      ];
      inside = λ j. elim (at j) [
        | inl h ↦ rw h.1 (λ some. let begins = start some in omega arith)
        | inr h ↦ rw h.1 (λ some. let low = lower j h.0 some in omega arith)
      ];
      apart = λ a b ne. elim (at a) [
        | inl h ↦ elim (at b) [
          | inl k ↦ absurd (ne (h.0 ∙ sym k.0))
          | inr k ↦ rw (h.1, k.1) (λ sa sb begins. let low = lower b k.0 sb in let same = start sa in omega arith)
        ]
        | inr h ↦ elim (at b) [
          | inl k ↦ rw (h.1, k.1) (λ sa sb begins. let low = lower a h.0 sa in let same = start sb in omega arith)
          | inr k ↦ rw (h.1, k.1) (packed.apart a b ne)
        ]
      ];
    }

-- a slot whose text lies where it lay, or had no elements and has none
pub set_same : (capacity n : ℕ) (slots : List Slot) (i : ℕ) (new : Slot) → IsPacked capacity slots n → i < length slots
    → new.len ≡ (slot_at slots i).len → (0 < new.len → new.start ≡ (slot_at slots i).start) → (new.holders ≡ 0 → new.len ≡ 0)
    → IsPacked capacity (set slots i new) n
set_same capacity n slots i new packed within len start empty =
    let at = written_at slots i new within in
    record {
      fits = packed.fits;
      room = packed.room;
      filled = let total = sum_by-set (λ (s : Slot). s.len) slots i new blank_slot within in let filled = packed.filled in omega arith;
      empty = λ j. elim (at j) [
        | inl h ↦ rw h.1 empty
        | inr h ↦ rw h.1 (packed.empty j)
      ];
      inside = λ j. elim (at j) [
        | inl h ↦ rw h.1 (λ some. let begins = start some in let inside = packed.inside i (omega arith) in omega arith)
        | inr h ↦ rw h.1 (packed.inside j)
      ];
      apart = λ a b ne. elim (at a) [
        | inl h ↦ elim (at b) [
          | inl k ↦ absurd (ne (h.0 ∙ sym k.0))
          | inr k ↦ rw (h.1, k.1) (λ sa sb begins. let same = start sa in let old = packed.apart i b (λ e. k.0 (sym e)) (omega arith) sb (omega arith) in omega arith)
        ]
        | inr h ↦ elim (at b) [
          | inl k ↦ rw (h.1, k.1) (λ sa sb begins. let same = start sb in let old = packed.apart a i h.0 sa (omega arith) (omega arith) in omega arith)
          | inr k ↦ rw (h.1, k.1) (packed.apart a b ne)
        ]
      ];
    }

-- two parts of lists are equal where their elements are
pub same_part : {T : Type 0} (E F : List T) (a b len : ℕ) → (0 < len → a + len ≤ length E) → (0 < len → b + len ≤ length F) → ((k : ℕ) (d : T) → k < len → get_or E (a + k) d ≡ get_or F (b + k) d)
    → take len (drop a E) ≡ take len (drop b F)
same_part E F a b len fits_E fits_F same =
    let length_E = length_part E a len fits_E in
    same_lists _ _ (length_E ∙ sym (length_part F b len fits_F)) (λ k d below.
    let in_len : k < len = omega arith in
    get_or-take len (drop a E) k d in_len ∙ get_or-drop a E k d ∙ same k d in_len ∙ sym (get_or-drop b F k d) ∙ sym (get_or-take len (drop b F) k d in_len))

-- two slots stand for the same
pub same_slot : {T : Type 0} (E F : List T) (s t : Slot) → t.holders ≡ s.holders → take t.len (drop t.start F) ≡ take s.len (drop s.start E) → held_of F t ≡ held_of E s
same_slot E F s t holders part = ap₂ (λ n xs. record { elements = xs; holders = n }) holders part

-- another text at one number, and the same at all others
view_set : {T : Type 0} (E F : List T) (slots news : List Slot) (i : ℕ) (v : Held T) → length news ≡ length slots → held_of F (slot_at news i) ≡ v
    → ((j : ℕ) → j ≢ i → held_of F (slot_at news j) ≡ held_of E (slot_at slots j))
    → map (held_of F) news ≡ set (map (held_of E) slots) i v
view_set E F slots news i v same_length at_i others =
    let old = map (held_of E) slots in
    let lengths : length (map (held_of F) news) ≡ length (set old i v) = length-map news (held_of F) ∙ same_length ∙ sym (length-map slots (held_of E)) ∙ sym (length-set old i v) in
    same_lists _ _ lengths (λ k d below.
    let in_news : k < length news = omega (arith, length-map news (held_of F)) in
    let in_old : k < length old = omega (arith, length-map slots (held_of E)) in
    get_or-map (held_of F) news k blank_slot d in_news ∙ elim (cases_eq k i) [
      | inl same ↦ ap (λ n. held_of F (slot_at news n)) same ∙ at_i ∙ sym (get_or-set_same old i v d (subst (λ n. n < length old) same in_old)) ∙ ap (λ n. get_or (set old i v) n d) (sym same)
      | inr other ↦ others k other ∙ sym (get_or-map (held_of E) slots k blank_slot d (omega arith)) ∙ sym (get_or-set_other old i k v d other)
    ])

-- the pool with another entry at one number
pub rewritten : {T : Type 0} (E F : List T) (slots news : List Slot) (p : Texts T) (i id : ℕ) (v : Held T) → texts_of E slots ≡ p → i ≡ id → length F ≡ length E
    → length news ≡ length slots → held_of F (slot_at news i) ≡ v → ((j : ℕ) → j ≢ i → held_of F (slot_at news j) ≡ held_of E (slot_at slots j))
    → texts_of F news ≡ with_entry p id v
rewritten E F slots news p i id v view at same_length lengths here others =
    ap₂ (λ (c : ℕ) (ts : List (Held _)). record { capacity = c; texts = ts }) same_length (view_set E F slots news i v lengths here others)
    ∙ ap₂ (λ (q : Texts _) (k : ℕ). with_entry q k v) view at

-- another slot at one number, over the same elements
pub slot_set : {T : Type 0} (E : List T) (slots : List Slot) (p : Texts T) (i id : ℕ) (new : Slot) (v : Held T) → texts_of E slots ≡ p → i ≡ id → held_of E new ≡ v
    → texts_of E (set slots i new) ≡ with_entry p id v
slot_set E slots p i id new v view at is =
    ap (λ (ts : List (Held _)). record { capacity = length E; texts = ts }) (map-set (held_of E) slots i new)
    ∙ ap₂ (λ (q : Texts _) (k : ℕ). with_entry q k (held_of E new)) view at ∙ ap (with_entry p id) is

-- another slot that stands for the same
pub slot_same : {T : Type 0} (E : List T) (slots : List Slot) (i : ℕ) (new : Slot) → i < length slots → held_of E new ≡ held_of E (slot_at slots i) → texts_of E (set slots i new) ≡ texts_of E slots
slot_same E slots i new within same =
    ap (λ (ts : List (Held _)). record { capacity = length E; texts = ts }) (same_map (held_of E) (held_of E) (set slots i new) slots blank_slot blank_slot (length-set slots i new) (λ k _. elim (written_at slots i new within k) [
      | inl h ↦ ap (held_of E) h.1 ∙ same ∙ ap (λ m. held_of E (slot_at slots m)) (sym h.0)
      | inr h ↦ ap (held_of E) h.1
    ]))

-- what stands in F, which is E with xs from n on
pub record IsExtended {T : Type 0} (E F xs : List T) (n : ℕ) : Type 0 where
  pub same_length : length F ≡ length E
  pub prefix : (k : ℕ) (d : T) → k < n → get_or F k d ≡ get_or E k d
  pub back : (k : ℕ) (d : T) → k < length xs → get_or F (n + k) d ≡ get_or xs k d

-- one element is written
pub one_more : {T : Type 0} (E : List T) (n : ℕ) (x : T) → n < length E → IsExtended E (set E n x) (x ∷ []) n
one_more E n x room = record {
  same_length = length-set E n x;
  prefix = λ k d below. get_or-set_other E n k x d (λ e. omega arith);
  back = λ k d below. let none : k ≡ 0 = omega arith in rw none (ap (λ m. get_or (set E n x) m d) (add-zero n) ∙ get_or-set_same E n x d room);
}

-- a part is written
pub part_more : {T : Type 0} (E : List T) (n m : ℕ) (ys xs : List T) → ys ≡ xs → m ≡ length xs → n + length xs ≤ length E → IsExtended E (put_mid n m E ys) xs n
part_more E n m ys xs is size room = rw (is, size) record {
  same_length = search (rules, places);
  prefix = λ k d below. search (rules, places);
  back = λ k d below. search (rules, places);
}

-- a part is copied
pub copy_more : {T : Type 0} (E F : List T) (start len n : ℕ) (xs : List T) → xs ≡ take len (drop start E) → length xs ≡ len → length F ≡ length E → SameBelow E F n → CopiedTo E F start n len → IsExtended E F xs n
copy_more E F start len n xs is size lengths before copied = record {
  same_length = lengths;
  prefix = before;
  back = λ k d below.
      let k_in : k < len = omega arith in
      copied (n + k) d (omega arith) (omega arith) ∙ ap (λ m. get_or E (start + m) d) (omega arith) ∙ sym (get_or-drop start E k d) ∙ sym (get_or-take len (drop start E) k d k_in) ∙ ap (λ ys. get_or ys k d) (sym is);
}

-- elements at the end of the text that lies last
pub extended : {T : Type 0} (E F : List T) (slots : List Slot) (n : ℕ) (p : Texts T) (i id : ℕ) (xs : List T) → IsPacked (length E) slots n → texts_of E slots ≡ p → i ≡ id → IsOpen p id
    → (slot_at slots i).start + (slot_at slots i).len ≡ n → n + length xs ≤ length E → IsExtended E F xs n
    → (new : Slot) → new.start ≡ (slot_at slots i).start → new.len ≡ (slot_at slots i).len + length xs → new.holders ≡ (slot_at slots i).holders
    → texts_of F (set slots i new) ≡ with_text p id (text p id ++ xs)
extended E F slots n p i id xs packed view at is_open last room more new start len holders_is =
    let f = found E slots n p i id packed view at is_open in
    let s = slot_at slots i in
    let length_F = more.same_length in
    let length_text = f.len_is in
    let length_new = length_part F new.start new.len (λ _. omega arith) in
    let part : take new.len (drop new.start F) ≡ text p id ++ xs = same_lists _ _ (length_new ∙ len ∙ ap (λ m. m + length xs) (sym length_text) ∙ sym (length-append (text p id) xs)) (λ k d below.
    let in_new : k < new.len = omega arith in
    get_or-take new.len (drop new.start F) k d in_new ∙ get_or-drop new.start F k d ∙ ap (λ m. get_or F (m + k) d) start ∙ elim (cases_lt k s.len) [
      | inl old ↦ more.prefix (s.start + k) d (omega arith) ∙ sym (get_or-drop s.start E k d) ∙ sym (get_or-take s.len (drop s.start E) k d old) ∙ ap (λ ys. get_or ys k d) (sym f.text_is) ∙ sym (get_or_append_left (text p id) xs d k (omega arith))
      | inr added ↦
          let place : s.start + k ≡ n + (k - s.len) = omega arith in
          ap (λ m. get_or F m d) place ∙ more.back (k - s.len) d (omega arith) ∙ sym (get_or-append_right (text p id) xs s.len k d length_text added)
    ]) in
    let others : (j : ℕ) → j ≢ i → held_of F (slot_at (set slots i new) j) ≡ held_of E (slot_at slots j) =
    λ j other.
    let t = slot_at slots j in
    rw (get_or-set_other slots i j new blank_slot other) (same_slot E F t t refl (same_part F E t.start t.start t.len
    (λ some. let inside = packed.inside j some in omega arith)
    (λ some. let inside = packed.inside j some in omega arith)
    (λ k d below. let inside = packed.inside j (omega arith) in more.prefix (t.start + k) d (omega arith)))) in
    let here : held_of F (slot_at (set slots i new) i) ≡ record { elements = text p id ++ xs; holders = holders p id } =
    rw (get_or-set_same slots i new blank_slot f.within) (ap₂ (λ m ys. record { elements = ys; holders = m }) (holders_is ∙ sym f.holders_is) part) in
    rewritten E F slots (set slots i new) p i id _ view at length_F (length-set slots i new) here others

-- one element of a text
pub replaced : {T : Type 0} (E : List T) (slots : List Slot) (n : ℕ) (p : Texts T) (i id k : ℕ) (x : T) → IsPacked (length E) slots n → texts_of E slots ≡ p → i ≡ id → IsOpen p id → k < length (text p id)
    → texts_of (set E ((slot_at slots i).start + k) x) slots ≡ with_text p id (set (text p id) k x)
replaced E slots n p i id k x packed view at is_open within =
    let f = found E slots n p i id packed view at is_open in
    let s = slot_at slots i in
    let F = set E (s.start + k) x in
    let length_F = length-set E (s.start + k) x in
    let length_text = f.len_is in
    let here_inside = packed.inside i (omega arith) in
    let room = packed.room in
    let length_here = length_part F s.start s.len (λ _. omega arith) in
    let part : take s.len (drop s.start F) ≡ set (text p id) k x = same_lists _ _ (length_here ∙ sym length_text ∙ sym (length-set (text p id) k x)) (λ j d below.
    let in_len : j < s.len = omega arith in
    get_or-take s.len (drop s.start F) j d in_len ∙ get_or-drop s.start F j d ∙ elim (cases_eq j k) [
      | inl same ↦ ap (λ m. get_or F (s.start + m) d) same ∙ get_or-set_same E (s.start + k) x d (omega arith) ∙ sym (get_or-set_same (text p id) k x d within) ∙ ap (λ m. get_or (set (text p id) k x) m d) (sym same)
      | inr other ↦
          get_or-set_other E (s.start + k) (s.start + j) x d (λ e. other (omega arith)) ∙ sym (get_or-drop s.start E j d) ∙ sym (get_or-take s.len (drop s.start E) j d in_len) ∙ ap (λ ys. get_or ys j d) (sym f.text_is)
          ∙ sym (get_or-set_other (text p id) k j x d other)
    ]) in
    let others : (j : ℕ) → j ≢ i → held_of F (slot_at slots j) ≡ held_of E (slot_at slots j) =
    λ j other.
    let t = slot_at slots j in
    same_slot E F t t refl (same_part F E t.start t.start t.len
    (λ some. let inside = packed.inside j some in omega arith)
    (λ some. let inside = packed.inside j some in omega arith)
    (λ m d below.
    let inside = packed.inside j (omega arith) in
    get_or-set_other E (s.start + k) (t.start + m) x d (λ e.
    let before = packed.apart i j (λ q. other (sym q)) (omega arith) (omega arith) (omega arith) in
    let afterwards = packed.apart j i other (omega arith) (omega arith) (omega arith) in
    omega arith))) in
    let here : held_of F (slot_at slots i) ≡ record { elements = set (text p id) k x; holders = holders p id } =
    ap₂ (λ m ys. record { elements = ys; holders = m }) (sym f.holders_is) part in
    rewritten E F slots slots p i id _ view at length_F refl here others

-- an element of a text
pub element_is : {T : Type 0} (E : List T) (slots : List Slot) (n : ℕ) (p : Texts T) (i id k : ℕ) (d : T) → IsPacked (length E) slots n → texts_of E slots ≡ p → i ≡ id → IsOpen p id → k < length (text p id)
    → slice_get (text p id) k ≡ Some (get_or E ((slot_at slots i).start + k) d)
element_is E slots n p i id k d packed view at is_open within =
    let f = found E slots n p i id packed view at is_open in
    let s = slot_at slots i in
    slice_get-get_or (text p id) k d within ∙ ap (λ (x : _). Some x) (rw f.text_is (get_or-take s.len (drop s.start E) k d (let len = f.len_is in omega arith) ∙ get_or-drop s.start E k d))

-- the first elements of a text
pub shortened : {T : Type 0} (E : List T) (slots : List Slot) (n : ℕ) (p : Texts T) (i id k : ℕ) (new : Slot) → IsPacked (length E) slots n → texts_of E slots ≡ p → i ≡ id → IsOpen p id
    → k ≤ (slot_at slots i).len → new.start ≡ (slot_at slots i).start → new.len ≡ k → new.holders ≡ (slot_at slots i).holders
    → texts_of E (set slots i new) ≡ with_text p id (take k (text p id))
shortened E slots n p i id k new packed view at is_open less start len holders_is =
    let f = found E slots n p i id packed view at is_open in
    let s = slot_at slots i in
    slot_set E slots p i id new _ view at (ap₂ (λ m ys. record { elements = ys; holders = m }) (holders_is ∙ sym f.holders_is)
    (rw (len, start) (sym (take-take k s.len (drop s.start E) less) ∙ ap (take k) (sym f.text_is))))

-- a text with another number of holders
pub held_by : {T : Type 0} (E : List T) (slots : List Slot) (n : ℕ) (p : Texts T) (i id m : ℕ) (new : Slot) → IsPacked (length E) slots n → texts_of E slots ≡ p → i ≡ id → IsOpen p id
    → new.start ≡ (slot_at slots i).start → new.len ≡ (slot_at slots i).len → new.holders ≡ m → texts_of E (set slots i new) ≡ with_holders p id m
held_by E slots n p i id m new packed view at is_open start len holders_is =
    let f = found E slots n p i id packed view at is_open in
    slot_set E slots p i id new _ view at (ap₂ (λ k ys. record { elements = ys; holders = k }) holders_is (rw (len, start) (sym f.text_is)))

-- an empty text with one holder
pub opened_at : {T : Type 0} (E : List T) (slots : List Slot) (p : Texts T) (i : ℕ) (new : Slot) → texts_of E slots ≡ p → new.len ≡ 0 → new.holders ≡ 1 → texts_of E (set slots i new) ≡ opened p i
opened_at E slots p i new view none held = slot_set E slots p i i new _ view refl (rw (none, held) refl)

-- a text that is removed
pub removed : {T : Type 0} (E : List T) (slots : List Slot) (p : Texts T) (i id : ℕ) (new : Slot) → texts_of E slots ≡ p → i ≡ id → new.len ≡ 0 → new.holders ≡ 0 → texts_of E (set slots i new) ≡ without_text p id
removed E slots p i id new view at none held = slot_set E slots p i id new _ view at (rw (none, held) refl)

-- where an empty text begins says nothing
pub emptied : {T : Type 0} (E : List T) (slots : List Slot) (i : ℕ) (new : Slot) → i < length slots → (slot_at slots i).len ≡ 0 → new.len ≡ 0 → new.holders ≡ (slot_at slots i).holders → texts_of E (set slots i new) ≡ texts_of E slots
emptied E slots i new within was none holders_is = slot_same E slots i new within (same_slot E E (slot_at slots i) new holders_is (rw (none, was) refl))

-- where each slot has a text, each number has one
pub all_open : {T : Type 0} (E : List T) (slots : List Slot) (p : Texts T) → texts_of E slots ≡ p → ((k : ℕ) → k < length slots → 0 < (slot_at slots k).holders) → All (λ t. 0 < t.holders) p.texts
all_open E slots p view held =
    subst (λ (q : Texts _). All (λ t. 0 < t.holders) q.texts) view (λ k d below.
    let in_slots : k < length slots = omega (arith, length-map slots (held_of E)) in
    rw (get_or-map (held_of E) slots k blank_slot d in_slots) (held k in_slots))

-- a slot with no text is a number with none
pub free_entry : {T : Type 0} (E : List T) (slots : List Slot) (n : ℕ) (p : Texts T) (i : ℕ) → IsPacked (length E) slots n → texts_of E slots ≡ p → i < length slots → (slot_at slots i).holders ≡ 0 → slice_get p.texts i ≡ Some no_text
free_entry E slots n p i packed view within free =
    let none = packed.empty i free in
    ap (λ (q : Texts _). slice_get q.texts i) (sym view)
    ∙ slice_get-get_or (map (held_of E) slots) i no_text (omega (arith, length-map slots (held_of E)))
    ∙ ap (λ (t : _). Some t) (entry_is E slots i ∙ rw (none, free) refl)

-- so that not each number has one
pub not_all_open : {T : Type 0} (p : Texts T) (i : ℕ) → slice_get p.texts i ≡ Some no_text → All (λ t. 0 < t.holders) p.texts → ⊥
not_all_open p i free all =
    let here : holders p i ≡ 0 = ap (λ (t : Held _). t.holders) (get_or_from_slice_get p.texts i no_text no_text free) in
    let held = all i no_text (slice_get_within p.texts i no_text free) in
    omega arith

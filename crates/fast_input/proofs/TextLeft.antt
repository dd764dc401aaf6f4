-- What is taken of the bytes that were gathered, as moves of the machine that reads.
use Rattle.std.specs.Prelude.{slice_get, slice_index}
use Rattle.std.specs.Option.{option_map}
use Rattle.std.proofs.Common.{◌≡◌, ℕ, zero, suc, ◌+◌, ◌-◌, ◌<◌, ◌≤◌, false, List, [], ◌∷◌, ◌++◌, length, take, drop, get_or, Option, None, Some, IfSome, refl, ap, sym, ◌∙◌, subst, length-drop, arith, Bool}
use Rattle.std.proofs.lemmas.List.{get_or-drop, get_or-take, length-take, take-append-drop, take-append-le}
use Rattle.std.proofs.lemmas.Option.{slice_get-get_or, slice_get-map, slice_get_within}
use Rattle.nr_store.specs.Store.{Stored, Level}
use Rattle.nr_store.specs.Windows.{rest_of, left_times}
use Rattle.nr_store.specs.declared.element.Element.{Element}
use Rattle.nr_store.specs.declared.element.Element.TheVariants as elements
use Rattle.nr_input.specs.declared.reader.Reader.{Reader}
use Rattle.fast_input.specs.declared.splices.Splice.{Splice}
use Rattle.fast_input.specs.Gathering.{AreGathered, AreItems, IsSpliced, Leaves, bytes_before, own_bytes, spliced}
use Rattle.fast_input.specs.Interpolations.{opened}
use Rattle.fast_input.proofs.LevelStretches.{rest-left_times}
use Rattle.fast_input.proofs.TextBytes.{AreNext, leaves_level, leaves_some, slice_get-drop}
use Rattle.fast_input.proofs.TextOpened.{rest-opened}

-- ---- lists

take-nil : {X : Type 0} (n : ℕ) → take {A = X} n [] ≡ []
take-nil zero = refl
take-nil (suc n) = refl

pub take_split : {X : Type 0} (m k : ℕ) (xs : List X) → take m xs ++ take k (drop m xs) ≡ take (m + k) xs
take_split zero k xs = let same : k ≡ 0 + k = omega arith in ap (λ n. take n xs) same
take_split (suc m) k [] = take-nil k ∙ sym (take-nil (suc m + k))
take_split (suc m) k (x ∷ xs) = let same : suc (m + k) ≡ suc m + k = omega arith in ap (λ ys. x ∷ ys) (take_split m k xs) ∙ ap (λ n. take n (x ∷ xs)) same

-- ---- bytes of the newest level

-- they lie after so many items of it
pub run_next : {K : Type 0} (item from taken items : ℕ) (next : Option Splice) (bytes : List ℕ) (v : Stored K) → AreItems item from next bytes items (rest_of v.levels) → item ≤ length (rest_of v.levels) → taken ≤ bytes_before next (length bytes)
    → AreNext (take (taken - from) (drop from bytes)) (left_times item v).levels
run_next item from taken items next bytes v run within few = λ n less.
    let short : n < taken - from = omega (arith, less, length-take (taken - from) (drop from bytes)) in
    let byte : slice_index bytes (from + n) ≡ slice_index (take (taken - from) (drop from bytes)) n = sym (get_or-take (taken - from) (drop from bytes) n 0 short ∙ get_or-drop from bytes n 0) in
    ap (λ (xs : List Element). slice_get xs n) (rest-left_times item v within) ∙ slice_get-drop item n (rest_of v.levels) ∙ run.each n (omega (arith, short, few)) ∙ ap (λ b. Some (elements.Byte b)) byte

-- there are as many
pub next_within : {K : Type 0} (cs : List ℕ) (levels : List (Level K)) → AreNext cs levels → length cs ≤ length (rest_of levels)
next_within [] levels next = omega arith
next_within (c ∷ cs) levels next = let less = slice_get_within (rest_of levels) (length cs) _ (next (length cs) (omega arith)) in omega (arith, less)

-- those of a level of bytes
pub own_next : {K : Type 0} (n : ℕ) (named : Bool) (own name : List ℕ) (w : Stored K) → AreNext (take n own) (opened named own name w).levels
own_next n named own name w = λ k less.
    let short : k < n = omega (arith, less, length-take n own) in
    let within : k < length own = omega (arith, less, length-take n own) in
    ap (λ (xs : List Element). slice_get xs k) (rest-opened named own name w)
    ∙ slice_get-map elements.Byte own k ∙ ap (option_map elements.Byte) (slice_get-get_or own k 0 within) ∙ ap (λ b. Some (elements.Byte b)) (sym (get_or-take n own k 0 short))

-- up to the next splice
pub up_to : (taken : ℕ) (next : Option Splice) (bytes : List ℕ) → IfSome next (λ (s : Splice). taken ≤ s.before) → taken ≤ length bytes → taken ≤ bytes_before next (length bytes)
up_to taken None bytes before within = within
up_to taken (Some s) bytes before within = before

-- so many of them at the beginning
count_taken : (m n : ℕ) (xs : List ℕ) → m ≤ n → n ≤ length xs → length (take (n - m) (drop m xs)) ≡ n - m
count_taken m n xs less within = omega (arith, less, within, length-take (n - m) (drop m xs), length-drop m xs)

module _ {K : Type 0} (bytes : List ℕ) (items taken : ℕ) (v : Stored K) (r : Reader) (within : taken ≤ length bytes) where
  -- before the first splice
  module _ (next : Option Splice) (run : AreItems 0 0 next bytes items (rest_of v.levels)) (few : taken ≤ bytes_before next (length bytes)) where
    there : AreNext (take taken bytes) v.levels
    there = let same : taken - 0 ≡ taken = omega arith in subst (λ k. AreNext (take k bytes) v.levels) same (run_next 0 0 taken items next bytes v run (omega arith) few)

    pub first_left : Leaves false 0 (take taken bytes) v r (left_times taken v) r
    first_left =
        let long : length (take taken bytes) ≡ taken = omega (arith, within, length-take taken bytes) in
        subst (λ k. Leaves false 0 (take taken bytes) v r (left_times k v) r) long (leaves_level (take taken bytes) v r there)

    pub first_within : taken ≤ length (rest_of v.levels)
    first_within = let few = next_within (take taken bytes) v.levels there in omega (arith, few, within, length-take taken bytes)

  module _ (k : ℕ) (s : Splice) (next : Option Splice) (is : IsSpliced k s next bytes items v r) where
    abbrev afterwards : Stored K
    afterwards = left_times s.afterwards v

    abbrev reader : Reader
    reader = spliced (k + 1) s.asked r

    -- after it
    module _ (past : s.before + s.count < taken) (few : taken ≤ bytes_before next (length bytes)) where
      abbrev past_end : ℕ
      past_end = taken - (s.before + s.count)

      pub after_left : Leaves false (s.moves + 1) (take taken bytes) v r (left_times past_end afterwards) reader
      after_left =
          let end = s.before + s.count in
          let count = count_taken end taken bytes (omega (arith, past)) within in
          let some : 0 < length (take past_end (drop end bytes)) = omega (arith, count, past) in
          let same : end + past_end ≡ taken = omega (arith, past) in
          subst (λ bs. Leaves false (s.moves + 1) bs v r (left_times past_end afterwards) reader) (take_split end past_end bytes ∙ ap (λ n. take n bytes) same)
          (subst (λ n. Leaves false (s.moves + 1) (take end bytes ++ take past_end (drop end bytes)) v r (left_times n afterwards) reader) count
          (leaves_some (s.moves + 1) (take past_end (drop end bytes)) (take end bytes) v afterwards r reader some is.ends (run_next s.afterwards end taken items next bytes v is.run is.there few)))

      pub after_within : past_end ≤ length (rest_of afterwards.levels)
      after_within =
          let end = s.before + s.count in
          let enough = next_within (take past_end (drop end bytes)) afterwards.levels (run_next s.afterwards end taken items next bytes v is.run is.there few) in
          omega (arith, enough, count_taken end taken bytes (omega (arith, past)) within)

    -- within it
    module _ (begun : s.before < taken) (before : taken ≤ s.before + s.count) where
      abbrev part : ℕ
      part = taken - s.before

      abbrev own : List ℕ
      own = own_bytes s bytes

      own_long : length own ≡ s.count
      own_long = let inside = is.within in omega (arith, inside, length-take s.count (drop s.before bytes), length-drop s.before bytes)

      part_is : take part own ≡ take part (drop s.before bytes)
      part_is =
          let ys = drop s.before bytes in
          sym (ap (take part) (sym (take-append-drop s.count ys)) ∙ take-append-le part own (drop s.count ys) (omega (arith, before, begun, own_long)))

      pub within_left : Leaves false s.moves (take taken bytes) v r (left_times part (opened s.named own s.asked afterwards)) reader
      within_left =
          let count : length (take part own) ≡ part = ap length part_is ∙ count_taken s.before taken bytes (omega (arith, begun)) within in
          let some : 0 < length (take part own) = omega (arith, count, begun) in
          let same : s.before + part ≡ taken = omega (arith, begun) in
          let all : take s.before bytes ++ take part own ≡ take taken bytes = ap (λ ys. take s.before bytes ++ ys) part_is ∙ take_split s.before part bytes ∙ ap (λ n. take n bytes) same in
          subst (λ bs. Leaves false s.moves bs v r (left_times part (opened s.named own s.asked afterwards)) reader) all
          (subst (λ n. Leaves false s.moves (take s.before bytes ++ take part own) v r (left_times n (opened s.named own s.asked afterwards)) reader) count
          (leaves_some s.moves (take part own) (take s.before bytes) v (opened s.named own s.asked afterwards) r reader some is.opens (own_next part s.named own s.asked afterwards)))

-- ---- the splice that was begun last

pub one_before : (n : ℕ) → (n ≡ 0 → ⊥) → suc (n - 1) ≡ n
one_before zero some = absurd (some refl)
one_before (suc n) some = omega arith

pub begun_last : {K : Type 0} (n : ℕ) (s : Splice) (bytes : List ℕ) (items moves : ℕ) (splices : List Splice) (v : Stored K) (r : Reader) → (n ≡ 0 → ⊥) → slice_get splices (n - 1) ≡ Some s → AreGathered bytes items moves splices v r
    → IsSpliced (n - 1) s (slice_get splices n) bytes items v r
begun_last {K} n s bytes items moves splices v r some is gathered =
    let same : suc (n - 1) ≡ n = one_before n some in
    subst (λ (k : ℕ). IsSpliced (n - 1) s (slice_get splices k) bytes items v r) same (gathered.each (n - 1) s is)

-- no more were spliced than may be
pub burst_within : {K : Type 0} (bytes : List ℕ) (items moves : ℕ) (splices : List Splice) (v : Stored K) (r : Reader) → AreGathered bytes items moves splices v r → 0 < length splices → r.burst + length splices ≤ r.most
burst_within bytes items moves [] v r gathered some = absurd (omega (arith, some))
burst_within bytes items moves (s ∷ ss) v r gathered some =
    let last : slice_get (s ∷ ss) (length ss) ≡ Some (get_or (s ∷ ss) (length ss) s) = slice_get-get_or (s ∷ ss) (length ss) s (omega arith) in
    let burst = (gathered.each (length ss) (get_or (s ∷ ss) (length ss) s) last).burst in
    omega (arith, burst)

-- the reader after none
pub spliced_none : (name : List ℕ) (r : Reader) → name ≡ r.half.notes.asked → spliced 0 name r ≡ r
spliced_none name r is =
    let same : r.burst + 0 ≡ r.burst = omega arith in
    ap (λ (n : List ℕ). spliced 0 n r) is ∙ ap (λ (k : ℕ). record r { burst = k }) same

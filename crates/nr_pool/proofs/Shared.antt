-- What is seen of texts, two of which may share elements.
use Rattle.std.proofs.Common.{◌≡◌, ◌≢◌, ℕ, All, slice_get, get_or, ◌+◌, ◌<◌, ◌≤◌, ◌⊎◌, Bool, true, false, List, [], ◌∷◌, ◌++◌, length, take, set, Option, None, Some, nat_eq, refl, sym, ap, ap₂, ◌∙◌, inl, inr, subst, arith}
use Rattle.std.proofs.lemmas.List.{get_or_default, get_or-set_other, get_or-take, length-set, set-set, set_comm, length-take-le, length-append, take-append-le, take_at, append-nil}
use Rattle.std.proofs.lemmas.Bool.{cases_eq, eqb-true, eqb-false, or_parts}
use Rattle.std.proofs.lemmas.Option.{slice_get-get_or, get_or_from_slice_get, slice_get_within}
use Rattle.nr_pool.specs.Texts.{Held, Texts, entry, text, holders, IsOpen, used, with_entry, with_text, with_holders, without_text, no_text, opened}
use Rattle.nr_pool.specs.Laws.{apart_of_unused, within_of_open, entry-with_entry_same, entry-with_entry_other, text-with_text_same, text-with_text_other, holders-with_text, used-with_entry, used-with_text, with_text-text}
use Rattle.nr_pool.specs.Sharing.{seen, IsShared, MayShare, HasRoom, is_part, is_shared}
use Rattle.nr_pool.specs.declared.sharing.Share.{Share}

-- two texts are written in either order
comm : {T : Type 0} (p : Texts T) (i j : ℕ) (t u : Held T) → i ≢ j → with_entry (with_entry p i t) j u ≡ with_entry (with_entry p j u) i t
comm p i j t u other = ap (λ ts. record p { texts = ts }) (set_comm p.texts i j t u other)

-- the later of two writes stays
twice : {T : Type 0} (p : Texts T) (i : ℕ) (t u : Held T) → with_entry (with_entry p i t) i u ≡ with_entry p i u
twice p i t u = ap (λ ts. record p { texts = ts }) (set-set p.texts i t u)

pub holders-seen : {T : Type 0} (p : Texts T) (o : Option Share) (id : ℕ) → holders (seen p o) id ≡ holders p id
holders-seen p None id = refl
holders-seen p (Some s) id = holders-with_text p s.part id (take s.len (text p s.whole))

module _ {T : Type 0} (p : Texts T) (s : Share) (shared : IsShared p s) where
  pub text_of_part : text (seen p (Some s)) s.part ≡ take s.len (text p s.whole)
  text_of_part = text-with_text_same p s.part (take s.len (text p s.whole)) (within_of_open p s.part shared.part_open)

  pub text_of_other : (id : ℕ) → id ≢ s.part → text (seen p (Some s)) id ≡ text p id
  text_of_other id other = text-with_text_other p s.part id (take s.len (text p s.whole)) other

  pub used-seen : used (seen p (Some s)) ≡ used p + s.len
  used-seen =
      let sum = used-with_text p s.part (take s.len (text p s.whole)) (within_of_open p s.part shared.part_open) in
      let none : length (text p s.part) ≡ 0 = ap length shared.empty in
      let long = length-take-le s.len (text p s.whole) shared.within in
      omega arith

  -- a text that is not the part is written, and keeps what it shares
  pub seen_written : (id : ℕ) (t : Held T) → id ≢ s.part → (id ≡ s.whole → take s.len t.elements ≡ take s.len (text p s.whole))
      → seen (with_entry p id t) (Some s) ≡ with_entry (seen p (Some s)) id t
  seen_written id t other same =
      let q = with_entry p id t in
      let held : holders q s.part ≡ holders p s.part = ap (λ (u : Held T). u.holders) (entry-with_entry_other p id s.part t (λ e. other (sym e))) in
      let shares : take s.len (text q s.whole) ≡ take s.len (text p s.whole) = elim (cases_eq id s.whole) [
        | inl e ↦ ap (λ k. take s.len (text q k)) (sym e) ∙ ap (λ (u : Held T). take s.len u.elements) (entry-with_entry_same p id t (subst (λ k. k < length p.texts) (sym e) (within_of_open p s.whole shared.whole_open))) ∙ same e
        | inr ne ↦ ap (λ (u : Held T). take s.len u.elements) (entry-with_entry_other p id s.whole t (λ e. ne (sym e)))
      ] in
      ap₂ (λ xs n. with_entry q s.part (record { elements = xs; holders = n })) shares held
      ∙ comm p id s.part t (record { elements = take s.len (text p s.whole); holders = holders p s.part }) other

  pub still_shared : (id : ℕ) (t : Held T) → id ≢ s.part → (id ≡ s.whole → s.len ≤ length t.elements) → (id ≡ s.whole → 0 < t.holders)
      → used (with_entry p id t) + s.len ≤ p.capacity → IsShared (with_entry p id t) s
  still_shared id t other long held room =
      let part_is : entry (with_entry p id t) s.part ≡ entry p s.part = entry-with_entry_other p id s.part t (λ e. other (sym e)) in
      record {
        apart = shared.apart;
        part_open = let same = ap (λ (u : Held T). u.holders) part_is in let was = shared.part_open in omega arith;
        whole_open = elim (cases_eq id s.whole) [
          | inl e ↦ subst (λ k. IsOpen (with_entry p id t) k) e (let now = ap (λ (u : Held T). u.holders) (entry-with_entry_same p id t (subst (λ k. k < length p.texts) (sym e) (within_of_open p s.whole shared.whole_open))) in let some = held e in omega arith)
          | inr ne ↦ let same = ap (λ (u : Held T). u.holders) (entry-with_entry_other p id s.whole t (λ e. ne (sym e))) in let was = shared.whole_open in omega arith
        ];
        empty = ap (λ (u : Held T). u.elements) part_is ∙ shared.empty;
        within = elim (cases_eq id s.whole) [
          | inl e ↦ subst (λ k. s.len ≤ length (text (with_entry p id t) k)) e (let now = ap (λ (u : Held T). length u.elements) (entry-with_entry_same p id t (subst (λ k. k < length p.texts) (sym e) (within_of_open p s.whole shared.whole_open))) in let some = long e in omega arith)
          | inr ne ↦ let same = ap (λ (u : Held T). length u.elements) (entry-with_entry_other p id s.whole t (λ e. ne (sym e))) in let was = shared.within in omega arith
        ];
        room = room;
      }

  -- the part is let go
  pub part_gone : without_text (seen p (Some s)) s.part ≡ without_text p s.part
  part_gone = twice p s.part (record { elements = take s.len (text p s.whole); holders = holders p s.part }) no_text

  -- the part has another number of holders
  pub part_held : (n : ℕ) → seen (with_holders p s.part n) (Some s) ≡ with_holders (seen p (Some s)) s.part n
  part_held n =
      let q = with_holders p s.part n in
      let a : Held T = record { elements = text p s.part; holders = n } in
      let b : Held T = record { elements = take s.len (text p s.whole); holders = holders p s.part } in
      let in_p = within_of_open p s.part shared.part_open in
      let held : holders q s.part ≡ n = ap (λ (u : Held T). u.holders) (entry-with_entry_same p s.part a in_p) in
      let shares : text q s.whole ≡ text p s.whole = ap (λ (u : Held T). u.elements) (entry-with_entry_other p s.part s.whole a (λ e. shared.apart (sym e))) in
      ap₂ (λ xs m. with_entry q s.part (record { elements = take s.len xs; holders = m })) shares held
      ∙ twice p s.part a (record { elements = take s.len (text p s.whole); holders = n })
      ∙ sym (twice p s.part b (record { elements = take s.len (text p s.whole); holders = n }))
      ∙ ap (λ xs. with_entry (seen p (Some s)) s.part (record { elements = xs; holders = n })) (sym text_of_part)

  pub part_held_shared : (n : ℕ) → 0 < n → IsShared (with_holders p s.part n) s
  part_held_shared n some =
      let a : Held T = record { elements = text p s.part; holders = n } in
      let in_p = within_of_open p s.part shared.part_open in
      let part_is : entry (with_holders p s.part n) s.part ≡ a = entry-with_entry_same p s.part a in_p in
      let whole_is : entry (with_holders p s.part n) s.whole ≡ entry p s.whole = entry-with_entry_other p s.part s.whole a (λ e. shared.apart (sym e)) in
      record {
        apart = shared.apart;
        part_open = let now = ap (λ (u : Held T). u.holders) part_is in omega arith;
        whole_open = let now = ap (λ (u : Held T). u.holders) whole_is in let was = shared.whole_open in omega arith;
        empty = ap (λ (u : Held T). u.elements) part_is ∙ shared.empty;
        within = let now = ap (λ (u : Held T). length u.elements) whole_is in let was = shared.within in omega arith;
        room = let sum = used-with_entry p s.part a in_p in let was = shared.room in omega arith;
      }

-- ---- any two may share

not_part : (s : Share) (id : ℕ) → is_part (Some s) id ≡ false → id ≢ s.part
not_part s id is e = eqb-false s.part id is (sym e)

-- a text, neither the part nor the whole, is written
pub written_apart : {T : Type 0} (p : Texts T) (o : Option Share) (id : ℕ) (t : Held T) → MayShare p o → is_shared o id ≡ false → seen (with_entry p id t) o ≡ with_entry (seen p o) id t
written_apart p None id t may none_of = refl
written_apart p (Some s) id t may none_of =
    let none = or_parts (nat_eq s.part id) (nat_eq s.whole id) none_of in
    seen_written p s may id t (not_part s id none.0) (λ e. absurd (eqb-false s.whole id none.1 (sym e)))

pub may_apart : {T : Type 0} (p : Texts T) (o : Option Share) (id : ℕ) (t : Held T) → MayShare p o → is_shared o id ≡ false → used (with_entry p id t) ≤ used p → MayShare (with_entry p id t) o
may_apart p None id t may none_of less = tt
may_apart p (Some s) id t may none_of less =
    let none = or_parts (nat_eq s.part id) (nat_eq s.whole id) none_of in
    let room = may.room in
    still_shared p s may id t (not_part s id none.0) (λ e. absurd (eqb-false s.whole id none.1 (sym e))) (λ e. absurd (eqb-false s.whole id none.1 (sym e))) (omega arith)

-- a text that shares nothing is as it is seen
pub same_apart : {T : Type 0} (p : Texts T) (o : Option Share) (id : ℕ) → is_shared o id ≡ false → entry (seen p o) id ≡ entry p id
same_apart p None id none_of = refl
same_apart p (Some s) id none_of =
    let none = or_parts (nat_eq s.part id) (nat_eq s.whole id) none_of in
    entry-with_entry_other p s.part id (record { elements = take s.len (text p s.whole); holders = holders p s.part }) (not_part s id none.0)

-- elements are added to a text that is not the part
pub added : {T : Type 0} (p : Texts T) (o : Option Share) (id : ℕ) (xs : List T) → MayShare p o → is_part o id ≡ false
    → seen (with_text p id (text p id ++ xs)) o ≡ with_text (seen p o) id (text (seen p o) id ++ xs)
added p None id xs may none_of = refl
added p (Some s) id xs may none_of =
    let other = not_part s id none_of in
    seen_written p s may id (record { elements = text p id ++ xs; holders = holders p id }) other (λ e. subst (λ k. take s.len (text p k ++ xs) ≡ take s.len (text p s.whole)) (sym e) (take-append-le s.len (text p s.whole) xs may.within))
    ∙ ap₂ (λ ys n. with_entry (seen p (Some s)) id (record { elements = ys ++ xs; holders = n })) (sym (text_of_other p s may id other)) (sym (holders-seen p (Some s) id))

pub may_added : {T : Type 0} (p : Texts T) (o : Option Share) (id : ℕ) (xs : List T) → MayShare p o → is_part o id ≡ false → IsOpen p id → HasRoom p o (length xs) → MayShare (with_text p id (text p id ++ xs)) o
may_added p None id xs may none_of is_open room = tt
may_added p (Some s) id xs may none_of is_open room =
    let sum = used-with_text p id (text p id ++ xs) (within_of_open p id is_open) in
    let long = length-append (text p id) xs in
    still_shared p s may id (record { elements = text p id ++ xs; holders = holders p id }) (not_part s id none_of)
    (λ e. let within = may.within in let same = ap (λ k. length (text p k)) e in omega arith) (λ _. is_open) (omega arith)

-- a text has another number of holders
pub held : {T : Type 0} (p : Texts T) (o : Option Share) (id n : ℕ) → MayShare p o → seen (with_holders p id n) o ≡ with_holders (seen p o) id n
held p None id n may = refl
held p (Some s) id n may = elim (cases_eq id s.part) [
  | inl e ↦ subst (λ k. seen (with_holders p k n) (Some s) ≡ with_holders (seen p (Some s)) k n) (sym e) (part_held p s may n)
  | inr other ↦ seen_written p s may id (record { elements = text p id; holders = n }) other (λ e. ap (λ k. take s.len (text p k)) e)
      ∙ ap (λ xs. with_entry (seen p (Some s)) id (record { elements = xs; holders = n })) (sym (text_of_other p s may id other))
]

pub may_held : {T : Type 0} (p : Texts T) (o : Option Share) (id n : ℕ) → MayShare p o → IsOpen p id → 0 < n → MayShare (with_holders p id n) o
may_held p None id n may is_open some = tt
may_held p (Some s) id n may is_open some = elim (cases_eq id s.part) [
  | inl e ↦ subst (λ k. IsShared (with_holders p k n) s) (sym e) (part_held_shared p s may n some)
  | inr other ↦
      let sum = used-with_entry p id (record { elements = text p id; holders = n }) (within_of_open p id is_open) in
      let room = may.room in
      still_shared p s may id (record { elements = text p id; holders = n }) other (λ e. let within = may.within in let same = ap (λ k. length (text p k)) e in omega arith) (λ _. some) (omega arith)
]

-- how many elements are counted
pub used-may : {T : Type 0} (p : Texts T) (o : Option Share) (count : ℕ) → MayShare p o → HasRoom p o count → (used (seen p o) + count ≤ p.capacity) ⊎ (o ≡ None)
used-may p None count may room = inr refl
used-may p (Some s) count may room = inl (let all = used-seen p s may in omega arith)

-- ---- a text is given, and shared from then on

pub given_seen : {T : Type 0} (p : Texts T) (from to n : ℕ) → from ≢ to → text p to ≡ [] → IsOpen p from → IsOpen p to → n ≡ length (text p from)
    → seen (with_text (with_text p from []) to (text p from)) (Some (record { part = from; whole = to; len = n })) ≡ with_text p to (text p to ++ text p from)
given_seen {T = T} p from to n apart empty from_open to_open long =
    let a : Held T = record { elements = []; holders = holders p from } in
    let q = with_entry p from a in
    let held_to : holders q to ≡ holders p to = ap (λ (u : Held T). u.holders) (entry-with_entry_other p from to a (λ e. apart (sym e))) in
    let b : Held T = record { elements = text p from; holders = holders q to } in
    let r = with_entry q to b in
    let held_from : holders r from ≡ holders p from = ap (λ (u : Held T). u.holders) (entry-with_entry_other q to from b apart ∙ entry-with_entry_same p from a (within_of_open p from from_open)) in
    let to_in : to < length q.texts = within_of_open q to (omega arith) in
    let whole_is : take n (text r to) ≡ text p from = ap (λ (u : Held T). take n u.elements) (entry-with_entry_same q to b to_in) ∙ ap (take n) (sym (append-nil (text p from))) ∙ take_at (text p from) [] n (sym long) in
    let c : Held T = record { elements = text p from; holders = holders p from } in
    ap₂ (λ xs m. with_entry r from (record { elements = xs; holders = m })) whole_is held_from
    ∙ comm q to from b c (λ e. apart (sym e))
    ∙ ap (λ s. with_entry s to b) (twice p from a c ∙ with_text-text p from)
    ∙ ap₂ (λ xs m. with_entry p to (record { elements = xs ++ text p from; holders = m })) (sym empty) held_to

pub given_shared : {T : Type 0} (p : Texts T) (from to n : ℕ) → from ≢ to → text p to ≡ [] → IsOpen p from → IsOpen p to → n ≡ length (text p from) → used p + n ≤ p.capacity
    → IsShared (with_text (with_text p from []) to (text p from)) (record { part = from; whole = to; len = n })
given_shared {T = T} p from to n apart empty from_open to_open long room =
    let a : Held T = record { elements = []; holders = holders p from } in
    let q = with_entry p from a in
    let from_in = within_of_open p from from_open in
    let to_is : entry q to ≡ entry p to = entry-with_entry_other p from to a (λ e. apart (sym e)) in
    let held_to : holders q to ≡ holders p to = ap (λ (u : Held T). u.holders) to_is in
    let none_to : length (text q to) ≡ 0 = ap (λ (u : Held T). length u.elements) to_is ∙ ap length empty in
    let b : Held T = record { elements = text p from; holders = holders q to } in
    let to_in : to < length q.texts = within_of_open q to (omega arith) in
    let from_is : entry (with_entry q to b) from ≡ a = entry-with_entry_other q to from b apart ∙ entry-with_entry_same p from a from_in in
    let whole_is : entry (with_entry q to b) to ≡ b = entry-with_entry_same q to b to_in in
    record {
      apart = apart;
      part_open = let now = ap (λ (u : Held T). u.holders) from_is in omega arith;
      whole_open = let now = ap (λ (u : Held T). u.holders) whole_is in omega arith;
      empty = ap (λ (u : Held T). u.elements) from_is;
      within = let now = ap (λ (u : Held T). length u.elements) whole_is in omega arith;
      room = let one = used-with_entry p from a from_in in let two = used-with_entry q to b to_in in omega arith;
    }

-- ---- what a call of the one pool is for the other

-- a text is changed after what shares it was given its own
pub parted_written : {T : Type 0} (p q : Texts T) (o r : Option Share) (id : ℕ) (f : List T → List T) (b : Bool) → b ≡ is_shared o id → MayShare p o → (b ≡ true → (r ≡ None) × (q ≡ seen p o)) → (b ≡ false → (r ≡ o) × (q ≡ p))
    → seen (with_text q id (f (text q id))) r ≡ with_text (seen p o) id (f (text (seen p o) id))
parted_written p q o r id f true is may parted same =
    let now = parted refl in
    ap₂ (λ (s : Texts _) (n : Option Share). seen (with_text s id (f (text s id))) n) now.1 now.0
parted_written p q o r id f false is may parted same =
    let now = same refl in
    ap₂ (λ (s : Texts _) (n : Option Share). seen (with_text s id (f (text s id))) n) now.1 now.0
    ∙ written_apart p o id (record { elements = f (text p id); holders = holders p id }) may (sym is)
    ∙ ap (λ (t : Held _). with_entry (seen p o) id (record { elements = f t.elements; holders = t.holders })) (sym (same_apart p o id (sym is)))

-- a text is removed after that
pub parted_closed : {T : Type 0} (p q : Texts T) (o r : Option Share) (id : ℕ) (b : Bool) → b ≡ is_shared o id → MayShare p o → (b ≡ true → (r ≡ None) × (q ≡ seen p o)) → (b ≡ false → (r ≡ o) × (q ≡ p))
    → seen (without_text q id) r ≡ without_text (seen p o) id
parted_closed p q o r id true is may parted same =
    let now = parted refl in
    ap₂ (λ (s : Texts _) (n : Option Share). seen (without_text s id) n) now.1 now.0
parted_closed p q o r id false is may parted same =
    let now = same refl in
    ap₂ (λ (s : Texts _) (n : Option Share). seen (without_text s id) n) now.1 now.0
    ∙ written_apart p o id no_text may (sym is)

-- the part is removed
pub part_closed : {T : Type 0} (p : Texts T) (o : Option Share) (id : ℕ) → is_part o id ≡ true → without_text p id ≡ without_text (seen p o) id
part_closed p None id is = cc
part_closed p (Some s) id is = subst (λ k. without_text p k ≡ without_text (seen p (Some s)) k) (eqb-true s.part id is) (sym (twice p s.part (record { elements = take s.len (text p s.whole); holders = holders p s.part }) no_text))

-- a text is opened
pub opened_seen : {T : Type 0} (p : Texts T) (o : Option Share) (id : ℕ) → MayShare p o → slice_get p.texts id ≡ Some no_text → seen (opened p id) o ≡ opened (seen p o) id
opened_seen p None id may free = refl
opened_seen p (Some s) id may free =
    seen_written p s may id (record { elements = []; holders = 1 }) (λ e. apart_of_unused p id s.part free may.part_open (sym e)) (λ e. absurd (apart_of_unused p id s.whole free may.whole_open (sym e)))

pub opened_may : {T : Type 0} (p : Texts T) (o : Option Share) (id : ℕ) → MayShare p o → slice_get p.texts id ≡ Some no_text → MayShare (opened p id) o
opened_may p None id may free = tt
opened_may p (Some s) id may free =
    let sum = used-with_entry p id (record { elements = []; holders = 1 }) (slice_get_within p.texts id no_text free) in
    let room = may.room in
    still_shared p s may id (record { elements = []; holders = 1 }) (λ e. apart_of_unused p id s.part free may.part_open (sym e))
    (λ e. absurd (apart_of_unused p id s.whole free may.whole_open (sym e))) (λ e. absurd (apart_of_unused p id s.whole free may.whole_open (sym e))) (omega arith)

pub free_seen : {T : Type 0} (p : Texts T) (o : Option Share) (id : ℕ) → MayShare p o → slice_get p.texts id ≡ Some no_text → slice_get (seen p o).texts id ≡ Some no_text
free_seen p None id may free = free
free_seen p (Some s) id may free =
    let t : Held _ = record { elements = take s.len (text p s.whole); holders = holders p s.part } in
    let within = slice_get_within p.texts id no_text free in
    slice_get-get_or (set p.texts s.part t) id no_text (omega (arith, length-set p.texts s.part t))
    ∙ ap (λ (x : Held _). Some x) (get_or-set_other p.texts s.part id t no_text (λ e. apart_of_unused p id s.part free may.part_open (sym e)) ∙ get_or_from_slice_get p.texts id no_text no_text free)

-- each number has a text
holders_at : {T : Type 0} (p : Texts T) (k : ℕ) (d : Held T) → k < length p.texts → (get_or p.texts k d).holders ≡ holders p k
holders_at p k d within = ap (λ (t : Held _). t.holders) (get_or_default p.texts k d no_text within)

length_seen : {T : Type 0} (p : Texts T) (o : Option Share) → length (seen p o).texts ≡ length p.texts
length_seen p None = refl
length_seen p (Some s) = length-set p.texts s.part (record { elements = take s.len (text p s.whole); holders = holders p s.part })

pub all_seen : {T : Type 0} (p : Texts T) (o : Option Share) → All (λ t. 0 < t.holders) p.texts → All (λ t. 0 < t.holders) (seen p o).texts
all_seen p o all k d below =
    let long = length_seen p o in
    let within : k < length p.texts = omega arith in
    let here = all k no_text within in
    let same = holders-seen p o k in
    let now = holders_at (seen p o) k d below in
    omega arith

pub all_unseen : {T : Type 0} (p : Texts T) (o : Option Share) → All (λ t. 0 < t.holders) (seen p o).texts → All (λ t. 0 < t.holders) p.texts
all_unseen p o all k d below =
    let long = length_seen p o in
    let within : k < length (seen p o).texts = omega arith in
    let here = all k no_text within in
    let same = holders-seen p o k in
    let now = holders_at p k d below in
    omega arith

-- an element of the part
pub part_element : {T : Type 0} (p : Texts T) (s : Share) (id k : ℕ) → IsShared p s → nat_eq s.part id ≡ true → k < length (text (seen p (Some s)) id) → (k < length (text p s.whole)) × (slice_get (text (seen p (Some s)) id) k ≡ slice_get (text p s.whole) k)
part_element {T = T} p s id k shared is below =
    let at : id ≡ s.part = sym (eqb-true s.part id is) in
    let is_first : text (seen p (Some s)) id ≡ take s.len (text p s.whole) = ap (text (seen p (Some s))) at ∙ text_of_part p s shared in
    let long = length-take-le s.len (text p s.whole) shared.within in
    let size : length (text (seen p (Some s)) id) ≡ length (take s.len (text p s.whole)) = ap length is_first in
    let fits = shared.within in (
      omega arith,
      ap (λ xs. slice_get xs k) is_first ∙ first (text p s.whole) s.len k (omega arith) (omega arith),
    )
  where
    first : (xs : List T) (n k : ℕ) → k < n → n ≤ length xs → slice_get (take n xs) k ≡ slice_get xs k
    first [] n k below fits = absurd (omega arith)
    first (x ∷ xs) n k below fits =
        let long = length-take-le n (x ∷ xs) fits in
        slice_get-get_or (take n (x ∷ xs)) k x (omega arith) ∙ ap (λ (y : T). Some y) (get_or-take n (x ∷ xs) k x below) ∙ sym (slice_get-get_or (x ∷ xs) k x (omega arith))

-- whether one element more fits
pub capacity-seen : {T : Type 0} (p : Texts T) (o : Option Share) → (seen p o).capacity ≡ p.capacity
capacity-seen p None = refl
capacity-seen p (Some s) = refl

pub full_seen : {T : Type 0} (q : Texts T) (r : Option Share) (n : ℕ) → MayShare q r → HasRoom q r n → 0 < n → q.capacity < used q + n → q.capacity < used (seen q r) + n
full_seen q None n may room some full = full
full_seen q (Some s) n may room some full = absurd (omega arith)

pub full_unseen : {T : Type 0} (q : Texts T) (r : Option Share) (n : ℕ) → MayShare q r → HasRoom q r n → q.capacity < used (seen q r) + n → q.capacity < used q + n
full_unseen q None n may room full = full
full_unseen q (Some s) n may room full = let sum = used-seen q s may in absurd (omega arith)

-- where there is room for more elements
pub has_room : {T : Type 0} (q : Texts T) (r : Option Share) (n : ℕ) → MayShare q r → used (seen q r) + n ≤ q.capacity → HasRoom q r n
has_room q None n may fits = tt
has_room q (Some s) n may fits = let sum = used-seen q s may in omega arith

-- a text that is not the part is as it is seen
pub whole_text : {T : Type 0} (q : Texts T) (r : Option Share) (id : ℕ) → MayShare q r → is_part r id ≡ false → text (seen q r) id ≡ text q id
whole_text q None id may none_of = refl
whole_text q (Some s) id may none_of = text_of_other q s may id (not_part s id none_of)

-- what has no part is no part
pub none_parted : (o r : Option Share) (id : ℕ) (b : Bool) → b ≡ is_part o id → (b ≡ true → r ≡ None) → (b ≡ false → r ≡ o) → is_part r id ≡ false
none_parted o r id true is parted same = ap (λ (n : Option Share). is_part n id) (parted refl)
none_parted o r id false is parted same = ap (λ (n : Option Share). is_part n id) (same refl) ∙ sym is

pub fewer_parts : (o r : Option Share) (b : Bool) → (b ≡ true → r ≡ None) → (b ≡ false → r ≡ o) → (other : ℕ) → is_part o other ≡ false → is_part r other ≡ false
fewer_parts o r true parted same other was = ap (λ (n : Option Share). is_part n other) (parted refl)
fewer_parts o r false parted same other was = ap (λ (n : Option Share). is_part n other) (same refl) ∙ was

pub parted_seen : {T : Type 0} (p q : Texts T) (o r : Option Share) (b : Bool) → (b ≡ true → (r ≡ None) × (q ≡ seen p o)) → (b ≡ false → (r ≡ o) × (q ≡ p)) → seen q r ≡ seen p o
parted_seen p q o r true parted same = let now = parted refl in ap₂ (λ (s : Texts _) (n : Option Share). seen s n) now.1 now.0
parted_seen p q o r false parted same = let now = same refl in ap₂ (λ (s : Texts _) (n : Option Share). seen s n) now.1 now.0

pub parted_may : {T : Type 0} (p q : Texts T) (o r : Option Share) (b : Bool) → MayShare p o → (b ≡ true → (r ≡ None) × (q ≡ seen p o)) → (b ≡ false → (r ≡ o) × (q ≡ p)) → MayShare q r
parted_may p q o r true may parted same = subst (λ (n : Option Share). MayShare q n) (sym (parted refl).0) tt
parted_may p q o r false may parted same = let now = same refl in subst (λ (n : Option Share). MayShare q n) (sym now.0) (subst (λ (s : Texts _). MayShare s o) (sym now.1) may)

pub parted_holders : {T : Type 0} (p q : Texts T) (o r : Option Share) (id : ℕ) (b : Bool) → (b ≡ true → (r ≡ None) × (q ≡ seen p o)) → (b ≡ false → (r ≡ o) × (q ≡ p)) → holders q id ≡ holders p id
parted_holders p q o r id true parted same = ap (λ (s : Texts _). holders s id) (parted refl).1 ∙ holders-seen p o id
parted_holders p q o r id false parted same = ap (λ (s : Texts _). holders s id) (same refl).1

pub parted_removed_may : {T : Type 0} (p q : Texts T) (o r : Option Share) (id : ℕ) (b : Bool) → b ≡ is_shared o id → MayShare p o → IsOpen p id → (b ≡ true → (r ≡ None) × (q ≡ seen p o)) → (b ≡ false → (r ≡ o) × (q ≡ p)) → MayShare (without_text q id) r
parted_removed_may p q o r id true is may is_open parted same = subst (λ (n : Option Share). MayShare (without_text q id) n) (sym (parted refl).0) tt
parted_removed_may p q o r id false is may is_open parted same =
    let now = same refl in
    let sum = used-with_entry p id no_text (within_of_open p id is_open) in
    subst (λ (n : Option Share). MayShare (without_text q id) n) (sym now.0)
    (subst (λ (s : Texts _). MayShare (without_text s id) o) (sym now.1) (may_apart p o id no_text may (sym is) (omega arith)))

pub used-least : {T : Type 0} (q : Texts T) (r : Option Share) → MayShare q r → used q ≤ used (seen q r)
used-least q None may = omega arith
used-least q (Some s) may = let sum = used-seen q s may in omega arith

pub all_taken : {X : Type 0} (xs : List X) (n : ℕ) → n ≡ length xs → take n xs ≡ xs
all_taken xs n long = ap (take n) (sym (append-nil xs)) ∙ take_at xs [] n (sym long)

-- A register that is known has another number from then on.
use Rattle.std.proofs.Common.{◌≡◌, ℕ, zero, suc, ◌+◌, ◌<◌, ◌≤◌, Bool, true, false, ◌||◌, List, [], ◌∷◌, ◌++◌, Some, length, get_or, take, drop, set, refl, sym, ap, arith, ◌∙◌, if◌then◌else◌}
use Rattle.std.specs.Prelude.{slice_get}
use Rattle.nr_vectors.specs.Items.{Items}
use Rattle.tbl_columns.specs.declared.grid.Grid.{Grid}
use Rattle.tbl_columns.specs.declared.registers.Register.{Register}
use Rattle.tbl_columns.specs.Registers.{is_known, list_eq, put_register, replaced}
use Rattle.tbl_table.specs.Lists.{added}
use Rattle.tbl_columns.proofs.Choices.{left, taken}

-- here
pub put_here : (r d : Register) (n : ℕ) (rs : List Register) → n < length rs → list_eq (get_or rs n d).name r.name ≡ true
    → take n rs ++ replaced r (drop n rs) ≡ set rs n r
put_here r d n [] h is = absurd (omega (arith, h))
put_here r d zero (q ∷ qs) h is = taken (list_eq q.name r.name) (r ∷ qs) (q ∷ replaced r qs) is
put_here r d (suc n) (q ∷ qs) h is = ap (λ (xs : List Register). q ∷ xs) (put_here r d n qs (omega (arith, h)) is)

or_true : (b : Bool) → (b ≡ true) → (c : Bool) → (b || c) ≡ true
or_true true e c = refl
or_true false e c = absurd (cc)

or_false : (b : Bool) → (b ≡ false) → (c : Bool) → (b || c) ≡ c
or_false true e c = absurd (cc)
or_false false e c = refl

pub known_here : (r d : Register) (n : ℕ) (rs : List Register) → n < length rs → list_eq (get_or rs n d).name r.name ≡ true
    → is_known r.name (drop n rs) ≡ true
known_here r d n [] h is = absurd (omega (arith, h))
known_here r d zero (q ∷ qs) h is = or_true (list_eq q.name r.name) is (is_known r.name qs)
known_here r d (suc n) (q ∷ qs) h is = known_here r d n qs (omega (arith, h)) is

-- not here
pub put_later : (r d : Register) (n : ℕ) (rs : List Register) → n < length rs → list_eq (get_or rs n d).name r.name ≡ false
    → take (n + 1) rs ++ replaced r (drop (n + 1) rs) ≡ take n rs ++ replaced r (drop n rs)
put_later r d n [] h is = absurd (omega (arith, h))
put_later r d zero (q ∷ qs) h is = sym (left (list_eq q.name r.name) (r ∷ qs) (q ∷ replaced r qs) is)
put_later r d (suc n) (q ∷ qs) h is =
    let next : suc n + 1 ≡ suc (n + 1) = omega arith in
    ap (λ (m : ℕ). take m (q ∷ qs) ++ replaced r (drop m (q ∷ qs))) next
    ∙ ap (λ (xs : List Register). q ∷ xs) (put_later r d n qs (omega (arith, h)) is)

pub known_later : (r d : Register) (n : ℕ) (rs : List Register) → n < length rs → list_eq (get_or rs n d).name r.name ≡ false
    → is_known r.name (drop (n + 1) rs) ≡ is_known r.name (drop n rs)
known_later r d n [] h is = absurd (omega (arith, h))
known_later r d zero (q ∷ qs) h is = sym (or_false (list_eq q.name r.name) is (is_known r.name qs))
known_later r d (suc n) (q ∷ qs) h is =
    let next : suc n + 1 ≡ suc (n + 1) = omega arith in
    ap (λ (m : ℕ). is_known r.name (drop m (q ∷ qs))) next ∙ known_later r d n qs (omega (arith, h)) is

-- ---- the registers of a grid

pub get_is : {T : Type 0} (xs : List T) (n : ℕ) (x d : T) → n < length xs → slice_get xs n ≡ Some x → get_or xs n d ≡ x
get_is [] n x d h e = absurd (omega (arith, h))
get_is (y ∷ ys) zero x d h e = cc
get_is (y ∷ ys) (suc n) x d h e = get_is ys n x d (omega (arith, h)) e

pub items_are : {T : Type 0} (xs ys : Items T) → xs.items ≡ ys.items → xs.capacity ≡ ys.capacity → xs ≡ ys
items_are {T} xs ys p q =
    let made : List T → ℕ → Items T = λ l n. record { items = l; capacity = n } in
    ap (λ l. made l xs.capacity) p ∙ ap (made ys.items) q

-- one that is known has another number
pub put_known : (r q : Register) (n : ℕ) (g : Grid) (rs : Items Register) → n < length g.registers.items
    → slice_get g.registers.items n ≡ Some q → list_eq q.name r.name ≡ true
    → is_known r.name (drop n g.registers.items) ≡ is_known r.name g.registers.items
    → take n g.registers.items ++ replaced r (drop n g.registers.items) ≡ replaced r g.registers.items
    → rs.items ≡ set g.registers.items n r → rs.capacity ≡ g.registers.capacity
    → record g { registers = rs } ≡ put_register r g
put_known r q n g rs h at is known before items room =
    let xs : List Register = g.registers.items in
    let here : list_eq (get_or xs n q).name r.name ≡ true = ap (λ (x : Register). list_eq x.name r.name) (get_is xs n q q h at) ∙ is in
    let all : is_known r.name xs ≡ true = sym known ∙ known_here r q n xs h here in
    let put : set xs n r ≡ replaced r xs = sym (put_here r q n xs h here) ∙ before in
    let new : Items Register = record g.registers { items = replaced r xs } in
    let same : rs ≡ new = items_are rs new (items ∙ put) room in
    ap (λ (ys : Items Register). record g { registers = ys })
    (same ∙ sym (taken (is_known r.name xs) new (added r g.registers) all))

-- one that is not known is added
pub put_new : (r : Register) (n : ℕ) (g : Grid) (rs : Items Register) → length g.registers.items ≤ n
    → is_known r.name (drop n g.registers.items) ≡ is_known r.name g.registers.items
    → rs ≡ added r g.registers → record g { registers = rs } ≡ put_register r g
put_new r n g rs h known adds =
    let xs : List Register = g.registers.items in
    let none : is_known r.name xs ≡ false = sym known ∙ ap (is_known r.name) (drop_none n xs h) in
    let new : Items Register = record g.registers { items = replaced r xs } in
    ap (λ (ys : Items Register). record g { registers = ys })
    (adds ∙ sym (left (is_known r.name xs) new (added r g.registers) none))
  where
    drop_none : (k : ℕ) (ys : List Register) → length ys ≤ k → drop k ys ≡ []
    drop_none zero [] e = refl
    drop_none zero (y ∷ ys) e = absurd (omega (arith, e))
    drop_none (suc k) [] e = refl
    drop_none (suc k) (y ∷ ys) e = drop_none k ys (omega (arith, e))

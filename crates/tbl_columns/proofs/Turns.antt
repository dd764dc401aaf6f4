-- What is changed by the first numbers in turn: one more changes what those before it made.
use Rattle.std.proofs.Common.{◌≡◌, ℕ, zero, suc, ◌+◌, ◌-◌, ◌≤◌, Bool, true, false, List, [], ◌∷◌, get_or, set, refl, ap, subst, add-one, arith, ◌∙◌, if◌then◌else◌}
use Rattle.nr_vectors.specs.Items.{Items}
use Rattle.tbl_table.specs.Lists.{added_each, in_turn}

pub one_more : {T : Type 0} (n : ℕ) (change : ℕ → T → T) (x : T) → in_turn (n + 1) change x ≡ change n (in_turn n change x)
one_more n change x = ap (λ (m : ℕ). in_turn m change x) (add-one n)

-- from a number on
pub one_further : {T : Type 0} (first n : ℕ) (change : ℕ → T → T) (x : T) → first ≤ n
    → in_turn (n + 1 - first) (λ k. change (first + k)) x ≡ change n (in_turn (n - first) (λ k. change (first + k)) x)
one_further {T} first n change x h =
    let more : n + 1 - first ≡ suc (n - first) = omega (arith, h) in
    let at : first + (n - first) ≡ n = omega (arith, h) in
    ap (λ (m : ℕ). in_turn m (λ k. change (first + k)) x) more
    ∙ ap (λ (m : ℕ). change m (in_turn (n - first) (λ k. change (first + k)) x)) at

-- lent room stays
pub each_room : {T : Type 0} (n : ℕ) (x : T) (xs : Items T) → (added_each n x xs).capacity ≡ xs.capacity
each_room zero x xs = refl
each_room (suc n) x xs = each_room n x xs

-- ---- one of a list is another

pub set_keeps : {T : Type 0} (G : T → ℕ) (xs : List T) (i : ℕ) (x d : T) → G (get_or xs i d) ≤ G x → (c : ℕ)
    → G (get_or xs c d) ≤ G (get_or (set xs i x) c d)
set_keeps G [] i x d h c = omega arith
set_keeps G (y ∷ ys) zero x d h zero = h
set_keeps G (y ∷ ys) zero x d h (suc c) = omega arith
set_keeps G (y ∷ ys) (suc i) x d h zero = omega arith
set_keeps G (y ∷ ys) (suc i) x d h (suc c) = set_keeps G ys i x d h c

pub set_has : {T : Type 0} (P : T → Type 0) (xs : List T) (i : ℕ) (x d : T) (c : ℕ) → P (get_or xs c d) → (c ≡ i → P x)
    → P (get_or (set xs i x) c d)
set_has P [] i x d c p q = p
set_has P (y ∷ ys) zero x d zero p q = q refl
set_has P (y ∷ ys) zero x d (suc c) p q = p
set_has P (y ∷ ys) (suc i) x d zero p q = p
set_has P (y ∷ ys) (suc i) x d (suc c) p q = set_has P ys i x d c p (λ e. q (ap suc e))

pub set_same : {T B : Type 0} (K : T → B) (xs : List T) (i : ℕ) (x d : T) → K x ≡ K (get_or xs i d) → (c : ℕ)
    → K (get_or (set xs i x) c d) ≡ K (get_or xs c d)
set_same K [] i x d h c = refl
set_same K (y ∷ ys) zero x d h zero = h
set_same K (y ∷ ys) zero x d h (suc c) = refl
set_same K (y ∷ ys) (suc i) x d h zero = refl
set_same K (y ∷ ys) (suc i) x d h (suc c) = set_same K ys i x d h c

-- ---- changes in turn

pub turn_keeps : {T : Type 0} (G : T → ℕ) (f : ℕ → T → T) → ((n : ℕ) (x : T) → G x ≤ G (f n x)) → (k : ℕ) (x : T) → G x ≤ G (in_turn k f x)
turn_keeps G f keep zero x = omega arith
turn_keeps G f keep (suc k) x =
    let before : G x ≤ G (in_turn k f x) = turn_keeps G f keep k x in
    let now : G (in_turn k f x) ≤ G (f k (in_turn k f x)) = keep k (in_turn k f x) in
    omega (arith, before, now)

pub turn_same : {T B : Type 0} (K : T → B) (f : ℕ → T → T) → ((n : ℕ) (x : T) → K (f n x) ≡ K x) → (k : ℕ) (x : T) → K (in_turn k f x) ≡ K x
turn_same K f same zero x = refl
turn_same K f same (suc k) x = same k (in_turn k f x) ∙ turn_same K f same k x

pub later_by : {T : Type 0} (G : T → ℕ) (f : ℕ → T → T) → ((n : ℕ) (x : T) → G x ≤ G (f n x)) → (n d N : ℕ) (x : T) → N ≡ d + n
    → G (in_turn n f x) ≤ G (in_turn N f x)
later_by G f keep n zero N x e =
    let same : n ≡ N = omega (arith, e) in
    subst (λ (m : ℕ). G (in_turn n f x) ≤ G (in_turn m f x)) same (omega arith)
later_by G f keep n (suc d) N x e =
    let next : suc (d + n) ≡ N = omega (arith, e) in
    let before : G (in_turn n f x) ≤ G (in_turn (d + n) f x) = later_by G f keep n d (d + n) x refl in
    let now : G (in_turn (d + n) f x) ≤ G (f (d + n) (in_turn (d + n) f x)) = keep (d + n) (in_turn (d + n) f x) in
    subst (λ (m : ℕ). G (in_turn n f x) ≤ G (in_turn m f x)) next (omega (arith, before, now))

pub later : {T : Type 0} (G : T → ℕ) (f : ℕ → T → T) → ((n : ℕ) (x : T) → G x ≤ G (f n x)) → (n N : ℕ) (x : T) → n ≤ N
    → G (in_turn n f x) ≤ G (in_turn N f x)
later G f keep n N x h = later_by G f keep n (N - n) N x (omega (arith, h))

pub turn_has : {T : Type 0} (P : T → Type 0) (f : ℕ → T → T) → ((n : ℕ) (x : T) → P x → P (f n x)) → (k : ℕ) (x : T) → P x → P (in_turn k f x)
turn_has P f step zero x p = p
turn_has P f step (suc k) x p = step k (in_turn k f x) (turn_has P f step k x p)

later_has_by : {T : Type 0} (P : T → Type 0) (f : ℕ → T → T) → ((n : ℕ) (x : T) → P x → P (f n x)) → (n d N : ℕ) (x : T) → N ≡ d + n
    → P (in_turn n f x) → P (in_turn N f x)
later_has_by P f step n zero N x e p =
    let same : n ≡ N = omega (arith, e) in
    subst (λ (m : ℕ). P (in_turn m f x)) same p
later_has_by P f step n (suc d) N x e p =
    let next : suc (d + n) ≡ N = omega (arith, e) in
    subst (λ (m : ℕ). P (in_turn m f x)) next (step (d + n) (in_turn (d + n) f x) (later_has_by P f step n d (d + n) x refl p))

pub later_has : {T : Type 0} (P : T → Type 0) (f : ℕ → T → T) → ((n : ℕ) (x : T) → P x → P (f n x)) → (n N : ℕ) (x : T) → n ≤ N
    → P (in_turn n f x) → P (in_turn N f x)
later_has P f step n N x h p = later_has_by P f step n (N - n) N x (omega (arith, h)) p

-- ---- a choice

pub if_least : {T : Type 0} (G : T → ℕ) (p : ℕ) (b : Bool) (x y : T) → p ≤ G x → p ≤ G y → p ≤ G (if b then x else y)
if_least G p true x y h k = h
if_least G p false x y h k = k

pub if_same : {T B : Type 0} (K : T → B) (b : Bool) (x y : T) (z : B) → K x ≡ z → K y ≡ z → K (if b then x else y) ≡ z
if_same K true x y z h k = h
if_same K false x y z h k = k

pub if_true : {T : Type 0} (b : Bool) (x y : T) → b ≡ true → (if b then x else y) ≡ x
if_true true x y e = refl
if_true false x y e = cc

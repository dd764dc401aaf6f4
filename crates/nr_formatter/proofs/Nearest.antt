-- The nearest trap of those at some places.
use Rattle.std.proofs.Common.{◌≡◌, ◌<ℤ◌, ◌≤ℤ◌, Bool, true, false, ◌&&◌, cond, List, [], ◌∷◌, Option, None, Some, fold, ℤ, negsuc, refl, ap, sym, ◌∙◌, subst, arith}
use Rattle.std.specs.Prelude.{int_lt}
use Rattle.std.specs.List.{filter}
use Rattle.std.specs.Ordering.{int_eq}
use Rattle.std.proofs.lemmas.Bool.Decides.{Decides-int_eq}
use Rattle.std.proofs.lemmas.Int.{ints}
use Rattle.nr_symbol_tables.specs.Trap.{on_page, is_ahead, lower, nearer, nearest}
use Rattle.nr_symbol_tables.specs.declared.trap.Trap.{Trap}
use Rattle.nr_formatter.specs.Pages.{macro_at}
use Rattle.nr_formatter.proofs.Below.{IsFound, IsFound_nearest}

-- ---- orders of places

lt_true : (a b : ℤ) → int_lt a b ≡ true → a <ℤ b
lt_true a b h = grind (arith, ints)

lt_false : (a b : ℤ) → int_lt a b ≡ false → b ≤ℤ a
lt_false a b h = grind (arith, ints)

true_lt : (a b : ℤ) → a <ℤ b → int_lt a b ≡ true
true_lt a b h = grind (arith, ints)

false_lt : (a b : ℤ) → b ≤ℤ a → int_lt a b ≡ false
false_lt a b h = grind (arith, ints)

-- ---- the nearest trap, from the last one planted

-- where a trap is on the page
abbrev at : ℤ → Trap → Trap
at length t = record { place = on_page t.place length; name = t.name }

-- a trap or the best of those planted after it
abbrev better : Trap → Option Trap → Option Trap
better t None = Some t
better t (Some y) = cond (int_lt y.place t.place) (Some y) (Some t)

abbrev near : ℤ → ℤ → List Trap → Option Trap
near above length [] = None
near above length (t ∷ ts) = cond (is_ahead above length (on_page t.place length)) (better (at length t) (near above length ts)) (near above length ts)

abbrev join : Option Trap → Option Trap → Option Trap
join None y = y
join (Some b) y = better b y

picks : {A : Type 0} (p q r : Bool) (u b z : A) → (p ≡ true → q ≡ true → r ≡ true) → (p ≡ false → q ≡ false → r ≡ false) →
    cond p (cond q z u) (cond r z b) ≡ cond q (cond r z b) (cond p u b)
picks true true true u b z h i = refl
picks true true false u b z h i = let no = h refl refl in absurd (cc)
picks true false r u b z h i = refl
picks false true r u b z h i = refl
picks false false true u b z h i = let no = i refl refl in absurd (cc)
picks false false false u b z h i = refl

join_lower : (u b z : Trap) → join (lower (Some b) u) (Some z) ≡ better b (better u (Some z))
join_lower u b z =
    elim (int_lt u.place b.place) as (λ p. join (cond p (Some u) (Some b)) (Some z) ≡ cond p (cond (int_lt z.place u.place) (Some z) (Some u)) (cond (int_lt z.place b.place) (Some z) (Some b))) [ true ↦ refl | false ↦ refl ]
    ∙ picks (int_lt u.place b.place) (int_lt z.place u.place) (int_lt z.place b.place) (Some u) (Some b) (Some z)
    (λ p q. let pp = lt_true u.place b.place p in let qq = lt_true z.place u.place q in true_lt z.place b.place (omega (arith, ints)))
    (λ p q. let pp = lt_false u.place b.place p in let qq = lt_false z.place u.place q in false_lt z.place b.place (omega (arith, ints)))
    ∙ elim (int_lt z.place u.place) as (λ q. cond q (cond (int_lt z.place b.place) (Some z) (Some b)) (cond (int_lt u.place b.place) (Some u) (Some b)) ≡ better b (cond q (Some z) (Some u))) [ true ↦ refl | false ↦ refl ]

join_lower_none : (u b : Trap) → join (lower (Some b) u) None ≡ better b (Some u)
join_lower_none u b = elim (int_lt u.place b.place) as (λ p. join (cond p (Some u) (Some b)) None ≡ cond p (Some u) (Some b)) [ true ↦ refl | false ↦ refl ]

joined : (u : Trap) (best y : Option Trap) → join (lower best u) y ≡ join best (better u y)
joined u None y = refl
joined u (Some b) None = join_lower_none u b
joined u (Some b) (Some z) = join_lower u b z

joined_by : (u : Trap) (best y : Option Trap) (v : Bool) → join (cond v (lower best u) best) y ≡ join best (cond v (better u y) y)
joined_by u best y true = joined u best y
joined_by u best y false = refl

fold-near : (above length : ℤ) (ts : List Trap) (best : Option Trap) → fold (nearer above length) best ts ≡ join best (near above length ts)
fold-near above length [] None = refl
fold-near above length [] (Some b) = refl
fold-near above length (t ∷ ts) best =
    fold-near above length ts (nearer above length best t)
    ∙ joined_by (at length t) best (near above length ts) (is_ahead above length (on_page t.place length))

nearest-near : (above length : ℤ) (ts : List Trap) → nearest above length ts ≡ near above length ts
nearest-near above length ts = fold-near above length ts None

-- ---- of the traps at some places

-- a place is at another one or below it
abbrev IsFrom : ℤ → Option Trap → Type 0
IsFrom place None = Unit {0}
IsFrom place (Some z) = place ≤ℤ z.place

-- the nearest of all, and the nearest of those at some places
abbrev Follows : (ℤ → Bool) → Option Trap → Option Trap → Type 0
Follows kept None r = r ≡ None
Follows kept (Some x) r = (kept x.place ≡ true → r ≡ Some x) × IsFrom x.place r

from_better : (place : ℤ) (u : Trap) (r : Option Trap) → place ≤ℤ u.place → IsFrom place r → IsFrom place (better u r)
from_better place u None h i = h
from_better place u (Some z) h i = elim (int_lt z.place u.place) as (λ v. IsFrom place (cond v (Some z) (Some u))) [ true ↦ i | false ↦ h ]

from_kept : (place : ℤ) (u : Trap) (r : Option Trap) (v : Bool) → place ≤ℤ u.place → IsFrom place r → IsFrom place (cond v (better u r) r)
from_kept place u r true h i = from_better place u r h i
from_kept place u r false h i = i

from_above : (place below : ℤ) (r : Option Trap) → place ≤ℤ below → IsFrom below r → IsFrom place r
from_above place below None h i = tt
from_above place below (Some z) h i = omega (arith, ints)

better_first : (u : Trap) (r : Option Trap) → IsFrom u.place r → better u r ≡ Some u
better_first u None i = refl
better_first u (Some z) i = let e = false_lt z.place u.place i in rw e refl

better_kept : (u x : Trap) (v : Bool) → int_lt x.place u.place ≡ true → cond v (better u (Some x)) (Some x) ≡ Some x
better_kept u x true h = rw h refl
better_kept u x false h = refl

le_itself : (a : ℤ) → a ≤ℤ a
le_itself a = omega (arith, ints)

follows_first : (kept : ℤ → Bool) (u : Trap) (r : Option Trap) (v : Bool) → v ≡ kept u.place → IsFrom u.place r → Follows kept (Some u) (cond v (better u r) r)
follows_first kept u r true e i = (λ k. better_first u r i, from_better u.place u r (le_itself u.place) i)
follows_first kept u r false e i = (λ k. absurd (cc), i)

follows_better_by : (kept : ℤ → Bool) (u x : Trap) (r : Option Trap) (v p : Bool) → v ≡ kept u.place → int_lt x.place u.place ≡ p →
    Follows kept (Some x) r → Follows kept (cond p (Some x) (Some u)) (cond v (better u r) r)
follows_better_by kept u x r v true e t h = (
  λ k. subst (λ o. cond v (better u o) o ≡ Some x) (sym (h.0 k)) (better_kept u x v t),
  from_kept x.place u r v (let lt = lt_true x.place u.place t in omega (arith, ints)) h.1,
)
follows_better_by kept u x r v false e t h = follows_first kept u r v e (from_above u.place x.place r (lt_false x.place u.place t) h.1)

follows_better : (kept : ℤ → Bool) (u : Trap) (n r : Option Trap) → Follows kept n r → Follows kept (better u n) (cond (kept u.place) (better u r) r)
follows_better kept u None r h = follows_first kept u r (kept u.place) refl (subst (IsFrom u.place) (sym h) tt)
follows_better kept u (Some x) r h = follows_better_by kept u x r (kept u.place) (int_lt x.place u.place) refl refl h

-- traps at the places that are kept
abbrev pub at_kept : (ℤ → Bool) → ℤ → List Trap → List Trap
at_kept kept length ts = filter (λ t. kept (on_page t.place length)) ts

near_kept : (above length : ℤ) (t : Trap) (ts : List Trap) (v : Bool) →
    near above length (cond v (t ∷ ts) ts) ≡
    cond (is_ahead above length (on_page t.place length)) (cond v (better (at length t) (near above length ts)) (near above length ts)) (near above length ts)
near_kept above length t ts true = refl
near_kept above length t ts false = elim (is_ahead above length (on_page t.place length)) as (λ v. near above length ts ≡ cond v (near above length ts) (near above length ts)) [ true ↦ refl | false ↦ refl ]

follows_by : (kept : ℤ → Bool) (u : Trap) (n r : Option Trap) (v : Bool) → Follows kept n r →
    Follows kept (cond v (better u n) n) (cond v (cond (kept u.place) (better u r) r) r)
follows_by kept u n r true h = follows_better kept u n r h
follows_by kept u n r false h = h

follows_near : (kept : ℤ → Bool) (above length : ℤ) (ts : List Trap) → Follows kept (near above length ts) (near above length (at_kept kept length ts))
follows_near kept above length [] = refl
follows_near kept above length (t ∷ ts) =
    let place = on_page t.place length in
    subst (Follows kept (near above length (t ∷ ts))) (sym (near_kept above length t (at_kept kept length ts) (kept place)))
    (follows_by kept (at length t) (near above length ts) (near above length (at_kept kept length ts)) (is_ahead above length place) (follows_near kept above length ts))

-- ---- what is passed

-- a place is not above the nearest trap
abbrev IsAtLeast : Option Trap → ℤ → Type 0
IsAtLeast None z = ⊥
IsAtLeast (Some x) z = x.place ≤ℤ z

abbrev AreAtLeast : ℤ → ℤ → Option Trap → List Trap → Type 0
AreAtLeast above length n [] = Unit {0}
AreAtLeast above length n (t ∷ ts) = (is_ahead above length (on_page t.place length) ≡ true → IsAtLeast n (on_page t.place length)) × AreAtLeast above length n ts

least_better : (u : Trap) (n : Option Trap) (z : ℤ) → IsAtLeast n z → IsAtLeast (better u n) z
least_better u None z h = absurd h
least_better u (Some x) z h =
    elim (int_lt x.place u.place) as (λ v. int_lt x.place u.place ≡ v → IsAtLeast (cond v (Some x) (Some u)) z) [
      | true ↦ λ e. h
      | false ↦ λ e. let le = lt_false x.place u.place e in omega (arith, ints)
    ] refl

least_itself : (u : Trap) (n : Option Trap) → IsAtLeast (better u n) u.place
least_itself u None = le_itself u.place
least_itself u (Some x) =
    elim (int_lt x.place u.place) as (λ v. int_lt x.place u.place ≡ v → IsAtLeast (cond v (Some x) (Some u)) u.place) [
      | true ↦ λ e. let lt = lt_true x.place u.place e in omega (arith, ints)
      | false ↦ λ e. le_itself u.place
    ] refl

all_better : (above length : ℤ) (u : Trap) (n : Option Trap) (ts : List Trap) → AreAtLeast above length n ts → AreAtLeast above length (better u n) ts
all_better above length u n [] h = tt
all_better above length u n (t ∷ ts) h = (λ a. least_better u n (on_page t.place length) (h.0 a), all_better above length u n ts h.1)

least_by : (above length : ℤ) (t : Trap) (ts : List Trap) (n : Option Trap) (v : Bool) → is_ahead above length (on_page t.place length) ≡ v →
    AreAtLeast above length n ts → AreAtLeast above length (cond v (better (at length t) n) n) (t ∷ ts)
least_by above length t ts n true e h = (λ a. least_itself (at length t) n, all_better above length (at length t) n ts h)
least_by above length t ts n false e h = (λ a. absurd (cc), h)

least_near : (above length : ℤ) (ts : List Trap) → AreAtLeast above length (near above length ts) ts
least_near above length [] = tt
least_near above length (t ∷ ts) = least_by above length t ts (near above length ts) (is_ahead above length (on_page t.place length)) refl (least_near above length ts)

ahead_lt : (above length z : ℤ) → is_ahead above length z ≡ true → above <ℤ z
ahead_lt above length z h = grind (arith, ints)

and_same : (a b r : Bool) → (r ≡ true → a ≡ b) → (a && r) ≡ (b && r)
and_same a b true h = let e = h refl in rw e refl
and_same true true false h = refl
and_same true false false h = refl
and_same false true false h = refl
and_same false false false h = refl

-- beyond a trap that is passed lies what lay beyond the place before, but for that trap's own place
same_ahead : (above length x z : ℤ) → above <ℤ x → (is_ahead above length z ≡ true → x <ℤ z) → is_ahead above length z ≡ is_ahead x length z
same_ahead above length x z h i =
    and_same (int_lt above z) (int_lt x z) (int_lt (negsuc 0) z && int_lt z length)
    (λ r. elim (int_lt above z) as (λ v. int_lt above z ≡ v → v ≡ int_lt x z) [
      | true ↦ λ e. sym (true_lt x z (i (rw e (rw r refl))))
      | false ↦ λ e. let le = lt_false above z e in sym (false_lt x z (omega (arith, ints)))
    ] refl)

apart : (kept : ℤ → Bool) (x z : ℤ) → kept x ≡ false → kept z ≡ true → x ≤ℤ z → x <ℤ z
apart kept x z a b h =
    elim (int_lt x z) as (λ v. int_lt x z ≡ v → x <ℤ z) [
      | true ↦ λ e. lt_true x z e
      | false ↦ λ e. let le = lt_false x z e in let same : x ≡ z = omega (arith, ints) in let both : true ≡ false = sym b ∙ (ap kept (sym same) ∙ a) in absurd (cc)
    ] refl

passed_by : (kept : ℤ → Bool) (above length : ℤ) (x : Trap) (t : Trap) (ts : List Trap) (v : Bool) → kept (on_page t.place length) ≡ v →
    above <ℤ x.place → kept x.place ≡ false → (is_ahead above length (on_page t.place length) ≡ true → x.place ≤ℤ on_page t.place length) →
    near above length (at_kept kept length ts) ≡ near x.place length (at_kept kept length ts) →
    near above length (cond v (t ∷ at_kept kept length ts) (at_kept kept length ts)) ≡ near x.place length (cond v (t ∷ at_kept kept length ts) (at_kept kept length ts))
passed_by kept above length x t ts true e h a b i =
    let z = on_page t.place length in
    let same : is_ahead above length z ≡ is_ahead x.place length z = same_ahead above length x.place z h (λ k. apart kept x.place z a e (b k)) in
    subst (λ w. cond (is_ahead above length z) (better (at length t) (near above length (at_kept kept length ts))) (near above length (at_kept kept length ts)) ≡ cond w (better (at length t) (near x.place length (at_kept kept length ts))) (near x.place length (at_kept kept length ts))) same
    (ap (λ n. cond (is_ahead above length z) (better (at length t) n) n) i)
passed_by kept above length x t ts false e h a b i = i

near_passed : (kept : ℤ → Bool) (above length : ℤ) (x : Trap) (ts : List Trap) → above <ℤ x.place → kept x.place ≡ false → AreAtLeast above length (Some x) ts →
    near above length (at_kept kept length ts) ≡ near x.place length (at_kept kept length ts)
near_passed kept above length x [] h a b = refl
near_passed kept above length x (t ∷ ts) h a b =
    passed_by kept above length x t ts (kept (on_page t.place length)) refl h a b.0 (near_passed kept above length x ts h a b.1)

-- ---- the macro at a place

abbrev IsNamed : ℤ → Option Trap → List Trap → Type 0
IsNamed length None ts = Unit {0}
IsNamed length (Some x) ts = macro_at length x.place ts ≡ Some x.name

eq_itself : (a : ℤ) → int_eq a a ≡ true
eq_itself a = (Decides-int_eq a a).1 refl

eq_other : (a b : ℤ) → (a ≡ b → ⊥) → int_eq a b ≡ false
eq_other a b h =
    elim (int_eq a b) as (λ v. int_eq a b ≡ v → v ≡ false) [
      | true ↦ λ e. absurd (h ((Decides-int_eq a b).0 e))
      | false ↦ λ e. refl
    ] refl

named_first : (length : ℤ) (t : Trap) (ts : List Trap) → macro_at length (on_page t.place length) (t ∷ ts) ≡ Some t.name
named_first length t ts = let e = eq_itself (on_page t.place length) in rw e refl

named_after : (length place : ℤ) (t : Trap) (ts : List Trap) → (on_page t.place length ≡ place → ⊥) → macro_at length place (t ∷ ts) ≡ macro_at length place ts
named_after length place t ts h = let e = eq_other (on_page t.place length) place h in rw e refl

named_better : (length : ℤ) (t : Trap) (ts : List Trap) (n : Option Trap) → IsNamed length n ts → IsNamed length (better (at length t) n) (t ∷ ts)
named_better length t ts None h = named_first length t ts
named_better length t ts (Some x) h =
    elim (int_lt x.place (on_page t.place length)) as (λ v. int_lt x.place (on_page t.place length) ≡ v → IsNamed length (cond v (Some x) (Some (at length t))) (t ∷ ts)) [
      | true ↦ λ e. let lt = lt_true x.place (on_page t.place length) e in named_after length x.place t ts (λ same. omega (arith, ints)) ∙ h
      | false ↦ λ e. named_first length t ts
    ] refl

named_other : (above length : ℤ) (t : Trap) (ts : List Trap) (n : Option Trap) → is_ahead above length (on_page t.place length) ≡ false →
    IsFound above length n → IsNamed length n ts → IsNamed length n (t ∷ ts)
named_other above length t ts None a i h = tt
named_other above length t ts (Some x) a i h =
    named_after length x.place t ts (λ same. let both : true ≡ false = sym i ∙ (ap (is_ahead above length) (sym same) ∙ a) in cc) ∙ h

named_by : (above length : ℤ) (t : Trap) (ts : List Trap) (n : Option Trap) (v : Bool) → is_ahead above length (on_page t.place length) ≡ v →
    IsFound above length n → IsNamed length n ts → IsNamed length (cond v (better (at length t) n) n) (t ∷ ts)
named_by above length t ts n true a i h = named_better length t ts n h
named_by above length t ts n false a i h = named_other above length t ts n a i h

found_near : (above length : ℤ) (ts : List Trap) → IsFound above length (near above length ts)
found_near above length ts = subst (IsFound above length) (nearest-near above length ts) (IsFound_nearest above length ts)

named_near : (above length : ℤ) (ts : List Trap) → IsNamed length (near above length ts) ts
named_near above length [] = tt
named_near above length (t ∷ ts) =
    named_by above length t ts (near above length ts) (is_ahead above length (on_page t.place length)) refl (found_near above length ts) (named_near above length ts)

-- ---- all of it

-- where no trap is found, none is found of those at some places
pub none_kept : (kept : ℤ → Bool) (above length : ℤ) (ts : List Trap) → nearest above length ts ≡ None → nearest above length (at_kept kept length ts) ≡ None
none_kept kept above length ts e =
    nearest-near above length (at_kept kept length ts)
    ∙ subst (λ n. Follows kept n (near above length (at_kept kept length ts))) (sym (nearest-near above length ts) ∙ e) (follows_near kept above length ts)

-- a trap that is found at one of those places is the nearest of those
pub found_kept : (kept : ℤ → Bool) (above length : ℤ) (ts : List Trap) (x : Trap) → nearest above length ts ≡ Some x → kept x.place ≡ true →
    nearest above length (at_kept kept length ts) ≡ Some x
found_kept kept above length ts x e k =
    let both : Follows kept (Some x) (near above length (at_kept kept length ts)) =
    subst (λ n. Follows kept n (near above length (at_kept kept length ts))) (sym (nearest-near above length ts) ∙ e) (follows_near kept above length ts) in
    nearest-near above length (at_kept kept length ts) ∙ both.0 k

-- one that is found elsewhere is passed
pub passed_kept : (kept : ℤ → Bool) (above length : ℤ) (ts : List Trap) (x : Trap) → nearest above length ts ≡ Some x → kept x.place ≡ false →
    nearest above length (at_kept kept length ts) ≡ nearest x.place length (at_kept kept length ts)
passed_kept kept above length ts x e k =
    let least : AreAtLeast above length (Some x) ts = subst (λ n. AreAtLeast above length n ts) (sym (nearest-near above length ts) ∙ e) (least_near above length ts) in
    let found : is_ahead above length x.place ≡ true = subst (IsFound above length) e (IsFound_nearest above length ts) in
    nearest-near above length (at_kept kept length ts)
    ∙ (near_passed kept above length x ts (ahead_lt above length x.place found) k least
    ∙ sym (nearest-near x.place length (at_kept kept length ts)))

-- the macro of a trap that is found is that at its place
pub macro_found : (above length : ℤ) (ts : List Trap) (x : Trap) → nearest above length ts ≡ Some x → macro_at length x.place ts ≡ Some x.name
macro_found above length ts x e = subst (λ n. IsNamed length n ts) (sym (nearest-near above length ts) ∙ e) (named_near above length ts)

-- ---- a place further down

-- a place is above a trap, if there is one
abbrev pub IsAbove : ℤ → Option Trap → Type 0
IsAbove place None = Unit {0}
IsAbove place (Some x) = place <ℤ x.place

lt_least : (place z : ℤ) (n : Option Trap) → IsAbove place n → IsAtLeast n z → place <ℤ z
lt_least place z None above least = absurd least
lt_least place z (Some x) above least = omega (arith, ints, above, least)

ahead_further : (above place length z : ℤ) → above ≤ℤ place → (is_ahead above length z ≡ true → place <ℤ z) → is_ahead place length z ≡ is_ahead above length z
ahead_further above place length z down beyond =
    and_same (int_lt place z) (int_lt above z) (int_lt (negsuc 0) z && int_lt z length)
    (λ r. elim (int_lt above z) as (λ v. int_lt above z ≡ v → int_lt place z ≡ v) [
      | true ↦ λ e. true_lt place z (beyond (rw e (rw r refl)))
      | false ↦ λ e. let le = lt_false above z e in false_lt place z (omega (arith, ints, le, down))
    ] refl)

near_further : (above place length : ℤ) (ts : List Trap) (n : Option Trap) → above ≤ℤ place → IsAbove place n → AreAtLeast above length n ts → near place length ts ≡ near above length ts
near_further above place length [] n down over least = refl
near_further above place length (t ∷ ts) n down over least =
    let z = on_page t.place length in
    let same = ahead_further above place length z down (λ a. lt_least place z n over (least.0 a)) in
    rw (same, near_further above place length ts n down over least.1) refl

-- the nearest trap is the same further down, as long as it lies below
pub nearest_further : (above place length : ℤ) (ts : List Trap) → above ≤ℤ place → IsAbove place (nearest above length ts) → nearest place length ts ≡ nearest above length ts
nearest_further above place length ts down over =
    let same = nearest-near above length ts in
    nearest-near place length ts
    ∙ near_further above place length ts (near above length ts) down (subst (IsAbove place) same over) (least_near above length ts)
    ∙ sym same

-- The first bytes of a source, and then the others, are what it was to give.
use Rattle.std.proofs.Common.{◌≡◌, ℕ, ◌+◌, List, ◌++◌, length, Option, None, Some, refl, sym, ◌∙◌, ap, subst, append_assoc, length-append, arith}
use Rattle.nr_units.specs.Source.{Faults, Never, After, Anytime, Supply}
use Rattle.document_stages.specs.Joined.{after_more, joined}
use Rattle.document_stages.specs.Pulling.{Stays}

abbrev supplied : List ℕ → Faults → Option Supply
supplied bytes faults = Some (record { bytes = bytes; faults = faults })

same_supply : (xs ys : List ℕ) (f g : Faults) → xs ≡ ys → f ≡ g → supplied xs f ≡ supplied ys g
same_supply xs ys f g p q = ap (λ (zs : List ℕ). supplied zs f) p ∙ ap (λ (h : Faults). supplied ys h) q

-- ---- more came

more_later : (n m : ℕ) (f : Faults) → after_more (n + m) f ≡ after_more n (after_more m f)
more_later n m Never = refl
more_later n m (After k) = ap After (omega arith)
more_later n m Anytime = refl

joined_more : (xs ys : List ℕ) (known : Option Supply) → joined (xs ++ ys) known ≡ joined xs (joined ys known)
joined_more xs ys None = refl
joined_more xs ys (Some q) =
    same_supply ((xs ++ ys) ++ q.bytes) (xs ++ (ys ++ q.bytes)) (after_more (length (xs ++ ys)) q.faults) (after_more (length xs) (after_more (length ys) q.faults))
    (append_assoc xs ys q.bytes) (ap (λ (k : ℕ). after_more k q.faults) (length-append xs ys) ∙ more_later (length xs) (length ys) q.faults)

further : (known mid new : Option Supply) (xs ys : List ℕ) → Stays known (joined xs mid) → Stays mid (joined ys new) → Stays known (joined xs (joined ys new))
further None mid new xs ys first next = tt
further (Some q) None new xs ys first next = absurd (let never : None ≡ Some q = first in cc)
further (Some q) (Some t) new xs ys first next = ap (joined xs) next ∙ first

pub more-came : (known mid new : Option Supply) (xs ys all : List ℕ) → Stays known (joined xs mid) → Stays mid (joined ys new) → all ≡ xs ++ ys → Stays known (joined all new)
more-came known mid new xs ys all first next is =
    subst (λ (z : Option Supply). Stays known z) (sym (ap (λ (zs : List ℕ). joined zs new) is ∙ joined_more xs ys new)) (further known mid new xs ys first next)

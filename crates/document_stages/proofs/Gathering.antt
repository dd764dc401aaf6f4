-- Bytes that were read ahead, and then the others, are what a source was to give.
use Rattle.std.proofs.Common.{◌≡◌, ℕ, ◌+◌, ◌-◌, ◌<◌, ◌≤◌, List, [], ◌∷◌, ◌++◌, length, take, drop, Option, None, Some, Result, Ok, refl, sym, ◌∙◌, ap, subst, append_assoc, length-append, arith}
use Rattle.std.proofs.lemmas.List.{length-drop, drop-append-le}
use Rattle.std.proofs.Math.Seq.{take-append_seam}
use Rattle.std.specs.List.{slice_get}
use Rattle.nr_units.specs.Source.{Faults, Never, After, Anytime, Supply, Gave, Gives, Offers, Skips, MayGive, MayGiveAll, later, one_later, skipped}
use Rattle.nr_units.specs.declared.source.Fault.{Fault}
use Rattle.document_stages.specs.Joined.{after_more, joined}
use Rattle.document_stages.specs.Pulling.{Came, Stays}
use Rattle.document_stages.proofs.Steps.{Came-next, Came-skip, Stays-same, item-drop, drop_drop}

abbrev supplied : List ℕ → Faults → Option Supply
supplied bytes faults = Some (record { bytes = bytes; faults = faults })

same_supply : (xs ys : List ℕ) (f g : Faults) → xs ≡ ys → f ≡ g → supplied xs f ≡ supplied ys g
same_supply xs ys f g p q = ap (λ (zs : List ℕ). supplied zs f) p ∙ ap (λ (h : Faults). supplied ys h) q

-- ---- nothing was read ahead

none_more : (f : Faults) → after_more 0 f ≡ f
none_more Never = refl
none_more (After n) = ap After (omega arith)
none_more Anytime = refl

pub joined-none : (known : Option Supply) → joined [] known ≡ known
joined-none None = refl
joined-none (Some q) = ap (λ (f : Faults). supplied q.bytes f) (none_more q.faults)

pub joined-left : (xs : List ℕ) (known : Option Supply) → xs ≡ [] → joined xs known ≡ known
joined-left xs known none = ap (λ (zs : List ℕ). joined zs known) none ∙ joined-none known

-- ---- more came

more_later : (n m : ℕ) (f : Faults) → after_more (n + m) f ≡ after_more n (after_more m f)
more_later n m Never = refl
more_later n m (After k) = ap After (omega arith)
more_later n m Anytime = refl

joined_more : (xs ys : List ℕ) (known : Option Supply) → joined (xs ++ ys) known ≡ joined xs (joined ys known)
joined_more xs ys None = refl
joined_more xs ys (Some q) =
    same_supply ((xs ++ ys) ++ q.bytes) (xs ++ (ys ++ q.bytes)) (after_more (length (xs ++ ys)) q.faults) (after_more (length xs) (after_more (length ys) q.faults))
    (append_assoc xs ys q.bytes) (ap (λ (k : ℕ). after_more k q.faults) (length-append xs ys) ∙ more_later (length xs) (length ys) q.faults)

put_back : (n : ℕ) (f : Faults) → MayGiveAll n f → after_more n (later n f) ≡ f
put_back n Never may = refl
put_back n (After m) may = ap After (omega (arith, may))
put_back n Anytime may = refl

came-joined : (a b : Option Supply) (bytes : List ℕ) → Came a bytes b → Stays a (joined bytes b)
came-joined None b bytes h = tt
came-joined (Some q) None bytes h = absurd h
came-joined (Some q) (Some t) bytes h =
    same_supply (bytes ++ t.bytes) q.bytes (after_more (length bytes) t.faults) q.faults (sym h.0)
    (ap (after_more (length bytes)) h.1 ∙ put_back (length bytes) q.faults h.2)

stays-more : (a b : Option Supply) (xs : List ℕ) → Stays a b → Stays (joined xs a) (joined xs b)
stays-more None b xs h = tt
stays-more (Some q) b xs h = ap (joined xs) h

-- these bytes came after those that were held
pub Came-held : (a b : Option Supply) (held new bytes : List ℕ) → Came a bytes b → new ≡ held ++ bytes → Stays (joined held a) (joined new b)
Came-held a b held new bytes came is =
    subst (λ (z : Option Supply). Stays (joined held a) z) (sym (ap (λ (zs : List ℕ). joined zs b) is ∙ joined_more held bytes b))
    (stays-more a (joined bytes b) held (came-joined a b bytes came))

pub Skip-held : (a b : Option Supply) (held new window : List ℕ) (n : ℕ) → n ≤ length window → Offers a window → Skips a n b
    → new ≡ held ++ take n window → Stays (joined held a) (joined new b)
Skip-held a b held new window n few offers skips is =
    Came-held a b held new (take n window) (Came-skip a b window n few offers skips) is

pub Next-held : (a b : Option Supply) (held new : List ℕ) (byte : ℕ) → Gives {E = Fault} a (Ok (Some byte)) b
    → new ≡ held ++ byte ∷ [] → Stays (joined held a) (joined new b)
Next-held a b held new byte gives is = Came-held a b held new (byte ∷ []) (Came-next a b byte gives) is

pub Stays-held : (a b : Option Supply) (held : List ℕ) → held ≡ [] → a ≡ b → Stays a (joined held b)
Stays-held a b held none same = subst (λ (z : Option Supply). Stays a z) (sym (joined-left held b none ∙ sym same)) (Stays-same a)

-- ---- what is held is given

one_less : (n m : ℕ) (f : Faults) → m ≡ 1 + n → after_more n f ≡ one_later (after_more m f)
one_less n m Never is = refl
one_less n m (After k) is = ap After (omega (arith, is))
one_less n m Anytime is = refl

may_one : (n m : ℕ) (f : Faults) → m ≡ 1 + n → MayGive (after_more m f)
may_one n m Never is = tt
may_one n m (After k) is = omega (arith, is)
may_one n m Anytime is = tt

byte_given : (known : Option Supply) (b : ℕ) (bs : List ℕ) → Gives {E = Fault} (joined (b ∷ bs) known) (Ok (Some b)) (joined bs known)
byte_given None b bs = tt
byte_given (Some q) b bs =
    let e : length (b ∷ bs) ≡ 1 + length bs = omega arith in
    (refl, one_less (length bs) (length (b ∷ bs)) q.faults e, may_one (length bs) (length (b ∷ bs)) q.faults e)

pub Held-given : (known : Option Supply) (xs : List ℕ) (i x : ℕ) → slice_get xs i ≡ Some x
    → Gives {E = Fault} (joined (drop i xs) known) (Ok (Some x)) (joined (drop (i + 1) xs) known)
Held-given known xs i x is =
    subst (λ (w : List ℕ). Gives {E = Fault} (joined w known) (Ok (Some x)) (joined (drop (i + 1) xs) known)) (sym (item-drop xs i x is))
    (byte_given known x (drop (i + 1) xs))

pub Given-ahead : (a b c : Option Supply) (r : Result (Option ℕ) Fault) → Gives a r b → Stays b c → Gives a r c
Given-ahead None b c r g s = tt
Given-ahead (Some q) None c r g s = absurd g
Given-ahead (Some q) (Some t) c r g s = subst (λ (z : Option Supply). Gives (Some q) r z) (sym s) g

-- ---- what is held is at hand

may_all : (n : ℕ) (f : Faults) → MayGiveAll n (after_more n f)
may_all n Never = tt
may_all n (After m) = omega arith
may_all n Anytime = tt

offers_held : (known : Option Supply) (ws : List ℕ) → Offers (joined ws known) ws
offers_held None ws = tt
offers_held (Some q) ws = (take-append_seam ws q.bytes, may_all (length ws) q.faults)

pub Held-offered : (known : Option Supply) (ws window : List ℕ) → window ≡ ws → Offers (joined ws known) window
Held-offered known ws window is = subst (λ (w : List ℕ). Offers (joined ws known) w) (sym is) (offers_held known ws)

skipped_faults : (n m : ℕ) (f : Faults) → n ≤ m → after_more (m - n) f ≡ later n (after_more m f)
skipped_faults n m Never few = refl
skipped_faults n m (After k) few = ap After (omega (arith, few))
skipped_faults n m Anytime few = refl

skips_held : (known : Option Supply) (ws : List ℕ) (n : ℕ) → n ≤ length ws → Skips (joined ws known) n (joined (drop n ws) known)
skips_held None ws n few = tt
skips_held (Some q) ws n few =
    same_supply (drop n ws ++ q.bytes) (drop n (ws ++ q.bytes)) (after_more (length (drop n ws)) q.faults) (later n (after_more (length ws) q.faults))
    (sym (drop-append-le n ws q.bytes few)) (ap (λ (k : ℕ). after_more k q.faults) (length-drop n ws) ∙ skipped_faults n (length ws) q.faults few)

pub Held-skipped : (known : Option Supply) (xs : List ℕ) (at n : ℕ) → n ≤ length (drop at xs)
    → Skips (joined (drop at xs) known) n (joined (drop (at + n) xs) known)
Held-skipped known xs at n few =
    subst (λ (ws : List ℕ). Skips (joined (drop at xs) known) n (joined ws known)) (drop_drop at n xs) (skips_held known (drop at xs) n few)

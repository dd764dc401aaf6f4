-- A text is read byte by byte, and comes again.
use Rattle.std.proofs.Common.{◌≡◌, ℕ, zero, suc, ◌+◌, ◌-◌, ◌<◌, ◌≤◌, List, [], ◌∷◌, ◌++◌, append-nil, length, drop, get_or, length-append, length-drop, Option, None, Some, Ok, Err, ◌⊎◌, inl, inr, refl, sym, subst, ap, ◌∙◌, arith}
use Rattle.nr_units.specs.Source.{Faults, Never, After, Anytime, Supply, Gives, MayFail, MayGive, one_later}
use Rattle.nr_units.specs.declared.source.Fault.{Fault}
use Rattle.std.specs.Borrow.{Bor}
use Rattle.document_stages.specs.Joined.{after_more, first_at_hand, joined}
use Rattle.document_stages.specs.Pulling.{Stays}
use Rattle.program_options.specs.Job.{texts}
use Rattle.program_command.specs.Running.{first_of}
use Rattle.program_command.specs.Warnings.{MayBeCut}

abbrev supplied : List ℕ → Faults → Option Supply
supplied bytes faults = Some (record { bytes = bytes; faults = faults })

same_supply : (xs ys : List ℕ) (f g : Faults) → xs ≡ ys → f ≡ g → supplied xs f ≡ supplied ys g
same_supply xs ys f g p q = ap (λ (zs : List ℕ). supplied zs f) p ∙ ap (λ (h : Faults). supplied ys h) q

none_more : (f : Faults) → after_more 0 f ≡ f
none_more Never = refl
none_more (After n) = ap After (omega arith)
none_more Anytime = refl

one_more : (f : Faults) → MayGive f → after_more 1 (one_later f) ≡ f
one_more Never may = refl
one_more (After n) may = ap After (omega arith)
one_more Anytime may = refl

-- nothing came yet
pub Stays-nothing : (known : Option Supply) → Stays known (joined [] known)
Stays-nothing None = tt
Stays-nothing (Some q) = same_supply q.bytes q.bytes (after_more 0 q.faults) q.faults refl (none_more q.faults)

-- a byte came
pub Stays-byte : (known new : Option Supply) (byte : ℕ) → Gives {E = Fault} known (Ok (Some byte)) new → Stays known (joined (byte ∷ []) new)
Stays-byte None new byte gives = tt
Stays-byte (Some q) None byte gives = absurd gives
Stays-byte (Some q) (Some t) byte (bytes, faults, may) =
    same_supply (byte ∷ t.bytes) q.bytes (after_more 1 t.faults) q.faults (sym bytes) (ap (after_more 1) faults ∙ one_more q.faults may)

-- the end came, or the source failed
pub Stays-end : (known new : Option Supply) → Gives {E = Fault} known (Ok None) new → Stays known (joined [] new)
Stays-end None new gives = tt
Stays-end (Some q) None gives = absurd gives
Stays-end (Some q) (Some t) (bytes, same, may) = subst (λ (s : Supply). joined [] (Some s) ≡ Some q) (sym same) (Stays-nothing (Some q))

pub Stays-fault : (known new : Option Supply) (e : Fault) → Gives {E = Fault} known (Err e) new → Stays known (joined [] new)
Stays-fault None new e gives = tt
Stays-fault (Some q) None e gives = absurd gives
Stays-fault (Some q) (Some t) e (same, may) = subst (λ (s : Supply). joined [] (Some s) ≡ Some q) (sym same) (Stays-nothing (Some q))

abbrev bytes_of : Option Supply → List ℕ
bytes_of None = []
bytes_of (Some q) = q.bytes

-- all of it came
pub whole : (known mid new : Option Supply) (bytes : List ℕ) (q : Supply) → Stays known (joined bytes mid) → Gives {E = Fault} mid (Ok None) new → known ≡ Some q
    → q.bytes ≡ bytes
whole None mid new bytes q stays gives is = absurd (cc)
whole (Some p) None new bytes q stays gives is = absurd (let never : None ≡ Some p = stays in cc)
whole (Some p) (Some t) None bytes q stays gives is = absurd gives
whole (Some p) (Some t) (Some s) bytes q stays (none, same, may) is =
    let all : bytes ++ t.bytes ≡ p.bytes = ap bytes_of stays in
    let known : p.bytes ≡ q.bytes = ap bytes_of is in
    sym known ∙ (sym all ∙ (ap (λ (bs : List ℕ). bytes ++ bs) none ∙ append-nil bytes))

abbrev faults_of : Option Supply → Faults
faults_of None = Anytime
faults_of (Some q) = q.faults

never_later : (n : ℕ) (f : Faults) → after_more n f ≡ Never → f ≡ Never
never_later n Never is = refl
never_later n (After m) is = absurd (cc)
never_later n Anytime is = absurd (cc)

-- a call failed, which it may
pub cut-fault : (known mid new : Option Supply) (bytes : List ℕ) (q : Supply) (e : Fault) → Stays known (joined bytes mid) → Gives {E = Fault} mid (Err e) new
    → known ≡ Some q → MayBeCut q
cut-fault None mid new bytes q e stays gives is = absurd (cc)
cut-fault (Some p) None new bytes q e stays gives is = absurd (let never : None ≡ Some p = stays in cc)
cut-fault (Some p) (Some t) None bytes q e stays gives is = absurd gives
cut-fault (Some p) (Some t) (Some s) bytes q e stays (same, may) is = inl (λ never.
    let left : after_more (length bytes) t.faults ≡ q.faults = ap faults_of stays ∙ ap faults_of is in
    subst (λ (f : Faults). MayFail f) (never_later (length bytes) t.faults (left ∙ never)) may)

-- too much came
pub cut-long : (known mid : Option Supply) (bytes : List ℕ) (q : Supply) → Stays known (joined bytes mid) → known ≡ Some q → 67108864 ≤ length bytes → MayBeCut q
cut-long None mid bytes q stays is long = absurd (cc)
cut-long (Some p) None bytes q stays is long = absurd (let never : None ≡ Some p = stays in cc)
cut-long (Some p) (Some t) bytes q stays is long =
    let all : bytes ++ t.bytes ≡ q.bytes = ap bytes_of stays ∙ ap bytes_of is in
    let count : length bytes + length t.bytes ≡ length q.bytes = sym (length-append bytes t.bytes) ∙ ap (λ (bs : List ℕ). length bs) all in
    inr (omega (arith, count, long))

-- ---- what is at hand

first_hand : (xs others : List ℕ) → 0 < length xs → first_at_hand xs others ≡ xs
first_hand [] others some = absurd (omega arith)
first_hand (x ∷ xs) others some = refl

-- bytes at hand, while some of those that were read are left, are these
pub within : (taken n : ℕ) (items others : List ℕ) → taken < length items → n ≤ length (first_at_hand (drop taken items) others) → taken + n ≤ length items
within taken n items others some few =
    let left = length-drop taken items in
    let same = ap (λ (xs : List ℕ). length xs) (first_hand (drop taken items) others (omega (arith, left))) in
    omega (arith, same, left)

-- ---- names

-- the name at a place
pub name-at : (names : List (Bor (List ℕ))) (place : ℕ) (name : Bor (List ℕ)) → place < length names → name ≡ get_or names place name
    → name.now ≡ first_of (drop place (texts names))
name-at [] place name within is = absurd (omega arith)
name-at (x ∷ names) zero name within is = ap (λ (b : Bor (List ℕ)). b.now) is
name-at (x ∷ names) (suc place) name within is = name-at names place name (omega arith) is

-- What a step of a stage over a source takes of it, and what the two are to give after it.
use Rattle.std.proofs.Common.{◌≡◌, ℕ, ◌+◌, ◌-◌, ◌<◌, ◌≤◌, List, [], ◌∷◌, ◌++◌, length, take, drop, Option, None, Some, Result, Ok, Err, Bool, true, false, nat_lt, nat_le, get_or, ◌&&◌, if◌then◌else◌, refl, sym, ◌∙◌, ap, subst, append-nil, arith}
use Rattle.std.proofs.lemmas.Grind.{common_steps}
use Rattle.std.proofs.lemmas.List.{take-append-drop, take-take, length-take, length-append, length-drop, drop_more, drop-append-le}
use Rattle.std.proofs.lemmas.Option.{slice_get_within, get_or_from_slice_get}
use Rattle.std.proofs.Math.Seq.{take-append_seam, take-append-add, take-length}
use Rattle.std.specs.List.{slice_get}
use Rattle.nr_units.specs.Source.{Faults, Never, After, Anytime, Supply, Gave, Gives, Offers, Skips, MayFail, MayGive, MayGiveAll, later, one_later, skipped}
use Rattle.nr_units.specs.declared.source.Fault.{Fault}
use Rattle.document_stages.specs.Pulling.{SaysNothing, Came, Took, Ended, Failed, Stays, MayBreak, all_of, broken_off, gives_end, given, is_known, is_sure, left_of, made_of, pulled, pulled_from, uncertain, whole}

-- ---- bytes came

pub Came-next : (a b : Option Supply) (byte : ℕ) → Gives {E = Fault} a (Ok (Some byte)) b → Came a (byte ∷ []) b
Came-next None b byte h = tt
Came-next (Some q) None byte h = absurd h
Came-next (Some q) (Some t) byte h = (h.0, came-faults q.faults t.faults h.1, came-may q.faults h.2)
  where
    came-faults : (f g : Faults) → g ≡ one_later f → g ≡ later (length (byte ∷ [])) f
    came-faults Never g e = e
    came-faults (After n) g e = e
    came-faults Anytime g e = e

    came-may : (f : Faults) → MayGive f → MayGiveAll (length (byte ∷ [])) f
    came-may Never m = tt
    came-may (After n) m = omega (arith, m)
    came-may Anytime m = tt

some-injective : (x y : Supply) → Some x ≡ Some y → x ≡ y
some-injective x y h = cc

may-fewer : (f : Faults) (n m : ℕ) → n ≤ m → MayGiveAll m f → MayGiveAll n f
may-fewer Never n m l h = tt
may-fewer (After k) n m l h = omega (arith, l, h)
may-fewer Anytime n m l h = tt

pub Came-skip : (a b : Option Supply) (window : List ℕ) (n : ℕ) → n ≤ length window → Offers a window → Skips a n b → Came a (take n window) b
Came-skip None b window n l o s = tt
Came-skip (Some q) None window n l o s = absurd (let no : None ≡ Some (skipped n q) = s in cc)
Came-skip (Some q) (Some t) window n l o s =
    let is : t ≡ skipped n q = some-injective t (skipped n q) s in
    let prefix : take n window ≡ take n q.bytes =
    ap (λ (ys : List ℕ). take n ys) (sym o.0) ∙ take-take n (length window) q.bytes l in
    let rest : t.bytes ≡ drop n q.bytes = ap (λ (x : Supply). x.bytes) is in
    let count : length (take n window) ≡ n = (let cut = length-take n window in omega (arith, cut, l)) in
    let faults : t.faults ≡ later n q.faults = ap (λ (x : Supply). x.faults) is in (
      rw (prefix, rest) (sym (take-append-drop n q.bytes)),
      subst (λ k. t.faults ≡ later k q.faults) (sym count) faults,
      subst (λ k. MayGiveAll k q.faults) (sym count) (may-fewer q.faults n (length window) l o.1),
    )

pub Took-window : (a b : Option Supply) (window : List ℕ) (len n : ℕ) (says says' : Bool → List ℕ → List ℕ) (fits fits' : List ℕ → Bool) (items : List ℕ)
    → n ≤ len → len ≤ length window → Offers a window → Skips a n b
    → ((ends : Bool) → (rest : List ℕ) → says ends (take n (take len window) ++ rest) ≡ items ++ says' ends rest)
    → ((rest : List ℕ) → fits (take n (take len window) ++ rest) ≡ fits' rest) → Took a b says says' fits fits' items n
Took-window a b window len n says says' fits fits' items few within offers skips said fitted =
    let all : n ≤ length window = omega (arith, few, within) in
    let same : take n (take len window) ≡ take n window = take-take n len window few in
    record {
      bytes = take n window;
      came = Came-skip a b window n all offers skips;
      count = (let cut = length-take n window in omega (arith, cut, all));
      said = λ ends rest. subst (λ x. says ends (x ++ rest) ≡ items ++ says' ends rest) same (said ends rest);
      fitted = λ rest. subst (λ x. fits (x ++ rest) ≡ fits' rest) same (fitted rest);
    }

pub Took-byte : (a b : Option Supply) (byte n : ℕ) (says says' : Bool → List ℕ → List ℕ) (fits fits' : List ℕ → Bool) (items : List ℕ)
    → 0 < n → n ≤ 1 → Gives {E = Fault} a (Ok (Some byte)) b
    → ((ends : Bool) → (rest : List ℕ) → says ends (take n (byte ∷ []) ++ rest) ≡ items ++ says' ends rest)
    → ((rest : List ℕ) → fits (take n (byte ∷ []) ++ rest) ≡ fits' rest) → Took a b says says' fits fits' items n
Took-byte a b byte n says says' fits fits' items some few gives said fitted =
    let one : n ≡ 1 = omega (arith, some, few) in
    let here : (ends : Bool) → (rest : List ℕ) → says ends (byte ∷ rest) ≡ items ++ says' ends rest =
    λ ends rest. subst (λ k. says ends (take k (byte ∷ []) ++ rest) ≡ items ++ says' ends rest) one (said ends rest) in
    let fit : (rest : List ℕ) → fits (byte ∷ rest) ≡ fits' rest =
    λ rest. subst (λ k. fits (take k (byte ∷ []) ++ rest) ≡ fits' rest) one (fitted rest) in
    subst (λ k. Took a b says says' fits fits' items k) (sym one)
    (record { bytes = byte ∷ []; came = Came-next a b byte gives; count = refl; said = here; fitted = fit })

-- ---- what is to come stays as it is where it is taken into what waits

pub Stays-same : (a : Option Supply) → Stays a a
Stays-same None = tt
Stays-same (Some q) = refl

pub Stays-trans : (a b c : Option Supply) → Stays a b → Stays b c → Stays a c
Stays-trans None b c p q = tt
Stays-trans (Some x) b c p q = subst (λ z. Stays z c) p q

by-known : (k : Bool) (q u : Supply) (says says' : Bool → List ℕ → List ℕ) (fits fits' : List ℕ → Bool) (waits waits' : List ℕ)
    → made_of q says fits waits ≡ made_of u says' fits' waits' → waits ++ says true q.bytes ≡ waits' ++ says' true u.bytes
    → pulled_from k false q says fits waits ≡ pulled_from k false u says' fits' waits'
by-known true q u says says' fits fits' waits waits' made all = made
by-known false q u says says' fits fits' waits waits' made all = ap uncertain all

same-place : (xs ys : List ℕ) (t n : ℕ) → length xs ≡ n → t + length (xs ++ ys) ≡ t + n + length ys
same-place xs ys t n count = let e = length-append xs ys in omega (arith, e, count)

took-known : (f : Faults) (xs ys : List ℕ) (t n : ℕ) → length xs ≡ n
    → is_known (record { bytes = xs ++ ys; faults = f }) t true ≡ is_known (record { bytes = ys; faults = later n f }) (t + n) true
took-known Never xs ys t n count = ap (λ (k : ℕ). nat_lt k 1099511627776) (same-place xs ys t n count)
took-known (After m) xs ys t n count = ap (λ (k : ℕ). nat_lt k 1099511627776) (same-place xs ys t n count)
took-known Anytime xs ys t n count = refl

later-test : (a b m n : ℕ) → a ≡ n + b → n ≤ m → nat_lt a m ≡ nat_lt b (m - n)
later-test a b m n e l = grind (arith, common_steps)

take-past : (xs ys : List ℕ) (m n : ℕ) → length xs ≡ n → n ≤ m → take m (xs ++ ys) ≡ xs ++ take (m - n) ys
take-past xs ys m n count l =
    let split : m ≡ length xs + (m - n) = omega (arith, count, l) in
    subst (λ k. take k (xs ++ ys) ≡ xs ++ take (m - n) ys) (sym split) (take-append-add xs ys (m - n))

took-made : (f : Faults) (xs ys : List ℕ) (n : ℕ) (says says' : Bool → List ℕ → List ℕ) (fits fits' : List ℕ → Bool) (items : List ℕ)
    → length xs ≡ n → MayGiveAll n f
    → ((ends : Bool) → (rest : List ℕ) → says ends (xs ++ rest) ≡ items ++ says' ends rest) → ((rest : List ℕ) → fits (xs ++ rest) ≡ fits' rest)
    → made_of (record { bytes = xs ++ ys; faults = f }) says fits [] ≡ made_of (record { bytes = ys; faults = later n f }) says' fits' items
took-made Never xs ys n says says' fits fits' items count may said fitted =
    ap (λ (b : Bool). all_of b (says true (xs ++ ys))) (fitted ys) ∙ ap (λ (z : List ℕ). all_of (fits' ys) z) (said true ys)
took-made (After m) xs ys n says says' fits fits' items count may said fitted =
    let lengths : length (xs ++ ys) ≡ n + length ys = (let e = length-append xs ys in omega (arith, e, count)) in
    let test : nat_lt (length (xs ++ ys)) m ≡ nat_lt (length ys) (m - n) = later-test (length (xs ++ ys)) (length ys) m n lengths may in
    let cut : says false (take m (xs ++ ys)) ≡ items ++ says' false (take (m - n) ys) =
    ap (λ (z : List ℕ). says false z) (take-past xs ys m n count may) ∙ said false (take (m - n) ys) in
    ap (λ (b : Bool). if b then all_of (fits (xs ++ ys)) (says true (xs ++ ys)) else broken_off (says false (take m (xs ++ ys)))) test
    ∙ ap (λ (b : Bool). if nat_lt (length ys) (m - n) then all_of b (says true (xs ++ ys)) else broken_off (says false (take m (xs ++ ys)))) (fitted ys)
    ∙ ap (λ (z : List ℕ). if nat_lt (length ys) (m - n) then all_of (fits' ys) z else broken_off (says false (take m (xs ++ ys)))) (said true ys)
    ∙ ap (λ (z : List ℕ). if nat_lt (length ys) (m - n) then all_of (fits' ys) (items ++ says' true ys) else broken_off z) cut
took-made Anytime xs ys n says says' fits fits' items count may said fitted =
    ap (λ (b : Bool). all_of b (says true (xs ++ ys))) (fitted ys) ∙ ap (λ (z : List ℕ). all_of (fits' ys) z) (said true ys)

took-same : (f : Faults) (xs ys : List ℕ) (t n : ℕ) (says says' : Bool → List ℕ → List ℕ) (fits fits' : List ℕ → Bool) (items : List ℕ)
    → length xs ≡ n → MayGiveAll n f
    → ((ends : Bool) → (rest : List ℕ) → says ends (xs ++ rest) ≡ items ++ says' ends rest) → ((rest : List ℕ) → fits (xs ++ rest) ≡ fits' rest)
    → pulled (Some (record { bytes = xs ++ ys; faults = f })) true says fits [] t false
    ≡ pulled (Some (record { bytes = ys; faults = later n f })) true says' fits' items (t + n) false
took-same f xs ys t n says says' fits fits' items count may said fitted =
    let q : Supply = record { bytes = xs ++ ys; faults = f } in
    let u : Supply = record { bytes = ys; faults = later n f } in
    ap (λ (x : Supply). Some x) (by-known (is_known q t true) q u says says' fits fits' [] items (took-made f xs ys n says says' fits fits' items count may said fitted) (said true ys))
    ∙ ap (λ (k : Bool). Some (pulled_from k false u says' fits' items)) (took-known f xs ys t n count)

pub Stays-took : (a b : Option Supply) (says says' : Bool → List ℕ → List ℕ) (fits fits' : List ℕ → Bool) (items : List ℕ) (t n : ℕ)
    → Took a b says says' fits fits' items n → Stays (pulled a true says fits [] t false) (pulled b true says' fits' items (t + n) false)
Stays-took None b says says' fits fits' items t n w = tt
Stays-took (Some q) None says says' fits fits' items t n w = absurd w.came
Stays-took (Some q) (Some u) says says' fits fits' items t n w =
    let is-q : Some q ≡ Some (record { bytes = w.bytes ++ u.bytes; faults = q.faults }) =
    ap (λ (z : List ℕ). Some (record { bytes = z; faults = q.faults })) w.came.0 in
    let is-u : Some u ≡ Some (record { bytes = u.bytes; faults = later n q.faults }) =
    ap (λ (g : Faults). Some (record { bytes = u.bytes; faults = g })) (w.came.1 ∙ ap (λ (k : ℕ). later k q.faults) w.count) in
    let may : MayGiveAll n q.faults = subst (λ k. MayGiveAll k q.faults) w.count w.came.2 in
    ap (λ (x : Option Supply). pulled x true says' fits' items (t + n) false) is-u
    ∙ sym (took-same q.faults w.bytes u.bytes t n says says' fits fits' items w.count may w.said w.fitted)
    ∙ ap (λ (x : Option Supply). pulled x true says fits [] t false) (sym is-q)

-- the source failed
failed-made : (q : Supply) (says says' : Bool → List ℕ → List ℕ) (fits fits' : List ℕ → Bool)
    → ((ends : Bool) → (rest : List ℕ) → says ends rest ≡ says' ends rest) → ((rest : List ℕ) → fits rest ≡ fits' rest)
    → made_of q says fits [] ≡ made_of q says' fits' []
failed-made q says says' fits fits' said fitted =
    ap (λ (b : Bool). if gives_end q.faults q.bytes then all_of b (says true q.bytes) else broken_off (says false (given q.faults q.bytes))) (fitted q.bytes)
    ∙ ap (λ (z : List ℕ). if gives_end q.faults q.bytes then all_of (fits' q.bytes) z else broken_off (says false (given q.faults q.bytes))) (said true q.bytes)
    ∙ ap (λ (z : List ℕ). if gives_end q.faults q.bytes then all_of (fits' q.bytes) (says' true q.bytes) else broken_off z) (said false (given q.faults q.bytes))

pub Stays-failed : (a b : Option Supply) (says says' : Bool → List ℕ → List ℕ) (fits fits' : List ℕ → Bool) (items : List ℕ) (t : ℕ) (e : Fault)
    → Failed a b says says' fits fits' items e → Stays (pulled a true says fits [] t false) (pulled b true says' fits' items t false)
Stays-failed None b says says' fits fits' items t e w = tt
Stays-failed (Some q) None says says' fits fits' items t e w = absurd w.gives
Stays-failed (Some q) (Some u) says says' fits fits' items t e w =
    ap (λ (x : Supply). pulled (Some x) true says' fits' items t false) w.gives.0
    ∙ ap (λ (z : List ℕ). pulled (Some q) true says' fits' z t false) w.items_none
    ∙ sym (ap (λ (x : Supply). Some x) (by-known (is_known q t true) q q says says' fits fits' [] [] (failed-made q says says' fits fits' w.said w.fitted) (w.said true q.bytes)))

-- the end came
at-end : (f : Faults) (bytes : List ℕ) → bytes ≡ [] → MayGive f → gives_end f bytes ≡ true
at-end Never bytes none may = refl
at-end (After m) bytes none may = rw none (grind (arith, common_steps))
at-end Anytime bytes none may = refl

ended-made : (q : Supply) (says : Bool → List ℕ → List ℕ) (fits : List ℕ → Bool) (items : List ℕ) (fit : Bool)
    → q.bytes ≡ [] → MayGive q.faults → says true [] ≡ items → fits [] ≡ fit → made_of q says fits [] ≡ all_of fit items
ended-made q says fits items fit none may said fitted =
    ap (λ (b : Bool). if b then all_of (fits q.bytes) (says true q.bytes) else broken_off (says false (given q.faults q.bytes))) (at-end q.faults q.bytes none may)
    ∙ ap (λ (b : List ℕ). all_of (fits b) (says true b)) none
    ∙ ap (λ (b : Bool). all_of b (says true [])) fitted
    ∙ ap (λ (z : List ℕ). all_of fit z) said

ended-from : (k : Bool) (q : Supply) (says says' : Bool → List ℕ → List ℕ) (fits fits' : List ℕ → Bool) (items : List ℕ)
    → q.bytes ≡ [] → MayGive q.faults → says true [] ≡ items → fits [] ≡ true
    → pulled_from k true q says' fits' items ≡ pulled_from k false q says fits []
ended-from true q says says' fits fits' items none may said fitted = sym (ended-made q says fits items true none may said fitted)
ended-from false q says says' fits fits' items none may said fitted =
    ap uncertain (append-nil items ∙ sym said ∙ ap (λ (b : List ℕ). says true b) (sym none))

pub Stays-ended : (a b : Option Supply) (says says' : Bool → List ℕ → List ℕ) (fits fits' : List ℕ → Bool) (items : List ℕ) (t : ℕ)
    → Ended a b says fits items true → Stays (pulled a true says fits [] t false) (pulled b true says' fits' items t true)
Stays-ended None b says says' fits fits' items t w = tt
Stays-ended (Some q) None says says' fits fits' items t w = absurd w.gives
Stays-ended (Some q) (Some u) says says' fits fits' items t w =
    ap (λ (x : Supply). pulled (Some x) true says' fits' items t true) w.gives.1
    ∙ ap (λ (x : Supply). Some x) (ended-from (is_known q t true) q says says' fits fits' items w.gives.0 w.gives.2 w.said w.fitted)

full-made : (q : Supply) (says' : Bool → List ℕ → List ℕ) (fits' : List ℕ → Bool) (items : List ℕ)
    → SaysNothing says' fits' → made_of q says' fits' items ≡ broken_off items
full-made q says' fits' items none =
    ap (λ (b : Bool). if gives_end q.faults q.bytes then all_of b (items ++ says' true q.bytes) else broken_off (items ++ says' false (given q.faults q.bytes))) (none.fits_none q.bytes)
    ∙ ap (λ (z : List ℕ). if gives_end q.faults q.bytes then broken_off (items ++ z) else broken_off (items ++ says' false (given q.faults q.bytes))) (none.says_none true q.bytes)
    ∙ ap (λ (z : List ℕ). if gives_end q.faults q.bytes then broken_off (items ++ []) else broken_off (items ++ z)) (none.says_none false (given q.faults q.bytes))
    ∙ either (gives_end q.faults q.bytes)
  where
    either : (b : Bool) → (if b then broken_off (items ++ []) else broken_off (items ++ [])) ≡ broken_off items
    either true = ap broken_off (append-nil items)
    either false = ap broken_off (append-nil items)

pub Stays-full : (a b : Option Supply) (says says' : Bool → List ℕ → List ℕ) (fits fits' : List ℕ → Bool) (items : List ℕ) (t : ℕ)
    → Ended a b says fits items false → SaysNothing says' fits' → Stays (pulled a true says fits [] t false) (pulled b true says' fits' items t false)
Stays-full None b says says' fits fits' items t w none = tt
Stays-full (Some q) None says says' fits fits' items t w none = absurd w.gives
Stays-full (Some q) (Some u) says says' fits fits' items t w none =
    ap (λ (x : Supply). pulled (Some x) true says' fits' items t false) w.gives.1
    ∙ sym (ap (λ (x : Supply). Some x) (by-known (is_known q t true) q q says says' fits fits' [] items
    (ended-made q says fits items false w.gives.0 w.gives.2 w.said w.fitted ∙ sym (full-made q says' fits' items none))
    (ap (λ (b : List ℕ). says true b) w.gives.0 ∙ w.said ∙ sym (ap (λ (z : List ℕ). items ++ z) (none.says_none true q.bytes) ∙ append-nil items))))

-- ---- where a call may fail

from-sure : (k : Bool) (q : Supply) (says : Bool → List ℕ → List ℕ) (fits : List ℕ → Bool)
    → MayFail (made_of q says fits []).faults → MayFail (pulled_from k false q says fits []).faults
from-sure true q says fits h = h
from-sure false q says fits h = tt

pub MayBreak-stays : (a b : Option Supply) → Stays a b → MayBreak b → MayBreak a
MayBreak-stays None b s h = tt
MayBreak-stays (Some q) b s h = subst (λ (x : Option Supply). MayBreak x) s h

pub MayBreak-full : (a : Option Supply) (says : Bool → List ℕ → List ℕ) (fits : List ℕ → Bool) (t : ℕ)
    → SaysNothing says fits → MayBreak (pulled a true says fits [] t false)
MayBreak-full None says fits t none = tt
MayBreak-full (Some q) says fits t none =
    from-sure (is_known q t true) q says fits (subst (λ (x : Supply). MayFail x.faults) (sym (full-made q says fits [] none)) refl)

none-below : (n : ℕ) → nat_lt n 0 ≡ false
none-below n = grind (arith, common_steps)

failing : (f : Faults) (bytes : List ℕ) (says : Bool → List ℕ → List ℕ) (fits : List ℕ → Bool) (t : ℕ) → MayFail f → says false [] ≡ []
    → MayBreak (pulled (Some (record { bytes = bytes; faults = f })) true says fits [] t false)
failing Never bytes says fits t may none = absurd may
failing (After n) bytes says fits t may none =
    let at-once : MayFail (made_of (record { bytes = bytes; faults = After 0 }) says fits []).faults =
    subst (λ (b : Bool). MayFail (if b then all_of (fits bytes) (says true bytes) else broken_off (says false [])).faults) (sym (none-below (length bytes))) (ap length none) in
    from-sure (is_known (record { bytes = bytes; faults = After n }) t true) (record { bytes = bytes; faults = After n }) says fits
    (subst (λ (k : ℕ). MayFail (made_of (record { bytes = bytes; faults = After k }) says fits []).faults) (sym may) at-once)
failing Anytime bytes says fits t may none = tt

pub MayBreak-failed : (a b : Option Supply) (says says' : Bool → List ℕ → List ℕ) (fits fits' : List ℕ → Bool) (items : List ℕ) (t : ℕ) (e : Fault)
    → says false [] ≡ [] → Failed a b says says' fits fits' items e → MayBreak (pulled a true says fits [] t false)
MayBreak-failed None b says says' fits fits' items t e none w = tt
MayBreak-failed (Some q) None says says' fits fits' items t e none w = absurd w.gives
MayBreak-failed (Some q) (Some u) says says' fits fits' items t e none w = failing q.faults q.bytes says fits t w.gives.1 none

unsure : (f : Faults) (n : ℕ) (bytes : List ℕ) (ended : Bool) (says : Bool → List ℕ → List ℕ) (fits : List ℕ → Bool) (waits : List ℕ)
    → MayFail (pulled_from (is_known (record { bytes = bytes; faults = f }) n false) ended (record { bytes = bytes; faults = f }) says fits waits).faults
unsure Never n bytes ended says fits waits = tt
unsure (After m) n bytes ended says fits waits = tt
unsure Anytime n bytes ended says fits waits = tt

-- there is too little room
pub MayBreak-narrow : (a : Option Supply) (wide : Bool) (says : Bool → List ℕ → List ℕ) (fits : List ℕ → Bool) (waits : List ℕ) (t : ℕ) (ended : Bool)
    → wide ≡ false → MayBreak (pulled a wide says fits waits t ended)
MayBreak-narrow None wide says fits waits t ended narrow = tt
MayBreak-narrow (Some q) wide says fits waits t ended narrow =
    subst (λ (b : Bool). MayFail (pulled_from (is_known q t b) ended q says fits waits).faults) (sym narrow) (unsure q.faults t q.bytes ended says fits waits)

-- too many bytes came
past : (t n : ℕ) → 1099511627776 ≤ t → nat_lt (t + n) 1099511627776 ≡ false
past t n many = grind (arith, common_steps)

unsure-long : (f : Faults) (b : Bool) (q : Supply) (says : Bool → List ℕ → List ℕ) (fits : List ℕ → Bool) → b ≡ false
    → MayFail (pulled_from (is_sure f && (true && b)) false q says fits []).faults
unsure-long Never b q says fits e = subst (λ (x : Bool). MayFail (pulled_from x false q says fits []).faults) (sym e) tt
unsure-long (After m) b q says fits e = subst (λ (x : Bool). MayFail (pulled_from x false q says fits []).faults) (sym e) tt
unsure-long Anytime b q says fits e = tt

pub MayBreak-long : (a : Option Supply) (says : Bool → List ℕ → List ℕ) (fits : List ℕ → Bool) (t : ℕ)
    → 1099511627776 ≤ t → MayBreak (pulled a true says fits [] t false)
MayBreak-long None says fits t many = tt
MayBreak-long (Some q) says fits t many =
    unsure-long q.faults (nat_lt (t + length q.bytes) 1099511627776) q says fits (past t (length q.bytes) many)

-- ---- more is made where there is room, nothing waits and the end did not come

wide-test : (w room : ℕ) → w ≤ room → nat_le w room ≡ true
wide-test w room l = grind (arith, common_steps)

narrow-test : (w room : ℕ) → room < w → nat_le w room ≡ false
narrow-test w room l = grind (arith, common_steps)

empty-supply : (a : Option Supply) (w room : ℕ) (says : Bool → List ℕ → List ℕ) (fits : List ℕ → Bool) (waits : List ℕ) (t : ℕ) (ended : Bool)
    → w ≤ room → waits ≡ [] → ended ≡ false → pulled a (nat_le w room) says fits waits t ended ≡ pulled a true says fits [] t false
empty-supply a w room says fits waits t ended l none open_ =
    ap (λ (b : Bool). pulled a b says fits waits t ended) (wide-test w room l)
    ∙ ap (λ (z : List ℕ). pulled a true says fits z t ended) none
    ∙ ap (λ (b : Bool). pulled a true says fits [] t b) open_

wide-supply : (b : Option Supply) (w w' room room' : ℕ) (says : Bool → List ℕ → List ℕ) (fits : List ℕ → Bool) (items : List ℕ) (t : ℕ) (ended : Bool)
    → w ≤ room → w' ≡ w → room' ≡ room → pulled b true says fits items t ended ≡ pulled b (nat_le w' room') says fits items t ended
wide-supply b w w' room room' says fits items t ended l same same' =
    ap (λ (x : Bool). pulled b x says fits items t ended) (sym (wide-test w' room' (omega (arith, l, same, same'))))

pub Stays-refilled : (a b : Option Supply) (w w' room room' : ℕ) (says says' : Bool → List ℕ → List ℕ) (fits fits' : List ℕ → Bool) (waits items : List ℕ) (t t' : ℕ) (ended ended' : Bool)
    → w ≤ room → w' ≡ w → room' ≡ room → waits ≡ [] → ended ≡ false
    → Stays (pulled a true says fits [] t false) (pulled b true says' fits' items t' ended')
    → Stays (pulled a (nat_le w room) says fits waits t ended) (pulled b (nat_le w' room') says' fits' items t' ended')
Stays-refilled a b w w' room room' says says' fits fits' waits items t t' ended ended' l same same' none open_ stays =
    subst (λ (x : Option Supply). Stays x (pulled b (nat_le w' room') says' fits' items t' ended')) (sym (empty-supply a w room says fits waits t ended l none open_))
    (subst (λ (x : Option Supply). Stays (pulled a true says fits [] t false) x) (wide-supply b w w' room room' says' fits' items t' ended' l same same') stays)

-- the end did not come
pub Stays-going : (z b : Option Supply) (wide : Bool) (says : Bool → List ℕ → List ℕ) (fits : List ℕ → Bool) (items : List ℕ) (t : ℕ) (ended : Bool)
    → ended ≡ false → Stays z (pulled b wide says fits items t false) → Stays z (pulled b wide says fits items t ended)
Stays-going z b wide says fits items t ended going stays =
    subst (λ (e : Bool). Stays z (pulled b wide says fits items t e)) (sym going) stays

pub MayBreak-refilled : (a : Option Supply) (w room : ℕ) (says : Bool → List ℕ → List ℕ) (fits : List ℕ → Bool) (waits : List ℕ) (t : ℕ) (ended : Bool)
    → w ≤ room → waits ≡ [] → ended ≡ false → MayBreak (pulled a true says fits [] t false) → MayBreak (pulled a (nat_le w room) says fits waits t ended)
MayBreak-refilled a w room says fits waits t ended l none open_ h =
    subst (λ (x : Option Supply). MayBreak x) (sym (empty-supply a w room says fits waits t ended l none open_)) h

pub MayBreak-small : (a : Option Supply) (w room : ℕ) (says : Bool → List ℕ → List ℕ) (fits : List ℕ → Bool) (waits : List ℕ) (t : ℕ) (ended : Bool)
    → room < w → MayBreak (pulled a (nat_le w room) says fits waits t ended)
MayBreak-small a w room says fits waits t ended l = MayBreak-narrow a (nat_le w room) says fits waits t ended (narrow-test w room l)

-- so a call fails
pub Gives-fault : (a b : Option Supply) (e : Fault) → Stays a b → MayBreak a → Gives a (Err e) b
Gives-fault None b e s h = tt
Gives-fault (Some q) None e s h = absurd (let no : None ≡ Some q = s in cc)
Gives-fault (Some q) (Some u) e s h = (some-injective u q s, h)

pub none-of-length : (xs : List ℕ) → length xs ≤ 0 → xs ≡ []
none-of-length [] l = refl
none-of-length (x ∷ xs) l = absurd (omega (arith, l))

-- bytes came, and nothing of them waits
pub Took-none : (z a b : Option Supply) (says says' : Bool → List ℕ → List ℕ) (fits fits' : List ℕ → Bool) (items : List ℕ) (t n : ℕ)
    → Stays z (pulled a true says fits [] t false) → Took a b says says' fits fits' items n → items ≡ []
    → Stays z (pulled b true says' fits' [] (t + n) false)
Took-none z a b says says' fits fits' items t n stays w none =
    subst (λ (x : List ℕ). Stays z (pulled b true says' fits' x (t + n) false)) none
    (Stays-trans z (pulled a true says fits [] t false) (pulled b true says' fits' items (t + n) false) stays (Stays-took a b says says' fits fits' items t n w))

-- and the stage is full
pub Full-breaks : (z a b : Option Supply) (says says' : Bool → List ℕ → List ℕ) (fits fits' : List ℕ → Bool) (items : List ℕ) (t n : ℕ)
    → Stays z (pulled a true says fits [] t false) → Took a b says says' fits fits' items n → items ≡ [] → SaysNothing says' fits' → MayBreak z
Full-breaks z a b says says' fits fits' items t n stays w none full =
    MayBreak-stays z (pulled b true says' fits' [] (t + n) false) (Took-none z a b says says' fits fits' items t n stays w none)
    (MayBreak-full b says' fits' (t + n) full)

-- ---- what waits is given

pub Gives-stays : (a b c : Option Supply) (r : Result (Option ℕ) Fault) → Stays a b → Gives b r c → Gives a r c
Gives-stays None b c r p g = tt
Gives-stays (Some q) b c r p g = subst (λ x. Gives x r c) p g

one-fewer : (n : ℕ) → 1 + n - 1 ≡ n
one-fewer n = omega arith

byte-broken : (b : ℕ) (bytes : List ℕ) → Gave {E = Fault} (broken_off (b ∷ bytes)) (Ok (Some b)) (broken_off bytes)
byte-broken b bytes = (refl, (let e : length (b ∷ bytes) ≡ 1 + length bytes = omega arith in ap After (omega (arith, e))), omega arith)

byte-all : (fits : Bool) (b : ℕ) (bytes : List ℕ) → Gave {E = Fault} (all_of fits (b ∷ bytes)) (Ok (Some b)) (all_of fits bytes)
byte-all true b bytes = (refl, refl, tt)
byte-all false b bytes = byte-broken b bytes

byte-made : (ends fits : Bool) (b : ℕ) (xs ys : List ℕ)
    → Gave {E = Fault} (if ends then all_of fits (b ∷ xs) else broken_off (b ∷ ys)) (Ok (Some b)) (if ends then all_of fits xs else broken_off ys)
byte-made true fits b xs ys = byte-all fits b xs
byte-made false fits b xs ys = byte-broken b ys

byte-from : (known ended : Bool) (q : Supply) (says : Bool → List ℕ → List ℕ) (fits : List ℕ → Bool) (b : ℕ) (waits : List ℕ)
    → Gave {E = Fault} (pulled_from known ended q says fits (b ∷ waits)) (Ok (Some b)) (pulled_from known ended q says fits waits)
byte-from true true q says fits b waits = (refl, refl, tt)
byte-from true false q says fits b waits =
    byte-made (gives_end q.faults q.bytes) (fits q.bytes) b (waits ++ says true q.bytes) (waits ++ says false (given q.faults q.bytes))
byte-from false ended q says fits b waits = (refl, refl, tt)

Gives-byte : (a : Option Supply) (wide : Bool) (says : Bool → List ℕ → List ℕ) (fits : List ℕ → Bool) (b : ℕ) (waits : List ℕ) (t : ℕ) (ended : Bool)
    → Gives {E = Fault} (pulled a wide says fits (b ∷ waits) t ended) (Ok (Some b)) (pulled a wide says fits waits t ended)
Gives-byte None wide says fits b waits t ended = tt
Gives-byte (Some q) wide says fits b waits t ended = byte-from (is_known q t wide) ended q says fits b waits

end-from : (known : Bool) (q : Supply) (says : Bool → List ℕ → List ℕ) (fits : List ℕ → Bool)
    → Gave {E = Fault} (pulled_from known true q says fits []) (Ok None) (pulled_from known true q says fits [])
end-from true q says fits = (refl, refl, tt)
end-from false q says fits = (refl, refl, tt)

end-of : (a : Option Supply) (wide : Bool) (says : Bool → List ℕ → List ℕ) (fits : List ℕ → Bool) (t : ℕ)
    → Gives {E = Fault} (pulled a wide says fits [] t true) (Ok None) (pulled a wide says fits [] t true)
end-of None wide says fits t = tt
end-of (Some q) wide says fits t = end-from (is_known q t wide) q says fits

pub Gives-none : (a : Option Supply) (wide : Bool) (says : Bool → List ℕ → List ℕ) (fits : List ℕ → Bool) (waits : List ℕ) (t : ℕ) (ended : Bool)
    → waits ≡ [] → ended ≡ true → Gives {E = Fault} (pulled a wide says fits waits t ended) (Ok None) (pulled a wide says fits waits t ended)
Gives-none a wide says fits waits t ended empty end =
    subst (λ (e : Bool). Gives {E = Fault} (pulled a wide says fits waits t e) (Ok None) (pulled a wide says fits waits t e)) (sym end)
    (subst (λ (w : List ℕ). Gives {E = Fault} (pulled a wide says fits w t true) (Ok None) (pulled a wide says fits w t true)) (sym empty) (end-of a wide says fits t))

pub item-drop : (xs : List ℕ) (i x : ℕ) → slice_get xs i ≡ Some x → drop i xs ≡ x ∷ drop (i + 1) xs
item-drop xs i x h =
    drop_more xs i 0 (slice_get_within xs i x h) ∙ ap (λ (y : ℕ). y ∷ drop (i + 1) xs) (get_or_from_slice_get xs i x 0 h)

pub Gives-item : (a : Option Supply) (wide : Bool) (says : Bool → List ℕ → List ℕ) (fits : List ℕ → Bool) (xs : List ℕ) (i x t : ℕ) (ended : Bool) → slice_get xs i ≡ Some x
    → Gives {E = Fault} (pulled a wide says fits (drop i xs) t ended) (Ok (Some x)) (pulled a wide says fits (drop (i + 1) xs) t ended)
Gives-item a wide says fits xs i x t ended h =
    subst (λ (w : List ℕ). Gives {E = Fault} (pulled a wide says fits w t ended) (Ok (Some x)) (pulled a wide says fits (drop (i + 1) xs) t ended)) (sym (item-drop xs i x h))
    (Gives-byte a wide says fits x (drop (i + 1) xs) t ended)

nil-cons : (x : ℕ) (xs : List ℕ) → x ∷ xs ≡ [] → ⊥
nil-cons x xs h = cc

pub some-left : (xs : List ℕ) (i : ℕ) → i < length xs → drop i xs ≡ [] → ⊥
some-left xs i h e = nil-cons (get_or xs i 0) (drop (i + 1) xs) (sym (drop_more xs i 0 h) ∙ e)

-- ---- what waits is at hand

offers-broken : (waits more : List ℕ) → Offers (Some (broken_off (waits ++ more))) waits
offers-broken waits more = (take-append_seam waits more, (let e = length-append waits more in omega (arith, e)))

offers-all : (fits : Bool) (waits more : List ℕ) → Offers (Some (all_of fits (waits ++ more))) waits
offers-all true waits more = (take-append_seam waits more, tt)
offers-all false waits more = offers-broken waits more

offers-made : (ends fits : Bool) (waits xs ys : List ℕ)
    → Offers (Some (if ends then all_of fits (waits ++ xs) else broken_off (waits ++ ys))) waits
offers-made true fits waits xs ys = offers-all fits waits xs
offers-made false fits waits xs ys = offers-broken waits ys

offers-from : (known ended : Bool) (q : Supply) (says : Bool → List ℕ → List ℕ) (fits : List ℕ → Bool) (waits : List ℕ)
    → Offers (Some (pulled_from known ended q says fits waits)) waits
offers-from true true q says fits waits = (take-length waits, tt)
offers-from true false q says fits waits =
    offers-made (gives_end q.faults q.bytes) (fits q.bytes) waits (says true q.bytes) (says false (given q.faults q.bytes))
offers-from false ended q says fits waits = (take-append_seam waits (left_of ended says q.bytes), tt)

pub Offers-waits : (a : Option Supply) (wide : Bool) (says : Bool → List ℕ → List ℕ) (fits : List ℕ → Bool) (waits window : List ℕ) (t : ℕ) (ended : Bool)
    → window ≡ waits → Offers (pulled a wide says fits waits t ended) window
Offers-waits None wide says fits waits window t ended is = tt
Offers-waits (Some q) wide says fits waits window t ended is =
    subst (λ (w : List ℕ). Offers (pulled (Some q) wide says fits waits t ended) w) (sym is) (offers-from (is_known q t wide) ended q says fits waits)

skips-broken : (waits more : List ℕ) (n : ℕ) → n ≤ length waits → broken_off (drop n waits ++ more) ≡ skipped n (broken_off (waits ++ more))
skips-broken waits more n l =
    let same : drop n waits ++ more ≡ drop n (waits ++ more) = sym (drop-append-le n waits more l) in
    let lengths : length (drop n waits ++ more) ≡ length (waits ++ more) - n =
    ap length same ∙ length-drop n (waits ++ more) in
    ap (λ (z : List ℕ). record { bytes = z; faults = After (length (drop n waits ++ more)) }) same
    ∙ ap (λ (k : ℕ). record { bytes = drop n (waits ++ more); faults = After k }) lengths

skips-all : (fits : Bool) (waits more : List ℕ) (n : ℕ) → n ≤ length waits → all_of fits (drop n waits ++ more) ≡ skipped n (all_of fits (waits ++ more))
skips-all true waits more n l = ap whole (sym (drop-append-le n waits more l))
skips-all false waits more n l = skips-broken waits more n l

skips-made : (ends fits : Bool) (waits xs ys : List ℕ) (n : ℕ) → n ≤ length waits
    → (if ends then all_of fits (drop n waits ++ xs) else broken_off (drop n waits ++ ys))
    ≡ skipped n (if ends then all_of fits (waits ++ xs) else broken_off (waits ++ ys))
skips-made true fits waits xs ys n l = skips-all fits waits xs n l
skips-made false fits waits xs ys n l = skips-broken waits ys n l

skips-from : (known ended : Bool) (q : Supply) (says : Bool → List ℕ → List ℕ) (fits : List ℕ → Bool) (waits : List ℕ) (n : ℕ) → n ≤ length waits
    → pulled_from known ended q says fits (drop n waits) ≡ skipped n (pulled_from known ended q says fits waits)
skips-from true true q says fits waits n l = refl
skips-from true false q says fits waits n l =
    skips-made (gives_end q.faults q.bytes) (fits q.bytes) waits (says true q.bytes) (says false (given q.faults q.bytes)) n l
skips-from false ended q says fits waits n l = ap uncertain (sym (drop-append-le n waits (left_of ended says q.bytes) l))

pub drop_drop : (at n : ℕ) (xs : List ℕ) → drop n (drop at xs) ≡ drop (at + n) xs
drop_drop at n xs = grind (arith, common_steps)

pub Skips-waits : (a : Option Supply) (wide : Bool) (says : Bool → List ℕ → List ℕ) (fits : List ℕ → Bool) (xs : List ℕ) (at n t : ℕ) (ended : Bool)
    → n ≤ length (drop at xs) → Skips (pulled a wide says fits (drop at xs) t ended) n (pulled a wide says fits (drop (at + n) xs) t ended)
Skips-waits None wide says fits xs at n t ended l = tt
Skips-waits (Some q) wide says fits xs at n t ended l =
    ap (λ (w : List ℕ). pulled (Some q) wide says fits w t ended) (sym (drop_drop at n xs))
    ∙ ap (λ (x : Supply). Some x) (skips-from (is_known q t wide) ended q says fits (drop at xs) n l)

-- nothing is skipped
none-of : (f : Faults) (bytes : List ℕ) → record { bytes = bytes; faults = f } ≡ skipped 0 (record { bytes = bytes; faults = f })
none-of Never bytes = refl
none-of (After n) bytes = ap (λ (k : ℕ). record { bytes = bytes; faults = After k }) (let e : n ≡ n - 0 = omega arith in e)
none-of Anytime bytes = refl

skipped-none : (q : Supply) → q ≡ skipped 0 q
skipped-none q = none-of q.faults q.bytes

pub Skips-none : (a : Option Supply) (n : ℕ) → n ≡ 0 → Skips a n a
Skips-none None n none = tt
Skips-none (Some q) n none = subst (λ (k : ℕ). Some q ≡ Some (skipped k q)) (sym none) (ap (λ (x : Supply). Some x) (skipped-none q))

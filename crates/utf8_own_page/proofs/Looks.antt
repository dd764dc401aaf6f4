-- What was looked at of a text, part by part.
use Rattle.std.proofs.Common.{◌≡◌, ℕ, ◌+◌, ◌<◌, ◌≤◌, List, [], ◌∷◌, ◌++◌, refl, ap, sym, subst, ◌∙◌, append_assoc, arith, length, drop, Bool, true, false, Option, None, Some, Ok, Err}
use Rattle.std.proofs.lemmas.List.{take-append-drop}
use Rattle.std.proofs.lemmas.Grind.{common_steps}
use Rattle.nr_units.specs.Source.{Faults, Gives, MayFail, Never, Offers, Skips, Supply, later, one_later, skipped}
use Rattle.utf8_own_characters.specs.declared.cluster.Cluster.{Cluster}
use Rattle.utf8_own_characters.specs.declared.counting.Count.{Count}
use Rattle.utf8_own_characters.specs.declared.listening.Listener.{Listener}
use Rattle.utf8_own_characters.specs.Listening.{after, done_in, first, read}
use Rattle.utf8_own_characters.specs.Looking.{noted, seen}
use Rattle.utf8_own_characters.specs.Reading.{list_of}
use Rattle.utf8_own_page.specs.Looking.{LooksOn, counts_of, framed}

pub after-append : (l : Listener) (xs ys : List ℕ) → after l (xs ++ ys) ≡ after (after l xs) ys
after-append l [] ys = refl
after-append l (x ∷ xs) ys = after-append (read l x).listener xs ys

pub done-append : (l : Listener) (xs ys : List ℕ) → done_in l (xs ++ ys) ≡ done_in l xs ++ done_in (after l xs) ys
done-append l [] ys = refl
done-append l (x ∷ xs) ys =
    ap (λ (z : List Cluster). list_of (read l x).done ++ z) (done-append (read l x).listener xs ys)
    ∙ sym (append_assoc (list_of (read l x).done) (done_in (read l x).listener xs) (done_in (after (read l x).listener xs) ys))

pub seen-append : (room : ℕ) (counts : List Count) (cs ds : List Cluster)
    → seen room counts (cs ++ ds) ≡ seen room (seen room counts cs) ds
seen-append room counts [] ds = refl
seen-append room counts (c ∷ cs) ds = seen-append room (noted room counts (Some c)) cs ds

-- ---- some of the bytes that are to come were looked at

-- those at hand
pub looked-hand : (room : ℕ) (old new : Option Supply) (l m : Listener) (xs ys : List Count) (hand : List ℕ) (n : ℕ)
    → Offers old hand → Skips old n new → n ≡ length hand → 0 < n → ys ≡ seen room xs (done_in l hand) → m ≡ after l hand
    → LooksOn room old new l m xs ys true
looked-hand room None new l m xs ys hand n offers skips many some counts listener = tt
looked-hand room (Some q) new l m xs ys hand n offers skips many some counts listener = λ never. (
  skipped n q,
  skips,
  record {
    bytes = hand;
    some = subst (λ (k : ℕ). 0 < k) many some;
    came = sym (take-append-drop (length hand) q.bytes) ∙ ap (λ (z : List ℕ). z ++ drop (length hand) q.bytes) offers.0
        ∙ ap (λ (k : ℕ). hand ++ drop k q.bytes) (sym many);
    faults = ap (λ (f : Faults). later n f) never;
    listener = listener;
    counts = counts;
  },
)

-- the next one
pub looked-byte : (E : Type 0) (room : ℕ) (old new : Option Supply) (l m : Listener) (xs ys : List Count) (b : ℕ)
    → Gives {E = E} old (Ok (Some b)) new → ys ≡ seen room xs (done_in l (b ∷ [])) → m ≡ after l (b ∷ [])
    → LooksOn room old new l m xs ys true
looked-byte E room None new l m xs ys b gives counts listener = tt
looked-byte E room (Some q) None l m xs ys b gives counts listener = absurd gives
looked-byte E room (Some q) (Some t) l m xs ys b gives counts listener = λ never. (
  t,
  refl,
  record {
    bytes = b ∷ [];
    some = omega (arith);
    came = gives.0;
    faults = gives.1 ∙ ap (λ (f : Faults). one_later f) never;
    listener = listener;
    counts = counts;
  },
)

-- none
pub looked-end : (E : Type 0) (room : ℕ) (old new : Option Supply) (l : Listener) (xs : List Count)
    → Gives {E = E} old (Ok None) new → LooksOn room old new l l xs xs false
looked-end E room None new l xs gives = tt
looked-end E room (Some q) None l xs gives = absurd gives
looked-end E room (Some q) (Some t) l xs gives = λ never. record { none = gives.0; listener = refl; counts = refl }

-- one that never fails doesn't
pub looked-fault : (E : Type 0) (room : ℕ) (old new : Option Supply) (l : Listener) (xs : List Count) (e : E)
    → Gives old (Err e) new → LooksOn room old new l l xs xs false
looked-fault E room None new l xs e gives = tt
looked-fault E room (Some q) None l xs e gives = absurd gives
looked-fault E room (Some q) (Some t) l xs e gives = λ never. absurd (subst (λ (f : Faults). MayFail f) never gives.1)

pub looks-as : (room : ℕ) (old new : Option Supply) (l m m' : Listener) (xs ys ys' : List Count) (r r' : Bool)
    → m' ≡ m → ys' ≡ ys → r' ≡ r → LooksOn room old new l m xs ys r → LooksOn room old new l m' xs ys' r'
looks-as room old new l m m' xs ys ys' r r' listener counts result looks =
    subst (λ (z : Listener). LooksOn room old new l z xs ys' r') (sym listener)
    (subst (λ (z : List Count). LooksOn room old new l m xs z r') (sym counts)
    (subst (λ (z : Bool). LooksOn room old new l m xs ys z) (sym result) looks))

pub looks-within : (room room' : ℕ) (old new : Option Supply) (l m : Listener) (xs ys : List Count) (r r' : Bool)
    → room' ≡ room → r' ≡ r → LooksOn room' old new l m xs ys r' → LooksOn room old new l m xs ys r
looks-within room room' old new l m xs ys r r' same result looks =
    subst (λ (z : ℕ). LooksOn z old new l m xs ys r) same (subst (λ (z : Bool). LooksOn room' old new l m xs ys z) result looks)

-- ---- all of them

fewer : (calls : ℕ) (rest bytes left : List ℕ) (n : ℕ) → rest ≡ bytes ++ left → 0 < length bytes → calls + length rest ≤ n
    → (calls + 1) + length left ≤ n
fewer calls rest bytes left n came some few = grind (arith, common_steps)

-- what is to come of a page, of which so many calls took some
pub record Rest (room : ℕ) (q : Supply) (now : Option Supply) (l m : Listener) (xs ys : List Count) (calls : ℕ) : Type 0 where
  pub left : Supply
  pub is : now ≡ Some left
  pub faults : left.faults ≡ Never
  pub listener : after m left.bytes ≡ after l q.bytes
  pub counts : seen room ys (done_in m left.bytes) ≡ seen room xs (done_in l q.bytes)
  pub few : calls + length left.bytes ≤ length q.bytes

abbrev pub LeftOf : ℕ → Option Supply → Option Supply → Listener → Listener → List Count → List Count → ℕ → Type 0
LeftOf room old now l m xs ys calls = (q : Supply) → old ≡ Some q → q.faults ≡ Never → Rest room q now l m xs ys calls

pub at-first : (room : ℕ) (old : Option Supply) (l : Listener) (xs : List Count) → LeftOf room old old l l xs xs 0
at-first room old l xs q is never =
    record { left = q; is = is; faults = never; listener = refl; counts = refl; few = omega (arith) }

pub goes-on : (room : ℕ) (old now new : Option Supply) (l m k : Listener) (xs ys zs : List Count) (calls : ℕ)
    → LeftOf room old now l m xs ys calls → LooksOn room now new m k ys zs true → LeftOf room old new l k xs zs (calls + 1)
goes-on room old now new l m k xs ys zs calls left looks q is never =
    let rest = left q is never in
    let looked = subst (λ (z : Option Supply). LooksOn room z new m k ys zs true) rest.is looks rest.faults in
    let t = looked.0 in
    let more = looked.2 in
    record {
      left = t;
      is = looked.1;
      faults = more.faults;
      listener = ap (λ (z : Listener). after z t.bytes) more.listener ∙ sym (after-append m more.bytes t.bytes)
          ∙ ap (λ (z : List ℕ). after m z) (sym more.came) ∙ rest.listener;
      counts = ap (λ (z : Listener). seen room zs (done_in z t.bytes)) more.listener
          ∙ ap (λ (z : List Count). seen room z (done_in (after m more.bytes) t.bytes)) more.counts
          ∙ sym (seen-append room ys (done_in m more.bytes) (done_in (after m more.bytes) t.bytes))
          ∙ ap (λ (z : List Cluster). seen room ys z) (sym (done-append m more.bytes t.bytes))
          ∙ ap (λ (z : List ℕ). seen room ys (done_in m z)) (sym more.came) ∙ rest.counts;
      few = fewer calls rest.left.bytes more.bytes t.bytes (length q.bytes) more.came more.some rest.few;
    }

-- the end came
pub whole-counts : (room : ℕ) (old now new : Option Supply) (l m k : Listener) (xs ys zs : List Count) (calls : ℕ)
    → LeftOf room old now l m xs ys calls → LooksOn room now new m k ys zs false
    → (q : Supply) → old ≡ Some q → q.faults ≡ Never → zs ≡ seen room xs (done_in l q.bytes)
whole-counts room old now new l m k xs ys zs calls left looks q is never =
    let rest = left q is never in
    let ended = subst (λ (z : Option Supply). LooksOn room z new m k ys zs false) rest.is looks rest.faults in
    ended.counts ∙ ap (λ (z : List ℕ). seen room ys (done_in m z)) (sym ended.none) ∙ rest.counts

pub whole-listener : (room : ℕ) (old now new : Option Supply) (l m k : Listener) (xs ys zs : List Count) (calls : ℕ)
    → LeftOf room old now l m xs ys calls → LooksOn room now new m k ys zs false
    → (q : Supply) → old ≡ Some q → q.faults ≡ Never → k ≡ after l q.bytes
whole-listener room old now new l m k xs ys zs calls left looks q is never =
    let rest = left q is never in
    let ended = subst (λ (z : Option Supply). LooksOn room z new m k ys zs false) rest.is looks rest.faults in
    ended.listener ∙ ap (λ (z : List ℕ). after m z) (sym ended.none) ∙ rest.listener

-- so many calls take so many bytes
pub none-left : (room : ℕ) (old now : Option Supply) (l m : Listener) (xs ys : List Count) (calls most : ℕ)
    → LeftOf room old now l m xs ys calls → most ≤ calls
    → (q : Supply) → old ≡ Some q → q.faults ≡ Never → length q.bytes < most → ⊥
none-left room old now l m xs ys calls most left many q is never short =
    let few = (left q is never).few in omega (arith, few, many, short)

-- ---- a page

pub page-counts : (room room' room'' : ℕ) (frames : Bool) (text : List ℕ) (l m : Listener) (xs ys zs : List Count)
    → room' ≡ room → room'' ≡ room' → l ≡ first → xs ≡ framed room frames → ys ≡ seen room' xs (done_in l text) → m ≡ after l text
    → zs ≡ noted room'' ys m.held → zs ≡ counts_of room frames text
page-counts room room' room'' frames text l m xs ys zs same same' begun framed-is seen-is heard noted-is =
    noted-is ∙ ap (λ (n : ℕ). noted n ys m.held) (same' ∙ same) ∙ ap (λ (k : Listener). noted room ys k.held) (heard ∙ ap (λ (k : Listener). after k text) begun)
    ∙ ap (λ (z : List Count). noted room z (after first text).held)
    (seen-is ∙ ap (λ (n : ℕ). seen n xs (done_in l text)) same ∙ ap (λ (k : Listener). seen room xs (done_in k text)) begun
    ∙ ap (λ (z : List Count). seen room z (done_in first text)) framed-is)

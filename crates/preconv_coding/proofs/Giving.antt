-- What is to come after each call, and that a call ends.
use Rattle.std.proofs.Common.{◌≡◌, ℕ, suc, ◌<◌, List, [], ◌∷◌, ◌++◌, length, take, drop, Bool, true, false, ◌==◌, ◌&&◌, if◌then◌else◌, Option, None, Some, Ok, refl, sym, ◌∙◌, ap, subst, length-append, nat_lt, arith}
use Rattle.std.proofs.lemmas.Bool.{eqb-true}
use Rattle.std.proofs.lemmas.List.{nil_from_length}
use Rattle.std.specs.Prelude.{⊤}
use Rattle.std.specs.Char.{encode_utf8}
use Rattle.nr_units.specs.Source.{Faults, Never, After, Anytime, Supply, Gives, MayFail, MayGive, MayGiveAll, Offers, Skips, later, one_later}
use Rattle.nr_units.specs.declared.source.Fault.{Fault}
use Rattle.preconv_coding.specs.declared.part.Part.{Part}
use Rattle.preconv_coding.specs.declared.part.Part.TheVariants.{Start, Mark, LongMark, Head, Plain, Unknown, Eight, Wide}
use Rattle.preconv_coding.specs.declared.part.Step.{Step}
use Rattle.preconv_coding.specs.declared.tag.Head.{Head as Heads}
use Rattle.preconv_coding.specs.Sets.{character_of as set_character}
use Rattle.preconv_coding.specs.declared.wide.Units.{Units}
use Rattle.preconv_coding.specs.declared.wide.Wide.{Wide as Wides}
use Rattle.preconv_coding.specs.Wide.{replacement, character_of, is_high, is_low, pair_code, unit, first_wide, fresh, after_high, after_first}
use Rattle.preconv_coding.specs.Part.{taken, is_marking, is_plain}
use Rattle.preconv_coding.specs.UnderCoding.{text_from, text_faults, supply_from, hand_of}

-- what was known is as it was
abbrev pub Stays : Option Supply → Option Supply → Type 0
Stays None new = ⊤
Stays (Some q) new = new ≡ Some q

Stays-trans : (a b c : Option Supply) → Stays a b → Stays b c → Stays a c
Stays-trans None b c p q = tt
Stays-trans (Some x) None c p q = cc
Stays-trans (Some x) (Some y) c p q = q ∙ p

-- ---- when a call fails

faults_later : (f : Faults) → text_faults (one_later f) ≡ text_faults f
faults_later Never = refl
faults_later (After n) = refl
faults_later Anytime = refl

faults_skipped : (f : Faults) (n : ℕ) → later n (text_faults f) ≡ text_faults (later n f)
faults_skipped Never n = refl
faults_skipped (After m) n = refl
faults_skipped Anytime n = refl

gives_all : (f : Faults) (n : ℕ) → MayGiveAll n (text_faults f)
gives_all Never n = tt
gives_all (After m) n = tt
gives_all Anytime n = tt

may_fail : (f : Faults) → MayFail f → MayFail (text_faults f)
may_fail Never fails = fails
may_fail (After n) fails = tt
may_fail Anytime fails = tt

may_give : (f : Faults) → MayGive (text_faults f)
may_give Never = tt
may_give (After n) = tt
may_give Anytime = tt

-- ---- one call

-- a byte came
byte_came : (part : Part) (b : ℕ) (known new : Option Supply) → Gives {E = Fault} known (Ok (Some b)) new
    → Stays (supply_from part [] known) (supply_from (taken b part).part (taken b part).text new)
byte_came part b None new gives = tt
byte_came part b (Some q) None gives = absurd gives
byte_came part b (Some q) (Some t) gives =
    ap (λ (faults : Faults). Some (record { bytes = text_from part (b ∷ t.bytes); faults = faults })) (ap text_faults gives.1 ∙ faults_later q.faults)
    ∙ ap (λ (bytes : List ℕ). Some (record { bytes = text_from part bytes; faults = text_faults q.faults })) (sym gives.0)

pub byte_stays : (a : Option Supply) (part : Part) (b : ℕ) (ready : List ℕ) (known new : Option Supply) → ready ≡ [] → Stays a (supply_from part ready known) → Gives {E = Fault} known (Ok (Some b)) new
    → Stays a (supply_from (taken b part).part (taken b part).text new)
byte_stays a part b ready known new none stays gives =
    Stays-trans a (supply_from part [] known) _ (subst (λ (xs : List ℕ). Stays a (supply_from part xs known)) none stays) (byte_came part b known new gives)

-- ---- bytes at hand

-- bytes that go out as they are
pub plain_text : (bs : List ℕ) → text_from Plain bs ≡ bs
plain_text [] = refl
plain_text (b ∷ bs) = ap (λ (xs : List ℕ). b ∷ xs) (plain_text bs)

pub unknown_text : (head : Heads) (bs : List ℕ) → text_from (Unknown head) bs ≡ bs
unknown_text head [] = refl
unknown_text head (b ∷ bs) = ap (λ (xs : List ℕ). b ∷ xs) (unknown_text head bs)

as_it_is : (part : Part) → is_plain part ≡ true → (bs : List ℕ) → text_from part bs ≡ bs
as_it_is Plain is bs = plain_text bs
as_it_is (Unknown head) is bs = unknown_text head bs
as_it_is Start is bs = absurd (let no : false ≡ true = is in cc)
as_it_is (Mark a) is bs = absurd (let no : false ≡ true = is in cc)
as_it_is LongMark is bs = absurd (let no : false ≡ true = is in cc)
as_it_is (Head head) is bs = absurd (let no : false ≡ true = is in cc)
as_it_is (Eight set) is bs = absurd (let no : false ≡ true = is in cc)
as_it_is (Wide w) is bs = absurd (let no : false ≡ true = is in cc)

pub plain_offers : (part : Part) → is_plain part ≡ true → (known : Option Supply) (bs : List ℕ) → Offers known bs → Offers (supply_from part [] known) bs
plain_offers part is None bs offers = tt
plain_offers part is (Some q) bs offers = (ap (take (length bs)) (as_it_is part is q.bytes) ∙ offers.0, gives_all q.faults (length bs))

pub plain_skips : (part : Part) → is_plain part ≡ true → (known new : Option Supply) (n : ℕ) → Skips known n new → Skips (supply_from part [] known) n (supply_from part [] new)
plain_skips part is None new n skips = tt
plain_skips part is (Some q) new n skips =
    ap (supply_from part []) skips
    ∙ ap (λ (bytes : List ℕ). Some (record { bytes = bytes; faults = text_faults (later n q.faults) })) (as_it_is part is (drop n q.bytes) ∙ ap (drop n) (sym (as_it_is part is q.bytes)))
    ∙ ap (λ (faults : Faults). Some (record { bytes = drop n (text_from part q.bytes); faults = faults })) (sym (faults_skipped q.faults n))

-- bytes are at hand only where nothing is ready, and they go out as they are
hand_by : (x : Bool) (hand : List ℕ) → 0 < length (if x then hand else []) → x ≡ true
hand_by true hand some = refl
hand_by false hand some = absurd (omega arith)

pub hand_plain : (part : Part) (ready hand : List ℕ) → 0 < length (hand_of part ready hand) → (is_plain part ≡ true) × (ready ≡ [])
hand_plain part [] hand some = (hand_by (is_plain part) hand some, refl)
hand_plain part (b ∷ rest) hand some = absurd (omega arith)

-- ---- a call ends: so many bytes may come at most before some text does

abbrev pub rank_by : Option ℕ → Option ℕ → ℕ
rank_by None None = 3
rank_by None (Some a) = 2
rank_by (Some high) None = 1
rank_by (Some high) (Some a) = 0

abbrev pub rank : Part → ℕ
rank Start = 6
rank (Mark a) = 5
rank LongMark = 4
rank (Head head) = 0
rank Plain = 0
rank (Unknown head) = 0
rank (Eight set) = 0
rank (Wide w) = rank_by w.high w.first

abbrev pub patience : Part → List ℕ → ℕ
patience part [] = suc (rank part)
patience part (b ∷ bs) = 0

pub ready_patience : (part : Part) (bs : List ℕ) → 0 < length bs → patience part bs ≡ 0
ready_patience part [] some = absurd (omega arith)
ready_patience part (b ∷ bs) some = refl

some_split : (x : Bool) (a b : List ℕ) → 0 < length a → 0 < length b → 0 < length (if x then a else b)
some_split true a b p q = p
some_split false a b p q = q

-- a character has bytes
pub encoded : (c : ℕ) → 0 < length (encode_utf8 c)
unfolding encode_utf8
encoded c = some_split (nat_lt c 128) _ _ (omega arith) (some_split (nat_lt c 2048) _ _ (omega arith) (some_split (nat_lt c 65536) _ _ (omega arith) (omega arith)))

lost_after : (text : List ℕ) → 0 < length (encode_utf8 replacement ++ text)
lost_after text = omega (arith, length-append (encode_utf8 replacement) text, encoded replacement)

-- where text came, none is waited for
abbrev pub Nearer : ℕ → Part → List ℕ → Type 0
Nearer n part text = patience part text < suc n

nearer : (n : ℕ) (part : Part) (text : List ℕ) → 0 < length text → Nearer n part text
nearer n part text some = let none = ready_patience part text some in omega (arith, none)

abbrev pub NearerStep : ℕ → Step → Type 0
NearerStep n s = Nearer n s.part s.text

step_split : (n : ℕ) (x : Bool) (s t : Step) → NearerStep n s → NearerStep n t → NearerStep n (if x then s else t)
step_split n true s t p q = p
step_split n false s t p q = q

abbrev pub NearerUnits : ℕ → Units → Type 0
NearerUnits n u = Nearer n (Wide u.wide) u.text

units_split : (n : ℕ) (x : Bool) (u v : Units) → NearerUnits n u → NearerUnits n v → NearerUnits n (if x then u else v)
units_split n true u v p q = p
units_split n false u v p q = q

fresh_by : (u : ℕ) (w : Wides) (x : Bool)
    → Nearer 2 (Wide (record { order = w.order; high = if x then Some u else None; first = None })) (if x then [] else encode_utf8 (character_of u))
fresh_by u w true = omega arith
fresh_by u w false = let none = ready_patience (Wide (record { order = w.order; high = None; first = None })) (encode_utf8 (character_of u)) (encoded (character_of u)) in omega (arith, none)

unit_nearer : (u : ℕ) (w : Wides) (high : Option ℕ) → NearerUnits (rank_by high (Some 0)) (after_high high u w)
unit_nearer u w None = fresh_by u w (is_high u)
unit_nearer u w (Some high) =
    units_split 0 (is_low u) _ _ (nearer 0 (Wide (first_wide w.order)) (encode_utf8 (character_of (pair_code high u))) (encoded (character_of (pair_code high u))))
    (nearer 0 (Wide (fresh u w).wide) (encode_utf8 replacement ++ (fresh u w).text) (lost_after (fresh u w).text))

byte_nearer : (b : ℕ) (w : Wides) (high first : Option ℕ) → w.high ≡ high → NearerUnits (rank_by high first) (after_first first b w)
byte_nearer b w None None is = rw is (omega arith)
byte_nearer b w (Some h) None is = rw is (omega arith)
byte_nearer b w None (Some a) is = subst (λ (h : Option ℕ). NearerUnits 2 (after_high h (unit w.order a b) w)) (sym is) (unit_nearer (unit w.order a b) w None)
byte_nearer b w (Some h) (Some a) is =
    subst (λ (high : Option ℕ). NearerUnits 0 (after_high high (unit w.order a b) w)) (sym is) (unit_nearer (unit w.order a b) w (Some h))

pub takes_nearer : (b : ℕ) (part : Part) → NearerStep (rank part) (taken b part)
takes_nearer b Start = step_split 6 (is_marking b) _ _ (omega arith) (omega arith)
takes_nearer b (Mark a) =
    step_split 5 ((a == 0xFE) && (b == 0xFF)) _ _ (omega arith) (step_split 5 ((a == 0xFF) && (b == 0xFE)) _ _ (omega arith) (step_split 5 ((a == 0xEF) && (b == 0xBB)) _ _ (omega arith) (omega arith)))
takes_nearer b LongMark = step_split 4 (b == 0xBF) _ _ (omega arith) (omega arith)
takes_nearer b (Head head) = omega arith
takes_nearer b Plain = omega arith
takes_nearer b (Unknown head) = omega arith
takes_nearer b (Eight set) = nearer 0 (Eight set) (encode_utf8 (set_character set b)) (encoded (set_character set b))
takes_nearer b (Wide w) = byte_nearer b w w.high w.first refl

-- ---- nothing is ready, or something is

pub no_bytes : (bs : List ℕ) → (length bs == 0) ≡ true → bs ≡ []
no_bytes bs is = nil_from_length bs (eqb-true (length bs) 0 is)

some_bytes : (bs : List ℕ) → (length bs == 0) ≡ false → 0 < length bs
some_bytes [] is = absurd (let no : true ≡ false = is in cc)
some_bytes (b ∷ bs) is = omega arith

pub step_stays : (a : Option Supply) (part : Part) (b : ℕ) (ready : List ℕ) (known new : Option Supply) (s : Step) → s ≡ taken b part → (length ready == 0) ≡ true
    → Stays a (supply_from part ready known) → Gives {E = Fault} known (Ok (Some b)) new → Stays a (supply_from s.part s.text new)
step_stays a part b ready known new s is none stays gives =
    subst (λ (t : Step). Stays a (supply_from t.part t.text new)) (sym is) (byte_stays a part b ready known new (no_bytes ready none) stays gives)

pub step_nearer : (b : ℕ) (part : Part) (ready : List ℕ) (s : Step) → s ≡ taken b part → (length ready == 0) ≡ true → patience s.part s.text < patience part ready
step_nearer b part ready s is none =
    let near : patience s.part s.text < patience part [] = subst (λ (t : Step). NearerStep (rank part) t) (sym is) (takes_nearer b part) in
    subst (λ (bs : List ℕ). patience s.part s.text < patience part bs) (sym (no_bytes ready none)) near

pub end_nearer : (part : Part) (ready text : List ℕ) → (length ready == 0) ≡ true → (length text == 0) ≡ false → patience Plain text < patience part ready
end_nearer part ready text none some =
    let near : patience Plain text < patience part [] = nearer (rank part) Plain text (some_bytes text some) in
    subst (λ (bs : List ℕ). patience Plain text < patience part bs) (sym (no_bytes ready none)) near

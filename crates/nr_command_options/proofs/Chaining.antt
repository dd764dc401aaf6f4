-- Files read one after the other: what is to come after each call.
use Rattle.std.proofs.Common.{◌≡◌, ℕ, zero, suc, ◌+◌, ◌-◌, ◌<◌, ◌≤◌, List, [], ◌∷◌, ◌++◌, length, take, drop, get_or, set, map, Bool, true, false, not, ◌||◌, ◌==◌, leb, cond, Option, None, Some, Result, Ok, Err, refl, sym, ap, subst, ◌∙◌, arith, append_assoc, length-drop, length-take}
use Rattle.std.specs.Prelude.{⊤}
use Rattle.std.specs.Option.{option_map}
use Rattle.std.proofs.lemmas.Bool.Decides.{nat_tests}
use Rattle.std.proofs.lemmas.List.{drop-set, map-set, get_or-map, drop-append-le, take-append-le, get_or-take, drop_all, length-map}
use Rattle.std.proofs.lemmas.List.Sums.{sum_by-set}
use Rattle.std.proofs.Math.Seq.{drop-cons}
use Rattle.nr_units.specs.Failures.{next_count}
use Rattle.nr_units.specs.Source.{Supply, Faults, Never, After, Anytime, Gave, Gives, MayFail, MayGive, MayGiveAll, one_later, later, Offers, Skips, skipped}
use Rattle.nr_units.specs.declared.source.Fault.{Fault}
use Rattle.nr_command_options.specs.Chained.{hand_at, ended, chained_bytes, delayed, faults_before, chained_faults, is_anytime, chained, some_anytime, chain_from, all_known, chain_supply, failures_in}

-- what was known is as it was
abbrev pub Stays : Option Supply → Option Supply → Type 0
Stays None new = ⊤
Stays (Some q) new = new ≡ Some q

pub Stays-trans : (a b c : Option Supply) → Stays a b → Stays b c → Stays a c
Stays-trans None b c p q = tt
Stays-trans (Some x) None c p q = cc
Stays-trans (Some x) (Some y) c p q = q ∙ p

pub Stays-gives : (a b c : Option Supply) (r : Result (Option ℕ) Fault) → Stays a b → Gives b r c → Gives a r c
Stays-gives None b c r p q = tt
Stays-gives (Some x) b c r p q = subst (λ (known : Option Supply). Gives known r c) p q

-- ---- what is known

abbrev knowns : List Supply → List (Option Supply)
knowns qs = map (λ (q : Supply). Some q) qs

known_cons : (o : Option (List Supply)) (f : Supply) (fs : List (Option Supply)) (qs : List Supply) → all_known fs ≡ o → option_map (λ (others : List Supply). f ∷ others) o ≡ Some qs
    → ((others : List Supply) → all_known fs ≡ Some others → fs ≡ knowns others) → Some f ∷ fs ≡ knowns qs
known_cons None f fs qs e h rest = cc
known_cons (Some others) f fs qs e h rest =
    let same : qs ≡ f ∷ others = cc in
    ap (λ (xs : List (Option Supply)). Some f ∷ xs) (rest others e) ∙ ap knowns (sym same)

known_is : (fs : List (Option Supply)) (qs : List Supply) → all_known fs ≡ Some qs → fs ≡ knowns qs
known_is [] qs e = let same : qs ≡ [] = cc in ap knowns (sym same)
known_is (None ∷ fs) qs e = cc
known_is (Some f ∷ fs) qs e = known_cons (all_known fs) f fs qs refl e (λ others k. known_is fs others k)

all_known-knowns : (qs : List Supply) → all_known (knowns qs) ≡ Some qs
all_known-knowns [] = refl
all_known-knowns (q ∷ qs) = ap (option_map (λ (others : List Supply). q ∷ others)) (all_known-knowns qs)

known_cases_at : (P : Option Supply → Type 0) (fs : List (Option Supply)) (at : ℕ) (o : Bool) (k : Option (List Supply)) → all_known fs ≡ k → P None
    → ((qs : List Supply) → fs ≡ knowns qs → P (Some (chain_from at o qs))) → P (option_map (chain_from at o) k)
known_cases_at P fs at o None e none some = none
known_cases_at P fs at o (Some qs) e none some = some qs (known_is fs qs e)

-- what is to come of files is known or not
known_cases : (P : Option Supply → Type 0) (fs : List (Option Supply)) (at : ℕ) (o : Bool) → P None
    → ((qs : List Supply) → fs ≡ knowns qs → P (Some (chain_from at o qs))) → P (chain_supply at o fs)
known_cases P fs at o none some = known_cases_at P fs at o (all_known fs) refl none some

-- ---- the file that is read

nothing : Supply
nothing = record { bytes = []; faults = Never }

anytime_at : (qs : List Supply) (i : ℕ) → i < length qs → is_anytime (get_or qs i nothing).faults ≡ true → some_anytime qs ≡ true
anytime_at [] i within is = absurd (omega arith)
anytime_at (q ∷ qs) zero within is = rw is refl
anytime_at (q ∷ qs) (suc i) within is =
    let tail : some_anytime qs ≡ true = anytime_at qs i (omega arith) is in
    or_true (is_anytime q.faults) (some_anytime qs) tail
  where
    or_true : (a b : Bool) → b ≡ true → (a || b) ≡ true
    or_true true b e = refl
    or_true false b e = e

anytime_set : (qs : List Supply) (i : ℕ) (t : Supply) → i < length qs → is_anytime t.faults ≡ is_anytime (get_or qs i nothing).faults → some_anytime (set qs i t) ≡ some_anytime qs
anytime_set [] i t within is = absurd (omega arith)
anytime_set (q ∷ qs) zero t within is = ap (λ (b : Bool). b || some_anytime qs) is
anytime_set (q ∷ qs) (suc i) t within is = ap (λ (b : Bool). is_anytime q.faults || b) (anytime_set qs i t (omega arith) is)

drop_after : (qs : List Supply) (i : ℕ) (t : Supply) → drop (suc i) (set qs i t) ≡ drop (suc i) qs
drop_after [] i t = refl
drop_after (q ∷ qs) zero t = refl
drop_after (q ∷ qs) (suc i) t = drop_after qs i t

record At (fs : List (Option Supply)) (at : ℕ) (f : Option Supply) (qs : List Supply) : Type 0 where
  q : Supply
  rest : List Supply
  f_is : f ≡ Some q
  now_is : (o : Bool) → chain_from at o qs ≡ chained (some_anytime qs) o (q ∷ rest)
  anytime : is_anytime q.faults ≡ true → some_anytime qs ≡ true
  later_is : (t : Supply) → is_anytime t.faults ≡ is_anytime q.faults → (o : Bool) → chain_supply at o (set fs at (Some t)) ≡ Some (chained (some_anytime qs) o (t ∷ rest))
  after_is : (t : Supply) → is_anytime t.faults ≡ is_anytime q.faults → (o : Bool) → chain_supply (at + 1) o (set fs at (Some t)) ≡ Some (chained (some_anytime qs) o rest)

length_known : (qs : List Supply) → length (knowns qs) ≡ length qs
length_known [] = refl
length_known (q ∷ qs) = ap suc (length_known qs)

set_known : (fs : List (Option Supply)) (qs : List Supply) (at : ℕ) (t : Supply) → fs ≡ knowns qs → set fs at (Some t) ≡ knowns (set qs at t)
set_known fs qs at t is = ap (λ (xs : List (Option Supply)). set xs at (Some t)) is ∙ sym (map-set (λ (q : Supply). Some q) qs at t)

stands : (fs : List (Option Supply)) (at : ℕ) (f : Option Supply) (qs : List Supply) → at < length fs → f ≡ get_or fs at f → fs ≡ knowns qs → At fs at f qs
stands fs at f qs within f_here is =
    let size : length fs ≡ length qs = ap length is ∙ length_known qs in
    let in_qs : at < length qs = omega arith in
    let q : Supply = get_or qs at nothing in
    let plus : at + 1 ≡ suc at = omega arith in
    record {
      q = q;
      rest = drop (suc at) qs;
      f_is = f_here ∙ ap (λ (xs : List (Option Supply)). get_or xs at f) is ∙ get_or-map (λ (x : Supply). Some x) qs at nothing f in_qs;
      now_is = λ o. ap (chained (some_anytime qs) o) (drop-cons qs at nothing in_qs);
      anytime = λ h. anytime_at qs at in_qs h;
      later_is = λ t same o.
          ap (chain_supply at o) (set_known fs qs at t is) ∙ ap (option_map (chain_from at o)) (all_known-knowns (set qs at t))
          ∙ ap (λ (flag : Bool). Some (chained flag o (drop at (set qs at t)))) (anytime_set qs at t in_qs same)
          ∙ ap (λ (xs : List Supply). Some (chained (some_anytime qs) o xs)) (drop-set qs at t in_qs ∙ ap (λ (k : ℕ). t ∷ drop k qs) plus);
      after_is = λ t same o.
          ap (chain_supply (at + 1) o) (set_known fs qs at t is) ∙ ap (option_map (chain_from (at + 1) o)) (all_known-knowns (set qs at t))
          ∙ ap (λ (flag : Bool). Some (chained flag o (drop (at + 1) (set qs at t)))) (anytime_set qs at t in_qs same)
          ∙ ap (λ (k : ℕ). Some (chained (some_anytime qs) o (drop k (set qs at t)))) plus
          ∙ ap (λ (xs : List Supply). Some (chained (some_anytime qs) o xs)) (drop_after qs at t);
    }

-- what a file gave, where it was known
known_after : (f f' : Option Supply) (q : Supply) (r : Result (Option ℕ) Fault) → f ≡ Some q → Gives f r f' → (t : Supply) × (f' ≡ Some t) × Gave q r t
known_after f None q r is gives = absurd (subst (λ (known : Option Supply). Gives known r None) is gives)
known_after f (Some t) q r is gives = (t, refl, subst (λ (known : Option Supply). Gives known r (Some t)) is gives)

-- ---- when calls fail

not_anytime : (a : Bool) → (a ≡ true → false ≡ true) → a ≡ false
not_anytime true h = sym (h refl)
not_anytime false h = refl

one_later-delayed : (m : ℕ) (others : Faults) → one_later (delayed (suc m) others) ≡ delayed m others
one_later-delayed m Never = refl
one_later-delayed m (After k) = ap After (omega arith)
one_later-delayed m Anytime = refl

MayGive-delayed : (m : ℕ) (others : Faults) → MayGive (delayed (suc m) others)
MayGive-delayed m Never = tt
MayGive-delayed m (After k) = omega arith
MayGive-delayed m Anytime = tt

delayed-zero : (others : Faults) → delayed 0 others ≡ others
delayed-zero Never = refl
delayed-zero (After k) = ap After (omega arith)
delayed-zero Anytime = refl

is_anytime-one_later : (faults : Faults) → is_anytime (one_later faults) ≡ is_anytime faults
is_anytime-one_later Never = refl
is_anytime-one_later (After k) = refl
is_anytime-one_later Anytime = refl

is_anytime-later : (n : ℕ) (faults : Faults) → is_anytime (later n faults) ≡ is_anytime faults
is_anytime-later n Never = refl
is_anytime-later n (After k) = refl
is_anytime-later n Anytime = refl

after_byte : (b : Bool) (k m : ℕ) (others : Faults) → 0 < k → (one_later (cond b (After k) (delayed (suc m) others)) ≡ cond b (After (k - 1)) (delayed m others)) × MayGive (cond b (After k) (delayed (suc m) others))
after_byte true k m others h = (refl, h)
after_byte false k m others h = (one_later-delayed m others, MayGive-delayed m others)

-- one more byte of a file
byte_faults : (faults : Faults) (n m : ℕ) (others : Faults) → is_anytime faults ≡ false → MayGive faults
    → (one_later (faults_before faults (suc n) (suc m) others) ≡ faults_before (one_later faults) n m others) × MayGive (faults_before faults (suc n) (suc m) others)
byte_faults Never n m others never may = (one_later-delayed m others, MayGive-delayed m others)
byte_faults (After k) n m others never may =
    let same : leb k (suc n) ≡ leb (k - 1) n = grind (arith, nat_tests) in
    subst (λ (b : Bool). (one_later (cond (leb k (suc n)) (After k) (delayed (suc m) others)) ≡ cond b (After (k - 1)) (delayed m others)) × MayGive (cond (leb k (suc n)) (After k) (delayed (suc m) others))) same
    (after_byte (leb k (suc n)) k m others may)
byte_faults Anytime n m others never may = cc

-- a file that is at its end
end_faults : (faults : Faults) (m : ℕ) (others : Faults) → is_anytime faults ≡ false → MayGive faults → faults_before faults 0 m others ≡ delayed m others
end_faults Never m others never may = refl
end_faults (After k) m others never may = let above : leb k 0 ≡ false = grind (arith, nat_tests) in rw above refl
end_faults Anytime m others never may = cc

-- a file that failed
fail_faults : (faults : Faults) (n m : ℕ) (others : Faults) → is_anytime faults ≡ false → MayFail faults → MayFail (faults_before faults n m others)
fail_faults Never n m others never may = absurd may
fail_faults (After k) n m others never may = let within : leb k n ≡ true = grind (arith, nat_tests) in rw within may
fail_faults Anytime n m others never may = cc

-- ---- one call

byte_false : (o : Bool) (bytes bytes' : List ℕ) (faults faults' others : Faults) (b : ℕ) → bytes ≡ b ∷ bytes' → faults' ≡ one_later faults → MayGive faults → is_anytime faults ≡ false
    → (faults_before faults' (length bytes') (length (ended bytes' (not (b == 10)))) others ≡ one_later (faults_before faults (length bytes) (length (ended bytes o)) others))
    × MayGive (faults_before faults (length bytes) (length (ended bytes o)) others)
byte_false o bytes bytes' faults faults' others b is later_is may never =
    let step = byte_faults faults (length bytes') (length (ended bytes' (not (b == 10)))) others never may in
    rw (is, later_is) (sym step.0, step.1)

chained_byte : (flag o : Bool) (q t : Supply) (rest : List Supply) (b : ℕ) → (is_anytime q.faults ≡ true → flag ≡ true) → Gave {E = Fault} q (Ok (Some b)) t
    → Gave {E = Fault} (chained flag o (q ∷ rest)) (Ok (Some b)) (chained flag (not (b == 10)) (t ∷ rest))
chained_byte true o q t rest b any gave = (ap (λ (bs : List ℕ). ended bs o ++ chained_bytes false rest) gave.0, refl, tt)
chained_byte false o q t rest b any gave =
    let step = byte_false o q.bytes t.bytes q.faults t.faults (chained_faults false rest) b gave.0 gave.1 gave.2 (not_anytime (is_anytime q.faults) any) in
    (ap (λ (bs : List ℕ). ended bs o ++ chained_bytes false rest) gave.0, step.0, step.1)

chained_newline : (flag : Bool) (q t : Supply) (rest : List Supply) → (is_anytime q.faults ≡ true → flag ≡ true) → Gave {E = Fault} q (Ok None) t
    → Gave {E = Fault} (chained flag true (q ∷ rest)) (Ok (Some 10)) (chained flag false rest)
chained_newline true q t rest any gave = (ap (λ (bs : List ℕ). ended bs true ++ chained_bytes false rest) gave.0, refl, tt)
chained_newline false q t rest any gave =
    let others = chained_faults false rest in
    let now : faults_before q.faults (length q.bytes) (length (ended q.bytes true)) others ≡ delayed (suc 0) others =
    rw gave.0 (end_faults q.faults 1 others (not_anytime (is_anytime q.faults) any) gave.2) in (
      ap (λ (bs : List ℕ). ended bs true ++ chained_bytes false rest) gave.0,
      sym (ap one_later now ∙ one_later-delayed 0 others ∙ delayed-zero others),
      subst MayGive (sym now) (MayGive-delayed 0 others),
    )

chained_past : (flag : Bool) (q t : Supply) (rest : List Supply) → (is_anytime q.faults ≡ true → flag ≡ true) → Gave {E = Fault} q (Ok None) t
    → chained flag false (q ∷ rest) ≡ chained flag false rest
chained_past true q t rest any gave = ap (λ (bs : List ℕ). record { bytes = bs; faults = Anytime }) (ap (λ (bs : List ℕ). ended bs false ++ chained_bytes false rest) gave.0)
chained_past false q t rest any gave =
    let others = chained_faults false rest in
    let now : faults_before q.faults (length q.bytes) (length (ended q.bytes false)) others ≡ others =
    rw gave.0 (end_faults q.faults 0 others (not_anytime (is_anytime q.faults) any) gave.2 ∙ delayed-zero others) in
    let bytes : ended q.bytes false ++ chained_bytes false rest ≡ chained_bytes false rest = ap (λ (bs : List ℕ). ended bs false ++ chained_bytes false rest) gave.0 in
    let S : List ℕ → Faults → Supply = λ bs fs. record { bytes = bs; faults = fs } in
    ap (λ (bs : List ℕ). S bs (faults_before q.faults (length q.bytes) (length (ended q.bytes false)) others)) bytes ∙ ap (S (chained_bytes false rest)) now

chained_fault : (flag o : Bool) (q t : Supply) (rest : List Supply) (e : Fault) → (is_anytime q.faults ≡ true → flag ≡ true) → Gave q (Err e) t
    → Gave (chained flag o (q ∷ rest)) (Err e) (chained flag o (t ∷ rest))
chained_fault true o q t rest e any gave = (ap (λ (x : Supply). chained true o (x ∷ rest)) gave.0, tt)
chained_fault false o q t rest e any gave =
    (ap (λ (x : Supply). chained false o (x ∷ rest)) gave.0, fail_faults q.faults (length q.bytes) (length (ended q.bytes o)) (chained_faults false rest) (not_anytime (is_anytime q.faults) any) gave.1)

chained_end : (flag o : Bool) → Gave {E = Fault} (chained flag o []) (Ok None) (chained flag o [])
chained_end true o = (refl, refl, tt)
chained_end false o = (refl, refl, tt)

-- ---- the calls of a chain

gives_along : (a b c d : Option Supply) (r : Result (Option ℕ) Fault) → a ≡ b → d ≡ c → Gives b r c → Gives a r d
gives_along a b c d r p q gives = rw (p, q) gives

-- a byte of the file
pub gives_byte : (fs : List (Option Supply)) (at : ℕ) (o : Bool) (f f' : Option Supply) (b : ℕ) → at < length fs → f ≡ get_or fs at f → Gives {E = Fault} f (Ok (Some b)) f'
    → Gives {E = Fault} (chain_supply at o fs) (Ok (Some b)) (chain_supply at (not (b == 10)) (set fs at f'))
gives_byte fs at o f f' b within here gives =
    known_cases (λ (X : Option Supply). Gives {E = Fault} X (Ok (Some b)) (chain_supply at (not (b == 10)) (set fs at f'))) fs at o tt
    (λ qs is.
    let s : At fs at f qs = stands fs at f qs within here is in
    let after = known_after f f' s.q (Ok (Some b)) s.f_is gives in
    let same : is_anytime after.0.faults ≡ is_anytime s.q.faults = ap is_anytime after.2.1 ∙ is_anytime-one_later s.q.faults in
    gives_along (Some (chain_from at o qs)) (Some (chained (some_anytime qs) o (s.q ∷ s.rest))) (Some (chained (some_anytime qs) (not (b == 10)) (after.0 ∷ s.rest))) _ (Ok (Some b))
    (ap (λ (x : Supply). Some x) (s.now_is o)) (ap (λ (x : Option Supply). chain_supply at (not (b == 10)) (set fs at x)) after.1 ∙ s.later_is after.0 same (not (b == 10)))
    (chained_byte (some_anytime qs) o s.q after.0 s.rest b s.anytime after.2))

-- the newline that the file lacks
pub gives_newline : (fs : List (Option Supply)) (at : ℕ) (f f' : Option Supply) → at < length fs → f ≡ get_or fs at f → Gives {E = Fault} f (Ok None) f'
    → Gives {E = Fault} (chain_supply at true fs) (Ok (Some 10)) (chain_supply (at + 1) false (set fs at f'))
gives_newline fs at f f' within here gives =
    known_cases (λ (X : Option Supply). Gives {E = Fault} X (Ok (Some 10)) (chain_supply (at + 1) false (set fs at f'))) fs at true tt
    (λ qs is.
    let s : At fs at f qs = stands fs at f qs within here is in
    let after = known_after f f' s.q (Ok None) s.f_is gives in
    let same : is_anytime after.0.faults ≡ is_anytime s.q.faults = ap (λ (x : Supply). is_anytime x.faults) after.2.1 in
    gives_along (Some (chain_from at true qs)) (Some (chained (some_anytime qs) true (s.q ∷ s.rest))) (Some (chained (some_anytime qs) false s.rest)) _ (Ok (Some 10))
    (ap (λ (x : Supply). Some x) (s.now_is true)) (ap (λ (x : Option Supply). chain_supply (at + 1) false (set fs at x)) after.1 ∙ s.after_is after.0 same false)
    (chained_newline (some_anytime qs) s.q after.0 s.rest s.anytime after.2))

-- past a file at its end
pub stays_past : (fs : List (Option Supply)) (at : ℕ) (f f' : Option Supply) → at < length fs → f ≡ get_or fs at f → Gives {E = Fault} f (Ok None) f'
    → Stays (chain_supply at false fs) (chain_supply (at + 1) false (set fs at f'))
stays_past fs at f f' within here gives =
    known_cases (λ (X : Option Supply). Stays X (chain_supply (at + 1) false (set fs at f'))) fs at false tt
    (λ qs is.
    let s : At fs at f qs = stands fs at f qs within here is in
    let after = known_after f f' s.q (Ok None) s.f_is gives in
    let same : is_anytime after.0.faults ≡ is_anytime s.q.faults = ap (λ (x : Supply). is_anytime x.faults) after.2.1 in
    ap (λ (x : Option Supply). chain_supply (at + 1) false (set fs at x)) after.1 ∙ s.after_is after.0 same false
    ∙ ap (λ (x : Supply). Some x) (sym (s.now_is false ∙ chained_past (some_anytime qs) s.q after.0 s.rest s.anytime after.2)))

-- a fault of the file
pub gives_fault : (fs : List (Option Supply)) (at : ℕ) (o : Bool) (f f' : Option Supply) (e : Fault) → at < length fs → f ≡ get_or fs at f → Gives f (Err e) f'
    → Gives (chain_supply at o fs) (Err e) (chain_supply at o (set fs at f'))
gives_fault fs at o f f' e within here gives =
    known_cases (λ (X : Option Supply). Gives {E = Fault} X (Err e) (chain_supply at o (set fs at f'))) fs at o tt
    (λ qs is.
    let s : At fs at f qs = stands fs at f qs within here is in
    let after = known_after f f' s.q (Err e) s.f_is gives in
    let same : is_anytime after.0.faults ≡ is_anytime s.q.faults = ap (λ (x : Supply). is_anytime x.faults) after.2.0 in
    gives_along (Some (chain_from at o qs)) (Some (chained (some_anytime qs) o (s.q ∷ s.rest))) (Some (chained (some_anytime qs) o (after.0 ∷ s.rest))) _ (Err e)
    (ap (λ (x : Supply). Some x) (s.now_is o)) (ap (λ (x : Option Supply). chain_supply at o (set fs at x)) after.1 ∙ s.later_is after.0 same o)
    (chained_fault (some_anytime qs) o s.q after.0 s.rest e s.anytime after.2))

-- the end of all files
pub gives_end : (fs : List (Option Supply)) (at : ℕ) (o : Bool) → length fs ≤ at → Gives {E = Fault} (chain_supply at o fs) (Ok None) (chain_supply at o fs)
gives_end fs at o past =
    known_cases (λ (X : Option Supply). Gives {E = Fault} X (Ok None) X) fs at o tt
    (λ qs is.
    let none : drop at qs ≡ [] = drop_all at qs (omega (arith, ap length is ∙ length_known qs)) in
    rw none (chained_end (some_anytime qs) o))

-- ---- bytes at hand

ended_is : (bytes : List ℕ) (o : Bool) → (tail : List ℕ) × (ended bytes o ≡ bytes ++ tail)
ended_is [] o = (ended [] o, refl)
ended_is (b ∷ bytes) o = let rest = ended_is bytes (not (b == 10)) in (rest.0, ap (λ (bs : List ℕ). b ∷ bs) rest.1)

length-ended : (bytes : List ℕ) (o : Bool) → length bytes ≤ length (ended bytes o)
length-ended [] o = omega arith
length-ended (b ∷ bytes) o = omega (arith, length-ended bytes (not (b == 10)))

MayGiveAll-delayed : (k m : ℕ) (others : Faults) → k ≤ m → MayGiveAll k (delayed m others)
MayGiveAll-delayed k m Never h = tt
MayGiveAll-delayed k m (After j) h = omega arith
MayGiveAll-delayed k m Anytime h = tt

MayGiveAll-cond : (b : Bool) (k j m : ℕ) (others : Faults) → k ≤ m → k ≤ j → MayGiveAll k (cond b (After j) (delayed m others))
MayGiveAll-cond true k j m others h w = w
MayGiveAll-cond false k j m others h w = MayGiveAll-delayed k m others h

MayGiveAll-before : (faults : Faults) (k n m : ℕ) (others : Faults) → k ≤ m → MayGiveAll k faults → MayGiveAll k (faults_before faults n m others)
MayGiveAll-before Never k n m others h may = MayGiveAll-delayed k m others h
MayGiveAll-before (After j) k n m others h may = MayGiveAll-cond (leb j n) k j m others h may
MayGiveAll-before Anytime k n m others h may = tt

MayGiveAll-fewer : (faults : Faults) (k n : ℕ) → n ≤ k → MayGiveAll k faults → MayGiveAll n faults
MayGiveAll-fewer Never k n h may = tt
MayGiveAll-fewer (After j) k n h may = omega arith
MayGiveAll-fewer Anytime k n h may = tt

prefix_short : (bs bytes : List ℕ) → take (length bs) bytes ≡ bs → length bs ≤ length bytes
prefix_short bs bytes is = omega (arith, ap length is, length-take (length bs) bytes)

chained_offers : (flag o : Bool) (q : Supply) (rest : List Supply) (bs : List ℕ) → Offers (Some q) bs → Offers (Some (chained flag o (q ∷ rest))) bs
chained_offers flag o q rest bs (prefix, may) =
    let short = prefix_short bs q.bytes prefix in
    let tail = ended_is q.bytes o in
    let C = chained_bytes false rest in
    let whole : ended q.bytes o ++ C ≡ q.bytes ++ (tail.0 ++ C) = ap (λ (xs : List ℕ). xs ++ C) tail.1 ∙ append_assoc q.bytes tail.0 C in
    let bytes : take (length bs) (ended q.bytes o ++ C) ≡ bs = ap (take (length bs)) whole ∙ take-append-le (length bs) q.bytes (tail.0 ++ C) short ∙ prefix in
    (bytes, may_all flag)
  where
    may_all : (b : Bool) → MayGiveAll (length bs) (cond b Anytime (faults_before q.faults (length q.bytes) (length (ended q.bytes o)) (chained_faults false rest)))
    may_all true = tt
    may_all false = MayGiveAll-before q.faults (length bs) (length q.bytes) (length (ended q.bytes o)) (chained_faults false rest) (omega (arith, prefix_short bs q.bytes prefix, length-ended q.bytes o)) may

drop-ended : (bytes : List ℕ) (o : Bool) (n : ℕ) → n < length bytes → drop (suc n) (ended bytes o) ≡ ended (drop (suc n) bytes) (not (get_or bytes n 0 == 10))
drop-ended [] o n within = absurd (omega arith)
drop-ended (b ∷ bytes) o zero within = refl
drop-ended (b ∷ bytes) o (suc n) within = drop-ended bytes (not (b == 10)) n (omega arith)

later-delayed : (n m : ℕ) (others : Faults) → n ≤ m → later n (delayed m others) ≡ delayed (m - n) others
later-delayed n m Never h = refl
later-delayed n m (After k) h = ap After (omega arith)
later-delayed n m Anytime h = refl

later-cond : (b : Bool) (n k m : ℕ) (others : Faults) → n ≤ m → later n (cond b (After k) (delayed m others)) ≡ cond b (After (k - n)) (delayed (m - n) others)
later-cond true n k m others h = refl
later-cond false n k m others h = later-delayed n m others h

later-before : (faults : Faults) (i n m : ℕ) (others : Faults) → i ≤ n → n ≤ m → MayGiveAll i faults → later i (faults_before faults n m others) ≡ faults_before (later i faults) (n - i) (m - i) others
later-before Never i n m others h k may = later-delayed i m others (omega arith)
later-before (After j) i n m others h k may =
    let same : leb j n ≡ leb (j - i) (n - i) = grind (arith, nat_tests) in
    later-cond (leb j n) i j m others (omega arith) ∙ ap (λ (b : Bool). cond b (After (j - i)) (delayed (m - i) others)) same
later-before Anytime i n m others h k may = refl

abbrev supply_of : List ℕ → Faults → Supply
supply_of bytes faults = record { bytes = bytes; faults = faults }

skipped_pair : (b : Bool) (n : ℕ) (x y : List ℕ) (u v : Faults) → x ≡ y → later n u ≡ v → supply_of y (cond b Anytime v) ≡ supply_of x (later n (cond b Anytime u))
skipped_pair true n x y u v e f = ap (λ (bs : List ℕ). supply_of bs Anytime) (sym e)
skipped_pair false n x y u v e f = ap (λ (bs : List ℕ). supply_of bs v) (sym e) ∙ ap (supply_of x) (sym f)

chained_skips : (flag o : Bool) (q : Supply) (rest : List Supply) (n : ℕ) (bs : List ℕ) → n < length bs → Offers (Some q) bs
    → chained flag (not (get_or bs n 0 == 10)) (skipped (suc n) q ∷ rest) ≡ skipped (suc n) (chained flag o (q ∷ rest))
chained_skips flag o q rest n bs within (prefix, may) =
    let short = prefix_short bs q.bytes prefix in
    let C = chained_bytes false rest in
    let O = chained_faults false rest in
    let last : get_or bs n 0 ≡ get_or q.bytes n 0 = ap (λ (xs : List ℕ). get_or xs n 0) (sym prefix) ∙ get_or-take (length bs) q.bytes n 0 within in
    let dropped : drop (suc n) (ended q.bytes o) ≡ ended (drop (suc n) q.bytes) (not (get_or bs n 0 == 10)) =
    drop-ended q.bytes o n (omega arith) ∙ ap (λ (b : ℕ). ended (drop (suc n) q.bytes) (not (b == 10))) (sym last) in
    let whole : drop (suc n) (ended q.bytes o ++ C) ≡ ended (drop (suc n) q.bytes) (not (get_or bs n 0 == 10)) ++ C =
    drop-append-le (suc n) (ended q.bytes o) C (omega (arith, length-ended q.bytes o)) ∙ ap (λ (xs : List ℕ). xs ++ C) dropped in
    let faults : later (suc n) (faults_before q.faults (length q.bytes) (length (ended q.bytes o)) O) ≡ faults_before (later (suc n) q.faults) (length (drop (suc n) q.bytes)) (length (ended (drop (suc n) q.bytes) (not (get_or bs n 0 == 10)))) O =
    later-before q.faults (suc n) (length q.bytes) (length (ended q.bytes o)) O (omega arith) (length-ended q.bytes o) (MayGiveAll-fewer q.faults (length bs) (suc n) (omega arith) may)
    ∙ ap (λ (k : ℕ). faults_before (later (suc n) q.faults) k (length (ended q.bytes o) - suc n) O) (sym (length-drop (suc n) q.bytes))
    ∙ ap (λ (k : ℕ). faults_before (later (suc n) q.faults) (length (drop (suc n) q.bytes)) k O) (sym (length-drop (suc n) (ended q.bytes o)) ∙ ap length dropped) in
    skipped_pair flag (suc n) (drop (suc n) (ended q.bytes o ++ C)) _ (faults_before q.faults (length q.bytes) (length (ended q.bytes o)) O) _ whole faults

-- ---- over files of any kind

place_is : {X : Type 0} (S : X → Option Supply) (files : List X) (at : ℕ) (d : X) → at < length files → S (get_or files at d) ≡ get_or (map S files) at (S (get_or files at d))
place_is S files at d within = sym (get_or-map S files at d (S (get_or files at d)) within)

pub chain_byte : {X : Type 0} (S : X → Option Supply) (files : List X) (at : ℕ) (o : Bool) (old : Option Supply) (d x : X) (b : ℕ) → Stays old (chain_supply at o (map S files)) → at < length files
    → Gives {E = Fault} (S (get_or files at d)) (Ok (Some b)) (S x) → Gives {E = Fault} old (Ok (Some b)) (chain_supply at (not (b == 10)) (map S (set files at x)))
chain_byte S files at o old d x b stays within gives =
    rw (map-set S files at x) (Stays-gives old (chain_supply at o (map S files)) _ (Ok (Some b)) stays
    (gives_byte (map S files) at o (S (get_or files at d)) (S x) b (omega (arith, length-map files S)) (place_is S files at d within) gives))

pub chain_newline : {X : Type 0} (S : X → Option Supply) (files : List X) (at : ℕ) (old : Option Supply) (d x : X) → Stays old (chain_supply at true (map S files)) → at < length files
    → Gives {E = Fault} (S (get_or files at d)) (Ok None) (S x) → Gives {E = Fault} old (Ok (Some 10)) (chain_supply (at + 1) false (map S (set files at x)))
chain_newline S files at old d x stays within gives =
    rw (map-set S files at x) (Stays-gives old (chain_supply at true (map S files)) _ (Ok (Some 10)) stays
    (gives_newline (map S files) at (S (get_or files at d)) (S x) (omega (arith, length-map files S)) (place_is S files at d within) gives))

pub chain_past : {X : Type 0} (S : X → Option Supply) (files : List X) (at : ℕ) (old : Option Supply) (d x : X) → Stays old (chain_supply at false (map S files)) → at < length files
    → Gives {E = Fault} (S (get_or files at d)) (Ok None) (S x) → Stays old (chain_supply (at + 1) false (map S (set files at x)))
chain_past S files at old d x stays within gives =
    rw (map-set S files at x) (Stays-trans old (chain_supply at false (map S files)) _ stays
    (stays_past (map S files) at (S (get_or files at d)) (S x) (omega (arith, length-map files S)) (place_is S files at d within) gives))

pub chain_fault : {X : Type 0} (S : X → Option Supply) (files : List X) (at : ℕ) (o : Bool) (old : Option Supply) (d x : X) (e : Fault) → Stays old (chain_supply at o (map S files)) → at < length files
    → Gives (S (get_or files at d)) (Err e) (S x) → Gives old (Err e) (chain_supply at o (map S (set files at x)))
chain_fault S files at o old d x e stays within gives =
    rw (map-set S files at x) (Stays-gives old (chain_supply at o (map S files)) _ (Err e) stays
    (gives_fault (map S files) at o (S (get_or files at d)) (S x) e (omega (arith, length-map files S)) (place_is S files at d within) gives))

pub chain_end : {X : Type 0} (S : X → Option Supply) (files : List X) (at : ℕ) (o : Bool) (old : Option Supply) → Stays old (chain_supply at o (map S files)) → length files ≤ at
    → Gives {E = Fault} old (Ok None) (chain_supply at o (map S files))
chain_end S files at o old stays past =
    Stays-gives old (chain_supply at o (map S files)) _ (Ok None) stays (gives_end (map S files) at o (omega (arith, length-map files S)))

-- the bytes at hand of the file that is read come next
pub chain_offers : {X : Type 0} (S : X → Option Supply) (files : List X) (at : ℕ) (o : Bool) (d : X) (bs : List ℕ) → at < length files → Offers (S (get_or files at d)) bs → Offers (chain_supply at o (map S files)) bs
chain_offers S files at o d bs within offers =
    known_cases (λ (X : Option Supply). Offers X bs) (map S files) at o tt
    (λ qs is.
    let s : At (map S files) at (S (get_or files at d)) qs = stands (map S files) at (S (get_or files at d)) qs (omega (arith, length-map files S)) (place_is S files at d within) is in
    subst (λ (x : Supply). Offers (Some x) bs) (sym (s.now_is o)) (chained_offers (some_anytime qs) o s.q s.rest bs (subst (λ (x : Option Supply). Offers x bs) s.f_is offers)))

-- some of them taken
pub chain_skips : {X : Type 0} (S : X → Option Supply) (files : List X) (at : ℕ) (o : Bool) (d x : X) (n : ℕ) (bs : List ℕ) → at < length files → n < length bs → Offers (S (get_or files at d)) bs
    → Skips (S (get_or files at d)) (suc n) (S x) → Skips (chain_supply at o (map S files)) (suc n) (chain_supply at (not (get_or bs n 0 == 10)) (map S (set files at x)))
chain_skips S files at o d x n bs within short offers skips =
    known_cases (λ (X : Option Supply). Skips X (suc n) (chain_supply at (not (get_or bs n 0 == 10)) (map S (set files at x)))) (map S files) at o tt
    (λ qs is.
    let s : At (map S files) at (S (get_or files at d)) qs = stands (map S files) at (S (get_or files at d)) qs (omega (arith, length-map files S)) (place_is S files at d within) is in
    let after : S x ≡ Some (skipped (suc n) s.q) = subst (λ (known : Option Supply). Skips known (suc n) (S x)) s.f_is skips in
    let known : Offers (Some s.q) bs = subst (λ (known : Option Supply). Offers known bs) s.f_is offers in
    let line = not (get_or bs n 0 == 10) in
    ap (chain_supply at line) (map-set S files at x) ∙ ap (λ (known : Option Supply). chain_supply at line (set (map S files) at known)) after
    ∙ s.later_is (skipped (suc n) s.q) (is_anytime-later (suc n) s.q.faults) line
    ∙ ap (λ (x : Supply). Some x) (chained_skips (some_anytime qs) o s.q s.rest n bs short known ∙ ap (skipped (suc n)) (sym (s.now_is o))))

pub chain_skips_some : {X : Type 0} (S : X → Option Supply) (files : List X) (at : ℕ) (o : Bool) (d x : X) (n : ℕ) (bs : List ℕ) → at < length files → 0 < n → n ≤ length bs → Offers (S (get_or files at d)) bs
    → Skips (S (get_or files at d)) n (S x) → Skips (chain_supply at o (map S files)) n (chain_supply at (not (get_or bs (n - 1) 0 == 10)) (map S (set files at x)))
chain_skips_some S files at o d x zero bs within some short offers skips = absurd (omega arith)
chain_skips_some S files at o d x (suc n) bs within some short offers skips =
    let same : n ≡ suc n - 1 = omega arith in
    subst (λ (k : ℕ). Skips (chain_supply at o (map S files)) (suc n) (chain_supply at (not (get_or bs k 0 == 10)) (map S (set files at x)))) same
    (chain_skips S files at o d x n bs within (omega arith) offers skips)

-- where there are bytes at hand there is a file
pub hand_within : {X : Type 0} (H : X → List ℕ) (files : List X) (at : ℕ) → 0 < length (hand_at at (map H files)) → at < length files
hand_within H [] zero some = absurd (omega arith)
hand_within H [] (suc at) some = absurd (omega arith)
hand_within H (file ∷ files) zero some = omega arith
hand_within H (file ∷ files) (suc at) some = omega (arith, hand_within H files at some)

pub hand_is : {X : Type 0} (H : X → List ℕ) (files : List X) (at : ℕ) (d : X) → at < length files → hand_at at (map H files) ≡ H (get_or files at d)
hand_is H files at d within = get_or-map H files at d [] within

-- ---- failed calls

-- a file that failed no more
pub failures_in-same : {X : Type 0} (N : X → ℕ) (files : List X) (at : ℕ) (d x : X) → at < length files → N x ≡ N (get_or files at d) → failures_in N (set files at x) ≡ failures_in N files
unfolding failures_in
failures_in-same N files at d x within is = omega (arith, sum_by-set N files at x d within)

-- a file that failed once more
pub failures_in-next : {X : Type 0} (N : X → ℕ) (files : List X) (at : ℕ) (d x : X) → at < length files → N x ≡ next_count (N (get_or files at d)) → failures_in N (set files at x) ≡ next_count (failures_in N files)
unfolding failures_in next_count
failures_in-next N files at d x within is = omega (arith, sum_by-set N files at x d within)

-- Texts that are opened, one after the other.
use Rattle.std.proofs.Common.{◌≡◌, ℕ, zero, suc, ◌+◌, ◌<◌, List, [], ◌∷◌, ◌++◌, map, length, take, drop, get_or, Bool, true, false, Option, Some, None, Result, Ok, Err, IsOk, is_ok, if◌then◌else◌, refl, sym, ap, subst, ◌∙◌, append_assoc, append-nil}
use Rattle.std.proofs.lemmas.List.{map-append, take_more}
use Rattle.std.specs.Borrow.{Bor}
use Rattle.std.specs.List.{AllZip}
use Rattle.filters.specs.Disk.{AreOpened, Asks, IsFirstRefused, IsOpened, MayCome, MayComeWhere, Opened, Opening, Refuses, all_paths, is_standard, paths_of}
use Rattle.filters.specs.Arguments.{texts}

-- ---- what was asked for

pub Asks-none : (a : Option (List (List ℕ))) → Asks a a []
Asks-none None = tt
Asks-none (Some x) = sym (append-nil x)

Asks-then : (a b c : Option (List (List ℕ))) (xs ys : List (List ℕ)) → Asks a b xs → Asks b c ys → Asks a c (xs ++ ys)
Asks-then None b c xs ys p q = tt
Asks-then (Some x) None c xs ys p q = absurd p
Asks-then (Some x) (Some y) None xs ys p q = absurd q
Asks-then (Some x) (Some y) (Some z) xs ys p q = q ∙ ap (λ (l : List (List ℕ)). l ++ ys) p ∙ append_assoc x xs ys

all_paths-last : (names : List (List ℕ)) (name : List ℕ) → all_paths (names ++ name ∷ []) ≡ all_paths names ++ paths_of name
all_paths-last [] name = append-nil (paths_of name)
all_paths-last (n ∷ names) name =
    ap (λ (ps : List (List ℕ)). paths_of n ++ ps) (all_paths-last names name) ∙ sym (append_assoc (paths_of n) (all_paths names) (paths_of name))

-- ---- one name more

texts-last : (words : List (Bor (List ℕ))) (word : Bor (List ℕ)) → texts (words ++ word ∷ []) ≡ texts words ++ word.now ∷ []
texts-last [] word = refl
texts-last (w ∷ words) word = ap (λ (ws : List (List ℕ)). w.now ∷ ws) (texts-last words word)

texts-more : (names : List (Bor (List ℕ))) (i : ℕ) (d : Bor (List ℕ)) → i < length names
    → texts (take (i + 1) names) ≡ texts (take i names) ++ (get_or names i d).now ∷ []
texts-more names i d within = ap texts (take_more names i d within) ∙ texts-last (take i names) (get_or names i d)

texts-split : (names : List (Bor (List ℕ))) (i : ℕ) → texts names ≡ texts (take i names) ++ texts (drop i names)
texts-split names zero = refl
texts-split [] (suc i) = refl
texts-split (n ∷ names) (suc i) = ap (λ (ws : List (List ℕ)). n.now ∷ ws) (texts-split names i)

AllZip-last : {A B : Type 0} (R : A → B → Type 0) (xs : List A) (ys : List B) (x : A) (y : B) → AllZip R xs ys → R x y → AllZip R (xs ++ x ∷ []) (ys ++ y ∷ [])
AllZip-last R [] [] x y all here = (here, tt)
AllZip-last R [] (z ∷ ys) x y all here = absurd all
AllZip-last R (z ∷ xs) [] x y all here = absurd all
AllZip-last R (z ∷ xs) (w ∷ ys) x y all here = (all.0, AllZip-last R xs ys x y all.1 here)

AllZip-same : {A B : Type 0} (R : A → B → Type 0) (xs xs' : List A) (ys ys' : List B) → xs' ≡ xs → ys' ≡ ys → AllZip R xs ys → AllZip R xs' ys'
AllZip-same R xs xs' ys ys' e f all = rw e (rw f all)

MayCome-stays : (b : Bool) (standard : Option (List ℕ)) (new old : List ℕ → Opening → Type 0) (name : List ℕ) (opening : Opening)
    → ((other : List ℕ) → (o : Opening) → new other o → old other o) → MayComeWhere b standard new name opening → MayComeWhere b standard old name opening
MayCome-stays true standard new old name opening stays comes = comes
MayCome-stays false standard new old name opening stays comes = stays name opening comes

-- the text of one name more is open
pub opened-more : {T : Type 0} (may_come : List ℕ → Opening → Type 0) (shown : T → Opened) (names : List (Bor (List ℕ))) (i : ℕ) (d : Bor (List ℕ))
    (opened opened' : List T) (text : T) → i < length names → opened' ≡ opened ++ text ∷ []
    → AreOpened may_come (texts (take i names)) (map shown opened) → IsOpened may_come (get_or names i d).now (shown text)
    → AreOpened may_come (texts (take (i + 1) names)) (map shown opened')
opened-more may_come shown names i d opened opened' text within grown all last =
    AllZip-same (IsOpened may_come) _ _ _ _ (texts-more names i d within) (ap (map shown) grown ∙ map-append shown opened (text ∷ []))
    (AllZip-last (IsOpened may_come) (texts (take i names)) (map shown opened) (get_or names i d).now (shown text) all last)

-- its path was asked for
pub asked-more : (a b c : Option (List (List ℕ))) (names : List (Bor (List ℕ))) (i : ℕ) (d : Bor (List ℕ)) → i < length names
    → Asks a b (all_paths (texts (take i names))) → Asks b c (paths_of (get_or names i d).now) → Asks a c (all_paths (texts (take (i + 1) names)))
asked-more a b c names i d within before here =
    rw (texts-more names i d within) (rw (all_paths-last (texts (take i names)) (get_or names i d).now)
    (Asks-then a b c (all_paths (texts (take i names))) (paths_of (get_or names i d).now) before here))

-- a name can't be opened
pub first-refused : {T : Type 0} (may_come : List ℕ → Opening → Type 0) (shown : T → Opened) (a b c : Option (List (List ℕ))) (names : List (Bor (List ℕ)))
    (i : ℕ) (d : Bor (List ℕ)) (opened : List T) → i < length names → AreOpened may_come (texts (take i names)) (map shown opened)
    → Asks a b (all_paths (texts (take i names))) → may_come (get_or names i d).now Refuses → Asks b c (paths_of (get_or names i d).now)
    → IsFirstRefused may_come a c (texts names) (get_or names i d).now
first-refused may_come shown a b c names i d opened within all before refused here = record {
  before = texts (take i names);
  rest = texts (drop (i + 1) names);
  names_are = texts-split names (i + 1) ∙ ap (λ (ws : List (List ℕ)). ws ++ texts (drop (i + 1) names)) (texts-more names i d within)
      ∙ append_assoc (texts (take i names)) ((get_or names i d).now ∷ []) (texts (drop (i + 1) names));
  texts = map shown opened;
  opened = all;
  refused = refused;
  asks = rw (all_paths-last (texts (take i names)) (get_or names i d).now)
      (Asks-then a b c (all_paths (texts (take i names))) (paths_of (get_or names i d).now) before here);
}

-- what may come of a name later, may at first
pub MayCome-first : (standard first : Option (List ℕ)) (new old : List ℕ → Opening → Type 0) (name : List ℕ) (opening : Opening) → standard ≡ first
    → ((other : List ℕ) → (o : Opening) → new other o → old other o) → MayCome standard new name opening → MayCome first old name opening
MayCome-first standard first new old name opening same stays comes =
    MayCome-stays (is_standard name) first new old name opening stays
    (subst (λ (s : Option (List ℕ)). MayComeWhere (is_standard name) s new name opening) same comes)

-- a call that succeeded
pub if_ok : {T E A : Type 0} (r : Result T E) (a b : A) → IsOk r → (if is_ok r then a else b) ≡ a
if_ok (Ok x) a b ok = refl
if_ok (Err e) a b ok = cc

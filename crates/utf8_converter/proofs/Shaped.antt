-- Bytes that stand together in whole cells.
use Prim.Native.Char.{code}
use Rattle.std.proofs.Common.{◌≡◌, ℕ, zero, suc, ◌+◌, ◌-◌, ◌<◌, ◌≤◌, List, [], ◌∷◌, ◌++◌, length, take, drop, get_or, Bool, true, false, ◌==◌, ◌&&◌, ◌||◌, ◌⊎◌, nat_lt, inl, inr, refl, sym, subst, ap, ◌∙◌, append_assoc, append-nil, length-drop, arith}
use Rattle.std.proofs.Math.Seq.{drop-cons}
use Rattle.std.proofs.lemmas.List.{get_or-take, length-append, length-take-le, take-append-drop, take-append-le, take-take, take_all}
use Rattle.std.proofs.lemmas.Bool.Decides.{nat_tests}
use borrow.Rule.Slice.PartMut.{put_mid}
use Rattle.utf8_characters.specs.declared.table.FixedTable.{FixedTable}
use Rattle.utf8_converter.specs.declared.reader.Reader.{Reader}
use Rattle.utf8_converter.specs.declared.reader.Way.{Way}
use Rattle.utf8_converter.specs.declared.reader.Way.TheVariants.{Backspaces, Escapes}
use Rattle.utf8_converter.specs.declared.spelling.Spelling.{Spelling}
use Rattle.utf8_converter.specs.Cells.{Over, drawn, goes_out, is_shown, shows, strikes, text, way_after}
use Rattle.utf8_converter.specs.Reading.{out}
use Rattle.utf8_converter.specs.Shapes.{Shapes, StandAll, is_shaped, may_stand}
use Rattle.utf8_converter.specs.Spelling.{AllLow, Cuts, Goes, IsChunk, IsFresh, IsShaped, Makes, Puts, Spells, byte_of, bytes_of, keeps_backspaces}
use Rattle.utf8_converter.proofs.Goes.{Goes-of, Puts-long}
use Rattle.utf8_converter.proofs.Makes.{Makes-none, Makes-once, Makes-struck, Makes-then}
use Rattle.utf8_converter.proofs.Spelled.{Puts-prefix, all-spelled, byte-as-is, byte-text, bytes-as-are, bytes_append, some-goes}

-- ---- what the tests tell

stands_alone : (b : ℕ) → may_stand b ≡ true → (b == 8) ≡ false
stands_alone b may = grind (arith, nat_tests)

pub not-backspace : (b c d : ℕ) → (c == 8) ≡ false → is_shaped b c d ≡ true → may_stand c ≡ true
not-backspace b c d other shaped = grind (arith, nat_tests)

is_back : (c : ℕ) → (c == 8) ≡ true → c ≡ 8
is_back c p = grind (arith, nat_tests)

backed_over : (b c d : ℕ) → (c == 8) ≡ true → is_shaped b c d ≡ true → ((b == d) || (b == code "_")) ≡ true
backed_over b c d p shaped = grind (arith, nat_tests)

backed_far : (b c d : ℕ) → (c == 8) ≡ true → is_shaped b c d ≡ true → nat_lt (code " ") d ≡ true
backed_far b c d p shaped = grind (arith, nat_tests)

far_other : (d : ℕ) → nat_lt (code " ") d ≡ true → (d == 8) ≡ false
far_other d far = grind (arith, nat_tests)

-- no backspace stands two places after another
pub no-other : (c d e : ℕ) → (c == 8) ≡ true → is_shaped c d e ≡ true → (e == 8) ≡ false
no-other c d e p shaped = grind (arith, nat_tests)

pub no-other-before : (c d e : ℕ) → (e == 8) ≡ true → is_shaped c d e ≡ true → (c == 8) ≡ false
no-other-before c d e p shaped = grind (arith, nat_tests)

and_both : (x y : Bool) → x ≡ true → y ≡ true → x && y ≡ true
and_both true y p q = q
and_both false y p q = p

-- ---- what is left of such bytes

shaped_next : (b : ℕ) (bs : List ℕ) (k : ℕ) → is_shaped (get_or (b ∷ bs) (suc k) 0) (get_or (b ∷ bs) (suc k + 1) 0) (get_or (b ∷ bs) (suc k + 2) 0) ≡ true
    → is_shaped (get_or bs k 0) (get_or bs (k + 1) 0) (get_or bs (k + 2) 0) ≡ true
shaped_next b bs k p =
    let one : suc k + 1 ≡ suc (k + 1) = omega arith in
    let two : suc k + 2 ≡ suc (k + 2) = omega arith in
    let P : ℕ → Type 0 = λ j. is_shaped (get_or bs k 0) (get_or (b ∷ bs) j 0) (get_or (b ∷ bs) (suc k + 2) 0) ≡ true in
    let Q : ℕ → Type 0 = λ j. is_shaped (get_or bs k 0) (get_or bs (k + 1) 0) (get_or (b ∷ bs) j 0) ≡ true in
    subst Q two (subst P one p)

after_one : (r : Reader) (b : ℕ) (bs : List ℕ) → IsShaped r (b ∷ bs) → (0 < length bs → may_stand (get_or bs 0 0) ≡ true) → IsShaped r bs
after_one r b bs s may = record {
  first = may;
  each = λ k below. shaped_next b bs k (s.each (suc k) (omega (arith, below)));
  last = λ k at. s.last (suc k) (omega (arith, at));
  way = λ k below is. s.way (suc k) (omega arith) is;
  some = λ k below. s.some (suc k) (omega arith);
}

after_three : (r : Reader) (a b c : ℕ) (bs : List ℕ) → IsShaped r (a ∷ b ∷ c ∷ bs) → (0 < length bs → may_stand (get_or bs 0 0) ≡ true) → IsShaped r bs
after_three r a b c bs s may = record {
  first = may;
  each = λ k below. shaped_next c bs k (shaped_next b (c ∷ bs) (suc k) (shaped_next a (b ∷ c ∷ bs) (suc (suc k)) (s.each (suc (suc (suc k))) (omega (arith, below)))));
  last = λ k at. s.last (suc (suc (suc k))) (omega (arith, at));
  way = λ k below is. s.way (suc (suc (suc k))) (omega arith) is;
  some = λ k below. s.some (suc (suc (suc k))) (omega arith);
}

next_first : (r : Reader) (b c : ℕ) (cs : List ℕ) → (c == 8) ≡ false → IsShaped r (b ∷ c ∷ cs) → may_stand c ≡ true
next_first r b c [] other s = s.last 1 refl
next_first r b c (d ∷ ds) other s = not-backspace b c d other (s.each 0 (omega arith))

third_first : (r : Reader) (b c d : ℕ) (ds : List ℕ) → (c == 8) ≡ true → IsShaped r (b ∷ c ∷ d ∷ ds) → 0 < length ds → may_stand (get_or ds 0 0) ≡ true
third_first r b c d [] e s some = absurd (omega (arith, some))
third_first r b c d (f ∷ []) e s some = s.last 3 refl
third_first r b c d (f ∷ g ∷ gs) e s some =
    not-backspace d f g (no-other c d f e (shaped_next b (c ∷ d ∷ f ∷ g ∷ gs) 0 (s.each 1 (omega arith))))
    (shaped_next c (d ∷ f ∷ g ∷ gs) 0 (shaped_next b (c ∷ d ∷ f ∷ g ∷ gs) 1 (s.each 2 (omega arith))))

-- ---- single cells

Makes-first : (r : Reader) (b : ℕ) → IsFresh r → may_stand b ≡ true → 0 < length (byte_of r.table b) → Makes r r (b ∷ []) (byte_of r.table b)
Makes-first r b fresh may some =
    let other = stands_alone b may in
    let P : List ℕ → Type 0 = λ xs. Makes r r (b ∷ []) xs in
    subst P (sym (byte-text r.table b other)) (Makes-once r b fresh (some-goes r.table b other some))

struck_bytes : (t : FixedTable) (b d : ℕ) (ds : List ℕ) → (b == 8) ≡ false → (d == 8) ≡ false → (text t b ++ 8 ∷ text t d) ++ bytes_of t ds ≡ bytes_of t (b ∷ 8 ∷ d ∷ ds)
struck_bytes t b d ds p q =
    append_assoc (text t b) (8 ∷ text t d) (bytes_of t ds)
    ∙ ap (λ (xs : List ℕ). xs ++ (8 ∷ (text t d ++ bytes_of t ds))) (sym (byte-text t b p))
    ∙ ap (λ (xs : List ℕ). byte_of t b ++ (8 ∷ (xs ++ bytes_of t ds))) (sym (byte-text t d q))

Makes-three : (r : Reader) (b d : ℕ) → IsFresh r → r.way ≡ Backspaces → strikes r.table b d ≡ true → Makes r r (b ∷ 8 ∷ d ∷ []) (text r.table b ++ 8 ∷ text r.table d)
Makes-three r b d fresh way is =
    let same : (out (Over b d) r).reader ≡ r =
    ap (λ (w : Way). record r { way = w }) (ap (λ (w : Way). way_after w (Over b d)) way ∙ sym way) in
    let bytes : drawn r.table r.way (Over b d) ≡ text r.table b ++ 8 ∷ text r.table d = ap (λ (w : Way). drawn r.table w (Over b d)) way in
    let P : Reader → Type 0 = λ s. Makes r s (b ∷ 8 ∷ d ∷ []) (drawn r.table r.way (Over b d)) in
    let Q : List ℕ → Type 0 = λ xs. Makes r r (b ∷ 8 ∷ d ∷ []) xs in
    subst Q bytes (subst P same (Makes-struck r b d fresh.half is))

-- ---- all of them

-- what is said of so few bytes
abbrev Says : Reader → ℕ → Type 0
Says r n = (bs : List ℕ) → length bs ≤ n → IsShaped r bs → Makes r r bs (bytes_of r.table bs)

struck_first : (r : Reader) (n : ℕ) (b c : ℕ) (cs : List ℕ) → (c == 8) ≡ true → Says r n → length (c ∷ cs) ≤ n → IsFresh r → IsShaped r (b ∷ c ∷ cs)
    → Makes r r (b ∷ c ∷ cs) (bytes_of r.table (b ∷ c ∷ cs))
struck_first r n b c [] e says few fresh s = absurd (let other = stands_alone c (s.last 1 refl) in let never : true ≡ false = sym e ∙ other in cc)
struck_first r n b c (d ∷ ds) e says few fresh s =
    let t = r.table in
    let back = is_back c e in
    let shaped = s.each 0 (omega arith) in
    let far = backed_far b c d e shaped in
    let goes = some-goes t d (far_other d far) (s.some 2 (omega arith)) in
    let is : strikes t b d ≡ true = and_both ((b == d) || (b == code "_")) (shows t d) (backed_over b c d e shaped) (and_both (nat_lt (code " ") d) (goes_out t d) far goes) in
    let cell = Makes-three r b d fresh (s.way 1 (omega arith) back) is in
    let rest = says ds (omega (arith, few)) (after_three r b c d ds s (third_first r b c d ds e s)) in
    let P : List ℕ → Type 0 = λ xs. Makes r r (b ∷ 8 ∷ d ∷ ds) xs in
    let Q : ℕ → Type 0 = λ x. Makes r r (b ∷ x ∷ d ∷ ds) (bytes_of t (b ∷ x ∷ d ∷ ds)) in
    subst Q (sym back) (subst P (struck_bytes t b d ds (stands_alone b (s.first (omega arith))) (far_other d far))
    (Makes-then r r r (b ∷ 8 ∷ d ∷ []) ds (text t b ++ 8 ∷ text t d) (bytes_of t ds) fresh.half cell rest))

one_first : (r : Reader) (n : ℕ) (b : ℕ) (bs : List ℕ) → Says r n → length bs ≤ n → IsFresh r → IsShaped r (b ∷ bs) → (0 < length bs → may_stand (get_or bs 0 0) ≡ true)
    → Makes r r (b ∷ bs) (bytes_of r.table (b ∷ bs))
one_first r n b bs says few fresh s may =
    Makes-then r r r (b ∷ []) bs (byte_of r.table b) (bytes_of r.table bs) fresh.half
    (Makes-first r b fresh (s.first (omega arith)) (s.some 0 (omega arith))) (says bs few (after_one r b bs s may))

by_next : (x : Bool) (r : Reader) (n : ℕ) (b c : ℕ) (cs : List ℕ) → (c == 8) ≡ x → Says r n → length (c ∷ cs) ≤ n → IsFresh r → IsShaped r (b ∷ c ∷ cs)
    → Makes r r (b ∷ c ∷ cs) (bytes_of r.table (b ∷ c ∷ cs))
by_next true r n b c cs e says few fresh s = struck_first r n b c cs e says few fresh s
by_next false r n b c cs e says few fresh s = one_first r n b (c ∷ cs) says few fresh s (λ some. next_first r b c cs e s)

shaped_few : (r : Reader) (n : ℕ) → IsFresh r → Says r n
shaped_few r n fresh [] few s = Makes-none r fresh.half
shaped_few r zero fresh (b ∷ bs) few s = absurd (omega (arith, few))
shaped_few r (suc n) fresh (b ∷ []) few s = one_first r n b [] (shaped_few r n fresh) (omega arith) fresh s (λ some. absurd (omega (arith, some)))
shaped_few r (suc n) fresh (b ∷ c ∷ cs) few s = by_next (c == 8) r n b c cs refl (shaped_few r n fresh) (omega (arith, few)) fresh s

pub Makes-shaped : (r : Reader) (bs : List ℕ) → IsFresh r → IsShaped r bs → Makes r r bs (bytes_of r.table bs)
Makes-shaped r bs fresh s = shaped_few r (length bs) fresh bs (omega arith) s

-- ---- a chunk

may_shaped : (b c d : ℕ) → may_stand b ≡ true → may_stand c ≡ true → is_shaped b c d ≡ true
may_shaped b c d first may = grind (arith, nat_tests)

may_not_back : (c : ℕ) → may_stand c ≡ true → ¬ (c ≡ 8)
may_not_back c may is = let P : ℕ → Type 0 = λ x. may_stand x ≡ true in let never : false ≡ true = subst P is may in absurd (cc)

may_or_back : (c : ℕ) → may_stand c ≡ true → (may_stand c || (c == 8)) ≡ true
may_or_back c may = grind (arith, nat_tests)

shaped_or_back : (b c d : ℕ) → is_shaped b c d ≡ true → (may_stand c || (c == 8)) ≡ true
shaped_or_back b c d shaped = grind (arith, nat_tests)

shown_may : (c : ℕ) → is_shown c ≡ true → may_stand c ≡ true
shown_may c shown = grind (arith, nat_tests)

shown_as_is : (c : ℕ) → is_shown c ≡ true → (is_shown c || (c == 8)) ≡ true
shown_as_is c shown = grind (arith, nat_tests)

may_same : (b c : ℕ) → b ≡ c → may_stand c ≡ true → may_stand b ≡ true
may_same b c e may = ap (λ (x : ℕ). may_stand x) e ∙ may

shaped_same : (b c d x y z : ℕ) → b ≡ x → c ≡ y → d ≡ z → is_shaped x y z ≡ true → is_shaped b c d ≡ true
shaped_same b c d x y z p q r shaped = ap (λ (u : ℕ). is_shaped u c d) p ∙ ap (λ (u : ℕ). is_shaped x u d) q ∙ ap (λ (u : ℕ). is_shaped x y u) r ∙ shaped

first_or_after : (k : ℕ) → (k ≡ 0) ⊎ (k - 1 + 1 ≡ k)
first_or_after zero = inl refl
first_or_after (suc k) = inr (omega arith)

abbrev ShowAll : List ℕ → Type 0
ShowAll bytes = (k : ℕ) → k < length bytes → is_shown (get_or bytes k 0) ≡ true

abbrev Small : List ℕ → Type 0
Small bytes = (k : ℕ) → get_or bytes k 0 < 256

-- bytes that may stand anywhere, of a table that has all
pub stand-chunk : (s : Spelling) (r : Reader) (bytes : List ℕ) → 34 ≤ length bytes → Small bytes → Spells r.table 256 s.all s.whole → s.whole ≡ true → StandAll (length (take 32 bytes)) (take 32 bytes)
    → IsChunk s r bytes
stand-chunk s r bytes long small spells whole all =
    let cut = length-take-le 32 bytes (omega (arith, long)) in
    let may : (k : ℕ) → k < 32 → may_stand (get_or bytes k 0) ≡ true = λ k below.
    may_same (get_or bytes k 0) (get_or (take 32 bytes) k 0) (sym (get_or-take 32 bytes k 0 below)) (all k (omega (arith, below, cut))) in
    record {
      first = may 0 (omega arith);
      each = λ k below. may_shaped (get_or bytes k 0) (get_or bytes (k + 1) 0) (get_or bytes (k + 2) 0) (may k (omega (arith, below))) (may (k + 1) below);
      way = λ k below is. absurd (may_not_back (get_or bytes k 0) (may k below) is);
      some = all-spelled r.table s.all s.whole (take 32 bytes)
          (λ k below. let same = get_or-take 32 bytes k 0 (omega (arith, below, cut)) in let fits = small k in omega (arith, same, fits))
          spells whole (λ k below. may_or_back (get_or (take 32 bytes) k 0) (all k below));
    }

shown_low : (b : ℕ) → may_stand b ≡ true → nat_lt b 127 ≡ true → is_shown b ≡ true
shown_low b may low = grind (arith, nat_tests)

-- those of ASCII that may stand anywhere
pub stand-shown : (bytes : List ℕ) → StandAll (length (take 32 bytes)) (take 32 bytes) → AllLow (take 32 bytes) → ShowAll (take 32 bytes)
stand-shown bytes all low k below = shown_low (get_or (take 32 bytes) k 0) (all k below) (low k below)

-- bytes that are shown
shown-chunk : (s : Spelling) (r : Reader) (bytes : List ℕ) → 34 ≤ length bytes → Small bytes → Spells r.table 256 s.all s.whole → ShowAll (take 32 bytes) → IsChunk s r bytes
shown-chunk s r bytes long small spells all =
    let cut = length-take-le 32 bytes (omega (arith, long)) in
    let may : (k : ℕ) → k < 32 → may_stand (get_or bytes k 0) ≡ true = λ k below.
    may_same (get_or bytes k 0) (get_or (take 32 bytes) k 0) (sym (get_or-take 32 bytes k 0 below)) (shown_may (get_or (take 32 bytes) k 0) (all k (omega (arith, below, cut)))) in
    record {
      first = may 0 (omega arith);
      each = λ k below. may_shaped (get_or bytes k 0) (get_or bytes (k + 1) 0) (get_or bytes (k + 2) 0) (may k (omega (arith, below))) (may (k + 1) below);
      way = λ k below is. absurd (may_not_back (get_or bytes k 0) (may k below) is);
      some = λ k below. (let b = get_or (take 32 bytes) k 0 in
          let same = get_or-take 32 bytes k 0 (omega (arith, below, cut)) in
          let fits = small k in
          let count = (spells.each b (omega (arith, same, fits))).count in
          let one : length (byte_of r.table b) ≡ 1 = ap length (byte-as-is r.table b (shown_as_is b (all k below))) in
          omega (arith, count, one));
    }

or_back : (bytes : List ℕ) (k : ℕ) → may_stand (get_or bytes 0 0) ≡ true
    → ((k : ℕ) → k < 32 → is_shaped (get_or bytes k 0) (get_or bytes (k + 1) 0) (get_or bytes (k + 2) 0) ≡ true)
    → k < 32 → (k ≡ 0) ⊎ (k - 1 + 1 ≡ k) → (may_stand (get_or (take 32 bytes) k 0) || (get_or (take 32 bytes) k 0 == 8)) ≡ true
or_back bytes k first each below (inl at) =
    let P : ℕ → Type 0 = λ b. (may_stand b || (b == 8)) ≡ true in
    let Q : ℕ → Type 0 = λ j. may_stand (get_or bytes j 0) ≡ true in
    subst P (sym (get_or-take 32 bytes k 0 below)) (may_or_back (get_or bytes k 0) (subst Q (sym at) first))
or_back bytes k first each below (inr at) =
    let P : ℕ → Type 0 = λ b. (may_stand b || (b == 8)) ≡ true in
    let Q : ℕ → Type 0 = λ j. (may_stand (get_or bytes j 0) || (get_or bytes j 0 == 8)) ≡ true in
    subst P (sym (get_or-take 32 bytes k 0 below))
    (subst Q at (shaped_or_back (get_or bytes (k - 1) 0) (get_or bytes (k - 1 + 1) 0) (get_or bytes (k - 1 + 2) 0) (each (k - 1) (omega (arith, below)))))

-- bytes that stand where they may
pub shaped-chunk : (s : Spelling) (r : Reader) (bytes : List ℕ) → 34 ≤ length bytes → Small bytes → Spells r.table 256 s.all s.whole → s.whole ≡ true → r.way ≡ Backspaces
    → Shapes 32 (take 34 bytes) → IsChunk s r bytes
shaped-chunk s r bytes long small spells whole way shapes =
    let cut = length-take-le 32 bytes (omega (arith, long)) in
    let first : may_stand (get_or bytes 0 0) ≡ true = may_same (get_or bytes 0 0) (get_or (take 34 bytes) 0 0) (sym (get_or-take 34 bytes 0 0 (omega arith))) shapes.first in
    let each : (k : ℕ) → k < 32 → is_shaped (get_or bytes k 0) (get_or bytes (k + 1) 0) (get_or bytes (k + 2) 0) ≡ true = λ k below.
    shaped_same (get_or bytes k 0) (get_or bytes (k + 1) 0) (get_or bytes (k + 2) 0) (get_or (take 34 bytes) k 0) (get_or (take 34 bytes) (k + 1) 0) (get_or (take 34 bytes) (k + 2) 0)
    (sym (get_or-take 34 bytes k 0 (omega (arith, below)))) (sym (get_or-take 34 bytes (k + 1) 0 (omega (arith, below)))) (sym (get_or-take 34 bytes (k + 2) 0 (omega (arith, below)))) (shapes.each k below) in
    record {
      first = first;
      each = λ k below. each k (omega (arith, below));
      way = λ k below is. way;
      some = all-spelled r.table s.all s.whole (take 32 bytes)
          (λ k below. let same = get_or-take 32 bytes k 0 (omega (arith, below, cut)) in let fits = small k in omega (arith, same, fits))
          spells whole (λ k below. or_back bytes k first each (omega (arith, below, cut)) (first_or_after k));
    }

-- ---- its prefix

-- what ends no cell stands alone
chunk_last : (s : Spelling) (r : Reader) (bytes : List ℕ) (k : ℕ) → IsChunk s r bytes → k < 32 → (get_or bytes k 0 == 8) ≡ false → (k ≡ 0) ⊎ (k - 1 + 1 ≡ k) → may_stand (get_or bytes k 0) ≡ true
chunk_last s r bytes k chunk below other (inl at) =
    let P : ℕ → Type 0 = λ j. may_stand (get_or bytes j 0) ≡ true in
    subst P (sym at) chunk.first
chunk_last s r bytes k chunk below other (inr at) =
    let P : ℕ → Type 0 = λ j. may_stand (get_or bytes j 0) ≡ true in
    let Q : ℕ → Type 0 = λ j. (get_or bytes j 0 == 8) ≡ false in
    subst P at (not-backspace (get_or bytes (k - 1) 0) (get_or bytes (k - 1 + 1) 0) (get_or bytes (k - 1 + 2) 0) (subst Q (sym at) other) (chunk.each (k - 1) (omega (arith, below, at))))

same_prefix : (bytes : List ℕ) (n k : ℕ) → n ≤ 32 → k < n → get_or (take n (take 32 bytes)) k 0 ≡ get_or bytes k 0
same_prefix bytes n k few below = get_or-take n (take 32 bytes) k 0 below ∙ get_or-take 32 bytes k 0 (omega (arith, few, below))

prefix_shaped : (s : Spelling) (r : Reader) (bytes : List ℕ) (n : ℕ) → 34 ≤ length bytes → Small bytes → Spells r.table 256 s.all s.whole → IsChunk s r bytes → n ≤ 32
    → ((k : ℕ) → k + 1 ≡ n → (get_or bytes k 0 == 8) ≡ false) → IsShaped r (take n (take 32 bytes))
prefix_shaped s r bytes n long small spells chunk few last =
    let cut = length-take-le 32 bytes (omega (arith, long)) in
    let count = length-take-le n (take 32 bytes) (omega (arith, few, cut)) in
    record {
      first = λ some. may_same (get_or (take n (take 32 bytes)) 0 0) (get_or bytes 0 0) (same_prefix bytes n 0 few (omega (arith, some, count))) chunk.first;
      each = λ k below. shaped_same (get_or (take n (take 32 bytes)) k 0) (get_or (take n (take 32 bytes)) (k + 1) 0) (get_or (take n (take 32 bytes)) (k + 2) 0) (get_or bytes k 0) (get_or bytes (k + 1) 0) (get_or bytes (k + 2) 0)
          (same_prefix bytes n k few (omega (arith, below, count))) (same_prefix bytes n (k + 1) few (omega (arith, below, count))) (same_prefix bytes n (k + 2) few (omega (arith, below, count)))
          (chunk.each k (omega (arith, below, few, count)));
      last = λ k at. may_same (get_or (take n (take 32 bytes)) k 0) (get_or bytes k 0) (same_prefix bytes n k few (omega (arith, at, count)))
          (chunk_last s r bytes k chunk (omega (arith, at, count, few)) (last k (omega (arith, at, count))) (first_or_after k));
      way = λ k below is. chunk.way k (omega (arith, below, count, few)) (sym (same_prefix bytes n k few (omega (arith, below, count))) ∙ is);
      some = λ k below. (let b = get_or (take 32 bytes) k 0 in
          let near : get_or (take n (take 32 bytes)) k 0 ≡ b = get_or-take n (take 32 bytes) k 0 (omega (arith, below, count)) in
          let same = get_or-take 32 bytes k 0 (omega (arith, below, count, few)) in
          let fits = small k in
          let size = (spells.each b (omega (arith, same, fits))).count in
          let here = chunk.some k (omega (arith, below, count, few, cut)) in
          let P : ℕ → Type 0 = λ x. 0 < length (byte_of r.table x) in
          let far : 0 < length (byte_of r.table b) = omega (arith, size, here) in
          subst P (sym near) far);
    }

-- ---- what is put of it

-- what is left is put after it
Puts-cut : (t : FixedTable) (bs old new : List ℕ) (from to end n : ℕ) → Puts old from new to (bytes_of t bs) → from ≤ length old → to ≤ length new → end + length (bytes_of t (drop n bs)) ≡ to
    → Puts old from new end (bytes_of t (take n bs))
Puts-cut t bs old new from to end n put begins room left =
    let far = Puts-long old new (bytes_of t bs) from to begins room put in
    let split : bytes_of t bs ≡ bytes_of t (take n bs) ++ bytes_of t (drop n bs) = ap (λ (xs : List ℕ). bytes_of t xs) (sym (take-append-drop n bs)) ∙ bytes_append t (take n bs) (drop n bs) in
    let long : length (bytes_of t bs) ≡ length (bytes_of t (take n bs) ++ bytes_of t (drop n bs)) = ap length split in
    let both = length-append (bytes_of t (take n bs)) (bytes_of t (drop n bs)) in
    let prefix = take from old ++ bytes_of t (take n bs) in
    let before = length-take-le from old begins in
    let wide = length-append (take from old) (bytes_of t (take n bs)) in
    let all : take to new ≡ prefix ++ bytes_of t (drop n bs) = put ∙ ap (λ (xs : List ℕ). take from old ++ xs) split ∙ sym (append_assoc (take from old) (bytes_of t (take n bs)) (bytes_of t (drop n bs))) in
    let same : length prefix ≡ end = omega (arith, far, long, both, before, wide, left) in
    sym (take-take end to new (omega (arith, left))) ∙ ap (λ (xs : List ℕ). take end xs) all
    ∙ take-append-le end prefix (bytes_of t (drop n bs)) (omega (arith, same)) ∙ take_all end prefix (omega (arith, same))

-- that prefix of a chunk goes that ends in a whole cell
pub Goes-chunk : (s : Spelling) (r : Reader) (bytes old new : List ℕ) (from to end n : ℕ) → IsFresh r → 34 ≤ length bytes → Small bytes → Spells r.table 256 s.all s.whole → IsChunk s r bytes
    → Cuts r.table bytes to n end → Puts old from new to (bytes_of r.table (take 32 bytes)) → from ≤ length old → to ≤ length new → Goes r r bytes n old from new end
Goes-chunk s r bytes old new from to end n fresh long small spells chunk cuts put begins room =
    let few : n ≤ 32 = cuts.few in
    let left : end + length (bytes_of r.table (drop n (take 32 bytes))) ≡ to = cuts.left in
    let prefix : take n (take 32 bytes) ≡ take n bytes = take-take n 32 bytes few in
    let put_prefix = Puts-cut r.table (take 32 bytes) old new from to end n put begins room left in
    let P : List ℕ → Type 0 = λ xs. Makes r r xs (bytes_of r.table (take n (take 32 bytes))) in
    let makes = subst P prefix (Makes-shaped r (take n (take 32 bytes)) fresh (prefix_shaped s r bytes n long small spells chunk few cuts.last)) in
    Goes-of r r bytes (bytes_of r.table (take n (take 32 bytes))) n old new from end makes (omega (arith, few, long)) begins (omega (arith, left, room)) put_prefix

-- ---- where it is cut

none_of : (xs : List ℕ) → length xs ≡ 0 → xs ≡ []
none_of [] p = refl
none_of (x ∷ xs) p = absurd (omega (arith, p))

pub Cuts-none : (t : FixedTable) (bytes : List ℕ) (to : ℕ) → 34 ≤ length bytes → (get_or bytes 31 0 == 8) ≡ false → Cuts t bytes to 32 to
Cuts-none t bytes to long other =
    let cut = length-take-le 32 bytes (omega (arith, long)) in
    let rest = length-drop 32 (take 32 bytes) in
    let none : drop 32 (take 32 bytes) ≡ [] = none_of (drop 32 (take 32 bytes)) (omega (arith, cut, rest)) in
    let size : length (bytes_of t (drop 32 (take 32 bytes))) ≡ 0 = ap (λ (xs : List ℕ). length (bytes_of t xs)) none in
    let P : ℕ → Type 0 = λ k. (get_or bytes k 0 == 8) ≡ false in
    record {
      few = omega arith;
      last = λ k at. (let there : 31 ≡ k = omega (arith, at) in subst P there other);
      left = omega (arith, size);
    }

-- one or two bytes are left
drop_one : (bytes : List ℕ) → 34 ≤ length bytes → drop 31 (take 32 bytes) ≡ get_or bytes 31 0 ∷ []
drop_one bytes long =
    let cut = length-take-le 32 bytes (omega (arith, long)) in
    drop-cons (take 32 bytes) 31 0 (omega (arith, cut)) ∙ ap (λ (x : ℕ). x ∷ drop 32 (take 32 bytes)) (get_or-take 32 bytes 31 0 (omega arith))
    ∙ ap (λ (xs : List ℕ). get_or bytes 31 0 ∷ xs) (let rest = length-drop 32 (take 32 bytes) in none_of (drop 32 (take 32 bytes)) (omega (arith, cut, rest)))

drop_two : (bytes : List ℕ) → 34 ≤ length bytes → drop 30 (take 32 bytes) ≡ get_or bytes 30 0 ∷ get_or bytes 31 0 ∷ []
drop_two bytes long =
    let cut = length-take-le 32 bytes (omega (arith, long)) in
    drop-cons (take 32 bytes) 30 0 (omega (arith, cut)) ∙ ap (λ (x : ℕ). x ∷ drop 31 (take 32 bytes)) (get_or-take 32 bytes 30 0 (omega arith))
    ∙ ap (λ (xs : List ℕ). get_or bytes 30 0 ∷ xs) (drop_one bytes long)

pub Cuts-one : (s : Spelling) (r : Reader) (bytes : List ℕ) (to : ℕ) → 34 ≤ length bytes → IsChunk s r bytes → (get_or bytes 32 0 == 8) ≡ true
    → length (byte_of r.table (get_or bytes 31 0)) ≤ to → Cuts r.table bytes to 31 (to - length (byte_of r.table (get_or bytes 31 0)))
Cuts-one s r bytes to long chunk back far =
    let t = r.table in
    let b = get_or bytes 31 0 in
    let size : length (bytes_of t (drop 31 (take 32 bytes))) ≡ length (byte_of t b) =
    ap (λ (xs : List ℕ). length (bytes_of t xs)) (drop_one bytes long) ∙ ap length (append-nil (byte_of t b)) in
    let P : ℕ → Type 0 = λ k. (get_or bytes k 0 == 8) ≡ false in
    record {
      few = omega arith;
      last = λ k at. (let there : 30 ≡ k = omega (arith, at) in subst P there (no-other-before (get_or bytes 30 0) b (get_or bytes 32 0) back (chunk.each 30 (omega arith))));
      left = omega (arith, size, far);
    }

pub Cuts-two : (s : Spelling) (r : Reader) (bytes : List ℕ) (to : ℕ) → 34 ≤ length bytes → IsChunk s r bytes → (get_or bytes 31 0 == 8) ≡ true
    → length (byte_of r.table (get_or bytes 30 0)) + 1 ≤ to → Cuts r.table bytes to 30 (to - (length (byte_of r.table (get_or bytes 30 0)) + 1))
Cuts-two s r bytes to long chunk back far =
    let t = r.table in
    let b = get_or bytes 30 0 in
    let one : byte_of t (get_or bytes 31 0) ≡ 8 ∷ [] = ap (λ (x : ℕ). byte_of t x) (is_back (get_or bytes 31 0) back) in
    let size : length (bytes_of t (drop 30 (take 32 bytes))) ≡ length (byte_of t b ++ (8 ∷ [])) =
    ap (λ (xs : List ℕ). length (bytes_of t xs)) (drop_two bytes long) ∙ ap (λ (xs : List ℕ). length (byte_of t b ++ (xs ++ []))) one in
    let both = length-append (byte_of t b) (8 ∷ []) in
    let P : ℕ → Type 0 = λ k. (get_or bytes k 0 == 8) ≡ false in
    record {
      few = omega arith;
      last = λ k at. (let there : 29 ≡ k = omega (arith, at) in subst P there (no-other-before (get_or bytes 29 0) b (get_or bytes 31 0) back (chunk.each 29 (omega arith))));
      left = omega (arith, size, both, far);
    }

-- what is left of a chunk was put
pub left-within : (t : FixedTable) (bytes : List ℕ) (n to : ℕ) → length (bytes_of t (take 32 bytes)) ≤ to → length (bytes_of t (drop n (take 32 bytes))) ≤ to
left-within t bytes n to far =
    let split : bytes_of t (take 32 bytes) ≡ bytes_of t (take n (take 32 bytes)) ++ bytes_of t (drop n (take 32 bytes)) =
    ap (λ (xs : List ℕ). bytes_of t xs) (sym (take-append-drop n (take 32 bytes))) ∙ bytes_append t (take n (take 32 bytes)) (drop n (take 32 bytes)) in
    let long : length (bytes_of t (take 32 bytes)) ≡ length (bytes_of t (take n (take 32 bytes)) ++ bytes_of t (drop n (take 32 bytes))) = ap length split in
    let both = length-append (bytes_of t (take n (take 32 bytes))) (bytes_of t (drop n (take 32 bytes))) in
    omega (arith, far, long, both)

pub left-one : (t : FixedTable) (bytes : List ℕ) (to : ℕ) → 34 ≤ length bytes → length (bytes_of t (take 32 bytes)) ≤ to → length (byte_of t (get_or bytes 31 0)) ≤ to
left-one t bytes to long far =
    let size : length (bytes_of t (drop 31 (take 32 bytes))) ≡ length (byte_of t (get_or bytes 31 0)) =
    ap (λ (xs : List ℕ). length (bytes_of t xs)) (drop_one bytes long) ∙ ap length (append-nil (byte_of t (get_or bytes 31 0))) in
    let within = left-within t bytes 31 to far in
    omega (arith, size, within)

pub left-two : (t : FixedTable) (bytes : List ℕ) (to : ℕ) → 34 ≤ length bytes → (get_or bytes 31 0 == 8) ≡ true → length (bytes_of t (take 32 bytes)) ≤ to
    → length (byte_of t (get_or bytes 30 0)) + 1 ≤ to
left-two t bytes to long back far =
    let b = get_or bytes 30 0 in
    let one : byte_of t (get_or bytes 31 0) ≡ 8 ∷ [] = ap (λ (x : ℕ). byte_of t x) (is_back (get_or bytes 31 0) back) in
    let size : length (bytes_of t (drop 30 (take 32 bytes))) ≡ length (byte_of t b ++ (8 ∷ [])) =
    ap (λ (xs : List ℕ). length (bytes_of t xs)) (drop_two bytes long) ∙ ap (λ (xs : List ℕ). length (byte_of t b ++ (xs ++ []))) one in
    let both = length-append (byte_of t b) (8 ∷ []) in
    let within = left-within t bytes 30 to far in
    omega (arith, size, both, within)

-- of bytes that are shown
pub Goes-shown : (s : Spelling) (r : Reader) (bytes old ys : List ℕ) (from k : ℕ) → IsFresh r → 34 ≤ length bytes → Small bytes → Spells r.table 256 s.all s.whole → ShowAll (take 32 bytes)
    → ys ≡ take 32 bytes → from + 32 ≤ length old → from + 32 ≤ length (put_mid from k old ys) → Goes r r bytes 32 old from (put_mid from k old ys) (from + 32)
Goes-shown s r bytes old ys from k fresh long small spells all copied room wide =
    let cut = length-take-le 32 bytes (omega (arith, long)) in
    let as_are : bytes_of r.table (take 32 bytes) ≡ take 32 bytes = bytes-as-are r.table (take 32 bytes) (λ j below. shown_as_is (get_or (take 32 bytes) j 0) (all j below)) in
    let put : take (from + 32) (put_mid from k old ys) ≡ take from old ++ take 32 bytes = Puts-prefix bytes old ys from k 32 copied (omega (arith, long)) (omega (arith, room)) in
    let chunk = shown-chunk s r bytes long small spells all in
    let P : ℕ → Type 0 = λ b. (b == 8) ≡ false in
    let last : (get_or bytes 31 0 == 8) ≡ false = subst P (get_or-take 32 bytes 31 0 (omega arith)) (stands_alone (get_or (take 32 bytes) 31 0) (shown_may (get_or (take 32 bytes) 31 0) (all 31 (omega (arith, cut))))) in
    Goes-chunk s r bytes old (put_mid from k old ys) from (from + 32) (from + 32) 32 fresh long small spells chunk (Cuts-none r.table bytes (from + 32) long last)
    (put ∙ ap (λ (xs : List ℕ). take from old ++ xs) (sym as_are)) (omega (arith, room)) wide

pub stand-last : (bytes : List ℕ) → 34 ≤ length bytes → StandAll (length (take 32 bytes)) (take 32 bytes) → (get_or bytes 31 0 == 8) ≡ false
stand-last bytes long all =
    let cut = length-take-le 32 bytes (omega (arith, long)) in
    let P : ℕ → Type 0 = λ b. (b == 8) ≡ false in
    subst P (get_or-take 32 bytes 31 0 (omega arith)) (stands_alone (get_or (take 32 bytes) 31 0) (all 31 (omega (arith, cut))))

-- ---- the tests, byte by byte

k_or_last : (k n : ℕ) → k < n + 1 → (k < n) ⊎ (k ≡ n)
k_or_last k n l = grind (arith, nat_tests)

next_each : (bs : List ℕ) (n k : ℕ) → Shapes n bs → is_shaped (get_or bs n 0) (get_or bs (n + 1) 0) (get_or bs (n + 2) 0) ≡ true → (k < n) ⊎ (k ≡ n)
    → is_shaped (get_or bs k 0) (get_or bs (k + 1) 0) (get_or bs (k + 2) 0) ≡ true
next_each bs n k shapes here (inl low) = shapes.each k low
next_each bs n k shapes here (inr same) =
    let P : ℕ → Type 0 = λ j. is_shaped (get_or bs j 0) (get_or bs (j + 1) 0) (get_or bs (j + 2) 0) ≡ true in
    subst P (sym same) here

-- one byte more
pub Shapes-next : (all x : Bool) (bs : List ℕ) (n : ℕ) → x ≡ is_shaped (get_or bs n 0) (get_or bs (n + 1) 0) (get_or bs (n + 2) 0) → (all ≡ true → Shapes n bs) → all && x ≡ true → Shapes (n + 1) bs
Shapes-next true x bs n is before both =
    let shapes = before refl in
    record {
      first = shapes.first;
      each = λ k below. next_each bs n k shapes (sym is ∙ both) (k_or_last k n below);
    }
Shapes-next false x bs n is before both = absurd (let never : false ≡ true = both in cc)

pub keeps-way : (w : Way) → keeps_backspaces w ≡ true → w ≡ Backspaces
keeps-way Backspaces e = refl
keeps-way (Escapes look) e = absurd (let never : false ≡ true = e in cc)

pub is-back : (b : ℕ) → b ≡ 8 → (b == 8) ≡ true
is-back b e = grind (arith, nat_tests)

pub is-other : (b : ℕ) → (b ≡ 8 → ⊥) → (b == 8) ≡ false
is-other b e = grind (arith, nat_tests)

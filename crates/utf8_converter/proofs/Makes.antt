-- What comes of bytes that are whole cells.
use Prim.Native.Char.{code}
use Rattle.std.proofs.Common.{◌≡◌, ℕ, ◌+◌, ◌*◌, ◌<◌, ◌≤◌, List, [], ◌∷◌, ◌++◌, length, Bool, true, false, ◌==◌, ◌&&◌, ◌||◌, nat_lt, if◌then◌else◌, Option, None, Some, refl, sym, subst, ap, ◌∙◌, append-nil, append_assoc, arith}
use Rattle.std.proofs.lemmas.List.{length-append}
use Rattle.std.proofs.lemmas.Bool.Decides.{nat_tests}
use Rattle.std.proofs.lemmas.Str.{encode_ascii, length-encode}
use Rattle.std.specs.Char.{encode_utf8, len_utf8}
use Rattle.nr_vectors.specs.declared.cell.Look.{Look}
use Rattle.nr_vectors.specs.declared.cell.Look.TheVariants.{Plain, Under, Bold}
use Rattle.utf8_characters.specs.OneCell.{is_one_cell}
use Rattle.utf8_characters.specs.declared.table.FixedTable.{FixedTable}
use Rattle.utf8_characters.specs.Tables.{character_of}
use Rattle.utf8_characters.proofs.Laws.{character_fits}
use Rattle.utf8_converter.specs.declared.reader.Half.{Half}
use Rattle.utf8_converter.specs.declared.reader.Half.TheVariants.{Nothing, Byte, Backspaced}
use Rattle.utf8_converter.specs.declared.reader.Way.{Way}
use Rattle.utf8_converter.specs.declared.reader.Way.TheVariants.{Backspaces, Escapes}
use Rattle.utf8_converter.specs.declared.reader.Reader.{Reader}
use Rattle.utf8_converter.specs.Cells.{Cell, Once, Over, drawn, goes_out, if_spelled, is_shown, look_of, shows, size, strikes, text, turning, way_after, way_to}
use Rattle.utf8_converter.specs.Reading.{Emitted, preceded, fed, fresh, out, put_alone, read, read_after, released, released_and_fresh, then_emitted, emitted, turned, with_half}
use Rattle.utf8_converter.specs.Spelling.{IsFresh, Makes, is_shut, let_go, let_go_by, owed, rests, rests_by}
use Rattle.utf8_converter.proofs.Reading.{fed-append, emitted-eq}

-- ---- what is emitted

pub emitted-if : (x : Bool) (t u : Emitted) → x ≡ true → (if x then t else u) ≡ t
emitted-if true t u p = refl
emitted-if false t u p = absurd (let never : false ≡ true = p in cc)

pub emitted-not : (x : Bool) (t u : Emitted) → x ≡ false → (if x then t else u) ≡ u
emitted-not true t u p = absurd (let never : true ≡ false = p in cc)
emitted-not false t u p = refl

add_assoc : (a b c : ℕ) → a + b + c ≡ a + (b + c)
add_assoc a b c = omega arith

preceded-twice : (xs ys : List ℕ) (m n : ℕ) (t : Emitted) → preceded (xs ++ ys) (m + n) t ≡ preceded xs m (preceded ys n t)
preceded-twice xs ys m n t = emitted-eq _ _ _ _ _ _ refl (append_assoc xs ys t.bytes) (add_assoc m n t.strays)

-- one after another
pub then-then : (t : Emitted) (f g : Reader → Emitted) → then_emitted (then_emitted t f) g ≡ then_emitted t (λ s. then_emitted (f s) g)
then-then t f g = preceded-twice t.bytes (f t.reader).bytes t.strays (f t.reader).strays (g (f t.reader).reader)

let_go-by : (h : Half) (xs : List ℕ) (n : ℕ) (t : Emitted) → let_go_by h (preceded xs n t) ≡ preceded xs n (let_go_by h t)
let_go-by Nothing xs n t = refl
let_go-by (Byte b) xs n t = preceded-twice xs t.bytes n t.strays (put_alone b (with_half Nothing t.reader))
let_go-by (Backspaced b) xs n t = refl

let_go-preceded : (xs : List ℕ) (n : ℕ) (t : Emitted) → let_go (preceded xs n t) ≡ preceded xs n (let_go t)
let_go-preceded xs n t = let_go-by t.reader.half xs n t

let_go-same : (t : Emitted) → t.reader.half ≡ Nothing → let_go t ≡ t
let_go-same t e = ap (λ (h : Half). let_go_by h t) e

alone_half : (x : Bool) (b : ℕ) (r : Reader) → (if x then out (Once b) r else emitted r [] 1).reader.half ≡ r.half
alone_half true b r = refl
alone_half false b r = refl

pub put_alone-half : (b : ℕ) (r : Reader) → (put_alone b r).reader.half ≡ r.half
put_alone-half b r = alone_half (goes_out r.table b) b r

pub read-fresh : (b : ℕ) (r : Reader) → r.half ≡ Nothing → read b r ≡ fresh b r
read-fresh b r e = ap (λ (h : Half). read_after h b r) e

pub with-same : (r : Reader) → r.half ≡ Nothing → with_half Nothing r ≡ r
with-same r e = ap (λ (h : Half). with_half h r) (sym e)

-- ---- cells after cells

-- a byte that is half read is no cell with what comes, unless that is a backspace
release_by : (h : Half) (y : ℕ) (ys : List ℕ) (t : Emitted) → t.reader.half ≡ h → rests_by h t.reader.way ≡ true → (y == 8) ≡ false
    → then_emitted t (λ q. fed q (y ∷ ys)) ≡ then_emitted (let_go_by h t) (λ q. fed q (y ∷ ys))
release_by Nothing y ys t e rested isnt = refl
release_by (Backspaced a) y ys t e rested isnt = absurd (let bad : false ≡ true = rested in cc)
release_by (Byte a) y ys t e rested isnt =
    let q = t.reader in
    let A : Emitted = put_alone a (with_half Nothing q) in
    let none : A.reader.half ≡ Nothing = put_alone-half a (with_half Nothing q) in
    let first : read y q ≡ then_emitted A (λ s. fresh y s) =
    ap (λ (h : Half). read_after h y q) e ∙ emitted-not (y == 8) (emitted (with_half (Backspaced a) q) [] 0) (released_and_fresh y q) isnt
    ∙ ap (λ (h : Half). then_emitted (released h q) (λ s. fresh y s)) e in
    let rest : fed q (y ∷ ys) ≡ then_emitted A (λ s. then_emitted (fresh y s) (λ u. fed u ys)) =
    ap (λ (v : Emitted). then_emitted v (λ u. fed u ys)) first ∙ then-then A (λ s. fresh y s) (λ u. fed u ys) in
    let back : then_emitted (fresh y A.reader) (λ u. fed u ys) ≡ fed A.reader (y ∷ ys) = ap (λ (v : Emitted). then_emitted v (λ u. fed u ys)) (sym (read-fresh y A.reader none)) in
    ap (λ (v : Emitted). preceded t.bytes t.strays v) (rest ∙ ap (λ (v : Emitted). preceded A.bytes A.strays v) back)
    ∙ sym (preceded-twice t.bytes A.bytes t.strays A.strays (fed A.reader (y ∷ ys)))

-- bytes after whole cells
fed-preceded : (r s : Reader) (xs : List ℕ) (o : List ℕ) (y : ℕ) (ys : List ℕ) → Makes r s xs o → (y == 8) ≡ false → fed r (xs ++ y ∷ ys) ≡ preceded o 0 (fed s (y ∷ ys))
fed-preceded r s xs o y ys m isnt =
    let t = fed r xs in
    fed-append r xs (y ∷ ys) ∙ release_by t.reader.half y ys t refl m.rested isnt ∙ ap (λ (v : Emitted). then_emitted v (λ q. fed q (y ∷ ys))) m.all

-- no backspace comes first in whole cells
pub more_strays : (h : Half) (t : Emitted) → t.strays ≤ (let_go_by h t).strays
more_strays Nothing t = omega arith
more_strays (Byte b) t = omega arith
more_strays (Backspaced b) t = omega arith

back_first : (s u : Reader) (ys p : List ℕ) → s.half ≡ Nothing → Makes s u (8 ∷ ys) p → ⊥
back_first s u ys p none m =
    let t = fed s (8 ∷ ys) in
    let one : read 8 s ≡ emitted s [] 1 = read-fresh 8 s none in
    let rest : t ≡ then_emitted (emitted s [] 1) (λ q. fed q ys) = ap (λ (v : Emitted). then_emitted v (λ q. fed q ys)) one in
    let least : t.strays ≡ 1 + (fed s ys).strays = ap (λ (v : Emitted). v.strays) rest in
    let far = more_strays t.reader.half t in
    let end : (let_go t).strays ≡ 0 = ap (λ (v : Emitted). v.strays) m.all in
    omega (arith, least, far, end)

is_back : (y : ℕ) → (y == 8) ≡ true → y ≡ 8
is_back y p = grind (arith, nat_tests)

not_back_by : (x : Bool) (s u : Reader) (y : ℕ) (ys p : List ℕ) → (y == 8) ≡ x → s.half ≡ Nothing → Makes s u (y ∷ ys) p → (y == 8) ≡ false
not_back_by false s u y ys p e none m = e
not_back_by true s u y ys p e none m =
    let P : ℕ → Type 0 = λ z. Makes s u (z ∷ ys) p in
    absurd (back_first s u ys p none (subst P (is_back y e) m))

pub not-back : (s u : Reader) (y : ℕ) (ys p : List ℕ) → s.half ≡ Nothing → Makes s u (y ∷ ys) p → (y == 8) ≡ false
not-back s u y ys p none m = not_back_by (y == 8) s u y ys p refl none m

pub Makes-then : (r s u : Reader) (xs ys o p : List ℕ) → s.half ≡ Nothing → Makes r s xs o → Makes s u ys p → Makes r u (xs ++ ys) (o ++ p)
Makes-then r s u xs [] o p none m n =
    let same : emitted s [] 0 ≡ emitted u p 0 = sym (let_go-same (emitted s [] 0) none) ∙ n.all in
    let reader : s ≡ u = ap (λ (t : Emitted). t.reader) same in
    let bytes : [] ≡ p = ap (λ (t : Emitted). t.bytes) same in
    let P : List ℕ → Type 0 = λ zs. Makes r s zs o in
    let Q : List ℕ → Type 0 = λ zs. Makes r s (xs ++ []) zs in
    let R : List ℕ → Type 0 = λ zs. Makes r s (xs ++ []) (o ++ zs) in
    let S : Reader → Type 0 = λ v. Makes r v (xs ++ []) (o ++ p) in
    subst S reader (subst R bytes (subst Q (sym (append-nil o)) (subst P (sym (append-nil xs)) m)))
Makes-then r s u xs (y ∷ ys) o p none m n =
    let key = fed-preceded r s xs o y ys m (not-back s u y ys p none n) in
    let first = m.few in
    let second = n.few in
    let long = length-append xs (y ∷ ys) in
    let wide = length-append o p in
    record {
      all = ap let_go key ∙ let_go-preceded o 0 (fed s (y ∷ ys)) ∙ ap (λ (t : Emitted). preceded o 0 t) n.all;
      rested = ap (λ (t : Emitted). rests t.reader) key ∙ n.rested;
      few = omega (arith, first, second, long, wide);
    }

pub Makes-none : (r : Reader) → r.half ≡ Nothing → Makes r r [] []
Makes-none r none = record {
  all = let_go-same (emitted r [] 0) none;
  rested = ap (λ (h : Half). rests_by h r.way) none;
  few = omega arith;
}

-- ---- a text is short

below_four : (c : ℕ) → is_one_cell c ≡ true → nat_lt c 0x10000 ≡ true
below_four c p = grind (arith, nat_tests)

three_or_less : (x y z : Bool) → z ≡ true → (if x then 1 else if y then 2 else if z then 3 else 4) ≤ 3
three_or_less true y z e = omega arith
three_or_less false true z e = omega arith
three_or_less false false true e = omega arith
three_or_less false false false e = absurd (let never : false ≡ true = e in cc)

pub few-spelled : (c : ℕ) → is_one_cell c ≡ true → length (encode_utf8 c) ≤ 3
few-spelled c p =
    let few : len_utf8 c ≤ 3 = three_or_less (nat_lt c 0x80) (nat_lt c 0x800) (nat_lt c 0x10000) (below_four c p) in
    let long = length-encode c in
    omega (arith, long, few)

shown_low : (b : ℕ) → is_shown b ≡ true → b < 128
shown_low b p = grind (arith, nat_tests)

few_beyond : (t : FixedTable) (b : ℕ) (o : Option ℕ) → character_of t b ≡ o → length (if_spelled o) ≤ 3
few_beyond t b None e = omega arith
few_beyond t b (Some c) e = few-spelled c (character_fits t b c e)

few_by : (x : Bool) (t : FixedTable) (b : ℕ) → is_shown b ≡ x → length (if_spelled (if x then Some b else character_of t b)) ≤ 3
few_by true t b e = let one : length (encode_utf8 b) ≡ 1 = ap length (encode_ascii b (shown_low b e)) in omega (arith, one)
few_by false t b e = few_beyond t b (character_of t b) refl

pub few-text : (t : FixedTable) (b : ℕ) → length (text t b) ≤ 3
few-text t b = few_by (is_shown b) t b refl

-- a byte of ASCII that goes out as it is
pub text-shown : (t : FixedTable) (b : ℕ) → is_shown b ≡ true → text t b ≡ b ∷ []
text-shown t b e = ap (λ (x : Bool). if_spelled (if x then Some b else character_of t b)) e ∙ encode_ascii b (shown_low b e)

-- ---- ways

pub shut_turning : (w : Way) → is_shut w ≡ true → turning w Plain ≡ []
shut_turning Backspaces e = refl
shut_turning (Escapes Plain) e = refl
shut_turning (Escapes Under) e = absurd (let never : false ≡ true = e in cc)
shut_turning (Escapes Bold) e = absurd (let never : false ≡ true = e in cc)

pub shut_to : (w : Way) → is_shut w ≡ true → way_to w Plain ≡ w
shut_to Backspaces e = refl
shut_to (Escapes Plain) e = refl
shut_to (Escapes Under) e = absurd (let never : false ≡ true = e in cc)
shut_to (Escapes Bold) e = absurd (let never : false ≡ true = e in cc)

pub turned-shut : (r : Reader) → is_shut r.way ≡ true → turned Plain r ≡ r
turned-shut r e = ap (λ (w : Way). record r { way = w }) (shut_to r.way e)

pub none-owed : (w : Way) → is_shut w ≡ true → owed w ≡ 0
none-owed w e = ap length (shut_turning w e)

pub turned_owes : (w : Way) → owed (way_to w Plain) ≡ 0
turned_owes Backspaces = refl
turned_owes (Escapes look) = refl

few_turned : (before look : Look) → length (turning (Escapes before) look) + owed (Escapes look) ≤ 9 + owed (Escapes before)
few_turned Plain Plain = omega arith
few_turned Plain Under = omega arith
few_turned Plain Bold = omega arith
few_turned Under Plain = omega arith
few_turned Under Under = omega arith
few_turned Under Bold = omega arith
few_turned Bold Plain = omega arith
few_turned Bold Under = omega arith
few_turned Bold Bold = omega arith

few_struck : (t : FixedTable) (w : Way) (a b : ℕ) → length (drawn t w (Over a b)) + owed (way_after w (Over a b)) ≤ 12 + owed w
few_struck t Backspaces a b =
    let first = few-text t a in
    let second = few-text t b in
    let long = length-append (text t a) (8 ∷ text t b) in
    omega (arith, first, second, long)
few_struck t (Escapes before) a b =
    let look = look_of before (Over a b) in
    let turn = few_turned before look in
    let second = few-text t b in
    let long = length-append (turning (Escapes before) look) (text t b) in
    omega (arith, turn, second, long)

pub few-drawn : (t : FixedTable) (w : Way) (c : Cell) → length (drawn t w c) + owed (way_after w c) ≤ 4 * size c + owed w
few-drawn t w (Once b) =
    let long = length-append (turning w Plain) (text t b) in
    let few = few-text t b in
    let owes = turned_owes w in
    omega (arith, long, few, owes)
few-drawn t w (Over a b) = few_struck t w a b

-- ---- single cells

-- what goes out by itself and can't be struck over
pub Makes-gap : (r : Reader) (b : ℕ) → r.half ≡ Nothing → goes_out r.table b ≡ true → shows r.table b ≡ false
    → Makes r (turned Plain r) (b ∷ []) (turning r.way Plain ++ text r.table b)
Makes-gap r b none goes hidden =
    let o = turning r.way Plain ++ text r.table b in
    let one : read b r ≡ emitted (turned Plain r) o 0 =
    read-fresh b r none ∙ emitted-not (shows r.table b) (emitted (with_half (Byte b) r) [] 0) (put_alone b r) hidden
    ∙ emitted-if (goes_out r.table b) (out (Once b) r) (emitted r [] 1) goes in
    let all : fed r (b ∷ []) ≡ emitted (turned Plain r) o 0 = ap (λ (t : Emitted). then_emitted t (λ s. emitted s [] 0)) one ∙ emitted-eq _ _ _ _ _ _ refl (append-nil o) refl in
    let long = length-append (turning r.way Plain) (text r.table b) in
    let few = few-text r.table b in
    let owes = turned_owes r.way in
    record {
      all = ap let_go all ∙ let_go-same (emitted (turned Plain r) o 0) none;
      rested = ap (λ (t : Emitted). rests t.reader) all ∙ ap (λ (h : Half). rests_by h (way_to r.way Plain)) none;
      few = omega (arith, long, few, owes);
    }

-- one that shows, where no look is open
makes_shown : (r : Reader) (b : ℕ) → IsFresh r → goes_out r.table b ≡ true → shows r.table b ≡ true → Makes r r (b ∷ []) (text r.table b)
makes_shown r b fresh_is goes is =
    let held : Reader = with_half (Byte b) r in
    let one : read b r ≡ emitted held [] 0 = read-fresh b r fresh_is.half ∙ emitted-if (shows r.table b) (emitted held [] 0) (put_alone b r) is in
    let all : fed r (b ∷ []) ≡ emitted held [] 0 = ap (λ (t : Emitted). then_emitted t (λ s. emitted s [] 0)) one in
    let turned_is : turned Plain (with_half Nothing held) ≡ r = ap (λ (s : Reader). turned Plain s) (with-same r fresh_is.half) ∙ turned-shut r fresh_is.shut in
    let bytes : turning r.way Plain ++ text r.table b ≡ text r.table b = ap (λ (xs : List ℕ). xs ++ text r.table b) (shut_turning r.way fresh_is.shut) in
    let goes_by : let_go (emitted held [] 0) ≡ emitted r (text r.table b) 0 =
    ap (λ (t : Emitted). preceded [] 0 t) (emitted-if (goes_out r.table b) (out (Once b) (with_half Nothing held)) (emitted (with_half Nothing held) [] 1) goes)
    ∙ emitted-eq _ _ _ _ _ _ turned_is bytes refl in
    let few = few-text r.table b in
    let owes = none-owed r.way fresh_is.shut in
    record {
      all = ap let_go all ∙ goes_by;
      rested = ap (λ (t : Emitted). rests t.reader) all ∙ fresh_is.shut;
      few = omega (arith, few, owes);
    }

makes_once : (x : Bool) (r : Reader) (b : ℕ) → shows r.table b ≡ x → IsFresh r → goes_out r.table b ≡ true → Makes r r (b ∷ []) (text r.table b)
makes_once true r b e fresh_is goes = makes_shown r b fresh_is goes e
makes_once false r b e fresh_is goes =
    let P : Reader → Type 0 = λ s. Makes r s (b ∷ []) (turning r.way Plain ++ text r.table b) in
    let Q : List ℕ → Type 0 = λ xs. Makes r r (b ∷ []) (xs ++ text r.table b) in
    subst Q (shut_turning r.way fresh_is.shut) (subst P (turned-shut r fresh_is.shut) (Makes-gap r b fresh_is.half goes e))

pub Makes-once : (r : Reader) (b : ℕ) → IsFresh r → goes_out r.table b ≡ true → Makes r r (b ∷ []) (text r.table b)
Makes-once r b fresh_is goes = makes_once (shows r.table b) r b refl fresh_is goes

-- ---- struck cells

same_byte : (a c : ℕ) → (a == c) ≡ true → a ≡ c
same_byte a c p = grind (arith, nat_tests)

and_first : (x y : Bool) → x && y ≡ true → x ≡ true
and_first true y p = refl
and_first false y p = p

and_second : (x y : Bool) → x && y ≡ true → y ≡ true
and_second true y p = p
and_second false y p = absurd (let never : false ≡ true = p in cc)

over_shows : (t : FixedTable) (a c : ℕ) (x y : Bool) → (a == c) ≡ x → (a == code "_") ≡ y → (x || y) && shows t c ≡ true → shows t a ≡ true
over_shows t a c true y e f p = ap (λ (b : ℕ). shows t b) (same_byte a c e) ∙ p
over_shows t a c false true e f p = ap (λ (b : ℕ). shows t b) (same_byte a (code "_") f)
over_shows t a c false false e f p = absurd (let never : false ≡ true = p in cc)

pub strikes-shows : (t : FixedTable) (a c : ℕ) → strikes t a c ≡ true → shows t a ≡ true
strikes-shows t a c p = over_shows t a c (a == c) (a == code "_") refl refl p

pub struck-goes : (t : FixedTable) (a c : ℕ) → strikes t a c ≡ true → goes_out t c ≡ true
struck-goes t a c p = and_second (nat_lt (code " ") c) (goes_out t c) (and_second ((a == c) || (a == code "_")) (shows t c) p)

pub Makes-struck : (r : Reader) (a b : ℕ) → r.half ≡ Nothing → strikes r.table a b ≡ true
    → Makes r (out (Over a b) r).reader (a ∷ 8 ∷ b ∷ []) (drawn r.table r.way (Over a b))
Makes-struck r a b none is =
    let d = drawn r.table r.way (Over a b) in
    let held : Reader = with_half (Byte a) r in
    let backed : Reader = with_half (Backspaced a) r in
    let first : read a r ≡ emitted held [] 0 = read-fresh a r none ∙ emitted-if (shows r.table a) (emitted held [] 0) (put_alone a r) (strikes-shows r.table a b is) in
    let last : read b backed ≡ out (Over a b) (with_half Nothing r) = emitted-if (strikes r.table a b) (out (Over a b) (with_half Nothing r)) (released_and_fresh b backed) is in
    let all : fed r (a ∷ 8 ∷ b ∷ []) ≡ emitted (out (Over a b) r).reader d 0 =
    ap (λ (t : Emitted). then_emitted t (λ s. fed s (8 ∷ b ∷ []))) first
    ∙ ap (λ (t : Emitted). preceded [] 0 (preceded [] 0 (then_emitted t (λ s. emitted s [] 0)))) last
    ∙ emitted-eq _ _ _ _ _ _ (ap (λ (s : Reader). (out (Over a b) s).reader) (with-same r none)) (append-nil d) refl in
    let few = few_struck r.table r.way a b in
    record {
      all = ap let_go all ∙ let_go-same (emitted (out (Over a b) r).reader d 0) none;
      rested = ap (λ (t : Emitted). rests t.reader) all ∙ ap (λ (h : Half). rests_by h (way_after r.way (Over a b))) none;
      few = omega (arith, few);
    }

pub owed-few : (w : Way) → owed w ≤ 5
owed-few Backspaces = omega arith
owed-few (Escapes Plain) = omega arith
owed-few (Escapes Under) = omega arith
owed-few (Escapes Bold) = omega arith

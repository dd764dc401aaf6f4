-- What is half read after whole cells.
use Prim.Native.Char.{code}
use Rattle.std.proofs.Common.{◌≡◌, ℕ, suc, ◌+◌, ◌-◌, ◌<◌, List, [], ◌∷◌, ◌++◌, length, take, get_or, Bool, true, false, not, ◌==◌, ◌&&◌, ◌||◌, nat_lt, if◌then◌else◌, refl, sym, subst, ap, ◌∙◌, append-nil, arith}
use Rattle.std.proofs.lemmas.Bool.Decides.{nat_tests}
use Rattle.utf8_characters.specs.declared.table.FixedTable.{FixedTable}
use Rattle.utf8_converter.specs.declared.reader.Half.{Half}
use Rattle.utf8_converter.specs.declared.reader.Half.TheVariants.{Nothing, Byte, Backspaced}
use Rattle.utf8_converter.specs.declared.reader.Reader.{Reader}
use Rattle.utf8_converter.specs.declared.spelling.Spelling.{Spelling}
use Rattle.utf8_converter.specs.Cells.{Once, Over, goes_out, shows, strikes, text}
use Rattle.utf8_converter.specs.Reading.{Emitted, preceded, ended, fed, fresh, out, put_alone, read, read_after, released, released_and_fresh, then_emitted, emitted, with_half}
use Rattle.utf8_converter.specs.Spelling.{Makes, Reads, Serves, Spells, begins_by, half_after, half_text, let_go, let_go_by, rests, rests_by}
use Rattle.utf8_converter.proofs.Makes.{more_strays, put_alone-half, read-fresh, shut_to, shut_turning, then-then, emitted-if, emitted-not, with-same}
use Rattle.utf8_converter.proofs.Reading.{preceded-none, emitted-eq}
use Rattle.utf8_converter.proofs.Spelled.{byte-text}

-- ---- the table stays

table_if : (x : Bool) (t u : Emitted) (table : FixedTable) → t.reader.table ≡ table → u.reader.table ≡ table → (if x then t else u).reader.table ≡ table
table_if true t u table p q = p
table_if false t u table p q = q

alone_table : (b : ℕ) (r : Reader) → (put_alone b r).reader.table ≡ r.table
alone_table b r = table_if (goes_out r.table b) (out (Once b) r) (emitted r [] 1) r.table refl refl

fresh_table : (b : ℕ) (r : Reader) → (fresh b r).reader.table ≡ r.table
fresh_table b r = table_if (shows r.table b) (emitted (with_half (Byte b) r) [] 0) (put_alone b r) r.table refl (alone_table b r)

pub released-table : (h : Half) (r : Reader) → (released h r).reader.table ≡ r.table
released-table Nothing r = refl
released-table (Byte a) r = alone_table a (with_half Nothing r)
released-table (Backspaced a) r = alone_table a (with_half Nothing r)

apart_table : (b : ℕ) (r : Reader) → (released_and_fresh b r).reader.table ≡ r.table
apart_table b r = fresh_table b (released r.half r).reader ∙ released-table r.half r

after_table : (h : Half) (b : ℕ) (r : Reader) → (read_after h b r).reader.table ≡ r.table
after_table Nothing b r = fresh_table b r
after_table (Byte a) b r = table_if (b == 8) (emitted (with_half (Backspaced a) r) [] 0) (released_and_fresh b r) r.table refl (apart_table b r)
after_table (Backspaced a) b r = table_if (strikes r.table a b) (out (Over a b) (with_half Nothing r)) (released_and_fresh b r) r.table refl (apart_table b r)

pub fed-table : (r : Reader) (bs : List ℕ) → (fed r bs).reader.table ≡ r.table
fed-table r [] = refl
fed-table r (b ∷ bs) = fed-table (read b r).reader bs ∙ after_table r.half b r

-- ---- what is half read after a byte

is_backed : Half → Bool
is_backed Nothing = false
is_backed (Byte b) = false
is_backed (Backspaced b) = true

-- after a backspace a byte ends a cell, and else one that shows may be struck over
abbrev half_by : Bool → Bool → ℕ → Half
half_by struck seen b = if struck || not seen then Nothing else Byte b

fresh_by : (x : Bool) (b : ℕ) (r : Reader) → shows r.table b ≡ x → r.half ≡ Nothing → (fresh b r).reader.half ≡ half_by false (shows r.table b) b
fresh_by true b r e none =
    ap (λ (t : Emitted). t.reader.half) (emitted-if (shows r.table b) (emitted (with_half (Byte b) r) [] 0) (put_alone b r) e)
    ∙ ap (λ (x : Bool). half_by false x b) (sym e)
fresh_by false b r e none =
    ap (λ (t : Emitted). t.reader.half) (emitted-not (shows r.table b) (emitted (with_half (Byte b) r) [] 0) (put_alone b r) e)
    ∙ put_alone-half b r ∙ none ∙ ap (λ (x : Bool). half_by false x b) (sym e)

fresh-half : (b : ℕ) (r : Reader) → r.half ≡ Nothing → (fresh b r).reader.half ≡ half_by false (shows r.table b) b
fresh-half b r none = fresh_by (shows r.table b) b r refl none

released_half : (h : Half) (r : Reader) → r.half ≡ h → (released h r).reader.half ≡ Nothing
released_half Nothing r e = e
released_half (Byte a) r e = put_alone-half a (with_half Nothing r)
released_half (Backspaced a) r e = put_alone-half a (with_half Nothing r)

apart-half : (b : ℕ) (r : Reader) → (released_and_fresh b r).reader.half ≡ half_by false (shows r.table b) b
apart-half b r =
    let s = (released r.half r).reader in
    fresh-half b s (released_half r.half r refl) ∙ ap (λ (t : FixedTable). half_by false (shows t b) b) (released-table r.half r)

-- no stray, and no backspace is left
apart_strays : (a b : ℕ) (r : Reader) → r.half ≡ Backspaced a → 0 < (released_and_fresh b r).strays
apart_strays a b r e =
    let same : (released_and_fresh b r).strays ≡ (1 + (put_alone a (with_half Nothing r)).strays) + (fresh b (put_alone a (with_half Nothing r)).reader).strays =
    ap (λ (h : Half). (then_emitted (released h r) (λ s. fresh b s)).strays) e in
    omega (arith, same)

by_back : (x : Bool) (a b : ℕ) (r : Reader) → (b == 8) ≡ x → (if b == 8 then emitted (with_half (Backspaced a) r) [] 0 else released_and_fresh b r).strays ≡ 0
    → rests (if b == 8 then emitted (with_half (Backspaced a) r) [] 0 else released_and_fresh b r).reader ≡ true
    → (if b == 8 then emitted (with_half (Backspaced a) r) [] 0 else released_and_fresh b r).reader.half ≡ half_by false (shows r.table b) b
by_back true a b r e none rested =
    let here = emitted-if (b == 8) (emitted (with_half (Backspaced a) r) [] 0) (released_and_fresh b r) e in
    let bad : false ≡ true = sym (ap (λ (t : Emitted). rests t.reader) here) ∙ rested in
    absurd (cc)
by_back false a b r e none rested =
    ap (λ (t : Emitted). t.reader.half) (emitted-not (b == 8) (emitted (with_half (Backspaced a) r) [] 0) (released_and_fresh b r) e) ∙ apart-half b r

by_strike : (x : Bool) (a b : ℕ) (r : Reader) → strikes r.table a b ≡ x → r.half ≡ Backspaced a
    → (if strikes r.table a b then out (Over a b) (with_half Nothing r) else released_and_fresh b r).strays ≡ 0
    → (if strikes r.table a b then out (Over a b) (with_half Nothing r) else released_and_fresh b r).reader.half ≡ half_by true (shows r.table b) b
by_strike true a b r e half none = ap (λ (t : Emitted). t.reader.half) (emitted-if (strikes r.table a b) (out (Over a b) (with_half Nothing r)) (released_and_fresh b r) e)
by_strike false a b r e half none =
    let here = emitted-not (strikes r.table a b) (out (Over a b) (with_half Nothing r)) (released_and_fresh b r) e in
    let some = apart_strays a b r half in
    let count : (released_and_fresh b r).strays ≡ 0 = sym (ap (λ (t : Emitted). t.strays) here) ∙ none in
    absurd (omega (arith, some, count))

last_by : (h : Half) (b : ℕ) (r : Reader) → r.half ≡ h → (read_after h b r).strays ≡ 0 → rests (read_after h b r).reader ≡ true
    → (read_after h b r).reader.half ≡ half_by (is_backed h) (shows r.table b) b
unfolding is_backed
last_by Nothing b r e none rested = fresh-half b r e
last_by (Byte a) b r e none rested = by_back (b == 8) a b r refl none rested
last_by (Backspaced a) b r e none rested = by_strike (strikes r.table a b) a b r refl e none

-- whether it is a backspace
half_not_backed : (x y : Bool) (b : ℕ) → is_backed (half_by x y b) ≡ false
unfolding is_backed
half_not_backed true y b = refl
half_not_backed false true b = refl
half_not_backed false false b = refl

and_second : (x y : Bool) → x && y ≡ true → y ≡ true
and_second true y p = p
and_second false y p = absurd (let never : false ≡ true = p in cc)

and_first : (x y : Bool) → x && y ≡ true → x ≡ true
and_first true y p = refl
and_first false y p = p

far_other : (d : ℕ) → nat_lt (code " ") d ≡ true → (d == 8) ≡ false
far_other d far = grind (arith, nat_tests)

pub strikes-other : (t : FixedTable) (a b : ℕ) → strikes t a b ≡ true → (b == 8) ≡ false
strikes-other t a b p = far_other b (and_first (nat_lt (code " ") b) (goes_out t b) (and_second ((a == b) || (a == code "_")) (shows t b) p))

backed_back : (x : Bool) (a b : ℕ) (r : Reader) → strikes r.table a b ≡ x → r.half ≡ Backspaced a
    → (if strikes r.table a b then out (Over a b) (with_half Nothing r) else released_and_fresh b r).strays ≡ 0
    → is_backed (if strikes r.table a b then out (Over a b) (with_half Nothing r) else released_and_fresh b r).reader.half ≡ (b == 8)
unfolding is_backed
backed_back true a b r e half none =
    ap (λ (t : Emitted). is_backed t.reader.half) (emitted-if (strikes r.table a b) (out (Over a b) (with_half Nothing r)) (released_and_fresh b r) e) ∙ sym (strikes-other r.table a b e)
backed_back false a b r e half none =
    let here = emitted-not (strikes r.table a b) (out (Over a b) (with_half Nothing r)) (released_and_fresh b r) e in
    let some = apart_strays a b r half in
    let count : (released_and_fresh b r).strays ≡ 0 = sym (ap (λ (t : Emitted). t.strays) here) ∙ none in
    absurd (omega (arith, some, count))

back_by : (x : Bool) (h : Half) (b : ℕ) (r : Reader) → (b == 8) ≡ x → r.half ≡ h → (read_after h b r).strays ≡ 0 → is_backed (read_after h b r).reader.half ≡ (b == 8)
unfolding is_backed
back_by true Nothing b r e half none =
    let same : b ≡ 8 = grind (arith, nat_tests) in
    let strays : 1 ≡ 0 = sym (ap (λ (c : ℕ). (fresh c r).strays) same) ∙ none in
    absurd (omega (arith, strays))
back_by false Nothing b r e half none = ap is_backed (fresh-half b r half) ∙ half_not_backed false (shows r.table b) b ∙ sym e
back_by true (Byte a) b r e half none = ap (λ (t : Emitted). is_backed t.reader.half) (emitted-if (b == 8) (emitted (with_half (Backspaced a) r) [] 0) (released_and_fresh b r) e) ∙ sym e
back_by false (Byte a) b r e half none =
    ap (λ (t : Emitted). is_backed t.reader.half) (emitted-not (b == 8) (emitted (with_half (Backspaced a) r) [] 0) (released_and_fresh b r) e)
    ∙ ap is_backed (apart-half b r) ∙ half_not_backed false (shows r.table b) b ∙ sym e
back_by x (Backspaced a) b r e half none = backed_back (strikes r.table a b) a b r refl half none

-- ---- many bytes

-- what is half read after them, by whether a backspace stood before
abbrev half_last : FixedTable → Bool → List ℕ → Half
half_last t x [] = Nothing
half_last t x (b ∷ []) = half_by x (shows t b) b
half_last t x (b ∷ c ∷ cs) = half_last t (b == 8) (c ∷ cs)

parts_none : (m n : ℕ) → m + n ≡ 0 → (m ≡ 0) × (n ≡ 0)
parts_none m n e = (omega (arith, e), omega (arith, e))

last-half : (r : Reader) (b : ℕ) (bs : List ℕ) → (fed r (b ∷ bs)).strays ≡ 0 → rests (fed r (b ∷ bs)).reader ≡ true → (fed r (b ∷ bs)).reader.half ≡ half_last r.table (is_backed r.half) (b ∷ bs)
last-half r b [] none rested =
    let count : (read b r).strays ≡ 0 = omega (arith, none) in
    last_by r.half b r refl count rested
last-half r b (c ∷ cs) none rested =
    let s = (read b r).reader in
    let parts = parts_none (read b r).strays (fed s (c ∷ cs)).strays none in
    let back = back_by (b == 8) r.half b r refl refl parts.0 in
    last-half s c cs parts.1 rested
    ∙ ap (λ (t : FixedTable). half_last t (is_backed s.half) (c ∷ cs)) (after_table r.half b r) ∙ ap (λ (x : Bool). half_last r.table x (c ∷ cs)) back

-- by places
abbrev last_of : List ℕ → ℕ
last_of [] = 0
last_of (b ∷ []) = b
last_of (b ∷ c ∷ cs) = last_of (c ∷ cs)

abbrev back_of : Bool → List ℕ → Bool
back_of x [] = x
back_of x (b ∷ []) = x
back_of x (b ∷ c ∷ cs) = back_of (b == 8) (c ∷ cs)

half_last-of : (t : FixedTable) (x : Bool) (b : ℕ) (bs : List ℕ) → half_last t x (b ∷ bs) ≡ half_by (back_of x (b ∷ bs)) (shows t (last_of (b ∷ bs))) (last_of (b ∷ bs))
half_last-of t x b [] = refl
half_last-of t x b (c ∷ cs) = half_last-of t (b == 8) c cs

last_at : (b : ℕ) (bs : List ℕ) → last_of (b ∷ bs) ≡ get_or (b ∷ bs) (length bs) 0
last_at b [] = refl
last_at b (c ∷ cs) = last_at c cs

back_at : (x : Bool) (b c : ℕ) (cs : List ℕ) → back_of x (b ∷ c ∷ cs) ≡ (get_or (b ∷ c ∷ cs) (length cs) 0 == 8)
back_at x b c [] = refl
back_at x b c (d ∷ ds) = back_at (b == 8) c d ds

and_last : (x : Bool) → x && false ≡ false
and_last true = refl
and_last false = refl

and_true : (x : Bool) → x && true ≡ x
and_true true = refl
and_true false = refl

two_more : (n : ℕ) → nat_lt 1 (suc (suc n)) ≡ true
two_more n = grind (arith, nat_tests)

half_places : (t : FixedTable) (b : ℕ) (bs : List ℕ) → half_last t false (b ∷ bs) ≡ half_after t (b ∷ bs)
half_places t b [] = ap (λ (x : Bool). half_by x (shows t b) b) (sym (and_last (b == 8)))
half_places t b (c ∷ cs) =
    let bytes = b ∷ c ∷ cs in
    let last : get_or bytes (length bytes - 1) 0 ≡ last_of bytes =
    (let at : length bytes - 1 ≡ length (c ∷ cs) = omega arith in ap (λ (k : ℕ). get_or bytes k 0) at ∙ sym (last_at b (c ∷ cs))) in
    let back : (get_or bytes (length bytes - 2) 0 == 8) && nat_lt 1 (length bytes) ≡ back_of false bytes =
    (let at : length bytes - 2 ≡ length cs = omega arith in
    ap (λ (x : Bool). (get_or bytes (length bytes - 2) 0 == 8) && x) (two_more (length cs)) ∙ and_true (get_or bytes (length bytes - 2) 0 == 8)
    ∙ ap (λ (k : ℕ). get_or bytes k 0 == 8) at ∙ sym (back_at false b c cs)) in
    half_last-of t false b (c ∷ cs)
    ∙ ap (λ (x : Bool). half_by x (shows t (last_of bytes)) (last_of bytes)) (sym back)
    ∙ ap (λ (k : ℕ). half_by ((get_or bytes (length bytes - 2) 0 == 8) && nat_lt 1 (length bytes)) (shows t k) k) (sym last)

-- ---- what is emitted

-- what was read is emitted, and what may still be struck over is half read
pub record Held (r s : Reader) (xs bytes : List ℕ) : Type 0 where
  pub prefix : List ℕ
  pub all : fed r xs ≡ emitted (with_half (half_after r.table xs) s) prefix 0
  pub split : bytes ≡ prefix ++ half_text r.table (half_after r.table xs)

record HeldBy (h : Half) (t : Emitted) (s : Reader) (bytes : List ℕ) (table : FixedTable) : Type 0 where
  prefix : List ℕ
  all : t ≡ emitted (with_half h s) prefix 0
  split : bytes ≡ prefix ++ half_text table h

goes_by : (x : Bool) (b : ℕ) (r : Reader) → goes_out r.table b ≡ x → (put_alone b r).strays ≡ 0 → goes_out r.table b ≡ true
goes_by true b r e none = e
goes_by false b r e none =
    let one : (put_alone b r).strays ≡ 1 = ap (λ (t : Emitted). t.strays) (emitted-not (goes_out r.table b) (out (Once b) r) (emitted r [] 1) e) in
    absurd (omega (arith, one, none))

goes_other : (x : Bool) (t : FixedTable) (b : ℕ) → (b == 8) ≡ x → goes_out t b ≡ true → (b == 8) ≡ false
goes_other false t b e p = e
goes_other true t b e p =
    let same : b ≡ 8 = grind (arith, nat_tests) in
    let never : false ≡ true = sym (ap (λ (c : ℕ). goes_out t c) same) ∙ p in
    absurd (cc)

pub goes-no_back : (t : FixedTable) (b : ℕ) → goes_out t b ≡ true → (b == 8) ≡ false
goes-no_back t b p = goes_other (b == 8) t b refl p

held_by : (h : Half) (t : Emitted) (s : Reader) (bytes : List ℕ) → t.reader.half ≡ h → let_go_by h t ≡ emitted s bytes 0 → rests_by h t.reader.way ≡ true → t.strays ≡ 0
    → HeldBy h t s bytes t.reader.table
held_by Nothing t s bytes e all rested none =
    let reader : t.reader ≡ s = ap (λ (u : Emitted). u.reader) all in
    let half : s.half ≡ Nothing = sym (ap (λ (q : Reader). q.half) reader) ∙ e in
    record {
      prefix = bytes;
      all = all ∙ ap (λ (q : Reader). emitted q bytes 0) (sym (with-same s half));
      split = sym (append-nil bytes);
    }
held_by (Backspaced a) t s bytes e all rested none = absurd (let never : false ≡ true = rested in cc)
held_by (Byte a) t s bytes e all rested none =
    let q = with_half Nothing t.reader in
    let end : t.strays + (put_alone a q).strays ≡ 0 = ap (λ (u : Emitted). u.strays) all in
    let goes = goes_by (goes_out q.table a) a q refl (omega (arith, end)) in
    let one : put_alone a q ≡ emitted q (text q.table a) 0 =
    emitted-if (goes_out q.table a) (out (Once a) q) (emitted q [] 1) goes
    ∙ emitted-eq _ _ _ _ _ _ (ap (λ (w : _). record q { way = w }) (shut_to t.reader.way rested)) (ap (λ (xs : List ℕ). xs ++ text q.table a) (shut_turning t.reader.way rested)) refl in
    let whole : preceded t.bytes t.strays (emitted q (text q.table a) 0) ≡ emitted s bytes 0 = ap (λ (u : Emitted). preceded t.bytes t.strays u) (sym one) ∙ all in
    let reader : q ≡ s = ap (λ (u : Emitted). u.reader) whole in
    let spelled : t.bytes ++ text q.table a ≡ bytes = ap (λ (u : Emitted). u.bytes) whole in
    let back : with_half (Byte a) s ≡ t.reader = ap (λ (u : Reader). with_half (Byte a) u) (sym reader) ∙ ap (λ (h : Half). with_half h t.reader) (sym e) in
    record {
      prefix = t.bytes;
      all = emitted-eq _ _ _ _ _ _ (sym back) refl none;
      split = sym spelled ∙ ap (λ (xs : List ℕ). t.bytes ++ xs) (sym (byte-text t.reader.table a (goes-no_back t.reader.table a goes)));
    }

pub Makes-held : (r s : Reader) (b : ℕ) (bs bytes : List ℕ) → r.half ≡ Nothing → Makes r s (b ∷ bs) bytes → Held r s (b ∷ bs) bytes
unfolding is_backed
Makes-held r s b bs bytes none m =
    let xs = b ∷ bs in
    let t = fed r xs in
    let end : (let_go t).strays ≡ 0 = ap (λ (u : Emitted). u.strays) m.all in
    let most = more_strays t.reader.half t in
    let strays : t.strays ≡ 0 = omega (arith, end, most) in
    let half : t.reader.half ≡ half_after r.table xs =
    last-half r b bs strays m.rested ∙ ap (λ (h : Half). half_last r.table (is_backed h) xs) none ∙ half_places r.table b bs in
    let h = held_by t.reader.half t s bytes refl m.all m.rested strays in
    let table = fed-table r xs in
    record {
      prefix = h.prefix;
      all = h.all ∙ ap (λ (x : Half). emitted (with_half x s) h.prefix 0) half;
      split = h.split ∙ ap (λ (x : Half). h.prefix ++ half_text t.reader.table x) half ∙ ap (λ (x : FixedTable). h.prefix ++ half_text x (half_after r.table xs)) table;
    }

not_true : (x : Bool) → not x ≡ true → x ≡ false
not_true true p = absurd (let never : false ≡ true = p in cc)
not_true false p = refl

-- ---- what stays

go_table : (h : Half) (t : Emitted) → (let_go_by h t).reader.table ≡ t.reader.table
go_table Nothing t = refl
go_table (Byte a) t = alone_table a (with_half Nothing t.reader)
go_table (Backspaced a) t = refl

pub Makes-table : (r s : Reader) (xs bytes : List ℕ) → Makes r s xs bytes → s.table ≡ r.table
Makes-table r s xs bytes m =
    let t = fed r xs in
    sym (ap (λ (u : Emitted). u.reader.table) m.all) ∙ go_table t.reader.half t ∙ fed-table r xs

go_half : (h : Half) (t : Emitted) → t.reader.half ≡ h → rests_by h t.reader.way ≡ true → (let_go_by h t).reader.half ≡ Nothing
go_half Nothing t e rested = e
go_half (Byte a) t e rested = put_alone-half a (with_half Nothing t.reader)
go_half (Backspaced a) t e rested = absurd (let never : false ≡ true = rested in cc)

pub Makes-half : (r s : Reader) (xs bytes : List ℕ) → Makes r s xs bytes → s.half ≡ Nothing
Makes-half r s xs bytes m =
    let t = fed r xs in
    sym (ap (λ (u : Emitted). u.reader.half) m.all) ∙ go_half t.reader.half t refl m.rested

-- ---- what is half read before

begins-fed : (h : Half) (b : ℕ) (bs : List ℕ) (r : Reader) → r.half ≡ h → begins_by r.table h b ≡ true → fed r (b ∷ bs) ≡ then_emitted (released h r) (λ q. fed q (b ∷ bs))
begins-fed Nothing b bs r e begins = sym (preceded-none (fed r (b ∷ bs)))
begins-fed (Backspaced a) b bs r e begins = absurd (let never : false ≡ true = begins in cc)
begins-fed (Byte a) b bs r e begins =
    let A : Emitted = put_alone a (with_half Nothing r) in
    let none : A.reader.half ≡ Nothing = put_alone-half a (with_half Nothing r) in
    let first : read b r ≡ then_emitted A (λ s. fresh b s) =
    ap (λ (h : Half). read_after h b r) e ∙ emitted-not (b == 8) (emitted (with_half (Backspaced a) r) [] 0) (released_and_fresh b r) (not_true (b == 8) (and_first (not (b == 8)) (goes_out r.table a) begins))
    ∙ ap (λ (h : Half). then_emitted (released h r) (λ s. fresh b s)) e in
    ap (λ (v : Emitted). then_emitted v (λ u. fed u bs)) first ∙ then-then A (λ s. fresh b s) (λ u. fed u bs)
    ∙ ap (λ (v : Emitted). preceded A.bytes A.strays (then_emitted v (λ u. fed u bs))) (sym (read-fresh b A.reader none))

pub begins-released : (h : Half) (b : ℕ) (r : Reader) → r.half ≡ h → begins_by r.table h b ≡ true → ((released h r).strays ≡ 0) × ((released h r).reader.half ≡ Nothing)
begins-released Nothing b r e begins = (refl, e)
begins-released (Backspaced a) b r e begins = absurd (let never : false ≡ true = begins in cc)
begins-released (Byte a) b r e begins =
    let goes = and_second (not (b == 8)) (goes_out r.table a) begins in
    (ap (λ (t : Emitted). t.strays) (emitted-if (goes_out r.table a) (out (Once a) (with_half Nothing r)) (emitted (with_half Nothing r) [] 1) goes), put_alone-half a (with_half Nothing r))

pub fed-begins : (b : ℕ) (bs : List ℕ) (r s : Reader) (bytes : List ℕ) → begins_by r.table r.half b ≡ true → s ≡ (released r.half r).reader → bytes ≡ (released r.half r).bytes
    → fed r (b ∷ bs) ≡ preceded bytes 0 (fed s (b ∷ bs))
fed-begins b bs r s bytes begins is same =
    let none = (begins-released r.half b r refl begins).0 in
    begins-fed r.half b bs r refl begins
    ∙ ap (λ (n : ℕ). preceded (released r.half r).bytes n (fed (released r.half r).reader (b ∷ bs))) none
    ∙ ap (λ (xs : List ℕ). preceded xs 0 (fed (released r.half r).reader (b ∷ bs))) (sym same)
    ∙ ap (λ (q : Reader). preceded bytes 0 (fed q (b ∷ bs))) (sym is)

-- ---- what is kept of the table serves on

pub serves-as : (p : Spelling) (r s : Reader) → s.table ≡ r.table → Serves p r → Serves p s
serves-as p r s e serves =
    let P : FixedTable → Type 0 = λ t. Spells t 256 p.all p.whole in
    subst P (sym e) serves

pub read-table : (b : ℕ) (r s : Reader) → s ≡ (read b r).reader → s.table ≡ r.table
read-table b r s e = ap (λ (q : Reader). q.table) e ∙ after_table r.half b r

pub ended-table : (r s : Reader) → s ≡ (ended r).reader → s.table ≡ r.table
ended-table r s e = ap (λ (q : Reader). q.table) e ∙ released-table r.half r

pub Reads-table : (r s : Reader) (bs : List ℕ) (n : ℕ) (room : List ℕ) (end : ℕ) → Reads r s bs n room end → s.table ≡ r.table
Reads-table r s bs n room end reads = sym (ap (λ (t : Emitted). t.reader.table) reads.all) ∙ fed-table r (take n bs)

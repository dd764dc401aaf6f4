-- What is read byte by byte is what is read into cells.
use Prim.Native.Char.{code}
use Rattle.std.proofs.Common.{◌≡◌, ℕ, ◌+◌, ◌-◌, ◌≤◌, List, [], ◌∷◌, ◌++◌, length, Bool, true, false, ◌==◌, ◌&&◌, ◌||◌, if◌then◌else◌, refl, sym, subst, ap, ◌∙◌, append-nil, append_assoc, arith}
use Rattle.std.proofs.lemmas.Bool.Decides.{nat_tests}
use Rattle.nr_vectors.specs.declared.cell.Look.TheVariants.{Plain}
use Rattle.utf8_characters.specs.declared.table.FixedTable.{FixedTable}
use Rattle.utf8_converter.specs.declared.reader.Half.{Half}
use Rattle.utf8_converter.specs.declared.reader.Half.TheVariants.{Nothing, Byte, Backspaced}
use Rattle.utf8_converter.specs.declared.reader.Way.{Way}
use Rattle.utf8_converter.specs.declared.reader.Reader.{Reader}
use Rattle.utf8_converter.specs.Cells.{Cell, Once, Over, alone, cells, converted, drawn, goes_out, printed, shows, size, sizes, strays_of, strikes, turning, way_after}
use Rattle.utf8_converter.specs.Reading.{Emitted, preceded, ended, fed, first_reader, fresh, out, put_alone, read, read_after, released, released_and_fresh, shut, then_emitted, emitted, with_half}

-- ---- cells after one another

-- what they come to, and the way after them
abbrev pub drawn_all : FixedTable → Way → List Cell → List ℕ
drawn_all table way [] = []
drawn_all table way (c ∷ cs) = drawn table way c ++ drawn_all table (way_after way c) cs

abbrev pub ways_after : Way → List Cell → Way
ways_after way [] = way
ways_after way (c ∷ cs) = ways_after (way_after way c) cs

drawn-append : (t : FixedTable) (w : Way) (cs ds : List Cell) → drawn_all t w (cs ++ ds) ≡ drawn_all t w cs ++ drawn_all t (ways_after w cs) ds
drawn-append t w [] ds = refl
drawn-append t w (c ∷ cs) ds =
    ap (λ (xs : List ℕ). drawn t w c ++ xs) (drawn-append t (way_after w c) cs ds)
    ∙ sym (append_assoc (drawn t w c) (drawn_all t (way_after w c) cs) (drawn_all t (ways_after (way_after w c) cs) ds))

ways-append : (w : Way) (cs ds : List Cell) → ways_after w (cs ++ ds) ≡ ways_after (ways_after w cs) ds
ways-append w [] ds = refl
ways-append w (c ∷ cs) ds = ways-append (way_after w c) cs ds

printed-append : (t : FixedTable) (w : Way) (cs ds : List Cell) → printed t w (cs ++ ds) ≡ drawn_all t w cs ++ printed t (ways_after w cs) ds
printed-append t w [] ds = refl
printed-append t w (c ∷ cs) ds =
    ap (λ (xs : List ℕ). drawn t w c ++ xs) (printed-append t (way_after w c) cs ds)
    ∙ sym (append_assoc (drawn t w c) (drawn_all t (way_after w c) cs) (printed t (ways_after (way_after w c) cs) ds))

more : (n a b : ℕ) → n + (a + b) ≡ n + a + b
more n a b = omega arith

sizes-append : (cs ds : List Cell) → sizes (cs ++ ds) ≡ sizes cs + sizes ds
sizes-append [] ds = omega arith
sizes-append (c ∷ cs) ds = ap (λ (n : ℕ). size c + n) (sizes-append cs ds) ∙ more (size c) (sizes cs) (sizes ds)

-- ---- what was emitted is that of cells

pub record Drawn (r : Reader) (cs : List Cell) (t : Emitted) : Type 0 where
  pub bytes : t.bytes ≡ drawn_all r.table r.way cs
  pub way : t.reader.way ≡ ways_after r.way cs
  pub table : t.reader.table ≡ r.table

drawn-nothing : (r s : Reader) (n : ℕ) → s.way ≡ r.way → s.table ≡ r.table → Drawn r [] (emitted s [] n)
drawn-nothing r s n w t = record { bytes = refl; way = w; table = t }

drawn-out : (r : Reader) (c : Cell) → Drawn r (c ∷ []) (out c r)
drawn-out r c = record { bytes = sym (append-nil (drawn r.table r.way c)); way = refl; table = refl }

drawn-then : (r : Reader) (cs ds : List Cell) (t : Emitted) (next : Reader → Emitted) → Drawn r cs t → Drawn t.reader ds (next t.reader) → Drawn r (cs ++ ds) (then_emitted t next)
drawn-then r cs ds t next p q =
    let P : FixedTable → Type 0 = λ x. (next t.reader).bytes ≡ drawn_all x t.reader.way ds in
    let Q : Way → Type 0 = λ x. (next t.reader).bytes ≡ drawn_all r.table x ds in
    let bytes = subst Q p.way (subst P p.table q.bytes) in
    record {
      bytes =
          ap (λ (xs : List ℕ). xs ++ (next t.reader).bytes) p.bytes ∙ ap (λ (xs : List ℕ). drawn_all r.table r.way cs ++ xs) bytes
          ∙ sym (drawn-append r.table r.way cs ds);
      way = q.way ∙ ap (λ (x : Way). ways_after x ds) p.way ∙ sym (ways-append r.way cs ds);
      table = q.table ∙ p.table;
    }

drawn-preceded : (r : Reader) (cs : List Cell) (n : ℕ) (t : Emitted) → Drawn r cs t → Drawn r cs (preceded [] n t)
drawn-preceded r cs n t p = record { bytes = p.bytes; way = p.way; table = p.table }

drawn-half : (r s : Reader) (cs : List Cell) (t : Emitted) → s.way ≡ r.way → s.table ≡ r.table → Drawn s cs t → Drawn r cs t
drawn-half r s cs t w u p =
    let P : FixedTable → Type 0 = λ x. t.bytes ≡ drawn_all x s.way cs in
    let Q : Way → Type 0 = λ x. t.bytes ≡ drawn_all r.table x cs in
    record { bytes = subst Q w (subst P u p.bytes); way = p.way ∙ ap (λ (x : Way). ways_after x cs) w; table = p.table ∙ u }

-- ---- one byte

-- the bytes that are half read
abbrev pub half_read : Half → List ℕ
half_read Nothing = []
half_read (Byte a) = a ∷ []
half_read (Backspaced a) = a ∷ 8 ∷ []

cells-if : (x : Bool) (cs ds : List Cell) → x ≡ true → (if x then cs else ds) ≡ cs
cells-if true cs ds p = refl
cells-if false cs ds p = absurd (let never : false ≡ true = p in cc)

cells-not : (x : Bool) (cs ds : List Cell) → x ≡ false → (if x then cs else ds) ≡ ds
cells-not true cs ds p = absurd (let never : true ≡ false = p in cc)
cells-not false cs ds p = refl

and_false : (x y : Bool) → x ≡ false → x && y ≡ false
and_false true y p = absurd (let never : true ≡ false = p in cc)
and_false false y p = refl

-- no cell of a byte and what comes
apart-by : (t : FixedTable) (a : ℕ) (rest : List ℕ) → ((b c : ℕ) → (b == 8) && strikes t a c ≡ false) → cells t (a ∷ rest) ≡ alone t a ++ cells t rest
apart-by t a [] isnt = sym (append-nil (alone t a))
apart-by t a (b ∷ []) isnt = refl
apart-by t a (b ∷ c ∷ bs) isnt = cells-not ((b == 8) && strikes t a c) (Over a c ∷ cells t bs) (alone t a ++ cells t (b ∷ c ∷ bs)) (isnt b c)

-- no backspace comes
pub apart-next : (t : FixedTable) (a b : ℕ) (rest : List ℕ) → (b == 8) ≡ false → cells t (a ∷ b ∷ rest) ≡ alone t a ++ cells t (b ∷ rest)
apart-next t a b [] isnt = refl
apart-next t a b (c ∷ bs) isnt = cells-not ((b == 8) && strikes t a c) (Over a c ∷ cells t bs) (alone t a ++ cells t (b ∷ c ∷ bs)) (and_false (b == 8) (strikes t a c) isnt)

-- nothing is struck over what doesn't show
same_byte : (a c : ℕ) → (a == c) ≡ true → a ≡ c
same_byte a c p = grind (arith, nat_tests)

strikes_by : (t : FixedTable) (a c : ℕ) (x y : Bool) → (a == c) ≡ x → (a == code "_") ≡ y → shows t a ≡ false → (x || y) && shows t c ≡ false
strikes_by t a c true y e f hidden = ap (λ (b : ℕ). shows t b) (sym (same_byte a c e)) ∙ hidden
strikes_by t a c false true e f hidden =
    let line : shows t a ≡ true = ap (λ (b : ℕ). shows t b) (same_byte a (code "_") f) in
    absurd (let never : true ≡ false = sym line ∙ hidden in cc)
strikes_by t a c false false e f hidden = refl

pub hidden-strikes : (t : FixedTable) (a c : ℕ) → shows t a ≡ false → strikes t a c ≡ false
hidden-strikes t a c hidden = strikes_by t a c (a == c) (a == code "_") refl refl hidden

both_false : (x y : Bool) → y ≡ false → x && y ≡ false
both_false true y p = p
both_false false y p = refl

pub apart-hidden : (t : FixedTable) (a : ℕ) (rest : List ℕ) → shows t a ≡ false → cells t (a ∷ rest) ≡ alone t a ++ cells t rest
apart-hidden t a rest hidden = apart-by t a rest (λ b c. both_false (b == 8) (strikes t a c) (hidden-strikes t a c hidden))

-- what is emitted of a byte, and what it is in what came
record Kept (r : Reader) (h : Half) (b : ℕ) (t : Emitted) : Type 0 where
  marks : List Cell
  all : Drawn r marks t
  moves : (rest : List ℕ) → cells r.table (half_read h ++ b ∷ rest) ≡ marks ++ cells r.table (half_read t.reader.half ++ rest)
  count : length (half_read h) + 1 ≡ sizes marks + t.strays + length (half_read t.reader.half)

kept-if : (r : Reader) (h : Half) (b : ℕ) (x : Bool) (t u : Emitted) → (x ≡ true → Kept r h b t) → (x ≡ false → Kept r h b u) → Kept r h b (if x then t else u)
kept-if r h b true t u p q = p refl
kept-if r h b false t u p q = q refl

-- a byte by itself
record Alone (r : Reader) (b : ℕ) (cs : List Cell) (t : Emitted) : Type 0 where
  all : Drawn r cs t
  count : 1 ≡ sizes cs + t.strays
  half : t.reader.half ≡ r.half

alone-by : (x : Bool) (b : ℕ) (r : Reader) → Alone r b (if x then Once b ∷ [] else []) (if x then out (Once b) r else emitted r [] 1)
alone-by true b r = record { all = drawn-out r (Once b); count = omega arith; half = refl }
alone-by false b r = record { all = drawn-nothing r r 1 refl refl; count = omega arith; half = refl }

is-alone : (b : ℕ) (r : Reader) → Alone r b (alone r.table b) (put_alone b r)
is-alone b r = alone-by (goes_out r.table b) b r

half_same : (t : FixedTable) (h k : Half) (cs : List Cell) (rest : List ℕ) → h ≡ k → cs ++ cells t (half_read h ++ rest) ≡ cs ++ cells t (half_read k ++ rest)
half_same t h k cs rest e = ap (λ (x : Half). cs ++ cells t (half_read x ++ rest)) e

nothing_half : (h : Half) → h ≡ Nothing → length (half_read h) ≡ 0
nothing_half h e = ap (λ (x : Half). length (half_read x)) e

kept-fresh : (b : ℕ) (r : Reader) → r.half ≡ Nothing → Kept r Nothing b (fresh b r)
kept-fresh b r e =
    kept-if r Nothing b (shows r.table b) (emitted (with_half (Byte b) r) [] 0) (put_alone b r)
    (λ is. record {
      marks = [];
      all = drawn-nothing r (with_half (Byte b) r) 0 refl refl;
      moves = λ rest. refl;
      count = omega arith;
    })
    (λ hidden. let a = is-alone b r in
    let none = nothing_half (put_alone b r).reader.half (a.half ∙ e) in
    let one = a.count in
    record {
      marks = alone r.table b;
      all = a.all;
      moves = λ rest. apart-hidden r.table b rest hidden ∙ half_same r.table Nothing (put_alone b r).reader.half (alone r.table b) rest (sym (a.half ∙ e));
      count = omega (arith, none, one);
    })

-- what is half read is apart from what comes
kept-apart : (h : Half) (b : ℕ) (r : Reader) → (marks : List Cell) → Drawn r marks (released h r) → (released h r).reader.half ≡ Nothing
    → length (half_read h) ≡ sizes marks + (released h r).strays
    → ((rest : List ℕ) → cells r.table (half_read h ++ b ∷ rest) ≡ marks ++ cells r.table (b ∷ rest)) → Kept r h b (then_emitted (released h r) (λ s. fresh b s))
kept-apart h b r marks all half count apart =
    let t = released h r in
    let next = kept-fresh b t.reader half in
    let P : FixedTable → Type 0 = λ x. (rest : List ℕ) → cells x (b ∷ rest) ≡ next.marks ++ cells x (half_read (fresh b t.reader).reader.half ++ rest) in
    let moves = subst P all.table next.moves in
    let both = sizes-append marks next.marks in
    let later = next.count in
    record {
      marks = marks ++ next.marks;
      all = drawn-then r marks next.marks t (λ s. fresh b s) all next.all;
      moves = λ rest. apart rest ∙ ap (λ (cs : List Cell). marks ++ cs) (moves rest) ∙ sym (append_assoc marks next.marks (cells r.table (half_read (fresh b t.reader).reader.half ++ rest)));
      count = omega (arith, both, later, count);
    }

released-byte : (a b : ℕ) (r : Reader) → (b == 8) ≡ false → Kept r (Byte a) b (then_emitted (released (Byte a) r) (λ s. fresh b s))
released-byte a b r isnt =
    let s = with_half Nothing r in
    let one = is-alone a s in
    let count = one.count in
    kept-apart (Byte a) b r (alone r.table a) (drawn-half r s (alone r.table a) (put_alone a s) refl refl one.all) one.half (omega (arith, count)) (λ rest. apart-next r.table a b rest isnt)

-- a backspace that strikes nothing
apart-back : (t : FixedTable) (a b : ℕ) (rest : List ℕ) → strikes t a b ≡ false → cells t (a ∷ 8 ∷ b ∷ rest) ≡ alone t a ++ cells t (b ∷ rest)
apart-back t a b rest isnt =
    cells-not ((8 == 8) && strikes t a b) (Over a b ∷ cells t rest) (alone t a ++ cells t (8 ∷ b ∷ rest)) isnt
    ∙ ap (λ (cs : List Cell). alone t a ++ cs) (apart-hidden t 8 (b ∷ rest) refl)

released-backspaced : (a b : ℕ) (r : Reader) → strikes r.table a b ≡ false → Kept r (Backspaced a) b (then_emitted (released (Backspaced a) r) (λ s. fresh b s))
released-backspaced a b r isnt =
    let s = with_half Nothing r in
    let one = is-alone a s in
    let count = one.count in
    kept-apart (Backspaced a) b r (alone r.table a)
    (drawn-preceded r (alone r.table a) 1 (put_alone a s) (drawn-half r s (alone r.table a) (put_alone a s) refl refl one.all)) one.half (omega (arith, count)) (λ rest. apart-back r.table a b rest isnt)

is_backspace : (b : ℕ) → (b == 8) ≡ true → b ≡ 8
is_backspace b p = grind (arith, nat_tests)

half_as : (h : Half) (b : ℕ) (r : Reader) → r.half ≡ h → Kept r h b (then_emitted (released h r) (λ s. fresh b s)) → Kept r h b (released_and_fresh b r)
half_as h b r e k =
    let P : Half → Type 0 = λ x. Kept r h b (then_emitted (released x r) (λ s. fresh b s)) in
    subst P (sym e) k

kept-read : (h : Half) (b : ℕ) (r : Reader) → r.half ≡ h → Kept r h b (read_after h b r)
kept-read Nothing b r e = kept-fresh b r e
kept-read (Byte a) b r e =
    kept-if r (Byte a) b (b == 8) (emitted (with_half (Backspaced a) r) [] 0) (released_and_fresh b r)
    (λ is. record {
      marks = [];
      all = drawn-nothing r (with_half (Backspaced a) r) 0 refl refl;
      moves = λ rest. ap (λ (x : ℕ). cells r.table (a ∷ x ∷ rest)) (is_backspace b is);
      count = omega arith;
    })
    (λ other. half_as (Byte a) b r e (released-byte a b r other))
kept-read (Backspaced a) b r e =
    kept-if r (Backspaced a) b (strikes r.table a b) (out (Over a b) (with_half Nothing r)) (released_and_fresh b r)
    (λ is. record {
      marks = Over a b ∷ [];
      all = drawn-half r (with_half Nothing r) (Over a b ∷ []) (out (Over a b) (with_half Nothing r)) refl refl (drawn-out (with_half Nothing r) (Over a b));
      moves = λ rest. cells-if ((8 == 8) && strikes r.table a b) (Over a b ∷ cells r.table rest) (alone r.table a ++ cells r.table (8 ∷ b ∷ rest)) is;
      count = omega arith;
    })
    (λ other. half_as (Backspaced a) b r e (released-backspaced a b r other))

-- ---- many bytes

pub record KeptAll (r : Reader) (bs : List ℕ) (t : Emitted) : Type 0 where
  pub marks : List Cell
  pub all : Drawn r marks t
  pub moves : cells r.table (half_read r.half ++ bs) ≡ marks ++ cells r.table (half_read t.reader.half)
  pub count : length (half_read r.half) + length bs ≡ sizes marks + t.strays + length (half_read t.reader.half)

pub kept-all : (bs : List ℕ) (r : Reader) → KeptAll r bs (fed r bs)
kept-all [] r = record {
  marks = [];
  all = drawn-nothing r r 0 refl refl;
  moves = ap (cells r.table) (append-nil (half_read r.half));
  count = omega arith;
}
kept-all (b ∷ bs) r =
    let one = kept-read r.half b r refl in
    let s = (read b r).reader in
    let rest = kept-all bs s in
    let last = (fed s bs).reader in
    let P : FixedTable → Type 0 = λ t. cells t (half_read s.half ++ bs) ≡ rest.marks ++ cells t (half_read last.half) in
    let both = sizes-append one.marks rest.marks in
    let first = one.count in
    let later = rest.count in
    record {
      marks = one.marks ++ rest.marks;
      all = drawn-then r one.marks rest.marks (read b r) (λ q. fed q bs) one.all rest.all;
      moves =
          one.moves bs ∙ ap (λ (ks : List Cell). one.marks ++ ks) (subst P one.all.table rest.moves)
          ∙ sym (append_assoc one.marks rest.marks (cells r.table (half_read last.half)));
      count = omega (arith, both, first, later);
    }

-- the end comes
record Ends (r : Reader) (h : Half) (t : Emitted) : Type 0 where
  bytes : t.bytes ≡ printed r.table r.way (cells r.table (half_read h))
  count : length (half_read h) ≡ sizes (cells r.table (half_read h)) + t.strays

ends-by : (r : Reader) (h : Half) (cs : List Cell) (t : Emitted) → Drawn r cs t → cells r.table (half_read h) ≡ cs → length (half_read h) ≡ sizes cs + t.strays
    → Ends r h (then_emitted t (λ s. shut s))
ends-by r h cs t all is count =
    let both = printed-append r.table r.way cs [] in
    let long : sizes (cells r.table (half_read h)) ≡ sizes cs = ap sizes is in
    record {
      bytes =
          ap (λ (xs : List ℕ). xs ++ turning t.reader.way Plain) all.bytes ∙ ap (λ (w : Way). drawn_all r.table r.way cs ++ turning w Plain) all.way
          ∙ sym both ∙ ap (λ (ds : List Cell). printed r.table r.way ds) (append-nil cs ∙ sym is);
      count = omega (arith, count, long);
    }

ends : (h : Half) (r : Reader) → Ends r h (then_emitted (released h r) (λ s. shut s))
ends Nothing r = ends-by r Nothing [] (emitted r [] 0) (drawn-nothing r r 0 refl refl) refl (omega arith)
ends (Byte a) r =
    let s = with_half Nothing r in
    let one = is-alone a s in
    let count = one.count in
    ends-by r (Byte a) (alone r.table a) (put_alone a s) (drawn-half r s (alone r.table a) (put_alone a s) refl refl one.all) refl (omega (arith, count))
ends (Backspaced a) r =
    let s = with_half Nothing r in
    let one = is-alone a s in
    let count = one.count in
    ends-by r (Backspaced a) (alone r.table a) (preceded [] 1 (put_alone a s))
    (drawn-preceded r (alone r.table a) 1 (put_alone a s) (drawn-half r s (alone r.table a) (put_alone a s) refl refl one.all)) (append-nil (alone r.table a)) (omega (arith, count))

-- ---- all bytes of an input

-- what is printed of the cells is what goes out of the bytes, one by one
pub converted-fed : (d : FixedTable) (e : Bool) (bs : List ℕ) → converted d e bs ≡ (fed (first_reader d e) bs).bytes ++ (ended (fed (first_reader d e) bs).reader).bytes
converted-fed d e bs =
    let first = first_reader d e in
    let t = fed first bs in
    let all = kept-all bs first in
    let end = ends t.reader.half t.reader in
    let left = cells d (half_read t.reader.half) in
    let P : FixedTable → Type 0 = λ x. (ended t.reader).bytes ≡ printed x t.reader.way (cells x (half_read t.reader.half)) in
    let Q : Way → Type 0 = λ x. (ended t.reader).bytes ≡ printed d x left in
    let last = subst Q all.all.way (subst P all.all.table end.bytes) in
    ap (λ (cs : List Cell). printed d first.way cs) all.moves ∙ printed-append d first.way all.marks left
    ∙ ap (λ (xs : List ℕ). xs ++ printed d (ways_after first.way all.marks) left) (sym all.all.bytes)
    ∙ ap (λ (xs : List ℕ). t.bytes ++ xs) (sym last)

less : (n m k : ℕ) → n ≡ m + k → n - m ≡ k
less n m k e = omega (arith, e)

-- each byte is in a cell or was dropped
pub strays-fed : (d : FixedTable) (e : Bool) (bs : List ℕ) → strays_of d bs ≡ (fed (first_reader d e) bs).strays + (ended (fed (first_reader d e) bs).reader).strays
strays-fed d e bs =
    let first = first_reader d e in
    let t = fed first bs in
    let all = kept-all bs first in
    let end = ends t.reader.half t.reader in
    let left = cells d (half_read t.reader.half) in
    let P : FixedTable → Type 0 = λ x. length (half_read t.reader.half) ≡ sizes (cells x (half_read t.reader.half)) + (ended t.reader).strays in
    let last : length (half_read t.reader.half) ≡ sizes left + (ended t.reader).strays = subst P all.all.table end.count in
    let whole : sizes (cells d bs) ≡ sizes (all.marks ++ left) = ap sizes all.moves in
    let both = sizes-append all.marks left in
    let count : 0 + length bs ≡ sizes all.marks + t.strays + length (half_read t.reader.half) = all.count in
    less (length bs) (sizes (cells d bs)) (t.strays + (ended t.reader).strays) (omega (arith, last, whole, both, count))

pub few_cells : (d : FixedTable) (e : Bool) (bs : List ℕ) → sizes (cells d bs) ≤ length bs
few_cells d e bs =
    let first = first_reader d e in
    let t = fed first bs in
    let all = kept-all bs first in
    let end = ends t.reader.half t.reader in
    let left = cells d (half_read t.reader.half) in
    let P : FixedTable → Type 0 = λ x. length (half_read t.reader.half) ≡ sizes (cells x (half_read t.reader.half)) + (ended t.reader).strays in
    let last : length (half_read t.reader.half) ≡ sizes left + (ended t.reader).strays = subst P all.all.table end.count in
    let whole : sizes (cells d bs) ≡ sizes (all.marks ++ left) = ap sizes all.moves in
    let both = sizes-append all.marks left in
    let count : 0 + length bs ≡ sizes all.marks + t.strays + length (half_read t.reader.half) = all.count in
    omega (arith, last, whole, both, count)

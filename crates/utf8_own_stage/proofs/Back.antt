-- A coded text comes back, with points in it.
use Prim.Native.Char as char
use Rattle.std.proofs.Common.{◌≡◌, ℕ, ◌%◌, ◌<◌, List, [], ◌∷◌, ◌++◌, Bool, true, false, if◌then◌else◌, Option, None, Some, is_some, map, codes, flat_map, refl, sym, ◌∙◌, ap, append_assoc, append-nil, arith}
use Rattle.std.proofs.lemmas.Grind.{flat_map-append}
use Rattle.utf8_own_characters.specs.declared.cluster.Cluster.{Cluster}
use Rattle.utf8_own_characters.specs.declared.table.Code.{Code}
use Rattle.utf8_own_characters.specs.declared.table.Code.TheVariants.{One, Two}
use Rattle.utf8_own_characters.specs.declared.listening.Listener.{Listener}
use Rattle.utf8_own_characters.specs.Cluster.{single, is_same, is_ascii, is_mark}
use Rattle.utf8_own_characters.specs.Decoding.{decoded, listed}
use Rattle.utf8_own_characters.specs.Listening.{is_unseen, takes_marks, going, hear_mark, hear_letter, heard, read, first, after}
use Rattle.utf8_own_characters.specs.Reading.{decode, list_of}
use Rattle.utf8_own_characters.specs.Table.{Characters, code, code_at, place_of, bytes, bytes_in, covers}
use Rattle.utf8_own_characters.proofs.Places.{cluster_same}
use Rattle.utf8_own_characters.proofs.RowLaws.{inverse_whole}
use Rattle.utf8_own_characters.proofs.Tests.{no_bool, no_some, some_of, and_first, and_second, and_true, if_so, lt_so}
use Rattle.utf8_own_stage.specs.declared.points.Place.{Place}
use Rattle.utf8_own_stage.specs.declared.points.Point.{Point}
use Rattle.utf8_own_stage.specs.declared.points.Point.TheVariants.{Nothing, Cut, Waited, Joint}
use Rattle.utf8_own_stage.specs.declared.points.Waiting.{Waiting}
use Rattle.utf8_own_stage.specs.declared.points.Waiting.TheVariants as waiting
use Rattle.utf8_own_stage.specs.Coding.{coded_by, coded, kept, put_at, said_cluster, after_cluster, said_byte, after_byte, said, place_after, said_of, said_last, place_after_all, coding}
use Rattle.utf8_own_stage.specs.Laws.{cells_of, cells_from, cells_in, cell_at, pointed_from, pointed, ComesBack}
use Rattle.utf8_own_stage.specs.Points.{first_place, is_waiting, left, newline, passed, point, read_as, text_of, waiting_text}
use Rattle.utf8_own_stage.proofs.ReadAs.{single_read}

-- ---- what is covered

covers-append : (t : Characters) (xs ys : List Cluster) → covers t (xs ++ ys) ≡ true → (covers t xs ≡ true) × (covers t ys ≡ true)
covers-append t [] ys p = (refl, p)
covers-append t (x ∷ xs) ys p =
    let rest = covers-append t xs ys (and_second (is_some (code t x)) (covers t (xs ++ ys)) p) in
    (and_true (is_some (code t x)) (covers t xs) (and_first (is_some (code t x)) (covers t (xs ++ ys)) p) rest.0, rest.1)

coded_is : (o : Option Code) (letter : ℕ) → is_some o ≡ true → coded_by o letter ≡ bytes_in o
coded_is None letter p = no_bool (sym p)
coded_is (Some (One b)) letter p = refl
coded_is (Some (Two lead trail)) letter p = refl

coded_bytes : (t : Characters) (c : Cluster) → covers t (c ∷ []) ≡ true → coded t c ≡ bytes t c
coded_bytes t c p = coded_is (code t c) c.letter (and_first (is_some (code t c)) true p)

ascii_bytes : (t : Characters) (n : ℕ) → n < 128 → n ∷ [] ≡ bytes t (single n)
ascii_bytes t n low =
    sym (ap bytes_in (if_so (is_ascii (single n)) (Some (One n)) (code_at t (place_of t.narrow (single n)) (place_of t.wide (single n)))
    (and_true _ (is_same (single n) (single n)) (lt_so n 128 low) (cluster_same (single n) (single n) refl))))

-- ---- a byte of ASCII

low_by : (x : Bool) (c n : ℕ) → (if x then None else Some (c % 128)) ≡ Some n → n < 128
low_by true c n e = no_some n e
low_by false c n e = let same : c % 128 ≡ n = some_of (c % 128) n e in omega (arith, same)

low_hear : (u m : Bool) (l : Listener) (c n : ℕ) → (if u then going l l.held else if m then hear_mark l c else hear_letter l c).byte ≡ Some n → n < 128
low_hear true m l c n e = no_some n e
low_hear false true l c n e = no_some n e
low_hear false false l c n e = low_by (takes_marks c l.is_plain) c n e

low_heard : (l : Listener) (o : Option ℕ) (n : ℕ) → (heard l o).byte ≡ Some n → n < 128
low_heard l None n e = no_some n e
low_heard l (Some c) n e = low_hear (is_unseen c) (is_mark c) l c n e

low_read : (l : Listener) (b n : ℕ) → (read l b).byte ≡ Some n → n < 128
low_read l b n e = low_heard (record l { part = (decoded l.part b).part }) (decoded l.part b).character n e

-- ---- what goes out before a character

waiting_back : (t : Characters) (w : Waiting) → waiting_text w ≡ flat_map (bytes t) (map single (waiting_text w))
waiting_back t waiting.Nothing = refl
waiting_back t waiting.Newline = refl
waiting_back t waiting.Escape = refl
waiting_back t waiting.Name = refl
waiting_back t (waiting.Font name) =
    ap (λ (z : List ℕ). newline ∷ char.code "\\" ∷ char.code "f" ∷ (z ++ [])) (ascii_bytes t (name % 128) (omega arith))

single_covered : (t : Characters) (n : ℕ) → n < 128 → is_some (code t (single n)) ≡ true
single_covered t n low =
    ap is_some (if_so (is_ascii (single n)) (Some (One n)) (code_at t (place_of t.narrow (single n)) (place_of t.wide (single n)))
    (and_true _ (is_same (single n) (single n)) (lt_so n 128 low) (cluster_same (single n) (single n) refl)))

waiting_covered : (t : Characters) (w : Waiting) → covers t (map single (waiting_text w)) ≡ true
waiting_covered t waiting.Nothing = refl
waiting_covered t waiting.Newline = refl
waiting_covered t waiting.Escape = refl
waiting_covered t waiting.Name = refl
waiting_covered t (waiting.Font name) = and_true (is_some (code t (single (name % 128)))) true (single_covered t (name % 128) (omega arith)) refl

point_back : (t : Characters) (w : Waiting) (x : Point) → text_of w x ≡ flat_map (bytes t) (map single (text_of w x))
point_back t w Nothing = refl
point_back t w Cut = refl
point_back t w Waited = waiting_back t w
point_back t w Joint = ap (λ (z : List ℕ). codes "\\(zj" ++ z) (waiting_back t w)

point_covered : (t : Characters) (w : Waiting) (x : Point) → covers t (map single (text_of w x)) ≡ true
point_covered t w Nothing = refl
point_covered t w Cut = refl
point_covered t w Waited = waiting_covered t w
point_covered t w Joint = waiting_covered t w

left_back : (t : Characters) (p : Place) → left p ≡ flat_map (bytes t) (map single (left p))
left_back t p = waiting_back t p.waits

kept_back : (t : Characters) (c : Cluster) (waits : Bool) (bs : List ℕ) → bs ≡ bytes t c
    → kept waits bs ≡ flat_map (bytes t) (if waits then [] else c ∷ [])
kept_back t c true bs is = refl
kept_back t c false bs is = is ∙ sym (append-nil (bytes t c))

joined : (t : Characters) (xs ys : List Cluster) (a b : List ℕ) → a ≡ flat_map (bytes t) xs → b ≡ flat_map (bytes t) ys → a ++ b ≡ flat_map (bytes t) (xs ++ ys)
joined t xs ys a b first second =
    ap (λ (z : List ℕ). z ++ b) first
    ∙ ap (λ (z : List ℕ). flat_map (bytes t) xs ++ z) second
    ∙ sym (flat_map-append (bytes t) xs ys)

-- a cell with what goes out before it, and what comes then
cell_back : (t : Characters) (p : Place) (c : Cluster) (bs rest : List ℕ) (cells : List Cluster) → bs ≡ bytes t c → rest ≡ flat_map (bytes t) cells
    → put_at p (read_as c) bs ++ rest ≡ flat_map (bytes t) (cell_at p c ++ cells)
cell_back t p c bs rest cells is after =
    let r = read_as c in
    let x = point p r in
    let w = is_waiting (passed p r).waits in
    joined t (cell_at p c) cells (put_at p r bs) rest
    (joined t (map single (text_of p.waits x)) (if w then [] else c ∷ []) (text_of p.waits x) (kept w bs) (point_back t p.waits x) (kept_back t c w bs is)) after

-- of a byte
byte_back : (t : Characters) (p : Place) (n : ℕ) (rest : List ℕ) (cells : List Cluster) → n < 128 → rest ≡ flat_map (bytes t) (pointed_from (passed p n) cells)
    → put_at p n (n ∷ []) ++ rest ≡ flat_map (bytes t) (pointed_from p (single n ∷ cells))
byte_back t p n rest cells low after =
    ap (λ (r : ℕ). put_at p r (n ∷ []) ++ rest) (sym (single_read n))
    ∙ cell_back t p (single n) (n ∷ []) rest (pointed_from (passed p (read_as (single n))) cells) (ascii_bytes t n low)
    (after ∙ ap (λ (r : ℕ). flat_map (bytes t) (pointed_from (passed p r) cells)) (sym (single_read n)))

-- ---- what comes of a byte, and of the end

step_back : (t : Characters) (p : Place) (done : Option Cluster) (byte : Option ℕ) (cells : List Cluster) (rest : List ℕ) → ((n : ℕ) → byte ≡ Some n → n < 128)
    → covers t (list_of done ++ map single (listed byte)) ≡ true
    → rest ≡ flat_map (bytes t) (pointed_from (after_byte (after_cluster p done) byte) cells)
    → (said_cluster t p done ++ said_byte (after_cluster p done) byte) ++ rest ≡ flat_map (bytes t) (pointed_from p ((list_of done ++ map single (listed byte)) ++ cells))
step_back t p None None cells rest low all after = after
step_back t p None (Some n) cells rest low all after = byte_back t p n rest cells (low n refl) after
step_back t p (Some c) None cells rest low all after =
    ap (λ (z : List ℕ). z ++ rest) (append-nil (put_at p (read_as c) (coded t c)))
    ∙ cell_back t p c (coded t c) rest (pointed_from (passed p (read_as c)) cells) (coded_bytes t c all) after
step_back t p (Some c) (Some n) cells rest low all after =
    let q = passed p (read_as c) in
    let both = covers-append t (c ∷ []) (single n ∷ []) all in
    append_assoc (put_at p (read_as c) (coded t c)) (put_at q n (n ∷ [])) rest
    ∙ cell_back t p c (coded t c) (put_at q n (n ∷ []) ++ rest) (pointed_from q (single n ∷ cells)) (coded_bytes t c both.0)
    (byte_back t q n rest cells (low n refl) after)

last_back : (t : Characters) (p : Place) (held : Option Cluster) → covers t (list_of held) ≡ true → said_last t p held ≡ flat_map (bytes t) (pointed_from p (list_of held))
last_back t p None all = left_back t p
last_back t p (Some c) all =
    let q = passed p (read_as c) in
    cell_back t p c (coded t c) (left q) (map single (left q)) (coded_bytes t c all) (left_back t q)

-- ---- a whole text

text_back : (t : Characters) (l : Listener) (p : Place) (bs : List ℕ) → covers t (cells_from l bs) ≡ true
    → coding t l p true bs ≡ flat_map (bytes t) (pointed_from p (cells_from l bs))
text_back t l p [] all = last_back t p l.held all
text_back t l p (b ∷ bs) all =
    let x = read l b in
    let q = place_after p x in
    let both = covers-append t (cells_of x) (cells_from x.listener bs) all in
    append_assoc (said t p x) (said_of t x.listener q bs) (said_last t (place_after_all x.listener q bs) (after x.listener bs).held)
    ∙ step_back t p x.done x.byte (cells_from x.listener bs) (coding t x.listener q true bs) (low_read l b) both.0 (text_back t x.listener q bs both.1)

covers-both : (t : Characters) (xs ys : List Cluster) → covers t xs ≡ true → covers t ys ≡ true → covers t (xs ++ ys) ≡ true
covers-both t [] ys p q = q
covers-both t (x ∷ xs) ys p q =
    and_true (is_some (code t x)) (covers t (xs ++ ys)) (and_first (is_some (code t x)) (covers t xs) p)
    (covers-both t xs ys (and_second (is_some (code t x)) (covers t xs) p) q)

kept_covered : (t : Characters) (c : Cluster) (waits : Bool) → is_some (code t c) ≡ true → covers t (if waits then [] else c ∷ []) ≡ true
kept_covered t c true all = refl
kept_covered t c false all = and_true (is_some (code t c)) true all refl

pointed_covered : (t : Characters) (p : Place) (cs : List Cluster) → covers t cs ≡ true → covers t (pointed_from p cs) ≡ true
pointed_covered t p [] all = waiting_covered t p.waits
pointed_covered t p (c ∷ cs) all =
    let r = read_as c in
    let x = point p r in
    let w = is_waiting (passed p r).waits in
    covers-both t (cell_at p c) (pointed_from (passed p r) cs)
    (covers-both t (map single (text_of p.waits x)) (if w then [] else c ∷ []) (point_covered t p.waits x) (kept_covered t c w (and_first (is_some (code t c)) (covers t cs) all)))
    (pointed_covered t (passed p r) cs (and_second (is_some (code t c)) (covers t cs) all))

pub comes_back : ComesBack
comes_back t text good all =
    ap (λ (z : List ℕ). decode t z) (text_back t first first_place text all)
    ∙ inverse_whole t (pointed (cells_in text)) good (pointed_covered t first_place (cells_in text) all)

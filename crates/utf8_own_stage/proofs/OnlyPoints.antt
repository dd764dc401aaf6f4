-- A text with points is the text, and points.
use Prim.Native.Char.{code}
use Rattle.std.proofs.Common.{◌≡◌, ℕ, ◌%◌, List, [], ◌∷◌, ◌++◌, Bool, true, false, ◌&&◌, ◌==◌, nat_lt, if◌then◌else◌, map, refl, sym, ◌∙◌, ap, append_assoc, append-nil, subst, arith, rules}
use Rattle.std.proofs.lemmas.Bool.Decides.{nat_tests}
use Rattle.utf8_own_characters.specs.declared.cluster.Cluster.{Cluster}
use Rattle.utf8_own_characters.specs.Cluster.{single}
use Rattle.utf8_own_characters.proofs.Tests.{and_first}
use Rattle.utf8_own_stage.specs.declared.points.Place.{Place}
use Rattle.utf8_own_stage.specs.declared.points.Point.TheVariants.{Nothing, Cut, Waited, Joint}
use Rattle.utf8_own_stage.specs.declared.points.Waiting.{Waiting}
use Rattle.utf8_own_stage.specs.declared.points.Waiting.TheVariants as waiting
use Rattle.utf8_own_stage.specs.Laws.{WithPoints, ends, same, joint, cut, OnlyPoints, pointed_from}
use Rattle.utf8_own_stage.specs.Points.{first_place, is_font, is_waiting, joins, may_cut, may_join, newline, passed, point, read_as, text_of, waiting_text, waiting_with}
use Rattle.utf8_own_stage.proofs.Held.{line_if, waits_after, waits_then}
use Rattle.utf8_own_stage.proofs.ReadAs.{own_whole}

-- ---- what goes on what waits

-- a character of ASCII, with which this waits after that
record Part (w v : Waiting) (r : ℕ) : Type 0 where
  low : nat_lt r 128 ≡ true
  other : (r == code "_") ≡ false
  text : waiting_text v ≡ waiting_text w ++ (r ∷ [])

is_code : (r c : ℕ) → (r == c) ≡ true → c ≡ r
is_code r c e = grind (arith, nat_tests)

escape_part : (x : Bool) (r : ℕ) → (r == code "\\") ≡ x → is_waiting (if x then waiting.Escape else waiting.Nothing) ≡ true
    → Part waiting.Newline (if x then waiting.Escape else waiting.Nothing) r
escape_part true r is e =
    subst (λ (n : ℕ). Part waiting.Newline waiting.Escape n) (is_code r (code "\\") is) (record { low = refl; other = refl; text = refl })
escape_part false r is e = absurd (let no : false ≡ true = e in cc)

name_part : (x : Bool) (r : ℕ) → (r == code "f") ≡ x → is_waiting (if x then waiting.Name else waiting.Nothing) ≡ true
    → Part waiting.Escape (if x then waiting.Name else waiting.Nothing) r
name_part true r is e =
    subst (λ (n : ℕ). Part waiting.Escape waiting.Name n) (is_code r (code "f") is) (record { low = refl; other = refl; text = refl })
name_part false r is e = absurd (let no : false ≡ true = e in cc)

font_low : (r : ℕ) → is_font r ≡ true → nat_lt r 128 ≡ true
font_low r is = grind (arith, nat_tests)

font_other : (r : ℕ) → is_font r ≡ true → (r == code "_") ≡ false
font_other r is = grind (arith, nat_tests)

low_byte : (r : ℕ) → nat_lt r 128 ≡ true → r % 128 ≡ r
low_byte r low = grind (arith, nat_tests)

font_part : (x : Bool) (r : ℕ) → is_font r ≡ x → is_waiting (if x then waiting.Font r else waiting.Nothing) ≡ true
    → Part waiting.Name (if x then waiting.Font r else waiting.Nothing) r
font_part true r is e = record {
  low = font_low r is;
  other = font_other r is;
  text = ap (λ (n : ℕ). newline ∷ code "\\" ∷ code "f" ∷ n ∷ []) (low_byte r (font_low r is));
}
font_part false r is e = absurd (let no : false ≡ true = e in cc)

part : (w : Waiting) (r : ℕ) → is_waiting (waiting_with w r) ≡ true → Part w (waiting_with w r) r
part waiting.Nothing r e = absurd (let no : false ≡ true = e in cc)
part waiting.Newline r e = escape_part (r == code "\\") r refl e
part waiting.Escape r e = name_part (r == code "f") r refl e
part waiting.Name r e = font_part (is_font r) r refl e
part (waiting.Font name) r e = absurd (let no : false ≡ true = e in cc)

-- ---- a cell, which may wait

-- of a text and what comes of it, after what waits
Rest : Waiting → List Cluster → List Cluster → Type 0
Rest w cs ds = WithPoints (map single (waiting_text w) ++ cs) ds

is_newline : (c : ℕ) → c == newline ≡ true → c ≡ newline
is_newline c e = search rules

line_whole : (c : Cluster) → (read_as c == newline) ≡ true → c ≡ single newline
line_whole c e =
    let is = is_newline (read_as c) e in
    own_whole c (ap (λ (n : ℕ). nat_lt n 128) is) (ap (λ (n : ℕ). n == code "_") is) ∙ ap single is

-- a newline that begins to wait, or a cell that stands
cell : (h : Bool) (c : Cluster) (cs ds : List Cluster) → (h ≡ true → c ≡ single newline) → Rest (if h then waiting.Newline else waiting.Nothing) cs ds
    → WithPoints (c ∷ cs) ((if is_waiting (if h then waiting.Newline else waiting.Nothing) then [] else c ∷ []) ++ ds)
unfolding Rest
cell true c cs ds is rest = subst (λ (x : Cluster). WithPoints (x ∷ cs) ds) (sym (is refl)) rest
cell false c cs ds is rest = same c rest

-- ---- what stands before it

cut_before : (b : Bool) (cs ds : List Cluster) → WithPoints cs ds → WithPoints cs (map single (text_of waiting.Nothing (if b then Cut else Nothing)) ++ ds)
cut_before true cs ds w = cut w
cut_before false cs ds w = w

waited : (w : Waiting) (cs ds : List Cluster) → WithPoints cs ds → Rest w cs (map single (waiting_text w) ++ ds)
unfolding Rest
waited waiting.Nothing cs ds is = is
waited waiting.Newline cs ds is = same (single newline) is
waited waiting.Escape cs ds is = same (single newline) (same (single (code "\\")) is)
waited waiting.Name cs ds is = same (single newline) (same (single (code "\\")) (same (single (code "f")) is))
waited (waiting.Font name) cs ds is = same (single newline) (same (single (code "\\")) (same (single (code "f")) (same (single (name % 128)) is)))

-- what waits, at whose newline the word goes on or not
joined : (w : Waiting) (b : Bool) (cs ds : List Cluster) → is_waiting w ≡ true → WithPoints cs ds
    → Rest w cs (map single (text_of w (if b then Joint else Waited)) ++ ds)
unfolding Rest
joined w false cs ds some is = waited w cs ds is
joined waiting.Nothing true cs ds some is = absurd (let no : false ≡ true = some in cc)
joined waiting.Newline true cs ds some is = joint is
joined waiting.Escape true cs ds some is = joint (same (single (code "\\")) is)
joined waiting.Name true cs ds some is = joint (same (single (code "\\")) (same (single (code "f")) is))
joined (waiting.Font name) true cs ds some is = joint (same (single (code "\\")) (same (single (code "f")) (same (single (name % 128)) is)))

-- by whether something waits that does not go on
before_by : (w : Waiting) (b d : Bool) (cs ds : List Cluster) → WithPoints cs ds
    → Rest w cs (map single (text_of w (if is_waiting w then (if b then Joint else Waited) else (if d then Cut else Nothing))) ++ ds)
unfolding Rest
before_by waiting.Nothing b d cs ds is = cut_before d cs ds is
before_by waiting.Newline b d cs ds is = joined waiting.Newline b cs ds refl is
before_by waiting.Escape b d cs ds is = joined waiting.Escape b cs ds refl is
before_by waiting.Name b d cs ds is = joined waiting.Name b cs ds refl is
before_by (waiting.Font name) b d cs ds is = joined (waiting.Font name) b cs ds refl is

-- ---- a cell and what stands before it, by whether it goes on

text : Waiting → Bool → Bool → Bool → List Cluster
text w x b d = map single (text_of w (if is_waiting w then (if x then Nothing else if b then Joint else Waited) else if d then Cut else Nothing))

one_more : (ts : List ℕ) (r : ℕ) (cs : List Cluster) → map single (ts ++ (r ∷ [])) ++ cs ≡ map single ts ++ (single r ∷ cs)
one_more [] r cs = refl
one_more (t ∷ ts) r cs = ap (λ (zs : List Cluster). single t ∷ zs) (one_more ts r cs)

goes_on : (w v : Waiting) (r : ℕ) (c : Cluster) (cs ds : List Cluster) → c ≡ single r → Part w v r → Rest v cs ds → Rest w (c ∷ cs) ds
unfolding Rest
goes_on w v r c cs ds is p rest =
    subst (λ (x : Cluster). WithPoints (map single (waiting_text w) ++ (x ∷ cs)) ds) (sym is)
    (subst (λ (zs : List Cluster). WithPoints zs ds) (ap (λ (zs : List ℕ). map single zs ++ cs) p.text ∙ one_more (waiting_text w) r cs) rest)

-- nothing goes out then
none_by : (w v : Waiting) (c : Cluster) (ds : List Cluster) (b d : Bool) → is_waiting v ≡ true → is_waiting w ≡ true
    → text w true b d ++ ((if is_waiting v then [] else c ∷ []) ++ ds) ≡ ds
unfolding text
none_by w v c ds b d on some =
    ap (λ (y : Bool). map single (text_of w (if y then Nothing else if d then Cut else Nothing)) ++ ((if is_waiting v then [] else c ∷ []) ++ ds)) some
    ∙ ap (λ (y : Bool). (if y then [] else c ∷ []) ++ ds) on

waits_before : (w : Waiting) (r : ℕ) → is_waiting (waiting_with w r) ≡ true → is_waiting w ≡ true
waits_before waiting.Nothing r e = e
waits_before waiting.Newline r e = refl
waits_before waiting.Escape r e = refl
waits_before waiting.Name r e = refl
waits_before (waiting.Font name) r e = refl

step : (x : Bool) (p : Place) (c : Cluster) (cs ds : List Cluster) → is_waiting (waiting_with p.waits (read_as c)) ≡ x
    → Rest (if x then waiting_with p.waits (read_as c) else line_if ((read_as c == newline) && may_join p)) cs ds
    → Rest p.waits (c ∷ cs) (text p.waits x (joins p.waits (read_as c)) (may_cut p (read_as c))
    ++ ((if is_waiting (if x then waiting_with p.waits (read_as c) else line_if ((read_as c == newline) && may_join p)) then [] else c ∷ []) ++ ds))
unfolding text
step true p c cs ds on rest =
    let r = read_as c in
    let q = part p.waits r on in
    subst (λ (zs : List Cluster). Rest p.waits (c ∷ cs) zs) (sym (none_by p.waits (waiting_with p.waits r) c ds (joins p.waits r) (may_cut p r) on (waits_before p.waits r on)))
    (goes_on p.waits (waiting_with p.waits r) r c cs ds (own_whole c q.low q.other) q rest)
step false p c cs ds on rest =
    let r = read_as c in
    let h = (r == newline) && may_join p in
    before_by p.waits (joins p.waits r) (may_cut p r) (c ∷ cs) ((if is_waiting (line_if h) then [] else c ∷ []) ++ ds)
    (cell h c cs ds (λ e. line_whole c (and_first (r == newline) (may_join p) e)) rest)

only_from : (cs : List Cluster) (p : Place) → Rest p.waits cs (pointed_from p cs)
unfolding Rest text
only_from [] p =
    subst (λ (zs : List Cluster). WithPoints (map single (waiting_text p.waits) ++ []) zs) (append-nil (map single (waiting_text p.waits))) (waited p.waits [] [] ends)
only_from (c ∷ cs) p =
    let r = read_as c in
    let q = passed p r in
    let ds = pointed_from q cs in
    let rest : Rest (waits_then p r) cs ds = subst (λ (w : Waiting). Rest w cs ds) (waits_after p r) (only_from cs q) in
    subst (λ (zs : List Cluster). Rest p.waits (c ∷ cs) zs)
    (ap (λ (w : Waiting). map single (text_of p.waits (point p r)) ++ ((if is_waiting w then [] else c ∷ []) ++ ds)) (sym (waits_after p r))
    ∙ sym (append_assoc (map single (text_of p.waits (point p r))) (if is_waiting q.waits then [] else c ∷ []) ds))
    (step (is_waiting (waiting_with p.waits r)) p c cs ds refl rest)

pub only_points : OnlyPoints
unfolding Rest
only_points cs = only_from cs first_place

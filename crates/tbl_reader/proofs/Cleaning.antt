-- A line whose backslashes are paired, up to a comment.
use Rattle.std.proofs.Common.{◌≡◌, ℕ, zero, suc, ◌+◌, ◌-◌, ◌<◌, List, [], ◌∷◌, ◌++◌, length, get_or, take, drop, Bool, true, false, ◌==◌, ◌&&◌, not, Option, None, Some, if◌then◌else◌, refl, sym, ◌∙◌, ap, arith}
use Prim.Native.Char.{code}
use Rattle.std.proofs.lemmas.List.{take-append-drop, take_all, drop_more, length-drop}
use Rattle.tbl_reader.specs.Fields.{before_comment, one_later, cleaned, comment_in, continues, cut, has_comment, is_comment, open_after, paired, place_of}
use Rattle.tbl_reader.proofs.Finding.{moved}

-- a line without a backslash stays
no_first : (e : Bool) (r : Option ℕ) → (if e then Some 0 else one_later r) ≡ None → (e ≡ false) × (r ≡ None)
no_first true r none = absurd (cc)
no_first false None none = (refl, refl)
no_first false (Some n) none = absurd (cc)

unpaired : (xs : List ℕ) → place_of (code "\\") xs ≡ None → (paired false xs ≡ xs) × (open_after false xs ≡ false)
unpaired [] none = (refl, refl)
unpaired (b ∷ bs) none =
    let first = no_first (b == code "\\") (place_of (code "\\") bs) none in
    let rest = unpaired bs first.1 in (
      ap (λ (e : Bool). b ∷ paired (e && true) bs) first.0 ∙ ap (λ (ys : List ℕ). b ∷ ys) rest.0,
      ap (λ (e : Bool). open_after (e && true) bs) first.0 ∙ rest.1,
    )

no_comment : (b : ℕ) (bs : List ℕ) → (b == code "\\") ≡ false → is_comment (b ∷ bs) ≡ false
no_comment b [] none = refl
no_comment b (c ∷ bs) none = ap (λ (e : Bool). e && (c == code "\"")) none

uncommented : (xs : List ℕ) → place_of (code "\\") xs ≡ None → comment_in xs ≡ None
uncommented [] none = refl
uncommented (b ∷ bs) none =
    let first = no_first (b == code "\\") (place_of (code "\\") bs) none in
    ap (λ (e : Bool). if e then Some 0 else one_later (comment_in bs)) (no_comment b bs first.0) ∙ ap one_later (uncommented bs first.1)

same_cleaned : (xs : List ℕ) → place_of (code "\\") xs ≡ None → xs ≡ cleaned xs
same_cleaned xs none =
    sym (ap before_comment (unpaired xs none).0 ∙ ap (λ (o : Option ℕ). cut o xs) (uncommented xs none))

pub none_cleaned : (start : ℕ) (old : List ℕ) → place_of (code "\\") (drop start old) ≡ None
    → old ≡ take start old ++ cleaned (drop start old)
none_cleaned start old none =
    sym (take-append-drop start old) ∙ ap (λ (ys : List ℕ). take start old ++ ys) (same_cleaned (drop start old) none)

pub none_goes_on : (xs : List ℕ) → place_of (code "\\") xs ≡ None → false ≡ continues xs
none_goes_on xs none = sym (ap (λ (e : Bool). e && not (has_comment (paired false xs))) (unpaired xs none).1)

-- what stands before the line stays
prefix_stays : (start : ℕ) (xs : List ℕ) → take start (take start xs ++ paired false (drop start xs)) ≡ take start xs
prefix_stays zero xs = refl
prefix_stays (suc n) [] = refl
prefix_stays (suc n) (x ∷ xs) = ap (λ (ys : List ℕ). x ∷ ys) (prefix_stays n xs)

line_after : (start : ℕ) (xs : List ℕ) → drop start (take start xs ++ paired false (drop start xs)) ≡ paired false (drop start xs)
line_after zero xs = refl
line_after (suc n) [] = refl
line_after (suc n) (x ∷ xs) = line_after n xs

pub cleaned_then : (start : ℕ) (old pairs now : List ℕ) → pairs ≡ take start old ++ paired false (drop start old)
    → now ≡ take start pairs ++ before_comment (drop start pairs) → now ≡ take start old ++ cleaned (drop start old)
cleaned_then start old pairs now p n =
    n ∙ ap (λ (xs : List ℕ). take start xs ++ before_comment (drop start xs)) p
    ∙ ap (λ (xs : List ℕ). xs ++ before_comment (drop start (take start old ++ paired false (drop start old)))) (prefix_stays start old)
    ∙ ap (λ (xs : List ℕ). take start old ++ before_comment xs) (line_after start old)

pub goes_then : (start : ℕ) (old pairs : List ℕ) (alone cut : Bool) → pairs ≡ take start old ++ paired false (drop start old)
    → alone ≡ open_after false (drop start old) → cut ≡ has_comment (drop start pairs) → (alone && not cut) ≡ continues (drop start old)
goes_then start old pairs alone cut p a c =
    ap (λ (x : Bool). x && not cut) a
    ∙ ap (λ (x : Bool). open_after false (drop start old) && not x)
    (c ∙ ap (λ (xs : List ℕ). has_comment (drop start xs)) p ∙ ap has_comment (line_after start old))

-- ---- a comment is found

moved_more : (at : ℕ) (o : Option ℕ) → moved at (one_later o) ≡ moved (at + 1) o
moved_more at None = refl
moved_more at (Some n) = let e : at + (1 + n) ≡ at + 1 + n = omega arith in ap (λ (m : ℕ). Some m) e

moved_if : (at : ℕ) (e : Bool) (o : Option ℕ) → moved at (if e then Some 0 else one_later o) ≡ (if e then Some at else moved (at + 1) o)
moved_if at true o = let e : at + 0 ≡ at = omega arith in ap (λ (m : ℕ). Some m) e
moved_if at false o = moved_more at o

comment_next : (text : List ℕ) (at : ℕ) → at < length text
    → moved at (comment_in (drop at text)) ≡ (if is_comment (drop at text) then Some at else moved (at + 1) (comment_in (drop (at + 1) text)))
comment_next text at within =
    let rest = drop (at + 1) text in
    let here : drop at text ≡ get_or text at 0 ∷ rest = drop_more text at 0 within in
    ap (λ (xs : List ℕ). moved at (comment_in xs)) here
    ∙ moved_if at (is_comment (get_or text at 0 ∷ rest)) (comment_in rest)
    ∙ ap (λ (xs : List ℕ). if is_comment xs then Some at else moved (at + 1) (comment_in rest)) (sym here)

pub none_here : (text : List ℕ) (at : ℕ) (e : Bool) → at < length text → e ≡ is_comment (take (length text - at) (drop at text)) → e ≡ false
    → moved (at + 1) (comment_in (drop (at + 1) text)) ≡ moved at (comment_in (drop at text))
none_here text at e within is none =
    let back = length-drop at text in
    let whole : take (length text - at) (drop at text) ≡ drop at text = take_all (length text - at) (drop at text) (omega (arith, back)) in
    sym (comment_next text at within
    ∙ ap (λ (x : Bool). if x then Some at else moved (at + 1) (comment_in (drop (at + 1) text))) (ap is_comment (sym whole) ∙ sym is ∙ none))

-- ---- it is cut off

abbrev no_bytes : List ℕ
no_bytes = []

take_nothing : (n : ℕ) → take n no_bytes ≡ no_bytes
take_nothing zero = refl
take_nothing (suc n) = refl

take_more_of : (start at : ℕ) (xs : List ℕ) → take (start + at) xs ≡ take start xs ++ take at (drop start xs)
take_more_of zero at xs = let e : 0 + at ≡ at = omega arith in ap (λ (n : ℕ). take n xs) e
take_more_of (suc n) at [] = take_nothing (suc n + at) ∙ sym (take_nothing at)
take_more_of (suc n) at (x ∷ xs) =
    let e : suc n + at ≡ suc (n + at) = omega arith in
    ap (λ (m : ℕ). take m (x ∷ xs)) e ∙ ap (λ (ys : List ℕ). x ∷ ys) (take_more_of n at xs)

pub cut_there : (start at : ℕ) (xs : List ℕ) → Some at ≡ comment_in (drop start xs)
    → take (start + at) xs ≡ take start xs ++ before_comment (drop start xs)
cut_there start at xs e =
    take_more_of start at xs ∙ ap (λ (o : Option ℕ). take start xs ++ cut o (drop start xs)) e

pub cut_nowhere : (start : ℕ) (xs : List ℕ) → None ≡ comment_in (drop start xs) → xs ≡ take start xs ++ before_comment (drop start xs)
cut_nowhere start xs e =
    sym (take-append-drop start xs) ∙ ap (λ (o : Option ℕ). take start xs ++ cut o (drop start xs)) e

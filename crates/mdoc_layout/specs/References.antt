-- References (mdoc(7), Rs, Re and %A to %V): a part is kept as a string of its letter, authors as two, and at the end all
-- stand in their order, between commas.
use Rattle.std.specs.Prelude.{ℕ, ◌+◌, List, [], ◌∷◌, ◌++◌, length, Bool, true, not, ◌==◌, ◌||◌, nat_lt, if◌then◌else◌, codes}
use Rattle.std.specs.List.{list_any}
use Prim.Native.Char.{code}
use Rattle.mdoc_layout.specs.declared.page.Page.{Page}
use Rattle.mdoc_layout.specs.Laying.{Laid, laid, with_end, then_laid, gap, put, is_joined, was_put}
use Rattle.mdoc_layout.specs.OwnLines.{put_head}

abbrev pub has_part : ℕ → Page → Bool
has_part letter p = list_any (λ (b : ℕ). b == letter) p.parts

-- ---- the line of a part sets a string

-- all authors but the last, and the last
abbrev pub author_head : ℕ → List ℕ
author_head n =
    if n == 0 then codes ".ds %A \"" else if n == 1 then codes ".ds %a \""
    else codes ".as %A \", \\*(%a\n.ds %a \""

abbrev pub more_authors : Page → Page
more_authors p =
    if nat_lt p.place.authors 3 then record p { place = record p.place { authors = p.place.authors + 1 } }
    else p

abbrev pub put_author_head : Page → Laid
put_author_head p = let l = put_head (author_head p.place.authors) p in laid (more_authors l.page) l.bytes

-- so many parts of a reference, the authors aside, are distinguished
abbrev pub most_parts : ℕ
most_parts = 32

abbrev pub with_part : ℕ → Page → Page
with_part letter p =
    if not (length p.parts == most_parts) then record p { parts = p.parts ++ letter ∷ [] } else p

-- a further part of the same letter stands after a comma
abbrev pub put_part_head : ℕ → Page → Laid
put_part_head letter p =
    if has_part letter p then with_end (letter ∷ codes " \", ") (put_head (codes ".as %") p) else
    let l = with_end (letter ∷ codes " \"") (put_head (codes ".ds %") p) in
    laid (with_part letter l.page) l.bytes

abbrev pub put_part_begin : ℕ → Page → Laid
put_part_begin letter p = if letter == code "A" then put_author_head p else put_part_head letter p

-- ---- the parts in their order

abbrev pub with_listed : Bool → Page → Page
with_listed listed p = record p { place = record p.place { listed = listed } }

-- two authors stand around `and`, more after commas
abbrev pub authors_of : ℕ → List ℕ
authors_of n =
    if n == 1 then codes "\\*(%A" else
    if n == 2 then codes "\\*(%A and \\*(%a" else codes "\\*(%A, and \\*(%a"

unfoldable pub put_authors : Page → Laid
put_authors p =
    let q = with_listed (nat_lt 0 p.place.authors) p in
    if nat_lt 0 p.place.authors then put (is_joined q) (authors_of p.place.authors) q else laid q []

abbrev pub put_comma : Page → Laid
put_comma p =
    let l = if p.place.listed then put true (codes ",") p else laid p [] in
    laid (with_listed true l.page) l.bytes

-- the title of an article stands between quotes, where a journal or a book names what it stands in
abbrev pub is_quoted : Page → Bool
is_quoted p = has_part (code "J") p || has_part (code "B") p

abbrev pub title_marks : Page → List ℕ × List ℕ
title_marks p = if is_quoted p then (codes "\\(lq", codes "\\(rq") else (codes "\\fI", codes "\\fR")

abbrev pub put_title_string : Page → Laid
put_title_string p =
    laid (was_put p)
    (gap (is_joined p) (code "\\") p ++ (title_marks p).0 ++ codes "\\*(%T" ++ (title_marks p).1)

unfoldable pub put_title_part : Page → Laid
put_title_part p =
    if not (has_part (code "T") p) then laid p [] else then_laid (put_comma p) (λ q. put_title_string q)

abbrev pub put_string : ℕ → Page → Laid
put_string letter p = laid (was_put p) (gap (is_joined p) (code "\\") p ++ codes "\\*(%" ++ letter ∷ [])

abbrev pub put_part : ℕ → Page → Laid
put_part letter p =
    if not (has_part letter p) then laid p [] else then_laid (put_comma p) (λ q. put_string letter q)

-- the order of the parts after the title
unfoldable pub order : List ℕ
order = codes "BIJRNVUPQCDO"

unfoldable pub put_parts : List ℕ → Page → Laid
put_parts [] p = laid p []
put_parts (letter ∷ letters) p = then_laid (put_part letter p) (λ q. put_parts letters q)

unfoldable pub put_stop : Page → Laid
put_stop p = if p.place.listed then put true (codes ".") p else laid p []

abbrev pub put_reference : Page → Laid
put_reference p =
    then_laid (then_laid (then_laid (put_authors p) (λ q. put_title_part q)) (λ q. put_parts order q))
    (λ q. put_stop q)

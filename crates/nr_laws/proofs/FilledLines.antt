-- Lines that are cut from a prefix of all pieces are those that are cut from all.
use Rattle.std.specs.Prelude.{◌&&◌, nat_le, sum_by, max, replicate}
use Rattle.std.proofs.lemmas.Bool.{leb-false}
use Rattle.std.proofs.lemmas.Bool.Decides.{nat_tests}
use Rattle.std.proofs.lemmas.List.{take-append-le, take_all}
use Rattle.std.proofs.lemmas.List.Sums.{sum_by-cons}
use Rattle.std.proofs.Common.{◌≡◌, ℕ, zero, suc, ◌+◌, ◌-◌, ◌≤◌, Bool, true, false, if◌then◌else◌, List, [], ◌∷◌, ◌++◌, length, take, drop, refl, ap, ap₂, sym, subst, ◌∙◌, length-append, length-drop, arith}
use Rattle.nr_vectors.specs.declared.cell.Cell.{Cell}
use Rattle.nr_vectors.specs.Cell.{blank, trimmed}
use Rattle.nr_settings.specs.declared.filling.Align.{Align}
use Rattle.nr_settings.specs.declared.filling.Align.TheVariants.{Left, Spread}
use Rattle.nr_settings.specs.declared.indents.Margins.{Margins}
use Rattle.nr_fill.specs.declared.margins.Turn.{Turn}
use Rattle.nr_fill.specs.declared.setting.Extra.{Extra}
use Rattle.nr_fill.specs.Piece.{Piece, Collected, is_nil, nothing_collected}
use Rattle.nr_fill.specs.Setting.{cut_of, set_line, afterwards, is_spread, hyphens}
use Rattle.nr_fill.specs.Spreading.{gaps, no_extra, shared, other_turn, cells_in_line}
use Rattle.nr_laws.specs.FilledText.{first_margins, align_of, rows_from}
use Rattle.nr_fill.specs.Cutting.{piece_width, width, prefix_width, hyphen_before, fits, most_that_fit, cut}
use Rattle.nr_laws.proofs.PlainLines.{NoSoft, no_soft-append, no_soft-drop, no_hyphen}
use Rattle.nr_laws.proofs.PlainPages.{if-true, if-false, same_if}

-- no hyphen stands after a prefix
prefix-is : (n : ℕ) (ps : List Piece) → NoSoft ps → prefix_width n ps ≡ width (take n ps)
prefix-is n ps clean = let e = no_hyphen (drop n ps) (no_soft-drop n ps clean) in omega arith

-- more pieces are no narrower
width-more : (ps qs : List Piece) → width ps ≤ width (ps ++ qs)
width-more [] qs = omega arith
width-more (p ∷ ps) qs = let h = sum-more ps qs in omega arith
  where
    sum-more : (xs ys : List Piece) → sum_by piece_width xs ≤ sum_by piece_width (xs ++ ys)
    sum-more [] ys = omega arith
    sum-more (x ∷ xs) ys = let h = sum-more xs ys in omega (arith, sum_by-cons piece_width x xs, sum_by-cons piece_width x (xs ++ ys))

-- a prefix that reaches beyond some pieces is no narrower than they
beyond : (k : ℕ) (ps qs : List Piece) → length ps ≤ k → width ps ≤ width (take k (ps ++ qs))
beyond k ps qs h = let rest = width-more ps (take (k - length ps) qs) in let e = take_beyond k ps qs h in subst (λ xs. width ps ≤ width xs) (sym e) rest
  where
    take_beyond : (n : ℕ) (xs ys : List Piece) → length xs ≤ n → take n (xs ++ ys) ≡ xs ++ take (n - length xs) ys
    take_beyond n [] ys less = ap (λ j. take j ys) (let e : n ≡ n - 0 = omega arith in e)
    take_beyond zero (x ∷ xs) ys less = absurd (omega arith)
    take_beyond (suc n) (x ∷ xs) ys less =
        ap (λ zs. x ∷ zs) (take_beyond n xs ys (omega arith)) ∙ ap (λ j. x ∷ (xs ++ take j ys)) (let e : n - length xs ≡ suc n - suc (length xs) = omega arith in e)

no_fit : (a b line : ℕ) → a ≤ b → nat_le a line ≡ false → nat_le b line ≡ false
no_fit a b line h e = let x = leb-false a line e in grind (arith, nat_tests)

-- the longest prefix that fits lies in what does not fit as a whole
most-prefix : (line m : ℕ) (ps qs : List Piece) → NoSoft ps → NoSoft qs → fits line (length ps) ps ≡ false
    → (k : ℕ) → k ≡ length ps + m → most_that_fit line (ps ++ qs) k ≡ most_that_fit line (ps ++ qs) (length ps)
most-prefix line zero ps qs clean more full k is = ap (most_that_fit line (ps ++ qs)) (let e : k ≡ length ps = omega arith in e)
most-prefix line (suc m) ps qs clean more full zero is = absurd (omega arith)
most-prefix line (suc m) ps qs clean more full (suc k) is =
    let whole : width (take (length ps) ps) ≡ width ps = ap width (take_all (length ps) ps (omega arith)) in
    let a = prefix-is (length ps) ps clean in
    let b = prefix-is (suc k) (ps ++ qs) (no_soft-append ps qs clean more) in
    let far = beyond (suc k) ps qs (omega arith) in
    let none : fits line (suc k) (ps ++ qs) ≡ false = no_fit (prefix_width (length ps) ps) (prefix_width (suc k) (ps ++ qs)) line (omega arith) full in
    if-false (fits line (suc k) (ps ++ qs)) (suc k) (most_that_fit line (ps ++ qs) k) none ∙ most-prefix line m ps qs clean more full k (omega arith)

-- within them both have the same prefixes
same-prefix : (line k : ℕ) (ps qs : List Piece) → NoSoft ps → NoSoft qs → k ≤ length ps → most_that_fit line (ps ++ qs) k ≡ most_that_fit line ps k
same-prefix line zero ps qs clean more h = refl
same-prefix line (suc k) ps qs clean more h =
    let e : prefix_width (suc k) (ps ++ qs) ≡ prefix_width (suc k) ps =
    prefix-is (suc k) (ps ++ qs) (no_soft-append ps qs clean more) ∙ ap width (take-append-le (suc k) ps qs h) ∙ sym (prefix-is (suc k) ps clean) in
    ap₂ (λ (w n : ℕ). if nat_le w line then suc k else n) e (same-prefix line k ps qs clean more (omega arith))

-- What does not fit is cut as it is with all pieces after it.
pub cut-prefix : (line : ℕ) (ps qs : List Piece) → NoSoft ps → NoSoft qs → fits line (length ps) ps ≡ false
    → most_that_fit line (ps ++ qs) (length (ps ++ qs)) ≡ most_that_fit line ps (length ps)
cut-prefix line ps qs clean more full =
    most-prefix line (length qs) ps qs clean more full (length (ps ++ qs)) (length-append ps qs) ∙ same-prefix line (length ps) ps qs clean more (omega arith)

-- ---- a row takes a piece at least

-- so a row more changes nothing where there are as many rows as pieces
row-more : (n : ℕ) (c : Collected) → length c.pieces ≤ n → rows_from (suc n) c ≡ rows_from n c
row-more zero c few = if-true (is_nil c.pieces) [] (set_line (record { align = align_of c; offset = 0 }) c (cut_of c) ∷ []) (nil c.pieces few)
  where
    nil : (ps : List Piece) → length ps ≤ 0 → is_nil ps ≡ true
    nil [] h = refl
    nil (p ∷ ps) h = absurd (omega arith)
row-more (suc n) c few =
    let fewer : length (drop (cut_of c) c.pieces) ≤ n = omega (arith, length-drop (cut_of c) c.pieces) in
    ap (λ (rest : List (List Cell)). if is_nil c.pieces then [] else set_line (record { align = align_of c; offset = 0 }) c (cut_of c) ∷ rest)
    (row-more n (afterwards first_margins (align_of c) c (cut_of c)) fewer)

pub rows-enough : (m n : ℕ) (c : Collected) → length c.pieces ≤ n → rows_from (n + m) c ≡ rows_from n c
rows-enough zero n c few = ap (λ k. rows_from k c) (let e : n + 0 ≡ n = omega arith in e)
rows-enough (suc m) n c few =
    ap (λ k. rows_from k c) (let e : n + suc m ≡ suc (n + m) = omega arith in e) ∙ row-more (n + m) c (omega arith) ∙ rows-enough m n c few

-- ---- the rows of pieces

-- what rows are cut from: these pieces, and the side of the next wider gaps
abbrev pub pieces_at : Turn → List Piece → Collected
pieces_at turn ps = record nothing_collected { pieces = ps; margins = first_margins; turn = turn }

abbrev pub rows_at : Turn → List Piece → List (List Cell)
rows_at turn ps = rows_from (length ps) (pieces_at turn ps)

-- a full line, by its pieces, their width, the hyphen after them and the side of the wider gaps
abbrev spread_extra : Turn → List Piece → ℕ → Extra
spread_extra turn ps wide = if is_spread Spread (65 - wide) (gaps ps) then shared turn (65 - wide) (gaps ps) else no_extra

abbrev spread_row : Turn → List Piece → ℕ → ℕ → List Cell
spread_row turn ps wide hyphen = trimmed (replicate 0 blank ++ (cells_in_line (spread_extra turn ps wide) ps ++ hyphens hyphen))

abbrev turn_after : Turn → List Piece → ℕ → Turn
turn_after turn ps wide = if is_spread Spread (65 - wide) (gaps ps) then other_turn turn else turn

-- The first row, and then those of what is left after it.
pub rows-next : (turn : Turn) (ps : List Piece) → is_nil ps ≡ false
    → rows_at turn ps ≡ set_line (record { align = align_of (pieces_at turn ps); offset = 0 }) (pieces_at turn ps) (cut_of (pieces_at turn ps))
    ∷ rows_at (afterwards first_margins (align_of (pieces_at turn ps)) (pieces_at turn ps) (cut_of (pieces_at turn ps))).turn (drop (cut_of (pieces_at turn ps)) ps)
rows-next turn [] some = absurd (let e : true ≡ false = some in cc)
rows-next turn (p ∷ ps) some =
    let c = pieces_at turn (p ∷ ps) in
    let n = cut_of c in
    let align = align_of c in
    let rest = drop n (p ∷ ps) in
    let side = (afterwards first_margins align c n).turn in
    let fewer : length rest ≤ length ps = omega (arith, length-drop n (p ∷ ps)) in
    let count : length ps ≡ length rest + (length ps - length rest) = omega arith in
    ap (λ (m : Margins). set_line (record { align = align; offset = 0 }) c n ∷ rows_from (length ps) (record nothing_collected { pieces = rest; margins = m; turn = side })) (same_if (is_nil rest && true) first_margins)
    ∙ ap (λ k. set_line (record { align = align; offset = 0 }) c n ∷ rows_from k (pieces_at side rest)) count
    ∙ ap (λ (rows : List (List Cell)). set_line (record { align = align; offset = 0 }) c n ∷ rows) (rows-enough (length ps - length rest) (length rest) (pieces_at side rest) (omega arith))

-- some of what there is is cut, and no more
within_if : (b : Bool) (n m : ℕ) → m ≤ n → (if b then suc n else m) ≤ suc n
within_if true n m h = omega arith
within_if false n m h = omega arith

most-within : (line : ℕ) (ps : List Piece) (n : ℕ) → most_that_fit line ps n ≤ n
most-within line ps zero = omega arith
most-within line ps (suc n) = within_if (fits line (suc n) ps) n (most_that_fit line ps n) (most-within line ps n)

cut-within : (ps : List Piece) → is_nil ps ≡ false → cut 65 ps ≤ length ps
cut-within [] some = absurd (let e : true ≡ false = some in cc)
cut-within (p ∷ ps) some = let h = most-within 65 (p ∷ ps) (length (p ∷ ps)) in omega arith

-- where they do not fit, they do not fit with more after them
no_fit_more : (ps qs : List Piece) → NoSoft ps → NoSoft qs → fits 65 (length ps) ps ≡ false → fits 65 (length (ps ++ qs)) (ps ++ qs) ≡ false
no_fit_more ps qs clean more full =
    let whole : width (take (length ps) ps) ≡ width ps = ap width (take_all (length ps) ps (omega arith)) in
    let a = prefix-is (length ps) ps clean in
    let b = prefix-is (length (ps ++ qs)) (ps ++ qs) (no_soft-append ps qs clean more) in
    let far = beyond (length (ps ++ qs)) ps qs (omega (arith, length-append ps qs)) in
    no_fit (prefix_width (length ps) ps) (prefix_width (length (ps ++ qs)) (ps ++ qs)) 65 (omega arith) full

some_more : (ps qs : List Piece) → is_nil ps ≡ false → is_nil (ps ++ qs) ≡ false
some_more [] qs some = absurd (let e : true ≡ false = some in cc)
some_more (p ∷ ps) qs some = refl

drop-append : (n : ℕ) (ps qs : List Piece) → n ≤ length ps → drop n (ps ++ qs) ≡ drop n ps ++ qs
drop-append zero ps qs h = refl
drop-append (suc n) [] qs h = absurd (omega arith)
drop-append (suc n) (p ∷ ps) qs h = drop-append n ps qs (omega arith)

-- A full line of the first pieces is the first row of all of them.
pub rows-prefix : (turn : Turn) (ps qs : List Piece) → is_nil ps ≡ false → NoSoft ps → NoSoft qs → fits 65 (length ps) ps ≡ false
    → rows_at turn (ps ++ qs) ≡ set_line (record { align = Spread; offset = 0 }) (pieces_at turn ps) (cut 65 ps) ∷ rows_at (afterwards first_margins Spread (pieces_at turn ps) (cut 65 ps)).turn (drop (cut 65 ps) ps ++ qs)
rows-prefix turn ps qs some clean more full =
    let all = ps ++ qs in
    let n = cut 65 ps in
    let left : align_of (pieces_at turn all) ≡ Spread = if-false (fits 65 (length all) all) Left Spread (no_fit_more ps qs clean more full) in
    let same_cut : cut 65 all ≡ n = ap (max 1) (cut-prefix 65 ps qs clean more full) in
    let few : n ≤ length ps = cut-within ps some in
    let prefix : take n all ≡ take n ps = take-append-le n ps qs few in
    let no_soft : NoSoft all = no_soft-append ps qs clean more in
    let wide : prefix_width n all ≡ prefix_width n ps = prefix-is n all no_soft ∙ ap width prefix ∙ sym (prefix-is n ps clean) in
    let hyphen : hyphen_before (drop n all) ≡ hyphen_before (drop n ps) = no_hyphen (drop n all) (no_soft-drop n all no_soft) ∙ sym (no_hyphen (drop n ps) (no_soft-drop n ps clean)) in
    rows-next turn all (some_more ps qs some)
    ∙ ap₂ (λ (a : Align) (k : ℕ). set_line (record { align = a; offset = 0 }) (pieces_at turn all) k ∷ rows_at (afterwards first_margins a (pieces_at turn all) k).turn (drop k all)) left same_cut
    ∙ ap (λ xs. spread_row turn xs (prefix_width n all) (hyphen_before (drop n all)) ∷ rows_at (turn_after turn xs (prefix_width n all)) (drop n all)) prefix
    ∙ ap (λ w. spread_row turn (take n ps) w (hyphen_before (drop n all)) ∷ rows_at (turn_after turn (take n ps) w) (drop n all)) wide
    ∙ ap₂ (λ (h : ℕ) (rest : List Piece). spread_row turn (take n ps) (prefix_width n ps) h ∷ rows_at (turn_after turn (take n ps) (prefix_width n ps)) rest) hyphen (drop-append n ps qs few)

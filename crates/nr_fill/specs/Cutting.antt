-- Which pieces go out in one line. (CSTR 54, section 4.1.)
use Rattle.std.specs.Prelude.{ℕ, ◌+◌, zero, suc, max, Bool, nat_le, if◌then◌else◌, List, [], ◌∷◌, length, take, drop, sum_by}
use Rattle.nr_fill.specs.declared.piece.Join.{Join}
use Rattle.nr_fill.specs.declared.piece.Join.TheVariants.{Gap, Soft, Hard}
use Rattle.nr_fill.specs.Piece.{Piece}

-- the blanks of a join
abbrev pub join_width : Join → ℕ
join_width (Gap k) = k
join_width Soft = 0
join_width Hard = 0

abbrev pub piece_width : Piece → ℕ
piece_width p = join_width p.join + length p.cells

-- how many cells these pieces take on a line: the gap before the first does not count
abbrev pub width : List Piece → ℕ
width [] = 0
width (p ∷ ps) = length p.cells + sum_by piece_width ps

-- a cut at a soft point prints a hyphen
abbrev pub hyphen_width : Join → ℕ
hyphen_width (Gap k) = 0
hyphen_width Soft = 1
hyphen_width Hard = 0

-- the hyphen before these pieces
abbrev pub hyphen_before : List Piece → ℕ
hyphen_before [] = 0
hyphen_before (p ∷ ps) = hyphen_width p.join

-- the width of the first n pieces as a line of their own
abbrev pub prefix_width : ℕ → List Piece → ℕ
prefix_width n ps = width (take n ps) + hyphen_before (drop n ps)

-- the first n pieces fit a line
abbrev pub fits : ℕ → ℕ → List Piece → Bool
fits line n ps = nat_le (prefix_width n ps) line

-- the greatest number up to n of first pieces that fit
abbrev pub most_that_fit : ℕ → List Piece → ℕ → ℕ
most_that_fit line ps zero = 0
most_that_fit line ps (suc n) = if fits line (suc n) ps then suc n else most_that_fit line ps n

-- how many pieces go out in one line: the longest prefix that fits, and one piece where none does
abbrev pub cut : ℕ → List Piece → ℕ
cut line ps = max 1 (most_that_fit line ps (length ps))

-- the width of these pieces, the gap before the first counted too
abbrev pub pieces_width : List Piece → ℕ
pieces_width ps = sum_by piece_width ps

-- How much the line weighs where its word has ended: the word's pieces, and at most 31 more.
use Rattle.std.proofs.Common.{◌≡◌, ◌≤◌, ℕ, ◌+◌, ◌*◌, ◌-◌, false, not, ◌&&◌, List, [], ◌∷◌, ◌++◌, length, Option, None, Some, is_none, refl, ap, subst, arith, length-append, length-take}
use Rattle.std.proofs.lemmas.Bool.{cond_both}
use Rattle.std.specs.Option.{option_map}
use Rattle.nr_fill.specs.declared.stops.Pending.{Pending}
use Rattle.nr_fill.specs.declared.stops.Pending.TheVariants.{Nothing, AtPoint, ForStop}
use Rattle.nr_fill.specs.Piece.{Piece, Word, Collected, cells_in, is_inside, point_at, hyphenated, joined_at, word_pieces, end_word, may_hyphenate}
use Rattle.nr_formatter.specs.Lines.{given_points, pointed, with_points}
use Rattle.nr_formatter.specs.declared.formatter.Formatter.{Formatter}
use Rattle.nr_formatter.specs.Access.{collected, is_filling}
use Rattle.nr_formatter.specs.Weights.{weight_of_word, weight_of_line}

-- how many pieces a word has
pub pieces_of : Option Word → ℕ
pieces_of o = length (word_pieces o)

-- a word has at most so many pieces more, and there is none where there was none
abbrev pub Grown : ℕ → Option Word → Option Word → Type 0
Grown n None o = o ≡ None
Grown n (Some w) o = pieces_of o ≤ pieces_of (Some w) + n

pieces_of-some : (w : Word) → pieces_of (Some w) ≡ length w.parts + 1
unfolding pieces_of
pieces_of-some w = length-append w.parts (w.last ∷ [])

pieces_of-none : pieces_of None ≡ 0
unfolding pieces_of
pieces_of-none = refl

-- ---- points

grown-none : (n : ℕ) (o : Option Word) → Grown n o o
grown-none n None = refl
grown-none n (Some w) = omega arith

grown-along : (m n : ℕ) (o p q : Option Word) → Grown m o p → Grown n p q → Grown (m + n) o q
grown-along m n None p q first second = subst (λ r. Grown n r q) first second
grown-along m n (Some w) None q first second = rw second (omega (arith, pieces_of-none))
grown-along m n (Some w) (Some v) q first second = omega arith

grown-less : (m n : ℕ) (o p : Option Word) → m ≤ n → Grown m o p → Grown n o p
grown-less m n None p less grown = grown
grown-less m n (Some w) p less grown = omega arith

pieces_of-longer : (w v : Word) (p : Piece) → v.parts ≡ w.parts ++ p ∷ [] → pieces_of (Some v) ≤ pieces_of (Some w) + 1
pieces_of-longer w v p longer = omega (arith, pieces_of-some w, pieces_of-some v, ap length longer, length-append w.parts (p ∷ []))

pieces_of-point_at : (place : ℕ) (w : Word) → pieces_of (Some (point_at place w)) ≤ pieces_of (Some w) + 1
pieces_of-point_at place w = cond_both (is_inside (place - cells_in w.parts) w.blanks (length w.last.cells) w.pending) _ w (λ v. pieces_of (Some v) ≤ pieces_of (Some w) + 1) (λ _. pieces_of-longer w _ _ refl) (λ _. omega arith)

grown-point_at : (place : ℕ) (o : Option Word) → Grown 1 o (option_map (point_at place) o)
grown-point_at place None = refl
grown-point_at place (Some w) = pieces_of-point_at place w

pub grown-with_points : (places : List ℕ) (c : Collected) → Grown (length places) c.word (with_points places c).word
grown-with_points [] c = grown-none 0 c.word
grown-with_points (place ∷ places) c = grown-less _ _ c.word _ (omega arith) (grown-along 1 (length places) c.word (hyphenated place c).word _ (grown-point_at place c.word) (grown-with_points places (hyphenated place c)))

pub pieces-with_points : (places : List ℕ) (c : Collected) → (with_points places c).pieces ≡ c.pieces
pieces-with_points [] c = refl
pieces-with_points (place ∷ places) c = pieces-with_points places (hyphenated place c)

-- ---- one piece

grown-joined_at : (p : Pending) (w : Word) → pieces_of (Some (joined_at p w)) ≤ pieces_of (Some w)
grown-joined_at Nothing w = omega (arith, pieces_of-some w, pieces_of-some (joined_at Nothing w))
grown-joined_at (AtPoint q) w = omega (arith, pieces_of-some w, pieces_of-some (joined_at (AtPoint q) w))
grown-joined_at (ForStop f) w = omega arith

grown-joined_word : (o : Option Word) → Grown 0 o (option_map (λ w. joined_at w.pending w) o)
grown-joined_word None = refl
grown-joined_word (Some w) = omega (arith, grown-joined_at w.pending w)

-- ---- the word's end

-- the pieces of the word weigh no more than it did
weight-grown : (o p : Option Word) → Grown 31 o p → 5 * pieces_of p ≤ weight_of_word o
weight-grown None p grown = rw grown (omega (arith, pieces_of-none))
weight-grown (Some w) p grown = omega (arith, pieces_of-some w)

weight-grown_less : (o p : Option Word) → is_none o ≡ false → Grown 31 o p → 5 * pieces_of p + 10 ≤ weight_of_word o
weight-grown_less None p is grown = cc
weight-grown_less (Some w) p is grown = omega (arith, pieces_of-some w)

weight-end_word : (d : Collected) → weight_of_line (end_word d) ≡ 5 * length d.pieces + 5 * pieces_of d.word
unfolding pieces_of
weight-end_word d = omega (arith, length-append d.pieces (word_pieces d.word))

pub weight-ended : (c d : Collected) → d.pieces ≡ c.pieces → Grown 31 c.word d.word → weight_of_line (end_word d) ≤ weight_of_line c
weight-ended c d pieces grown = omega (arith, weight-end_word d, ap length pieces, weight-grown c.word d.word grown)

pub weight-ended_less : (c d : Collected) → d.pieces ≡ c.pieces → Grown 31 c.word d.word → is_none c.word ≡ false → weight_of_line (end_word d) + 10 ≤ weight_of_line c
weight-ended_less c d pieces grown some = omega (arith, weight-end_word d, ap length pieces, weight-grown_less c.word d.word some grown)

-- ---- the word as it ends takes at most 31 points

grown-given_points : (f : Formatter) → Grown 31 (collected f).word (with_points (given_points f) (collected f)).word
grown-given_points f = grown-less _ 31 (collected f).word _ (omega (arith, length-take {A = ℕ})) (grown-with_points (given_points f) (collected f))

grown-pointed : (f : Formatter) → Grown 31 (collected f).word (pointed f).word
unfolding pointed
grown-pointed f =
    cond_both (not (is_filling f)) _ _ (λ (d : Collected). Grown 31 (collected f).word d.word) (λ _. grown-less 0 31 (collected f).word _ (omega arith) (grown-joined_word (collected f).word))
    (λ _. cond_both (f.settings.hyphenation.on && may_hyphenate (collected f)) _ _ (λ (d : Collected). Grown 31 (collected f).word d.word) (λ _. grown-given_points f) (λ _. grown-less 0 31 (collected f).word _ (omega arith) (grown-none 0 (collected f).word)))

pieces-pointed : (f : Formatter) → (pointed f).pieces ≡ (collected f).pieces
unfolding pointed
pieces-pointed f =
    cond_both (not (is_filling f)) _ _ (λ (d : Collected). d.pieces ≡ (collected f).pieces) (λ _. refl)
    (λ _. cond_both (f.settings.hyphenation.on && may_hyphenate (collected f)) _ _ (λ (d : Collected). d.pieces ≡ (collected f).pieces) (λ _. pieces-with_points (given_points f) (collected f)) (λ _. refl))

pub weight-word_ended : (f : Formatter) → weight_of_line (end_word (pointed f)) ≤ weight_of_line (collected f)
weight-word_ended f = weight-ended (collected f) (pointed f) (pieces-pointed f) (grown-pointed f)

pub weight-word_ended_less : (f : Formatter) → is_none (collected f).word ≡ false → weight_of_line (end_word (pointed f)) + 10 ≤ weight_of_line (collected f)
weight-word_ended_less f some = weight-ended_less (collected f) (pointed f) (pieces-pointed f) (grown-pointed f) some

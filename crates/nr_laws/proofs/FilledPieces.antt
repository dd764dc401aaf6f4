-- The pieces that bytes make after those that are collected.
use Rattle.std.specs.Prelude.{◌==◌, ◌&&◌, is_none}
use Rattle.std.specs.List.{fold}
use Rattle.std.proofs.Common.{◌≡◌, ℕ, Bool, true, false, if◌then◌else◌, List, [], ◌∷◌, ◌++◌, Option, None, Some, refl, ap, ap₂, sym, ◌∙◌, append-nil, append_assoc}
use Rattle.nr_vectors.specs.declared.cell.Cell.{Cell}
use Rattle.nr_vectors.specs.declared.cell.Look.TheVariants.{Plain}
use Rattle.nr_fill.specs.Piece.{Piece, Word, Collected, is_nil, nothing_collected, word_pieces, add_cell, end_word, one_blank_more, after_newline}
use Rattle.nr_formatter.specs.Text.{after_of}
use Rattle.nr_laws.specs.FilledText.{first_margins, with_byte}
use Rattle.nr_laws.proofs.FilledLines.{rows_at}
use Rattle.nr_laws.proofs.PlainLines.{NoSoft, Clean, add_cell-clean, end_word-clean}

-- the pieces of what is collected and of these bytes after it
abbrev pub pieces_after : Collected → List ℕ → List Piece
pieces_after c bs = (end_word (fold with_byte c bs)).pieces

-- the rows that they make
abbrev pub rows_after : Collected → List ℕ → List (List Cell)
rows_after c bs = rows_at c.turn (pieces_after c bs)

-- ---- pieces after others

-- what of the collected line tells which pieces come after those that it has
abbrev pub core : Collected → Collected
core c = record nothing_collected { word = c.word; gap = c.gap; sentence = c.sentence }

-- what a byte makes of the pieces, by which it is
abbrev byte_by : (newline blank : Bool) → ℕ → Collected → Collected
byte_by newline blank b c =
    if newline then after_newline (end_word c)
    else (if blank then one_blank_more (end_word c) else add_cell first_margins (after_of b) (record { byte = b; look = Plain }) c)

byte_core : (newline blank : Bool) (b : ℕ) (c : Collected) → core (byte_by newline blank b c) ≡ core (byte_by newline blank b (core c))
byte_core true blank b c = refl
byte_core false true b c = refl
byte_core false false b c = refl

byte_pieces : (newline blank : Bool) (b : ℕ) (c : Collected) → (byte_by newline blank b c).pieces ≡ c.pieces ++ (byte_by newline blank b (core c)).pieces
byte_pieces true blank b c = refl
byte_pieces false true b c = refl
byte_pieces false false b c = sym (append-nil c.pieces)

pub pieces-after : (c : Collected) (bs : List ℕ) → pieces_after c bs ≡ c.pieces ++ pieces_after (core c) bs
pieces-after c [] = refl
pieces-after c (b ∷ bs) =
    let x = with_byte c b in
    let y = with_byte (core c) b in
    pieces-after x bs
    ∙ ap₂ (λ ps (z : Collected). ps ++ pieces_after z bs) (byte_pieces (b == 10) (b == 32) b c) (byte_core (b == 10) (b == 32) b c)
    ∙ append_assoc c.pieces y.pieces (pieces_after (core y) bs) ∙ ap (λ ps. c.pieces ++ ps) (sym (pieces-after y bs))

byte_clean : (newline blank : Bool) (b : ℕ) (c : Collected) → Clean c → Clean (byte_by newline blank b c)
byte_clean true blank b c clean = (let e = end_word-clean c clean in record { pieces = e.pieces; word = e.word })
byte_clean false true b c clean = (let e = end_word-clean c clean in record { pieces = e.pieces; word = e.word })
byte_clean false false b c clean = add_cell-clean first_margins (after_of b) (record { byte = b; look = Plain }) c clean

pub pieces_after-clean : (c : Collected) (bs : List ℕ) → Clean c → NoSoft (pieces_after c bs)
pieces_after-clean c [] clean = (end_word-clean c clean).pieces
pieces_after-clean c (b ∷ bs) clean = pieces_after-clean (with_byte c b) bs (byte_clean (b == 10) (b == 32) b c clean)

-- the newline that is added after the last line makes no piece
pub added-newline : (c : Collected) → rows_after c (10 ∷ []) ≡ rows_after c []
added-newline c = ap (rows_at c.turn) (append-nil (c.pieces ++ word_pieces c.word))

-- ---- the line's margins

-- a line that has begun has begun where its word ends
pub still_begun : (ps : List Piece) (w : Option Word) → (is_nil (ps ++ word_pieces w) && true) ≡ false → (is_nil ps && is_none w) ≡ false
still_begun [] None e = absurd (let x : true ≡ false = e in cc)
still_begun [] (Some w) e = refl
still_begun (p ∷ ps) w e = refl

pub some_after : (ps qs : List Piece) → is_nil ps ≡ false → is_nil (ps ++ qs) ≡ false
some_after [] qs some = absurd (let x : true ≡ false = some in cc)
some_after (p ∷ ps) qs some = refl

pub margins_by : (b : Bool) (c : Collected) → (b ≡ false → c.margins ≡ first_margins) → (if b then first_margins else c.margins) ≡ first_margins
margins_by true c same = refl
margins_by false c same = same refl

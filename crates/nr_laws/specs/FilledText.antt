-- Plain text whose lines neither are empty nor begin with a blank: the rows that come of it.
use Prim.Native.Char.{code}
use Rattle.std.specs.Prelude.{◌≡◌, ℕ, zero, suc, ◌<◌, ◌≤◌, ◌-◌, ◌%◌, not, Bool, true, false, ◌&&◌, ◌||◌, ◌==◌}
use Rattle.std.specs.Prelude.{if◌then◌else◌, List, [], ◌∷◌, ◌++◌, length, replicate}
use Rattle.std.specs.List.{flat_map, fold}
use Rattle.nr_units.specs.Source.{Supply}
use Rattle.nr_vectors.specs.declared.cell.Cell.{Cell}
use Rattle.nr_vectors.specs.declared.cell.Look.TheVariants.{Plain}
use Rattle.nr_settings.specs.declared.indents.Margins.{Margins}
use Rattle.nr_settings.specs.declared.filling.Align.{Align}
use Rattle.nr_settings.specs.declared.filling.Align.TheVariants.{Left, Spread}
use Rattle.nr_fill.specs.Piece.{Piece, Collected, is_nil, nothing_collected, add_cell, end_word}
use Rattle.nr_fill.specs.Piece.{one_blank_more, after_newline}
use Rattle.nr_fill.specs.Cutting.{fits, cut}
use Rattle.nr_fill.specs.Setting.{cut_of, set_line, afterwards}
use Rattle.nr_page.specs.PageBytes.{cell_bytes}
use Rattle.nr_page.specs.declared.faces.Faces.{Faces}
use Rattle.nr_options.specs.Limits.{Bounds}
use Rattle.nr_options.specs.declared.options.Options.{Options}
use Rattle.nr_formatter.specs.Text.{after_of}
use Rattle.nr_machine.specs.declared.outcome.Outcome.TheVariants.{Done}
use Rattle.nr_laws.specs.Laws.{AnswersWith}
use Rattle.nr_laws.specs.PlainText.{is_plain, TakesAll}

-- no line is empty or begins with a blank; whether the text begins at a line's beginning
abbrev pub is_filled_from : Bool → List ℕ → Bool
is_filled_from begins [] = true
is_filled_from begins (b ∷ bs) =
    not (begins && (b == code "\n" || b == code " ")) && is_filled_from (b == code "\n") bs

-- no indent, and 65 cells
abbrev pub first_margins : Margins
first_margins = record { indent = 0; length = 65 }

-- what a byte makes of the pieces
abbrev pub with_byte : Collected → ℕ → Collected
with_byte c b =
    if b == code "\n" then after_newline (end_word c)
    else (if b == code " " then one_blank_more (end_word c)
    else add_cell first_margins (after_of b) (record { byte = b; look = Plain }) c)

-- the pieces of the whole text, from which no line was taken
abbrev pub pieces_of : List ℕ → List Piece
pieces_of bs = (end_word (fold with_byte nothing_collected bs)).pieces

-- how a line of these pieces is set: spread where they don't all fit
abbrev pub align_of : Collected → Align
align_of c = if fits 65 (length c.pieces) c.pieces then Left else Spread

-- the rows that are cut one after the other, at most so many
abbrev pub rows_from : ℕ → Collected → List (List Cell)
rows_from zero c = []
rows_from (suc most) c =
    if is_nil c.pieces then []
    else set_line (record { align = align_of c; offset = 0 }) c (cut_of c)
    ∷ rows_from most (afterwards first_margins (align_of c) c (cut_of c))

-- all of them
abbrev pub rows_of : List Piece → List (List Cell)
rows_of ps = rows_from (length ps) (record nothing_collected { pieces = ps; margins = first_margins })

-- empty rows up to a multiple of 66
abbrev pub missing : ℕ → ℕ
missing rows = (66 - rows % 66) % 66

-- the bytes of the rows, on pages of 66
abbrev pub text_of : Faces → List (List Cell) → List ℕ
text_of faces rows =
    flat_map (λ (row : List Cell). flat_map (cell_bytes faces) row ++ code "\n" ∷ []) rows
    ++ replicate (missing (length rows)) (code "\n")

-- Such text is filled: its rows are cut from the pieces of all of it.
abbrev pub FilledTextIsRows : Type 0
FilledTextIsRows =
    (b : Bounds) (options : Options) (supply : Supply) (n : ℕ) (out : List ℕ)
    → is_plain supply.bytes ≡ true → is_filled_from true supply.bytes ≡ true → TakesAll options.select
    → AnswersWith b options supply n Done out
    → out ≡ text_of options.faces (rows_of (pieces_of supply.bytes))

-- Each of these rows is cut as long as it may be: of the pieces that are left no longer prefix fits a line,
abbrev pub CutIsLongest : Type 0
CutIsLongest = (line : ℕ) (ps : List Piece) (n : ℕ) → cut line ps < n → n ≤ length ps → fits line n ps ≡ false

-- and it fits, where it has more than one piece.
abbrev pub CutFits : Type 0
CutFits = (line : ℕ) (ps : List Piece) → 1 < cut line ps → fits line (cut line ps) ps ≡ true

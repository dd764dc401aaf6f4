-- How a cell is shown, and what is left where that is taken out. (CSTR 54, section 2.2; groff manual, grotty.)
use Prim.Native.Char.{code}
use Rattle.std.specs.Prelude.{ℕ, List, [], ◌∷◌, ◌==◌, nat_lt, ◌&&◌, not, Bool, if◌then◌else◌}
use Rattle.std.specs.Char.{is_ascii_alphanumeric}
use Rattle.nr_vectors.specs.Cell.{is_plain, is_under}
use Rattle.nr_vectors.specs.declared.cell.Cell.{Cell}
use Rattle.nr_vectors.specs.declared.cell.Look.{Look}
use Rattle.nr_vectors.specs.declared.cell.Look.TheVariants.{Plain, Under, Bold}
use Rattle.nr_page.specs.declared.faces.Faces.{Faces}
use Rattle.nr_page.specs.declared.faces.Faces.TheVariants.{Letters, All}

-- the look that shows of a cell: letters and digits are underlined, or each printing cell looks as it is
abbrev pub shown_look : Faces → Cell → Look
shown_look Letters cell = if is_under cell.look && is_ascii_alphanumeric cell.byte then Under else Plain
shown_look All cell = if nat_lt (code " ") cell.byte then cell.look else Plain

-- whether a cell of this look may show as more than its byte
abbrev pub may_show : Faces → Look → Bool
may_show Letters look = is_under look
may_show All look = not (is_plain look)

-- a byte that is underlined is struck over `_`, and one that is bold over itself
abbrev pub struck : Look → ℕ → List ℕ
struck Plain b = b ∷ []
struck Under b = code "_" ∷ 8 ∷ b ∷ []
struck Bold b = b ∷ 8 ∷ b ∷ []

-- the bytes of a cell
abbrev pub cell_bytes : Faces → Cell → List ℕ
cell_bytes faces cell = struck (shown_look faces cell) cell.byte

-- ---- what is struck over, taken out

-- a byte before what is left of the bytes after it: a backspace takes it away
abbrev pub over : ℕ → List ℕ → List ℕ
over b [] = b ∷ []
over b (c ∷ cs) = if c == 8 then cs else b ∷ c ∷ cs

-- the bytes without those that others are struck over
abbrev pub struck_out : List ℕ → List ℕ
struck_out [] = []
struck_out (b ∷ bs) = over b (struck_out bs)

-- the same, but where a letter or digit is struck over `_`
abbrev pub over_unless_letter : ℕ → List ℕ → List ℕ
over_unless_letter b [] = b ∷ []
over_unless_letter b (c ∷ []) = b ∷ c ∷ []
over_unless_letter b (c ∷ d ∷ ds) =
    if c == 8 then (if (b == code "_") && is_ascii_alphanumeric d then b ∷ c ∷ d ∷ ds else d ∷ ds)
    else b ∷ c ∷ d ∷ ds

-- the bytes in which letters and digits alone are underlined, and nothing is bold
abbrev pub letters_underlined : List ℕ → List ℕ
letters_underlined [] = []
letters_underlined (b ∷ bs) = over_unless_letter b (letters_underlined bs)

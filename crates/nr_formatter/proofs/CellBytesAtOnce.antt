-- Bytes one after another that go to the word of a text line and do not end it.
use Prim.Native.Char.{code}
use Rattle.std.proofs.Common.{◌≡◌, ℕ, zero, suc, ◌+◌, ◌<◌, ◌≤◌, true, false, List, [], ◌∷◌, ◌++◌, length, take, Result, Ok, Err, inl, inr, replicate, refl, sym, ◌∙◌, ap, subst, arith}
use Rattle.std.specs.Prelude.{OnOk, slice_index}
use Rattle.std.specs.Result.{is_err}
use Rattle.std.proofs.lemmas.Bool.{cases_lt}
use Rattle.std.proofs.lemmas.List.{take_more}
use Rattle.nr_fill.specs.Line.{Lined, afforded}
use Rattle.nr_fill.specs.Piece.{line_cells}
use Rattle.nr_fill.specs.declared.line.LineCells.{LineCells}
use Rattle.nr_fill.specs.Runs.{add_blanks}
use Rattle.nr_fill.proofs.Measures.{afforded_err, line_cells-add_blank, measured_blanks}
use Rattle.nr_formatter.specs.Access.{collected, margins, with_collected}
use Rattle.nr_formatter.specs.Many.CellBytes.{IsCellByte, PutsCellBytes, byte_put, goes_to_word}
use Rattle.nr_formatter.specs.Many.Runs.{is_in_line, manner_of}
use Rattle.nr_formatter.specs.declared.formatter.Formatter.{Formatter}
use Rattle.nr_formatter.proofs.CellBytes.{begun-byte}
use Rattle.nr_formatter.proofs.PlainText.{in_line}

-- the next item is read in a line that has begun after one
pub line_byte : (b : ℕ) (f : Formatter) → is_in_line f ≡ true → is_in_line (byte_put b f) ≡ true
line_byte b f is = let line = in_line f is in rw (line.springs, line.event, line.task, line.half, begun-byte b f) refl

-- and after all
pub line_bytes : (bs : List ℕ) (f g : Formatter) → is_in_line f ≡ true → PutsCellBytes bs f g → is_in_line g ≡ true
line_bytes [] f g line puts = ap is_in_line puts ∙ line
line_bytes (b ∷ bs) f g line puts = line_bytes bs (byte_put b f) g (line_byte b f line) puts.1

-- words are read in the same way
pub manner_bytes : (bs : List ℕ) (f g : Formatter) → PutsCellBytes bs f g → manner_of g ≡ manner_of f
manner_bytes [] f g puts = ap manner_of puts
manner_bytes (b ∷ bs) f g puts = manner_bytes bs (byte_put b f) g puts.1

-- some after others
pub puts_after : (bs cs : List ℕ) (f g h : Formatter) → PutsCellBytes bs f g → PutsCellBytes cs g h → PutsCellBytes (bs ++ cs) f h
puts_after [] cs f g h puts more = subst (λ (x : Formatter). PutsCellBytes cs x h) puts more
puts_after (b ∷ bs) cs f g h puts more = (puts.0, puts_after bs cs (byte_put b f) g h puts.1 more)

-- a byte that was not refused passes no limit
fits_afforded : (v : Lined) (u : Unit {0}) → ◌≡◌ {A = Result (Unit {0}) LineCells} (Ok u) (afforded v) → line_cells v.collected ≤ v.limit
fits_afforded v u is = elim (cases_lt v.limit (line_cells v.collected)) [
  | inl above ↦ absurd (let wrong : ◌≡◌ {A = Result (Unit {0}) LineCells} (Ok u) (Err (record {})) = is ∙ sym (afforded_err v above) in cc)
  | inr within ↦ omega (arith, within)
]

pub byte_taken : (b : ℕ) (f g : Formatter) (r : Result (Unit {0}) LineCells) → is_in_line f ≡ true → goes_to_word b f ≡ true → r ≡ afforded (byte_put b f).line → OnOk r (g ≡ byte_put b f) → is_err r ≡ false
    → IsCellByte b f × (g ≡ byte_put b f)
byte_taken b f g (Ok u) line goes is put err = (record { line = line; goes = goes; within = fits_afforded (byte_put b f).line u is }, put)
byte_taken b f g (Err e) line goes is put err = absurd (let wrong : true ≡ false = err in cc)

-- one after others
pub puts_one : (n b : ℕ) (bs : List ℕ) (f g h : Formatter) → n < length bs → slice_index bs n ≡ b → PutsCellBytes (take n bs) f g → IsCellByte b g → h ≡ byte_put b g
    → PutsCellBytes (take (n + 1) bs) f h
puts_one n b bs f g h below is puts byte put =
    subst (λ xs. PutsCellBytes xs f h) (sym (take_more bs n 0 below ∙ ap (λ c. take n bs ++ c ∷ []) is)) (puts_after (take n bs) (b ∷ []) f g h puts (byte, put))

-- blanks, which are added at once
pub puts_blanks : (n : ℕ) (f : Formatter) → is_in_line f ≡ true → goes_to_word (code " ") f ≡ true → (0 < n → line_cells (add_blanks (margins f) n (collected f)) ≤ f.line.limit)
    → PutsCellBytes (replicate n (code " ")) f (with_collected (add_blanks (margins f) n (collected f)) f)
puts_blanks zero f line goes fits = refl
puts_blanks (suc n) f line goes fits =
    let all = measured_blanks (margins f) (suc n) (collected f) (omega arith) in
    let one = line_cells-add_blank (margins f) (collected f) in
    let byte : IsCellByte (code " ") f = record { line = line; goes = goes; within = omega (arith, fits (omega arith)) } in
    (byte, puts_blanks n (byte_put (code " ") f) (line_byte (code " ") f line) goes (λ some. fits (omega arith)))

-- Plain text, and what of it and of the output is neither a blank nor a newline.
use Prim.Native.Char.{code}
use Rattle.std.specs.Prelude.{◌≡◌, ℕ, nat_le, Bool, true, not, ◌&&◌, ◌||◌, ◌==◌, List, [], ◌∷◌, Option, ℤ}
use Rattle.std.specs.List.{filter}
use Rattle.nr_units.specs.Source.{Supply}
use Rattle.nr_page.specs.declared.selection.PageRange.{PageRange}
use Rattle.nr_options.specs.Limits.{Bounds}
use Rattle.nr_options.specs.declared.options.Options.{Options}
use Rattle.nr_machine.specs.Printing.{selects}
use Rattle.nr_machine.specs.declared.outcome.Outcome.TheVariants.{Done}
use Rattle.nr_laws.specs.Laws.{AnswersWith}

-- a byte that is no blank and no newline
abbrev pub is_ink : ℕ → Bool
is_ink b = not (b == code " ") && not (b == code "\n")

-- the text less blanks and newlines
abbrev pub squeezed : List ℕ → List ℕ
squeezed bs = filter is_ink bs

-- a newline, or of a blank to `~` but no `\`
abbrev pub is_plain_byte : ℕ → Bool
is_plain_byte b = b == code "\n" || (nat_le (code " ") b && nat_le b (code "~") && not (b == code "\\"))

-- `.` or `'`
abbrev pub is_sign : ℕ → Bool
is_sign b = b == code "." || b == code "'"

-- only such bytes, and no line that begins with `.` or `'`; whether it begins at a line's beginning
abbrev pub is_plain_from : Bool → List ℕ → Bool
is_plain_from begins [] = true
is_plain_from begins (b ∷ bs) =
    is_plain_byte b && (not (begins && is_sign b) && is_plain_from (b == code "\n") bs)

-- of a whole input
abbrev pub is_plain : List ℕ → Bool
is_plain bs = is_plain_from true bs

-- each page is printed: there is no page list, or one that takes them all
abbrev pub TakesAll : Option (List PageRange) → Type 0
TakesAll select = (page : ℤ) → selects select page ≡ true

-- Of plain text all goes out, in order, with other blanks and newlines among it.
abbrev pub PlainTextStays : Type 0
PlainTextStays =
    (b : Bounds) (options : Options) (supply : Supply) (n : ℕ) (out : List ℕ)
    → is_plain supply.bytes ≡ true → TakesAll options.select → AnswersWith b options supply n Done out
    → squeezed out ≡ squeezed supply.bytes

-- Fields (Tbl, "Data"; tbl(1), "Table data"): rules, blocks, what goes on from above, what is repeated, text.
use Rattle.std.specs.Prelude.{ℕ, ◌+◌, List, [], ◌∷◌, take, Bool, true, false, ◌==◌, ◌&&◌, ◌||◌, not, if◌then◌else◌, Option, None, Some}
use Prim.Native.Char.{code}
use Rattle.tbl_reader.specs.declared.field.Mark.TheVariants as marks
use Rattle.tbl_reader.specs.declared.field.Shape.{Shape}
use Rattle.tbl_reader.specs.declared.field.Shape.TheVariants.{Empty, Mark, Block, Text}
use Rattle.tbl_reader.specs.declared.numbers.Marks.{Marks}
use Rattle.tbl_reader.specs.Numbers.{is_digit, first_marks, marks_with}

abbrev pub is_rule : ℕ → Bool
is_rule b = (b == code "_") || (b == code "=")

-- `\_` and `\=`, `\^`, `T{`
abbrev pub shape_of_two : ℕ → ℕ → Shape
shape_of_two a b =
    if (a == code "\\") && is_rule b then Mark marks.Inner else
    if (a == code "\\") && (b == code "^") then Mark marks.Above else
    if (a == code "T") && (b == code "{") then Block else Text

-- an escape of a sign: `\-` or `\.`
abbrev pub is_sign : ℕ → ℕ → Bool
is_sign a b = (a == code "\\") && ((b == code "-") || (b == code "."))

-- what a field is
abbrev pub shape_of : List ℕ → Shape
shape_of [] = Empty
shape_of (a ∷ []) = if is_rule a then Mark marks.Rule else Text
shape_of (a ∷ b ∷ []) = shape_of_two a b
shape_of (a ∷ b ∷ c ∷ []) = if (a == code "\\") && (b == code "R") then Mark (marks.Repeat c) else Text
shape_of (a ∷ b ∷ c ∷ d ∷ []) =
    if (a == code "\\") && (b == code "R") && is_sign c d then Mark (marks.Repeat d) else Text
shape_of (a ∷ b ∷ c ∷ d ∷ e ∷ rest) = Text

abbrev pub without_blanks_before : List ℕ → List ℕ
without_blanks_before [] = []
without_blanks_before (b ∷ bs) = if b == code " " then without_blanks_before bs else b ∷ bs

-- a comment begins it
abbrev pub is_comment : List ℕ → Bool
is_comment [] = false
is_comment (a ∷ []) = false
is_comment (a ∷ b ∷ rest) = (a == code "\\") && (b == code "\"")

-- ---- where a number is aligned

abbrev pub marks_after : ℕ → ℕ → List ℕ → Marks → Marks
marks_after point place [] m = m
marks_after point place (b ∷ bs) m = marks_after point (place + 1) bs (marks_with b place point m)

abbrev pub marks_of : ℕ → List ℕ → Marks
marks_of point text = marks_after point 0 text first_marks

-- ---- lines

-- a line between rows that is a request: it begins with a point and no digit
abbrev pub is_request : List ℕ → Bool
is_request [] = false
is_request (a ∷ []) = a == code "."
is_request (a ∷ b ∷ rest) = (a == code ".") && not (is_digit b)

-- where the first of these bytes stands
abbrev pub one_later : Option ℕ → Option ℕ
one_later None = None
one_later (Some n) = Some (1 + n)

abbrev pub place_of : ℕ → List ℕ → Option ℕ
place_of byte [] = None
place_of byte (b ∷ bs) = if b == byte then Some 0 else one_later (place_of byte bs)

-- of two backslashes the second becomes `e`; one that stands alone may be the first of two
abbrev pub second_of : Bool → ℕ → ℕ
second_of alone b = if alone && (b == code "\\") then code "e" else b

abbrev pub is_alone : Bool → ℕ → Bool
is_alone alone b = (b == code "\\") && not alone

abbrev pub paired : Bool → List ℕ → List ℕ
paired alone [] = []
paired alone (b ∷ bs) = second_of alone b ∷ paired (is_alone alone b) bs

-- whether the last one stands alone
abbrev pub open_after : Bool → List ℕ → Bool
open_after alone [] = alone
open_after alone (b ∷ bs) = open_after (is_alone alone b) bs

-- a line ends with a comment
abbrev pub comment_in : List ℕ → Option ℕ
comment_in [] = None
comment_in (b ∷ bs) = if is_comment (b ∷ bs) then Some 0 else one_later (comment_in bs)

abbrev pub is_given : Option ℕ → Bool
is_given None = false
is_given (Some n) = true

abbrev pub has_comment : List ℕ → Bool
has_comment line = is_given (comment_in line)

abbrev pub cut : Option ℕ → List ℕ → List ℕ
cut None line = line
cut (Some n) line = take n line

abbrev pub before_comment : List ℕ → List ℕ
before_comment line = cut (comment_in line) line

-- what is read of a line, and whether the row goes on in the next
abbrev pub cleaned : List ℕ → List ℕ
cleaned line = before_comment (paired false line)

abbrev pub continues : List ℕ → Bool
continues line = open_after false line && not (has_comment (paired false line))

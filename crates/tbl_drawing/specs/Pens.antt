-- A line is drawn by strokes, from the left to the right. The pen knows where the line stands, where that shows; how many blanks are to
-- go out before the next byte; and whether anything went out. Blanks at the end of a line don't go out. After a text whose
-- width only the formatter knows it moves by a request.
use Rattle.std.specs.Prelude.{ℕ, ◌-◌, max, Bool, true, false, ◌==◌, ◌&&◌, ◌||◌, not, nat_lt, List, [], ◌∷◌, ◌++◌, replicate, Option, None, Some, codes, decimal, if◌then◌else◌}
use Prim.Native.Char.{code}
use Rattle.tbl_drawing.specs.declared.pen.Pen.{Pen}
use Rattle.tbl_table.specs.Sums.{sum}

pub data Stroke : Type 0 where
  -- a line begins
  Start : Stroke
  -- it goes on at a place, by a motion if it must; or where an expression of the formatter says
  To : ℕ → Stroke
  Jump : ℕ → Stroke
  Leave : Stroke
  -- the blanks go out
  Release : Stroke
  -- a rule of a byte up to a place, by bytes or by the formatter
  DashTo : ℕ → ℕ → Stroke
  Dashes : ℕ → ℕ → ℕ → Stroke
  Rule : ℕ → ℕ → Stroke
  -- a byte repeated up to a place, by bytes or by the formatter
  Fill : ℕ → ℕ → Stroke
  Copies : ℕ → ℕ → ℕ → Stroke
  FillByEscape : ℕ → ℕ → Stroke
  -- text begins with this byte, which is no control character then; its bytes, or a field's text; how many cells it took, if that is known
  Guard : ℕ → Stroke
  Begun : Stroke
  Bytes : List ℕ → Stroke
  Text : List ℕ → Stroke
  Pass : Option ℕ → Stroke

abbrev pub first : Pen
first = record { at = Some 0; blanks = 0; begun = false }

-- ---- what strokes do to the pen

abbrev pub released : Pen → Pen
released p = record p { blanks = 0; begun = p.begun || nat_lt 0 p.blanks }

abbrev pub steps_from : Option ℕ → ℕ → Option ℕ
steps_from None place = None
steps_from (Some at) place = Some (place - at)

abbrev pub steps_to : ℕ → Pen → Option ℕ
steps_to place p = steps_from p.at place

-- the pen never goes back
abbrev pub furthest : Option ℕ → ℕ → Option ℕ
furthest None place = Some place
furthest (Some at) place = Some (max at place)

abbrev pub moved : ℕ → ℕ → Pen → Pen
moved cells place p = record p { at = furthest p.at place; blanks = sum p.blanks cells }

abbrev pub gone : Option ℕ → Pen → Pen
gone at p = record p { at = at; begun = true }

abbrev pub dashed : ℕ → ℕ → Pen → Pen
dashed cells place p = record p { at = furthest p.at place; begun = p.begun || nat_lt 0 cells }

abbrev pub on_from : Option ℕ → Option ℕ → Option ℕ
on_from None cells = None
on_from (Some at) None = None
on_from (Some at) (Some cells) = Some (sum at cells)

abbrev pub passed : Option ℕ → Pen → Pen
passed cells p = record p { at = on_from p.at cells }

abbrev pub to : Option ℕ → ℕ → Pen → Pen
to None place p = gone (Some place) (released p)
to (Some cells) place p = moved cells place p

abbrev pub dashed_to : Option ℕ → ℕ → Pen → Pen
dashed_to None place p = gone (Some place) p
dashed_to (Some cells) place p = dashed cells place p

-- a backslash is copied by the formatter
abbrev pub filled_to : Option ℕ → ℕ → Pen → Pen
filled_to None place p = gone None p
filled_to (Some cells) place p = gone (Some place) p

abbrev pub filled : ℕ → ℕ → Pen → Pen
filled b place p = if b == code "\\" then gone None p else filled_to (steps_to place p) place p

abbrev pub after : Stroke → Pen → Pen
after Start p = first
after (To place) p = to (steps_to place p) place p
after (Jump place) p = gone (Some place) (released p)
after Leave p = gone None (released p)
after Release p = released p
after (DashTo b place) p = dashed_to (steps_to place p) place p
after (Dashes b cells place) p = dashed cells place p
after (Rule b place) p = gone (Some place) p
after (Fill b place) p = filled b place p
after (Copies b cells place) p = gone (Some place) p
after (FillByEscape b place) p = gone None p
after (Guard b) p = p
after Begun p = gone p.at p
after (Bytes bytes) p = p
after (Text text) p = p
after (Pass cells) p = passed cells p

-- ---- what goes out

-- blanks at the beginning of a line would be none of its text
abbrev pub lead : Bool → List ℕ
lead begun = if not begun then codes "\\&" else []

abbrev pub blanks : Pen → List ℕ
blanks p = if p.blanks == 0 then [] else lead p.begun ++ replicate p.blanks (code " ")

abbrev pub jump_bytes : ℕ → Pen → List ℕ
jump_bytes place p = blanks p ++ (codes " \\h'|" ++ decimal place ++ codes "n'")

abbrev pub to_bytes : Option ℕ → ℕ → Pen → List ℕ
to_bytes None place p = jump_bytes place p
to_bytes (Some cells) place p = []

abbrev pub rule_bytes : ℕ → ℕ → List ℕ
rule_bytes b place = codes "\\l'|" ++ decimal place ++ code "n" ∷ b ∷ code "'" ∷ []

abbrev pub dash_bytes : Option ℕ → ℕ → ℕ → List ℕ
dash_bytes None b place = rule_bytes b place
dash_bytes (Some cells) b place = replicate cells b

abbrev pub fill_by_escape : ℕ → ℕ → List ℕ
fill_by_escape b place = codes "\\l'|" ++ decimal place ++ code "n" ∷ b ∷ code "'" ∷ []

abbrev pub fill_to : Option ℕ → ℕ → ℕ → List ℕ
fill_to None b place = fill_by_escape b place
fill_to (Some cells) b place = replicate cells b

abbrev pub fill_bytes : ℕ → ℕ → Pen → List ℕ
fill_bytes b place p = if b == code "\\" then fill_by_escape b place else fill_to (steps_to place p) b place

abbrev pub guard : Bool → ℕ → List ℕ
guard begun b = if not begun && ((b == code ".") || (b == code "'")) then codes "\\&" else []

abbrev pub bytes : Stroke → Pen → List ℕ
bytes Start p = []
bytes (To place) p = to_bytes (steps_to place p) place p
bytes (Jump place) p = jump_bytes place p
bytes Leave p = blanks p
bytes Release p = blanks p
bytes (DashTo b place) p = dash_bytes (steps_to place p) b place
bytes (Dashes b cells place) p = replicate cells b
bytes (Rule b place) p = rule_bytes b place
bytes (Fill b place) p = fill_bytes b place p
bytes (Copies b cells place) p = replicate cells b
bytes (FillByEscape b place) p = fill_by_escape b place
bytes (Guard b) p = guard p.begun b
bytes Begun p = []
bytes (Bytes bs) p = bs
bytes (Text text) p = text
bytes (Pass cells) p = []

-- ---- one stroke after another

abbrev pub after_all : List Stroke → Pen → Pen
after_all [] p = p
after_all (s ∷ ss) p = after_all ss (after s p)

abbrev pub bytes_of : List Stroke → Pen → List ℕ
bytes_of [] p = []
bytes_of (s ∷ ss) p = bytes s p ++ bytes_of ss (after s p)

-- ---- strokes that belong together

abbrev pub begin : ℕ → List Stroke
begin b = Release ∷ Guard b ∷ Begun ∷ []

abbrev pub dash : ℕ → ℕ → List Stroke
dash b place = Release ∷ DashTo b place ∷ []

-- bars, or what stands for them where a rule meets them
abbrev pub bars : ℕ → ℕ → List Stroke
bars b count = begin b ++ Bytes (replicate count b) ∷ Pass (Some count) ∷ []

abbrev pub fill : ℕ → ℕ → List Stroke
fill b place = begin b ++ Fill b place ∷ []

abbrev pub end : List Stroke
end = Bytes (code "\n" ∷ []) ∷ []

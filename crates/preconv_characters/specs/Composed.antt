-- Letters with marks: by numbers (`u0065_0301`), or with the names of accents (`e aa`) (groff_char(7)).
use Prim.Native.Char.{code}
use Rattle.std.specs.Prelude.{ℕ, List, [], ◌∷◌, ◌++◌, length, Bool, false, not, ◌==◌, ◌&&◌, ◌||◌, nat_lt}
use Rattle.std.specs.Prelude.{if◌then◌else◌, Option, None, Some, is_some}
use Rattle.unicode_normalization.specs.Compose.{primary_composite}
use Rattle.utf8_characters.specs.declared.table.FixedTable.{FixedTable}
use Rattle.utf8_characters.specs.Tables.{byte_of}
use Rattle.preconv_characters.specs.declared.composed.Marked.{Marked}
use Rattle.preconv_characters.specs.declared.composed.TheConstants.{ACCENTS}
use Rattle.preconv_characters.specs.Glyphs.{below_codes, glyph_code, is_native, named_in}
use Rattle.preconv_characters.specs.Likeness.{or_else}
use Rattle.preconv_characters.specs.Numbers.{is_within, number_from}
use Rattle.preconv_characters.specs.Targets.{shown}

-- ---- the names of marks

-- a blank or `_` stands before the name of each mark
abbrev pub separates : ℕ → Bool
separates b = (b == code " ") || (b == code "_")

-- what stands after the first of these
abbrev pub marks_in : List ℕ → List ℕ
marks_in [] = []
marks_in (b ∷ bs) = if separates b then bs else marks_in bs

abbrev pub has_marks : List ℕ → Bool
has_marks name = nat_lt 2 (length name) && nat_lt 0 (length (marks_in name))

-- the mark of an accent (composite.tmac)
unfoldable pub accent_code : List ℕ → Option ℕ
accent_code name = named_in ACCENTS name

abbrev pub without_u : List ℕ → List ℕ
without_u [] = []
without_u (b ∷ bs) = if b == code "u" then bs else b ∷ bs

-- the mark of an accent, or that with a number
abbrev pub mark_code : List ℕ → Option ℕ
mark_code name = or_else (accent_code name) (below_codes (number_from 16 0 (without_u name)))

-- ---- letters with marks

abbrev pub unmarked : ℕ → Marked
unmarked c = record { letter = c; whole = c; mark = 0 }

abbrev pub composed_by : Option ℕ → ℕ → Marked → Marked
composed_by (Some whole) c m = record m { whole = whole }
composed_by None c m = if is_within 768 879 c then record m { mark = c } else m

-- A mark composes with the letter and the marks before it (é of `e` and U+0301). The first that does not is
-- kept, and those after it are dropped.
abbrev pub with_mark : Option ℕ → Marked → Marked
with_mark None m = m
with_mark (Some c) m = if m.mark == 0 then composed_by (primary_composite (shown m.whole) (shown c)) c m else m

-- the marks of these names, of the first of which this was read
abbrev pub with_marks : Marked → List ℕ → List ℕ → Marked
with_marks m name [] = with_mark (mark_code name) m
with_marks m name (b ∷ bs) =
    if separates b then with_marks (with_mark (mark_code name) m) [] bs else with_marks m (name ++ b ∷ []) bs

-- A LETTER with the marks that a name has after it
abbrev pub marked_by : List ℕ → ℕ → Marked
marked_by name c = with_marks (unmarked c) [] (marks_in name)

-- ---- tables that lack it

-- of the characters that have names, the letters beyond ASCII have these codes, and signs most others
abbrev pub is_letter : ℕ → Bool
is_letter c = is_within 128 8191 c

abbrev pub is_beyond : FixedTable → Marked → Bool
is_beyond table m = not (m.mark == 0) || (is_letter m.whole && not (is_some (byte_of table m.whole)))

abbrev pub lacks_marked : FixedTable → List ℕ → Option ℕ → Bool
lacks_marked table name None = false
lacks_marked table name (Some c) = is_beyond table (marked_by name c)

-- A fixed table lacks the letter of a name. What the language has itself is no letter.
abbrev pub lacks_letter : FixedTable → List ℕ → Bool
lacks_letter table name = not (is_native name) && lacks_marked table name (glyph_code name)

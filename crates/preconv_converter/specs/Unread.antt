-- Lines of which nothing is read: what a comment and an ignored line have changes nothing of the rest.
use Prim.Native.Char.{code}
use Rattle.std.specs.Prelude.{◌≡◌, ℕ, List, [], ◌∷◌, ◌++◌, Bool, true, false, not, ◌==◌, ◌&&◌}
use Rattle.preconv_lines.specs.declared.half.Line.TheVariants as lines
use Rattle.preconv_lines.specs.declared.half.Dots.TheVariants as dots
use Rattle.preconv_converter.specs.declared.reader.Reader.{Reader}
use Rattle.preconv_converter.specs.Reading.{fed}

-- there is no newline in it
abbrev pub is_in_line : List ℕ → Bool
is_in_line [] = true
is_in_line (b ∷ bs) = not (b == code "\n") && is_in_line bs

abbrev pub begins_with_dots : List ℕ → Bool
begins_with_dots [] = false
begins_with_dots (a ∷ []) = false
begins_with_dots (a ∷ b ∷ bs) = (a == code ".") && (b == code ".")

-- after a comment stands what would stand there if it were empty
abbrev pub CommentsAreUnread : Type 0
CommentsAreUnread = (r : Reader) (text : List ℕ) → r.half.line ≡ lines.Comment → is_in_line text ≡ true
    → (fed r (text ++ code "\n" ∷ [])).reader ≡ (fed r (code "\n" ∷ [])).reader

-- after an ignored line that does not begin with two dots stands what stood before it
abbrev pub IgnoredLinesAreUnread : Type 0
IgnoredLinesAreUnread = (r : Reader) (text : List ℕ) → r.half.line ≡ lines.Ignored dots.Start
    → is_in_line text ≡ true → begins_with_dots text ≡ false
    → (fed r (text ++ code "\n" ∷ [])).reader ≡ r

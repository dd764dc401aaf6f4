-- What a comment and an ignored line have changes nothing of the rest.
use Prim.Native.Char.{code}
use Rattle.std.proofs.Common.{◌≡◌, ℕ, List, [], ◌∷◌, ◌++◌, Bool, true, false, not, ◌==◌, ◌&&◌, if◌then◌else◌, refl, sym, ◌∙◌, ap}
use Rattle.preconv_lines.specs.declared.half.Dots.{Dots}
use Rattle.preconv_lines.specs.declared.half.Dots.TheVariants as dots
use Rattle.preconv_lines.specs.declared.half.Line.{Line}
use Rattle.preconv_lines.specs.declared.half.Line.TheVariants as lines
use Rattle.preconv_converter.specs.declared.reader.Reader.{Reader}
use Rattle.preconv_characters.specs.Saying.{sent}
use Rattle.preconv_lines.specs.Lines.{after_ignored, one_dot_more, no_dot, line_passed, passing}
use Rattle.preconv_lines.specs.Offering.{is_raw}
use Rattle.preconv_converter.specs.Reading.{emitted, with_half, heard_byte, read, fed}
use Rattle.preconv_converter.specs.Unread.{is_in_line, begins_with_dots, CommentsAreUnread}
use Rattle.preconv_converter.specs.Unread.{IgnoredLinesAreUnread}
use Rattle.preconv_converter.proofs.Plain.{and-first, and-second, is_not}

-- the same, where its line stands so
at : Line → Reader → Reader
at line r = with_half (record r.half { line = line }) r

is_at : (r : Reader) (line : Line) → r.half.line ≡ line → r ≡ at line r
unfolding at
is_at r line e = ap (λ (l : Line). with_half (record r.half { line = l }) r) e

-- a byte passes
passes : (b : ℕ) (line : Line) (r : Reader) → is_raw line ≡ true → (read b (at line r)).reader ≡ at (line_passed line b) r
unfolding at
passes b line r raw =
    let s = at line r in
    ap (λ (x : Bool). (if x then emitted (with_half (passing b s.half) s) (sent s.table b ∷ []) 1 else heard_byte b s).reader) raw

-- ---- comments

comment_on : (text : List ℕ) (r : Reader) → is_in_line text ≡ true
    → (fed (at lines.Comment r) (text ++ code "\n" ∷ [])).reader ≡ (fed (at lines.Comment r) (code "\n" ∷ [])).reader
unfolding at
comment_on [] r p = refl
comment_on (b ∷ bs) r p =
    let here : (b == code "\n") ≡ false = is_not (b == code "\n") (and-first (not (b == code "\n")) (is_in_line bs) p) in
    ap (λ (s : Reader). (fed s (bs ++ code "\n" ∷ [])).reader) (passes b lines.Comment r refl)
    ∙ ap (λ (x : Bool). (fed (at (if x then lines.Start else lines.Comment) r) (bs ++ code "\n" ∷ [])).reader) here
    ∙ comment_on bs r (and-second (not (b == code "\n")) (is_in_line bs) p)

pub comments-unread : CommentsAreUnread
comments-unread r text e p =
    ap (λ (s : Reader). (fed s (text ++ code "\n" ∷ [])).reader) (is_at r lines.Comment e)
    ∙ comment_on text r p
    ∙ sym (ap (λ (s : Reader). (fed s (code "\n" ∷ [])).reader) (is_at r lines.Comment e))

-- ---- ignored lines

-- a byte that is no newline, a dot or not
ignored_by : (x y : Bool) (d : Dots) (r : Reader) → x ≡ false
    → at (if x then after_ignored d else (if y then lines.Ignored (one_dot_more d) else lines.Ignored (no_dot d))) r
    ≡ at (lines.Ignored (if y then one_dot_more d else no_dot d)) r
ignored_by true y d r p = absurd (let no : true ≡ false = p in cc)
ignored_by false true d r p = refl
ignored_by false false d r p = refl

ignored_byte : (b : ℕ) (d : Dots) (r : Reader) → not (b == code "\n") ≡ true
    → (read b (at (lines.Ignored d) r)).reader ≡ at (lines.Ignored (if b == code "." then one_dot_more d else no_dot d)) r
ignored_byte b d r p = passes b (lines.Ignored d) r refl ∙ ignored_by (b == code "\n") (b == code ".") d r (is_not (b == code "\n") p)

abbrev is_two : Dots → Bool
is_two dots.Two = true
is_two d = false

ends_line : (d : Dots) (r : Reader) → is_two d ≡ false → (fed (at (lines.Ignored d) r) (code "\n" ∷ [])).reader ≡ at (lines.Ignored dots.Start) r
ends_line dots.Two r p = absurd (let no : true ≡ false = p in cc)
ends_line dots.Start r p = passes (code "\n") (lines.Ignored dots.Start) r refl
ends_line dots.One r p = passes (code "\n") (lines.Ignored dots.One) r refl
ends_line dots.Other r p = passes (code "\n") (lines.Ignored dots.Other) r refl

stays_other : (x : Bool) → (if x then one_dot_more dots.Other else no_dot dots.Other) ≡ dots.Other
stays_other true = refl
stays_other false = refl

other_on : (bs : List ℕ) (r : Reader) → is_in_line bs ≡ true → (fed (at (lines.Ignored dots.Other) r) (bs ++ code "\n" ∷ [])).reader ≡ at (lines.Ignored dots.Start) r
other_on [] r p = ends_line dots.Other r refl
other_on (b ∷ bs) r p =
    ap (λ (s : Reader). (fed s (bs ++ code "\n" ∷ [])).reader) (ignored_byte b dots.Other r (and-first (not (b == code "\n")) (is_in_line bs) p))
    ∙ ap (λ (d : Dots). (fed (at (lines.Ignored d) r) (bs ++ code "\n" ∷ [])).reader) (stays_other (b == code "."))
    ∙ other_on bs r (and-second (not (b == code "\n")) (is_in_line bs) p)

-- after the first byte
first_is : Bool → Dots
first_is x = if x then dots.One else dots.Other

first_by : (x : Bool) → (if x then one_dot_more dots.Start else no_dot dots.Start) ≡ first_is x
unfolding first_is
first_by true = refl
first_by false = refl

one_is_not_two : (x : Bool) → is_two (first_is x) ≡ false
unfolding first_is
one_is_not_two true = refl
one_is_not_two false = refl

second_by : (x y : Bool) → (x && y) ≡ false → (if y then one_dot_more (first_is x) else no_dot (first_is x)) ≡ dots.Other
unfolding first_is
second_by true true p = absurd (let no : true ≡ false = p in cc)
second_by true false p = refl
second_by false true p = refl
second_by false false p = refl

line_on : (text : List ℕ) (r : Reader) → is_in_line text ≡ true → begins_with_dots text ≡ false
    → (fed (at (lines.Ignored dots.Start) r) (text ++ code "\n" ∷ [])).reader ≡ at (lines.Ignored dots.Start) r
line_on [] r p q = ends_line dots.Start r refl
line_on (a ∷ []) r p q =
    ap (λ (s : Reader). (fed s (code "\n" ∷ [])).reader) (ignored_byte a dots.Start r (and-first (not (a == code "\n")) true p))
    ∙ ap (λ (d : Dots). (fed (at (lines.Ignored d) r) (code "\n" ∷ [])).reader) (first_by (a == code "."))
    ∙ ends_line (first_is (a == code ".")) r (one_is_not_two (a == code "."))
line_on (a ∷ b ∷ bs) r p q =
    let more = and-second (not (a == code "\n")) (is_in_line (b ∷ bs)) p in
    ap (λ (s : Reader). (fed s ((b ∷ bs) ++ code "\n" ∷ [])).reader) (ignored_byte a dots.Start r (and-first (not (a == code "\n")) (is_in_line (b ∷ bs)) p))
    ∙ ap (λ (d : Dots). (fed (at (lines.Ignored d) r) ((b ∷ bs) ++ code "\n" ∷ [])).reader) (first_by (a == code "."))
    ∙ ap (λ (s : Reader). (fed s (bs ++ code "\n" ∷ [])).reader) (ignored_byte b (first_is (a == code ".")) r (and-first (not (b == code "\n")) (is_in_line bs) more))
    ∙ ap (λ (d : Dots). (fed (at (lines.Ignored d) r) (bs ++ code "\n" ∷ [])).reader) (second_by (a == code ".") (b == code ".") q)
    ∙ other_on bs r (and-second (not (b == code "\n")) (is_in_line bs) more)

pub ignored-unread : IgnoredLinesAreUnread
ignored-unread r text e p q =
    ap (λ (s : Reader). (fed s (text ++ code "\n" ∷ [])).reader) (is_at r (lines.Ignored dots.Start) e)
    ∙ line_on text r p q
    ∙ sym (is_at r (lines.Ignored dots.Start) e)

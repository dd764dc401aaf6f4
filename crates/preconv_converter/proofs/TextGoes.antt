-- A text line goes out piece by piece.
use Prim.Native.Char.{code}
use Rattle.std.proofs.Common.{◌≡◌, ℕ, suc, List, [], ◌∷◌, ◌++◌, Bool, true, false, not, ◌==◌, ◌&&◌, ◌||◌, nat_lt, if◌then◌else◌, refl, sym, ◌∙◌, ap, subst, arith}
use Rattle.std.specs.Prelude.{codes}
use Rattle.std.proofs.lemmas.Bool.Decides.{nat_tests}
use Rattle.preconv_characters.specs.declared.target.Target.{Target}
use Rattle.preconv_characters.specs.declared.said.Said.{Said}
use Rattle.preconv_characters.specs.declared.said.Said.TheVariants as says
use Rattle.preconv_lines.specs.declared.half.Half.{Half}
use Rattle.preconv_lines.specs.declared.half.Line.{Line}
use Rattle.preconv_lines.specs.declared.half.Line.TheVariants as lines
use Rattle.preconv_characters.specs.declared.marks.Before.{Before}
use Rattle.preconv_characters.specs.declared.marks.Before.TheVariants as befores
use Rattle.preconv_characters.specs.declared.marks.Mark.{Mark}
use Rattle.preconv_characters.specs.declared.marks.Mark.TheVariants as marks
use Rattle.preconv_lines.specs.declared.half.Tag.TheVariants as tags
use Rattle.preconv_lines.specs.declared.half.Coming.TheVariants as comings
use Rattle.preconv_lines.specs.Half.{Offered, taken, left, is_whole, without_escape, abandoned, is_read}
use Rattle.preconv_lines.specs.Half.{is_format}
use Rattle.preconv_characters.specs.Marks.{is_ascii_letter, mark_of}
use Rattle.preconv_lines.specs.Hyphens.{placed, saying, in_text as text_offered, hyphen, hyphen_by, hyphen_at}
use Rattle.preconv_lines.specs.Hyphens.{separated_by, turns_hyphens, closes, newline_held, line_after}
use Rattle.preconv_lines.specs.Hyphens.{is_flowing}
use Rattle.preconv_characters.specs.Saying.{bytes_of}
use Rattle.preconv_lines.specs.Lines.{is_control, control as control_offered, follows_tag, begins_apart}
use Rattle.preconv_lines.specs.Lines.{breaking, at_start, after_fonts}
use Rattle.preconv_lines.specs.Offering.{offer, beginning}
use Rattle.preconv_converter.specs.Pieces.{Piece, Same, Hyphen, SentenceEnd, EmptyBelow, BlankBelow, Printed}
use Rattle.preconv_converter.specs.Pieces.{all_were, all_become}
use Rattle.preconv_converter.specs.WrittenLines.{is_text}
use Rattle.preconv_converter.proofs.AtOnce.{placed_as}
use Rattle.preconv_converter.proofs.Plain.{and-first, and-second, is_not}
use Rattle.preconv_characters.proofs.SentWhole.{sent_is}
use Rattle.preconv_converter.proofs.Sent.{ascii-goes}
use Rattle.preconv_converter.proofs.Spots.{open_half, held_half, closed_half, Flow, Text, Faces, Among}
use Rattle.preconv_converter.proofs.Spots.{line_in, Spot, Starts, Flows, Holds, Closes, half_of, held, begins}
use Rattle.preconv_converter.proofs.Spots.{in_text, Takes, Hears, hears_taken, hears_left, hears_twice}

-- ---- bytes of a text

pub record IsText (b : ℕ) : Type 0 where
  pub ascii : nat_lt b 127 ≡ true
  pub newline : (b == code "\n") ≡ false
  pub return : (b == 13) ≡ false
  pub backslash : (b == code "\\") ≡ false

pub text_is : (b : ℕ) → is_text b ≡ true → IsText b
text_is b p =
    let low = nat_lt b 127 in
    let line = not (b == code "\n") in
    let back = not (b == 13) in
    let slash = not (b == code "\\") in
    let three = and-first (low && line && back) slash p in
    let two = and-first (low && line) back three in
    record {
      ascii = and-first low line two;
      newline = is_not (b == code "\n") (and-second low line two);
      return = is_not (b == 13) (and-second (low && line) back three);
      backslash = is_not (b == code "\\") (and-second (low && line && back) slash p);
    }

pub same_byte : (a b : ℕ) → (a == b) ≡ true → a ≡ b
same_byte a b e = grind (arith, nat_tests)

pub byte_goes : (t : Target) (b : ℕ) → nat_lt b 127 ≡ true → bytes_of t (says.Byte b) ≡ all_become t (Same b ∷ [])
byte_goes t b ascii = ap (λ (x : ℕ). x ∷ []) (sent_is t b (ascii-goes t b ascii))

-- ---- a byte that goes out as it is

pub moved_by : (x : Bool) (m : Mark) (l k : Line) (h : Half) → record (placed_as x m (open_half k h)) { line = l } ≡ open_half l (placed_as x m h)
moved_by true m l k h = refl
moved_by false m l k h = refl

pub saying_is : (b : ℕ) (l k : Line) (h : Half) → (b == code "\n") ≡ false → saying b l (open_half k h) ≡ taken (says.Byte b) (open_half l (placed (mark_of b) h))
saying_is b l k h e =
    ap (λ (x : Bool). taken (says.Byte b) (record (if x then line_after (open_half k h) else placed (mark_of b) (open_half k h)) { line = l })) e
    ∙ ap (taken (says.Byte b)) (moved_by h.manual (mark_of b) l k h)

-- ---- a hyphen

-- what holds of where a line flows holds where a hyphen is held back in it
pub record IsFlow (P : Spot → Bool) (f : Flow) : Type 0 where
  pub flows : (h : Half) → P (Flows f h) ≡ true
  pub holds : (h : Half) → P (Holds f h) ≡ true

text_flow : IsFlow in_text Text
text_flow = record { flows = λ h. refl; holds = λ h. refl }

whole_takes : (x : Bool) (P : Spot → Bool) (f : Flow) (t : Target) (h : Half) → IsFlow P f
    → Takes P t [] (code "-") (if x then taken (says.Escape (code "-")) (record (open_half (line_in f) h) { before = befores.Character marks.Other }) else taken says.Nothing (held_half (line_in f) (record h { before = befores.Character marks.Other })))
whole_takes true P f t h is =
    record { next = Flows f (record h { before = befores.Character marks.Other }); there = is.flows _; said = says.Escape (code "-"); pieces = Hyphen ∷ []; offered = refl; out = refl; all = refl }
whole_takes false P f t h is =
    record { next = Holds f (record h { before = befores.Character marks.Other }); there = is.holds _; said = says.Nothing; pieces = []; offered = refl; out = refl; all = refl }

text_hyphen_takes : (before : Before) (P : Spot → Bool) (f : Flow) (t : Target) (h : Half) → IsFlow P f → Takes P t [] (code "-") (hyphen_by before (open_half (line_in f) h))
text_hyphen_takes (befores.Character marks.Letter) P f t h is = whole_takes (is_whole h.tag) P f t h is
text_hyphen_takes (befores.Character marks.Backslash) P f t h is =
    record { next = Flows f (record h { before = befores.Character marks.Other }); there = is.flows _; said = says.Byte (code "-"); pieces = Same (code "-") ∷ []; offered = refl; out = refl; all = refl }
text_hyphen_takes (befores.Character mark) P f t h is =
    record { next = Flows f (record h { before = befores.Character marks.Other }); there = is.flows _; said = says.Escape (code "-"); pieces = Hyphen ∷ []; offered = refl; out = refl; all = refl }
text_hyphen_takes befores.Argument P f t h is =
    record { next = Flows f h; there = is.flows _; said = says.Byte (code "-"); pieces = Same (code "-") ∷ []; offered = refl; out = refl; all = refl }

pub hyphen_takes : (x : Bool) (before : Before) (P : Spot → Bool) (f : Flow) (t : Target) (h : Half) → IsFlow P f
    → Takes P t [] (code "-") (hyphen_at x before (open_half (line_in f) h))
hyphen_takes true before P f t h is =
    record { next = Flows f (record h { before = befores.Character marks.Other; table = separated_by before }); there = is.flows _; said = says.Byte (code "-"); pieces = Same (code "-") ∷ []; offered = refl; out = refl; all = refl }
hyphen_takes false before P f t h is = text_hyphen_takes before P f t h is

-- ---- a byte in a text line

pub same_takes : (P : Spot → Bool) (t : Target) (b : ℕ) (next : Spot) (m : Offered) → P next ≡ true → nat_lt b 127 ≡ true → m ≡ taken (says.Byte b) (half_of next) → held next ≡ []
    → Takes P t [] b m
same_takes P t b next m there ascii offered none =
    record { next = next; there = there; said = says.Byte b; pieces = Same b ∷ []; offered = offered; out = byte_goes t b ascii; all = ap (λ (xs : List ℕ). b ∷ xs) (sym none) }

either_takes : (x y : Bool) (t : Target) (l : Line) (b : ℕ) (h : Half) → IsText b → (b == code "-") ≡ y
    → Takes in_text t [] b (if x && y then hyphen lines.Text (open_half l h) else saying b lines.Text (open_half l h))
either_takes true true t l b h is e =
    subst (λ (c : ℕ). Takes in_text t [] c (hyphen_at (is_format h.table) h.before (open_half lines.Text h))) (sym (same_byte b (code "-") e)) (hyphen_takes (is_format h.table) h.before in_text Text t h text_flow)
either_takes true false t l b h is e = same_takes in_text t b (Flows Text (placed (mark_of b) h)) _ refl is.ascii (saying_is b lines.Text l h is.newline) refl
either_takes false y t l b h is e = same_takes in_text t b (Flows Text (placed (mark_of b) h)) _ refl is.ascii (saying_is b lines.Text l h is.newline) refl

pub takes_as : (P : Spot → Bool) (t : Target) (back : List ℕ) (b : ℕ) (m n : Offered) → m ≡ n → Takes P t back b n → Takes P t back b m
takes_as P t back b m n e k =
    record { next = k.next; there = k.there; said = k.said; pieces = k.pieces; offered = e ∙ k.offered; out = k.out; all = k.all }

in_text_offered : (b : ℕ) (l : Line) (h : Half) → IsText b
    → text_offered b (open_half l h) ≡ (if turns_hyphens h && (b == code "-") then hyphen lines.Text (open_half l h) else saying b lines.Text (open_half l h))
in_text_offered b l h is = rw (is.return, is.newline) refl

text_takes : (t : Target) (l : Line) (b : ℕ) (h : Half) → IsText b → Takes in_text t [] b (text_offered b (open_half l h))
text_takes t l b h is = takes_as in_text t [] b _ _ (in_text_offered b l h is) (either_takes (turns_hyphens h) (b == code "-") t l b h is refl)

text_offers : (b : ℕ) (h : Half) → IsText b → offer (comings.Byte b) (open_half lines.Text h) ≡ text_offered b (open_half lines.Text h)
text_offers b h is = rw is.backslash refl

pub text_hears : (n : ℕ) (t : Target) (b : ℕ) (h : Half) → IsText b → Hears in_text (suc n) t (Flows Text h) b
text_hears n t b h is = hears_taken in_text n t (Flows Text h) b (takes_as in_text t [] b _ _ (text_offers b h is) (text_takes t lines.Text b h is))

-- its newline
ended_takes : (x : Bool) (t : Target) (l : Line) (h : Half)
    → Takes begins t [] (code "\n") (if x then newline_held (open_half l h) else saying (code "\n") lines.Start (open_half l h))
ended_takes true t l h =
    record { next = Closes (line_after h); there = refl; said = says.Nothing; pieces = []; offered = refl; out = refl; all = refl }
ended_takes false t l h =
    record { next = Starts (line_after h); there = refl; said = says.Byte (code "\n"); pieces = Same (code "\n") ∷ []; offered = refl; out = refl; all = refl }

pub newline_hears : (n : ℕ) (t : Target) (h : Half) → Hears begins (suc n) t (Flows Text h) (code "\n")
newline_hears n t h = hears_taken begins n t (Flows Text h) (code "\n") (ended_takes (closes h) t lines.Text h)

-- where nothing but fonts was read a blank is printed
faces_by : (x : Bool) (n : ℕ) (t : Target) (b : ℕ) (h : Half) → IsText b → ((b == code " ") && not (is_read h.table)) ≡ x → Hears in_text (suc (suc n)) t (Flows Faces h) b
faces_by true n t b h is e =
    hears_left in_text (suc n) t (Flows Faces h) (Flows Text h) b (says.Escape (code "&")) (Printed ∷ [])
    (ap (λ (x : Bool). if x && true then beginning (open_half lines.Fonts h) else after_fonts b (open_half lines.Fonts h)) is.backslash
    ∙ ap (λ (x : Bool). if x then left (says.Escape (code "&")) (open_half lines.Text h) else text_offered b (open_half lines.Fonts h)) e) refl refl (text_hears n t b h is)
faces_by false n t b h is e =
    hears_taken in_text (suc n) t (Flows Faces h) b
    (takes_as in_text t [] b _ _
    (ap (λ (x : Bool). if x && true then beginning (open_half lines.Fonts h) else after_fonts b (open_half lines.Fonts h)) is.backslash
    ∙ ap (λ (x : Bool). if x then left (says.Escape (code "&")) (open_half lines.Text h) else text_offered b (open_half lines.Fonts h)) e)
    (text_takes t lines.Fonts b h is))

pub faces_hears : (n : ℕ) (t : Target) (b : ℕ) (h : Half) → IsText b → Hears in_text (suc (suc n)) t (Flows Faces h) b
faces_hears n t b h is = faces_by ((b == code " ") && not (is_read h.table)) n t b h is refl

pub faces_newline : (n : ℕ) (t : Target) (h : Half) → Hears begins (suc n) t (Flows Faces h) (code "\n")
faces_newline n t h = hears_taken begins n t (Flows Faces h) (code "\n") (ended_takes (closes h) t lines.Fonts h)

-- ---- after a hyphen that is held back

-- where one may be
abbrev pub keeps : Flow → Bool
keeps Faces = false
keeps f = true

hyphen_said : Bool → Said
hyphen_said x = if x then says.Kept (code "-" ∷ []) else says.Escape (code "-")

hyphen_pieces : Bool → List Piece
hyphen_pieces x = if x then Same (code "-") ∷ [] else Hyphen ∷ []

held_left : (x : Bool) (f : Flow) (h : Half) → keeps f ≡ true
    → (if x then abandoned (held_half (line_in f) h) else left (says.Escape (code "-")) (without_escape (held_half (line_in f) h))) ≡ left (hyphen_said x) (open_half (line_in f) (record h { spelled = [] }))
unfolding hyphen_said
held_left true Text h k = refl
held_left true (Among place w) h k = refl
held_left true Faces h k = absurd (let no : false ≡ true = k in cc)
held_left false f h k = refl

hyphen_out : (x : Bool) (t : Target) → bytes_of t (hyphen_said x) ≡ all_become t (hyphen_pieces x)
unfolding hyphen_said hyphen_pieces
hyphen_out true t = refl
hyphen_out false t = refl

hyphen_all : (x : Bool) → code "-" ∷ [] ≡ all_were (hyphen_pieces x) ++ []
unfolding hyphen_pieces
hyphen_all true = refl
hyphen_all false = refl

pub held_hears : (P : Spot → Bool) (n : ℕ) (t : Target) (b : ℕ) (f : Flow) (h : Half) → keeps f ≡ true → ((k : Half) → Hears P n t (Flows f k) b) → Hears P (suc n) t (Holds f h) b
held_hears P n t b f h may more =
    let x = is_ascii_letter b || (b == code "\\") in
    hears_left P n t (Holds f h) (Flows f (record h { spelled = [] })) b (hyphen_said x) (hyphen_pieces x) (held_left x f h may) (hyphen_out x t) (hyphen_all x) (more _)

-- ---- a line begins

pub no_both : (x : Bool) → (x && false) ≡ false
no_both true = refl
no_both false = refl

below : Half → Half
below h = record h { tag = tags.Nowhere }

-- no empty line and no blank below a tag
start_offered : (b : ℕ) (h : Half) → IsText b → is_control b ≡ false → (follows_tag h && begins_apart b) ≡ false → offer (comings.Byte b) (open_half lines.Start h) ≡ text_offered b (open_half lines.Start h)
start_offered b h is control apart =
    ap (λ (x : Bool). if x && true then beginning (open_half lines.Start h) else at_start b (open_half lines.Start h)) is.backslash
    ∙ ap (λ (x : Bool). if x then control_offered false b (open_half lines.Start h) else if follows_tag h && begins_apart b then breaking b (open_half lines.Start h) else if b == code "\n" then saying b lines.Start (open_half lines.Start h) else text_offered b (open_half lines.Start h)) control
    ∙ ap (λ (x : Bool). if x then breaking b (open_half lines.Start h) else if b == code "\n" then saying b lines.Start (open_half lines.Start h) else text_offered b (open_half lines.Start h)) apart
    ∙ ap (λ (x : Bool). if x then saying b lines.Start (open_half lines.Start h) else text_offered b (open_half lines.Start h)) is.newline

blank_text : IsText (code " ")
blank_text = record { ascii = refl; newline = refl; return = refl; backslash = refl }

blank_taken : (h : Half) → (follows_tag h && begins_apart (code " ")) ≡ false → offer (comings.Byte (code " ")) (open_half lines.Start h) ≡ taken (says.Byte (code " ")) (open_half lines.Text (placed (mark_of (code " ")) h))
blank_taken h apart =
    start_offered (code " ") h blank_text refl apart
    ∙ in_text_offered (code " ") lines.Start h blank_text
    ∙ ap (λ (x : Bool). if x then hyphen lines.Text (open_half lines.Start h) else saying (code " ") lines.Text (open_half lines.Start h)) (no_both (turns_hyphens h))
    ∙ saying_is (code " ") lines.Text lines.Start h refl

no_longer : (x y : Bool) → (x && false && y) ≡ false
no_longer true y = refl
no_longer false y = refl

-- below a tag
blank_broken : (h : Half) → (follows_tag h && begins_apart (code " ")) ≡ true → offer (comings.Byte (code " ")) (open_half lines.Start h) ≡ left (says.Kept (codes ".br\n")) (open_half lines.Start (below h))
unfolding below
blank_broken h apart =
    ap (λ (x : Bool). if x then breaking (code " ") (open_half lines.Start h) else text_offered (code " ") (open_half lines.Start h)) apart

blank_is : (b : ℕ) (x : Bool) → IsText b → (x && begins_apart b) ≡ true → (b == code " ") ≡ true
blank_is b x is p =
    sym (ap (λ (y : Bool). y || (b == code " ")) is.newline) ∙ and-second x (begins_apart b) p

start_by : (n : ℕ) (t : Target) (b : ℕ) (h : Half) → IsText b → is_control b ≡ false → (x : Bool) → (follows_tag h && begins_apart b) ≡ x → Hears in_text (suc (suc n)) t (Starts h) b
unfolding below
start_by n t b h is control false apart =
    hears_taken in_text (suc n) t (Starts h) b (takes_as in_text t [] b _ _ (start_offered b h is control apart) (text_takes t lines.Start b h is))
start_by n t b h is control true apart =
    let e = same_byte b (code " ") (blank_is b (follows_tag h) is apart) in
    subst (λ (c : ℕ). Hears in_text (suc (suc n)) t (Starts h) c) (sym e)
    (hears_twice in_text n t (Starts h) (Starts (record h { tag = tags.Nowhere })) (Flows Text (placed (mark_of (code " ")) (record h { tag = tags.Nowhere }))) (code " ") (says.Kept (codes ".br\n")) (says.Byte (code " ")) (BlankBelow ∷ []) refl
    (blank_broken h (subst (λ (c : ℕ). (follows_tag h && begins_apart c) ≡ true) e apart))
    (blank_taken (record h { tag = tags.Nowhere }) (no_longer (is_flowing h) (begins_apart (code " ")))) refl refl)

pub start_hears : (n : ℕ) (t : Target) (b : ℕ) (h : Half) → IsText b → is_control b ≡ false → Hears in_text (suc (suc n)) t (Starts h) b
start_hears n t b h is control = start_by n t b h is control (follows_tag h && begins_apart b) refl

-- an empty line
empty_by : (x : Bool) (n : ℕ) (t : Target) (h : Half) → follows_tag h ≡ x → Hears begins (suc (suc n)) t (Starts h) (code "\n")
unfolding below
empty_by true n t h e =
    let k : Half = record h { tag = tags.Nowhere } in
    hears_twice begins n t (Starts h) (Starts k) (Starts (line_after k)) (code "\n") (says.Kept (codes ".sp")) (says.Byte (code "\n")) (EmptyBelow ∷ []) refl
    (ap (λ (x : Bool). if x && true then breaking (code "\n") (open_half lines.Start h) else saying (code "\n") lines.Start (open_half lines.Start h)) e)
    (ap (λ (x : Bool). if x then breaking (code "\n") (open_half lines.Start k) else saying (code "\n") lines.Start (open_half lines.Start k)) (no_longer (is_flowing h) true)) refl refl
empty_by false n t h e =
    hears_taken begins (suc n) t (Starts h) (code "\n")
    (same_takes begins t (code "\n") (Starts (line_after h)) _ refl refl
    (ap (λ (x : Bool). if x && true then breaking (code "\n") (open_half lines.Start h) else saying (code "\n") lines.Start (open_half lines.Start h)) e) refl)

pub empty_hears : (n : ℕ) (t : Target) (h : Half) → Hears begins (suc (suc n)) t (Starts h) (code "\n")
empty_hears n t h = empty_by (follows_tag h) n t h refl

-- ---- after the newline of a sentence that something closed

end_said : Bool → Said
end_said x = says.Kept (if x then code "\n" ∷ [] else codes "\\*(.\\n(.u\n")

end_pieces : Bool → List Piece
end_pieces x = if x then Same (code "\n") ∷ [] else SentenceEnd ∷ []

end_out : (x : Bool) (t : Target) → bytes_of t (end_said x) ≡ all_become t (end_pieces x)
unfolding end_said end_pieces
end_out true t = refl
end_out false t = refl

end_all : (x : Bool) → code "\n" ∷ [] ≡ all_were (end_pieces x) ++ []
unfolding end_pieces
end_all true = refl
end_all false = refl

end_offered : (b : ℕ) (h : Half) → offer (comings.Byte b) (closed_half h) ≡ left (end_said ((b == code " ") || (b == code "\n"))) (open_half lines.Start (record h { spelled = [] }))
unfolding end_said
end_offered b h = refl

-- where a line begins
pub line_hears : (P : Spot → Bool) (n : ℕ) (t : Target) (b : ℕ) → ((h : Half) → Hears P (suc n) t (Starts h) b) → ((h : Half) → Hears P n t (Starts h) b) → (p : Spot) → begins p ≡ true → Hears P (suc n) t p b
line_hears P n t b more less (Starts h) there = more h
line_hears P n t b more less (Closes h) there =
    let x = (b == code " ") || (b == code "\n") in
    hears_left P n t (Closes h) (Starts (record h { spelled = [] })) b (end_said x) (end_pieces x) (end_offered b h) (end_out x t) (end_all x) (less _)
line_hears P n t b more less p there = absurd (let no : false ≡ true = there in cc)

-- Where each character is printed as it comes, a letter is printed after what stands before it, and so is the next one.
use Prim.Native.Char.{code}
use Rattle.std.proofs.Common.{◌≡◌, ℕ, ◌≤◌, List, ◌++◌, Bool, true, false, not, ◌&&◌, ◌||◌, ◌==◌, if◌then◌else◌, refl, sym, ◌∙◌, ap, arith, rules}
use Rattle.std.proofs.lemmas.Bool.Decides.{nat_tests}
use Rattle.ucd_breaks.specs.LineBreak.{line_break}
use Rattle.ucd_breaks.specs.declared.LineBreak.{LineBreak}
use Rattle.utf8_own_characters.specs.Cluster.{is_wide, single}
use Rattle.utf8_own_characters.proofs.Tests.{and_first, and_second, if_not, not_true}
use Rattle.utf8_own_stage.specs.declared.points.Escape.{Escape}
use Rattle.utf8_own_stage.specs.declared.points.Escape.TheVariants as escapes
use Rattle.utf8_own_stage.specs.declared.points.Line.{Line}
use Rattle.utf8_own_stage.specs.declared.points.Line.TheVariants as lines
use Rattle.utf8_own_stage.specs.declared.points.Place.{Place}
use Rattle.utf8_own_stage.specs.declared.points.Point.{Point}
use Rattle.utf8_own_stage.specs.declared.points.Point.TheVariants.{Nothing, Cut}
use Rattle.utf8_own_stage.specs.declared.points.Waiting.{Waiting}
use Rattle.utf8_own_stage.specs.declared.points.Waiting.TheVariants as waiting
use Rattle.utf8_own_stage.specs.Coding.{kept, put_at}
use Rattle.utf8_own_stage.specs.Letters.{cut_between, is_common, is_ideographic, is_printed, is_quiet}
use Rattle.utf8_own_stage.specs.Points.{character_by, going_on, is_format, is_open, is_plain, is_waiting, line_ended, line_of_escape, may_cut, newline, passed, passed_by, point, point_waiting, text_of, waiting_with}
use Rattle.utf8_own_characters.specs.Breaking.{is_korean, may_begin, may_break, may_end}

is_line : (p : Place) → is_quiet p ≡ true → is_printed p.line ≡ true
is_line p e = and_first (is_printed p.line) (is_open p) (and_first (is_printed p.line && is_open p) (not (is_waiting p.waits)) e)

pub is_open_so : (p : Place) → is_quiet p ≡ true → is_open p ≡ true
is_open_so p e = and_second (is_printed p.line) (is_open p) (and_first (is_printed p.line && is_open p) (not (is_waiting p.waits)) e)

nothing_so : (w : Waiting) → is_waiting w ≡ false → w ≡ waiting.Nothing
nothing_so waiting.Nothing e = refl
nothing_so waiting.Newline e = absurd (let no : true ≡ false = e in cc)
nothing_so waiting.Escape e = absurd (let no : true ≡ false = e in cc)
nothing_so waiting.Name e = absurd (let no : true ≡ false = e in cc)
nothing_so (waiting.Font name) e = absurd (let no : true ≡ false = e in cc)

no_wait : (p : Place) → is_quiet p ≡ true → p.waits ≡ waiting.Nothing
no_wait p e = nothing_so p.waits (not_true (is_waiting p.waits) (and_second (is_printed p.line && is_open p) (not (is_waiting p.waits)) e))

plain_so : (e : Escape) → is_plain e ≡ true → e ≡ escapes.Plain
plain_so escapes.Plain e = refl
plain_so escapes.Begun e = absurd (let no : false ≡ true = e in cc)
plain_so escapes.Named e = absurd (let no : false ≡ true = e in cc)
plain_so (escapes.Left n) e = absurd (let no : false ≡ true = e in cc)

no_escape : (p : Place) → is_quiet p ≡ true → p.escape ≡ escapes.Plain
no_escape p e = plain_so p.escape (and_first (is_plain p.escape) (not (is_format p.table)) (is_open_so p e))

-- ---- the place after it

printed_by : (l : Line) (c : ℕ) (p : Place) → is_printed l ≡ true → character_by l c p ≡ record p { before = c }
printed_by lines.Text c p e = refl
printed_by lines.Rest c p e = refl
printed_by lines.Start c p e = absurd (let no : false ≡ true = e in cc)
printed_by lines.Control c p e = absurd (let no : false ≡ true = e in cc)
printed_by lines.Tee c p e = absurd (let no : false ≡ true = e in cc)
printed_by lines.Name c p e = absurd (let no : false ≡ true = e in cc)

-- of a character that is no newline and no backslash
pub quiet_passed : (p : Place) (c : ℕ) → is_quiet p ≡ true → (c == newline) ≡ false → (c == code "\\") ≡ false → passed p c ≡ record p { before = c }
quiet_passed p c e line slash =
    let q : Place = record p { waits = waiting_with p.waits c } in
    ap (λ (x : Escape). passed_by x c q) (no_escape p e)
    ∙ if_not (c == newline) (line_ended q) (going_on c q) line
    ∙ if_not (c == code "\\") (record q { escape = escapes.Begun; line = line_of_escape q.line }) (character_by q.line c q) slash
    ∙ printed_by p.line c q (is_line p e)
    ∙ ap (λ (w : Waiting). record p { before = c; waits = waiting_with w c }) (no_wait p e)
    ∙ ap (λ (w : Waiting). record p { before = c; waits = w }) (sym (no_wait p e))

-- ---- what goes out

pub quiet_point : (p : Place) (c : ℕ) → is_quiet p ≡ true → (c == code "\\") ≡ false → point p c ≡ (if may_break p.before c then Cut else Nothing)
quiet_point p c e slash =
    ap (λ (w : Waiting). if is_waiting w then point_waiting w c else (if may_cut p c then Cut else Nothing)) (no_wait p e)
    ∙ ap (λ (x : Bool). if not x && is_open p && may_break p.before c then Cut else Nothing) slash
    ∙ ap (λ (x : Bool). if x && may_break p.before c then Cut else Nothing) (is_open_so p e)

text_by : (w : Waiting) (x : Bool) → text_of w (if x then Cut else Nothing) ≡ text_of waiting.Nothing (if x then Cut else Nothing)
text_by w true = refl
text_by w false = refl

pub quiet_put : (p : Place) (c : ℕ) (bytes : List ℕ) → is_quiet p ≡ true → (c == newline) ≡ false → (c == code "\\") ≡ false
    → put_at p c bytes ≡ text_of waiting.Nothing (if may_break p.before c then Cut else Nothing) ++ bytes
quiet_put p c bytes e line slash =
    ap (λ (x : Point). text_of p.waits x ++ kept (is_waiting (passed p c).waits) bytes) (quiet_point p c e slash)
    ∙ ap (λ (zs : List ℕ). zs ++ kept (is_waiting (passed p c).waits) bytes) (text_by p.waits (may_break p.before c))
    ∙ ap (λ (q : Place). text_of waiting.Nothing (if may_break p.before c then Cut else Nothing) ++ kept (is_waiting q.waits) bytes) (quiet_passed p c e line slash)
    ∙ ap (λ (w : Waiting). text_of waiting.Nothing (if may_break p.before c then Cut else Nothing) ++ kept (is_waiting w) bytes) (no_wait p e)

-- ---- a letter beyond ASCII

no_line : (c : ℕ) → 128 ≤ c → (c == newline) ≡ false
no_line c beyond = grind (arith, nat_tests)

no_slash : (c : ℕ) → 128 ≤ c → (c == code "\\") ≡ false
no_slash c beyond = grind (arith, nat_tests)

pub letter_passed : (p : Place) (c : ℕ) → is_quiet p ≡ true → 128 ≤ c → passed p c ≡ record p { before = c }
letter_passed p c e beyond = quiet_passed p c e (no_line c beyond) (no_slash c beyond)

pub letter_put : (p : Place) (c : ℕ) (bytes : List ℕ) → is_quiet p ≡ true → 128 ≤ c
    → put_at p c bytes ≡ text_of waiting.Nothing (cut_between p.before c) ++ bytes
letter_put p c bytes e beyond = quiet_put p c bytes e (no_line c beyond) (no_slash c beyond)

-- ---- between common letters a line may be cut

common_breaks : (a b : LineBreak) (x y : Bool) → is_ideographic a && x ≡ true → is_ideographic b && y ≡ true
    → ((x && not (is_korean a)) || (y && not (is_korean b))) && may_end a && may_begin b ≡ true
common_breaks a b x y p q = search rules

pub common_cut : (a b : ℕ) → is_common a ≡ true → is_common b ≡ true → cut_between a b ≡ Cut
common_cut a b p q =
    ap (λ (x : Bool). if x then Cut else Nothing) (common_breaks (line_break a) (line_break b) (is_wide (single a)) (is_wide (single b)) p q)

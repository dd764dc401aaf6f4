-- What waits after a character.
use Prim.Native.Char.{code}
use Rattle.std.proofs.Common.{◌≡◌, ℕ, Bool, true, false, not, ◌&&◌, ◌==◌, if◌then◌else◌, refl, sym, ◌∙◌, ap, rules}
use Rattle.utf8_own_characters.specs.Breaking.{is_east_asian}
use Rattle.utf8_own_characters.proofs.Tests.{and_not}
use Rattle.utf8_own_stage.specs.declared.points.Escape.{Escape}
use Rattle.utf8_own_stage.specs.declared.points.Escape.TheVariants as escapes
use Rattle.utf8_own_stage.specs.declared.points.Line.{Line}
use Rattle.utf8_own_stage.specs.declared.points.Line.TheVariants as lines
use Rattle.utf8_own_stage.specs.declared.points.Place.{Place}
use Rattle.utf8_own_stage.specs.declared.points.Waiting.{Waiting}
use Rattle.utf8_own_stage.specs.declared.points.Waiting.TheVariants as waiting
use Rattle.utf8_own_stage.specs.Points.{character_by, going_on, is_format, is_plain, is_rows, is_text, is_waiting, line_ended, line_of_escape, may_join, newline, passed, passed_by, spelling, waiting_with}

-- a newline, where one waits
abbrev pub line_if : Bool → Waiting
line_if joins = if joins then waiting.Newline else waiting.Nothing

-- what goes on waits, and otherwise a newline, where one may
abbrev pub waits_then : Place → ℕ → Waiting
waits_then p c = if is_waiting (waiting_with p.waits c) then waiting_with p.waits c else line_if ((c == newline) && may_join p)

-- ---- while an escape is half read no newline waits

none_joins : (a x y z : Bool) → a && (false && x) && y && z ≡ false
none_joins true x y z = refl
none_joins false x y z = refl

no_join : (p : Place) → is_plain p.escape ≡ false → may_join p ≡ false
no_join p half =
    ap (λ (b : Bool). is_text p.line && (b && not (is_format p.table)) && not (is_rows p.table) && is_east_asian p.before) half
    ∙ none_joins (is_text p.line) (not (is_format p.table)) (not (is_rows p.table)) (is_east_asian p.before)

-- ---- by what is read

or_nothing : (w : Waiting) → w ≡ (if is_waiting w then w else waiting.Nothing)
or_nothing waiting.Nothing = refl
or_nothing waiting.Newline = refl
or_nothing waiting.Escape = refl
or_nothing waiting.Name = refl
or_nothing (waiting.Font name) = refl

-- where none may, what goes on waits alone
alone : (p : Place) (c : ℕ) (b : Bool) → b ≡ false → waiting_with p.waits c ≡ (if is_waiting (waiting_with p.waits c) then waiting_with p.waits c else line_if b)
alone p c b none =
    or_nothing (waiting_with p.waits c)
    ∙ ap (λ (x : Bool). if is_waiting (waiting_with p.waits c) then waiting_with p.waits c else line_if x) (sym none)

is_newline : (c : ℕ) → c == newline ≡ true → c ≡ newline
is_newline c e = search rules

-- a newline goes on nothing
none_with : (w : Waiting) → waiting_with w newline ≡ waiting.Nothing
none_with waiting.Nothing = refl
none_with waiting.Newline = refl
none_with waiting.Escape = refl
none_with waiting.Name = refl
none_with (waiting.Font name) = refl

at_line : (p : Place) (c : ℕ) (b : Bool) → (c == newline) ≡ true → line_if b ≡ (if is_waiting (waiting_with p.waits c) then waiting_with p.waits c else line_if ((c == newline) && b))
at_line p c b line =
    ap (λ (x : Bool). line_if (x && b)) (sym line)
    ∙ ap (λ (w : Waiting). if is_waiting w then w else line_if ((c == newline) && b)) (sym (ap (waiting_with p.waits) (is_newline c line) ∙ none_with p.waits))

character_waits : (l : Line) (c : ℕ) (p : Place) → (character_by l c p).waits ≡ p.waits
character_waits lines.Start c p = refl
character_waits lines.Control c p = refl
character_waits lines.Tee c p = refl
character_waits lines.Name c p = refl
character_waits lines.Rest c p = refl
character_waits lines.Text c p = refl

going_waits : (x : Bool) (c : ℕ) (p : Place) → (if x then record p { escape = escapes.Begun; line = line_of_escape p.line } else character_by p.line c p).waits ≡ p.waits
going_waits true c p = refl
going_waits false c p = character_waits p.line c p

-- the same place, where what goes on waits
abbrev going : Place → ℕ → Place
going p c = record p { waits = waiting_with p.waits c }

plain_waits : (x : Bool) (p : Place) (c : ℕ) → (c == newline) ≡ x → (if x then line_ended (going p c) else going_on c (going p c)).waits ≡ waits_then p c
plain_waits true p c line = at_line p c (may_join p) line
plain_waits false p c line =
    going_waits (c == code "\\") c (going p c) ∙ alone p c ((c == newline) && may_join p) (ap (λ (x : Bool). x && may_join p) line)

spelling_waits : (x : Bool) (p : Place) (c : ℕ) → (c == newline) ≡ x → may_join p ≡ false → (if x then line_ended (going p c) else spelling c (going p c)).waits ≡ waits_then p c
spelling_waits true p c line none = at_line p c (may_join p) line
spelling_waits false p c line none = alone p c ((c == newline) && may_join p) (and_not (c == newline) (may_join p) none)

waits_by : (e : Escape) (p : Place) (c : ℕ) → p.escape ≡ e → (passed_by e c (going p c)).waits ≡ waits_then p c
waits_by escapes.Begun p c is = alone p c ((c == newline) && may_join p) (and_not (c == newline) (may_join p) (no_join p (ap is_plain is)))
waits_by escapes.Plain p c is = plain_waits (c == newline) p c refl
waits_by escapes.Named p c is = spelling_waits (c == newline) p c refl (no_join p (ap is_plain is))
waits_by (escapes.Left n) p c is = spelling_waits (c == newline) p c refl (no_join p (ap is_plain is))

pub waits_after : (p : Place) (c : ℕ) → (passed p c).waits ≡ waits_then p c
waits_after p c = waits_by p.escape p c refl

-- A text without East Asian characters has no points.
use Prim.Native.Char.{code}
use Rattle.std.proofs.Common.{◌≡◌, ℕ, List, [], ◌∷◌, ◌++◌, Bool, true, false, not, ◌&&◌, ◌||◌, ◌==◌, if◌then◌else◌, map, nat_lt, refl, sym, ◌∙◌, ap}
use Rattle.ucd_breaks.specs.LineBreak.{line_break}
use Rattle.unicode_width.specs.Width.{char_width}
use Rattle.utf8_own_characters.specs.declared.cluster.Cluster.{Cluster}
use Rattle.utf8_own_characters.specs.Breaking.{is_east_asian, may_begin, may_break, may_end}
use Rattle.utf8_own_characters.specs.Cluster.{is_ascii, single}
use Rattle.utf8_own_characters.proofs.Tests.{and_first, and_second, and_not}
use Rattle.utf8_own_stage.specs.declared.points.Escape.{Escape}
use Rattle.utf8_own_stage.specs.declared.points.Escape.TheVariants as escapes
use Rattle.utf8_own_stage.specs.declared.points.Line.{Line}
use Rattle.utf8_own_stage.specs.declared.points.Line.TheVariants as lines
use Rattle.utf8_own_stage.specs.declared.points.Place.{Place}
use Rattle.utf8_own_stage.specs.declared.points.Point.TheVariants.{Nothing, Cut}
use Rattle.utf8_own_stage.specs.declared.points.Waiting.{Waiting}
use Rattle.utf8_own_stage.specs.declared.points.Waiting.TheVariants as waiting
use Rattle.utf8_own_stage.specs.Laws.{NoPoints, are_western, pointed_from}
use Rattle.utf8_own_stage.specs.Points.{character_by, first_place, going_on, is_control, is_open, is_rows, is_text, is_waiting, line_ended, line_of_escape, may_cut, may_join, newline, none, passed, passed_by, point, point_waiting, read_as, spelling, text_of, waiting_text, waiting_with}
use Rattle.utf8_own_stage.proofs.Held.{waits_after}

-- no character is East Asian
West : ℕ → Type 0
West c = is_east_asian c ≡ false

none_west : West none
unfolding West char_width
none_west = refl

other_west : West (code "_")
unfolding West char_width
other_west = refl

west_if : (x : Bool) (a b : ℕ) → West a → West b → West (if x then a else b)
west_if true a b p q = p
west_if false a b p q = q

-- ---- what is printed before the next character

character_west : (l : Line) (c : ℕ) (p : Place) → West c → West p.before → West (character_by l c p).before
character_west lines.Start c p e f = west_if (is_control c) p.before c f e
character_west lines.Control c p e f = f
character_west lines.Tee c p e f = f
character_west lines.Name c p e f = f
character_west lines.Rest c p e f = e
character_west lines.Text c p e f = e

going_west : (x : Bool) (c : ℕ) (p : Place) → West c → West p.before
    → West (if x then record p { escape = escapes.Begun; line = line_of_escape p.line } else character_by p.line c p).before
going_west true c p e f = f
going_west false c p e f = character_west p.line c p e f

ended_west : (x : Bool) (p q : Place) → West q.before → West (if x then line_ended p else q).before
ended_west true p q f = none_west
ended_west false p q f = f

passed_west : (x : Escape) (c : ℕ) (p : Place) → West c → West p.before → West (passed_by x c p).before
passed_west escapes.Begun c p e f = west_if (c == code "f") p.before none f none_west
passed_west escapes.Plain c p e f = ended_west (c == newline) p (going_on c p) (going_west (c == code "\\") c p e f)
passed_west escapes.Named c p e f = ended_west (c == newline) p (spelling c p) f
passed_west (escapes.Left n) c p e f = ended_west (c == newline) p (spelling c p) f

-- ---- so there is no point

no_break : (a b : ℕ) → West a → West b → may_break a b ≡ false
unfolding West
no_break a b e f =
    ap (λ (x : Bool). (x || is_east_asian b) && may_end (line_break a) && may_begin (line_break b)) e
    ∙ ap (λ (x : Bool). (false || x) && may_end (line_break a) && may_begin (line_break b)) f

no_point : (p : Place) (c : ℕ) → p.waits ≡ waiting.Nothing → West p.before → West c → point p c ≡ Nothing
no_point p c w e f =
    ap (λ (x : Waiting). if is_waiting x then point_waiting x c else (if may_cut p c then Cut else Nothing)) w
    ∙ ap (λ (x : Bool). if x then Cut else Nothing) (and_not (not (c == code "\\") && is_open p) (may_break p.before c) (no_break p.before c e f))

none_waits : (p : Place) (c : ℕ) → p.waits ≡ waiting.Nothing → West p.before → (passed p c).waits ≡ waiting.Nothing
unfolding West
none_waits p c w e =
    waits_after p c
    ∙ ap (λ (x : Waiting). if is_waiting (waiting_with x c) then waiting_with x c else (if (c == newline) && may_join p then waiting.Newline else waiting.Nothing)) w
    ∙ ap (λ (x : Bool). if x then waiting.Newline else waiting.Nothing)
    (and_not (c == newline) (may_join p) (and_not (is_text p.line && is_open p && not (is_rows p.table)) (is_east_asian p.before) e))

no_not : (x : Bool) → not x ≡ true → x ≡ false
no_not true p = sym p
no_not false p = refl

west_of : (c : ℕ) → not (is_east_asian c) ≡ true → West c
unfolding West
west_of c p = no_not (is_east_asian c) p

none_from : (cs : List Cluster) (p : Place) → p.waits ≡ waiting.Nothing → West p.before → are_western cs ≡ true → pointed_from p cs ≡ cs
none_from [] p w e all = ap (λ (x : Waiting). map single (waiting_text x)) w
none_from (c ∷ cs) p w e all =
    let r = read_as c in
    let g : West c.letter = west_of c.letter (and_first (not (is_east_asian c.letter)) (are_western cs) all) in
    let f : West r = west_if (nat_lt c.letter 128 && not (is_ascii c)) (code "_") c.letter other_west g in
    ap (λ x. (map single (text_of p.waits x) ++ (if is_waiting (passed p r).waits then [] else c ∷ [])) ++ pointed_from (passed p r) cs) (no_point p r w e f)
    ∙ ap (λ (x : Waiting). (if is_waiting x then [] else c ∷ []) ++ pointed_from (passed p r) cs) (none_waits p r w e)
    ∙ ap (λ (z : List Cluster). c ∷ z) (none_from cs (passed p r) (none_waits p r w e) (passed_west p.escape r (record p { waits = waiting_with p.waits r }) f e) (and_second (not (is_east_asian c.letter)) (are_western cs) all))

pub no_points : NoPoints
no_points cs all = none_from cs first_place refl none_west all

-- Lines follow one another.
use Rattle.std.proofs.Common.{◌≡◌, ℕ, ◌+◌, ◌<◌, Bool, true, false, List, [], ◌∷◌, length, refl, sym, subst, arith, ◌∙◌, if◌then◌else◌}
use Rattle.tbl_blocks.specs.declared.filling.Measure.{Measure}
use Rattle.tbl_blocks.specs.declared.parts.Line.{Line}
use Rattle.tbl_blocks.specs.declared.parts.Part.{Part}
use Rattle.tbl_blocks.specs.Filling.{filled, grown, is_over, line_after, lines_from, opened}
use Rattle.tbl_blocks.specs.Laws.{Follow, PartsStandOnce}
use Rattle.tbl_blocks.specs.Parts.{is_line}

follow_if : (first end : ℕ) (b : Bool) (x y : List Line) → Follow first end x → Follow first end y → Follow first end (if b then x else y)
follow_if first end true x y h k = h
follow_if first end false x y h k = k

follow : (m : Measure) (n end : ℕ) (l : Line) (ps : List Part) → l.first < l.«end» → l.«end» ≡ n → n + length ps ≡ end
    → Follow l.first end (lines_from m n l ps)
follow m n end l [] some is all = (refl, some, is ∙ omega (arith, all))
follow m n end l (p ∷ ps) some is all =
    let more : n + 1 + length ps ≡ end = omega (arith, all) in
    let next : (k : Line) → Follow n end (lines_from m (n + 1) (line_after n p k) ps) =
    λ (k : Line). follow m (n + 1) end (line_after n p k) ps (omega arith) refl more in
    let here : (k : Line) → k.«end» ≡ n → Follow k.«end» end (lines_from m (n + 1) (line_after n p k) ps) =
    λ (k : Line) (at : k.«end» ≡ n). subst (λ (q : ℕ). Follow q end (lines_from m (n + 1) (line_after n p k) ps)) (sym at) (next k) in
    follow_if l.first end (is_line p.join) (l ∷ lines_from m (n + 1) (line_after n p l) ps)
    (if is_over m.width (p ∷ ps) l then filled p m l ∷ lines_from m (n + 1) (line_after n p (filled p m l)) ps
    else lines_from m (n + 1) (grown p l) ps)
    (refl, some, here l is)
    (follow_if l.first end (is_over m.width (p ∷ ps) l) (filled p m l ∷ lines_from m (n + 1) (line_after n p (filled p m l)) ps)
    (lines_from m (n + 1) (grown p l) ps)
    (refl, some, here (filled p m l) is)
    (follow m (n + 1) end (grown p l) ps (omega (arith, some)) (omega (arith, is)) more))

pub parts_stand_once : PartsStandOnce
parts_stand_once m n [] = omega arith
parts_stand_once m n (p ∷ ps) = follow m (n + 1) (n + length (p ∷ ps)) (opened n p 0 true) ps (omega arith) refl (omega arith)

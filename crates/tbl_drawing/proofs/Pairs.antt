-- What a call leaves and what it answers, together.
use Rattle.std.proofs.Common.{◌≡◌, ap, ◌∙◌}
use Rattle.tbl_drawing.specs.declared.layout.Layout.{Layout}
use Rattle.tbl_drawing.specs.declared.steps.Walk.{Walk}
use Rattle.tbl_drawing.specs.Steps.{Walking, walking}

pub walking_of : (l : Layout) (w : Walk) (x : Walking) → l ≡ x.layout → w ≡ x.walk → walking l w ≡ x
walking_of l w x p q = ap (λ (a : Layout). walking a w) p ∙ ap (λ (b : Walk). walking x.layout b) q

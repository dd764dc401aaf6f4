use Rattle.std.proofs.Common.{ℕ, ◌+◌, List, [], ◌∷◌, ◌++◌, replicate, refl, ap, sym}
use Rattle.std.proofs.lemmas.List.{replicate_more}
use Rattle.tbl_drawing.specs.Pens.{Bytes}
use Rattle.tbl_drawing.proofs.Tapes.{draws_as, draws_both, draws_no_bytes}
use Rattle.tbl_drawing.proofs.writing.Out.repeat_each.Goals as goal

pub loop-place-init : goal.loop-place-init
loop-place-init g c = draws_no_bytes _

pub loop-place-preserved : goal.loop-place-preserved
loop-place-preserved g c =
    draws_as (Bytes (replicate (c.loop-place._place + 1) c.args.byte) ∷ []) (draws_both c.loop-place.invariant c.add.ensures) refl
    (ap (λ (l : List ℕ). l ++ []) (sym (replicate_more c.loop-place._place c.args.byte)))

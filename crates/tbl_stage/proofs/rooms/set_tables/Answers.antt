use Rattle.std.proofs.Common.{ℕ, ◌-◌, ◌∙◌, ap}
use Rattle.tbl_stage.specs.Text.{bounds_in}
use Rattle.tbl_stage.proofs.Texts.{set_so}
use Rattle.tbl_stage.proofs.rooms.set_tables.Goals as goal

pub returns-clause-supply : goal.returns-clause-supply
returns-clause-supply g c q is =
    set_so _ _ _ _ _ _ (bounds_in c.args.rooms.now) q c.over.ensures.supply c.over-setter.ensures.wants c.over-setter.ensures.says c.over-setter.ensures.fits (c.saturating_sub-most.ensures ∙ ap (λ (k : ℕ). k - 1) c.capacity.ensures.value) is

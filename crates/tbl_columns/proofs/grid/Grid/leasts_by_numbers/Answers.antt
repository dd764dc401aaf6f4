use Rattle.std.proofs.Common.{◌≡◌, ℕ, false, nat_lt, refl, sym, ◌∙◌, arith}
use Rattle.std.proofs.lemmas.Bool.Decides.{nat_tests}
use Rattle.std.proofs.lemmas.List.{get_or-replicate}
use Rattle.tbl_columns.specs.Narrow.{least_by_numbers}
use Rattle.tbl_columns.proofs.Choices.{left}
use Rattle.tbl_columns.proofs.grid.Grid.leasts_by_numbers.Goals as goal

none_below : (k : ℕ) → nat_lt k 0 ≡ false
none_below k = grind (arith, nat_tests)

pub loop-number-init : goal.loop-number-init
loop-number-init c = record {
  len = refl;
  leasts = λ k h. get_or-replicate 64 k 1 0 h ∙ sym (left (nat_lt k 0) (least_by_numbers c.args.self.now k) 1 (none_below k));
}

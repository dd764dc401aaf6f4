use Rattle.std.proofs.Common.{◌+◌, ◌<◌, ◌^◌, Fits, w32, inl, inr, arith}
use Rattle.std.proofs.lemmas.Bool.{cases_lt}
use Rattle.nr_levels.proofs.frame.Reads.go_on.Goals as goal

pub overflow_add-place : goal.overflow_add-place
overflow_add-place c =
    let needs : 0 < c.args.n → c.in-Text.place + c.args.n < 2 ^ 32 = rw c.in-Text.is at c.requires in
    let fits : Fits w32 (c.in-Text.place + c.args.n) = elim (cases_lt 0 c.args.n) [
      | inl some ↦ let below = needs some in omega arith
      | inr none ↦ omega arith
    ] in
    fits

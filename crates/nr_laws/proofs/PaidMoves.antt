-- Many moves are paid, out of what may come and by the bytes that they take.
use Rattle.std.proofs.Common.{◌≡◌, ℕ, zero, suc, ◌+◌, ◌*◌, ◌≤◌, refl, ap, subst, ◌∙◌, arith}
use Rattle.nr_input.specs.Weights.{byte_worth}
use Rattle.nr_machine.specs.State.{State}
use Rattle.nr_machine.specs.Machine.{state_after}
use Rattle.nr_machine.specs.Run.{Runs}
use Rattle.nr_laws.proofs.MovesPaid.{step-paid}
use Rattle.nr_laws.proofs.PageLengths.{HasHeight, height-after}
use Rattle.nr_laws.proofs.ReadsPaid.{Paid, worth, may_come}

pub record AllPaid (n : ℕ) (s t : State) : Type 0 where
  pub limit : t.formatter.store.limit ≡ s.formatter.store.limit
  pub most : t.formatter.reader.most ≡ s.formatter.reader.most
  pub pays : may_come t + n + worth s * s.coming.taken ≤ may_come s + worth s * t.coming.taken

one_more : (n : ℕ) (s t u : State) → AllPaid n s t → Paid t u → AllPaid (suc n) s u
one_more n s t u all one =
    let same : worth t ≡ worth s = ap (λ m. byte_worth m t.formatter.store.limit) all.most ∙ ap (λ l. byte_worth s.formatter.reader.most l) all.limit in
    let before = all.pays in
    let next : may_come u + 1 + worth s * t.coming.taken ≤ may_come t + worth s * u.coming.taken =
    subst (λ w. may_come u + 1 + w * t.coming.taken ≤ may_come t + w * u.coming.taken) same one.pays in
    record { limit = one.limit ∙ all.limit; most = one.most ∙ all.most; pays = omega (arith, before, next) }

pub all_paid : (n : ℕ) (s : State) → HasHeight s.formatter → Runs n s → AllPaid n s (state_after n s)
all_paid zero s height runs = record { limit = refl; most = refl; pays = omega arith }
all_paid (suc n) s height runs =
    one_more n s (state_after n s) (state_after (suc n) s) (all_paid n s height (λ m less. runs m (omega arith)))
    (step-paid (state_after n s) (height-after n s height) (runs n (omega arith)))

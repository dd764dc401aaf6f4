-- Many moves after many others, and none.
use Rattle.std.proofs.Common.{◌≡◌, ℕ, ◌+◌, ◌*◌, ◌≤◌, List, [], Option, refl, ap, ◌∙◌, subst, arith}
use Rattle.nr_input.specs.Weights.{byte_worth}
use Rattle.nr_units.specs.Source.{Supply}
use Rattle.nr_machine.specs.State.{State, Choice}
use Rattle.nr_machine.specs.Machine.{state_after}
use Rattle.nr_machine.specs.Holding.{Shape, Holds, Made, at, weight, worth}
use Rattle.fast_machine.specs.Running.{Makes, MakesInPlace, MakesReading}
use Rattle.nr_machine.proofs.Standing.{made_none, made_all}
use Rattle.nr_machine.proofs.Working.{holds_of}

pub same_state : (chosen : List Choice) (supply : Option Supply) (s : State) (e : Shape) → Holds chosen supply s e → at e s ≡ s
same_state chosen supply s e h = ap (λ f. record s { formatter = f }) h.formatter

-- moves within a text line, and then others
pub made_run : (s : State) (n m : ℕ) (e f : Shape) (x y : Option Supply) (old mid : Option (List ℕ))
    → Made [] s n e x old mid → Makes m e f x y → Made [] s (n + m) f y old mid
made_run s n m e f x y old mid made run =
    let t = state_after n s in
    let more = subst (λ u. Made [] u m f y mid mid) (same_state [] x t e made.holds) (run.makes mid t made.holds.stands) in
    made_all [] [] s n m e f x y old mid mid made more

pub worth_same : (e f : Shape) → f.formatter.store.limit ≡ e.formatter.store.limit → f.formatter.reader.most ≡ e.formatter.reader.most → worth f ≡ worth e
worth_same e f limit most =
    ap (λ m. byte_worth m f.formatter.store.limit) most ∙ ap (λ l. byte_worth e.formatter.reader.most l) limit

-- moves within a text line, and then more of them
pub makes-add : (n m : ℕ) (e f g : Shape) (x y z : Option Supply) → Makes n e f x y → Makes m f g y z → Makes (n + m) e g x z
makes-add n m e f g x y z a b =
    let same = worth_same e f a.limit a.most in
    let more : weight g + m + worth e * f.place.taken ≤ weight f + worth e * g.place.taken = subst (λ k. weight g + m + k * f.place.taken ≤ weight f + k * g.place.taken) same b.spends in
    record {
      makes = λ held s h. made_run (at e s) n m f g y z held held (a.makes held s h) b;
      limit = b.limit ∙ a.limit;
      most = b.most ∙ a.most;
      limits = b.limits ∙ a.limits;
      spends = omega (arith, a.spends, more);
    }

-- none were made
pub makes_none : (e : Shape) (supply : Option Supply) → Makes 0 e e supply supply
makes_none e supply = record {
  makes = λ held s h. made_none [] (at e s) e supply held (holds_of supply (at e s) e refl h.chosen_is h.coming h.row h.page h.page_limit h.select h.faces h.within);
  limit = refl;
  most = refl;
  limits = refl;
  spends = omega arith;
}

-- in which nothing of the source was taken
pub in_place-add : (n m : ℕ) (e f g : Shape) → MakesInPlace n e f → MakesInPlace m f g → MakesInPlace (n + m) e g
in_place-add n m e f g a b = record {
  makes = λ supply. makes-add n m e f g supply supply supply (a.makes supply) (b.makes supply);
  place = b.place ∙ a.place;
}

pub in_place-none : (e : Shape) → MakesInPlace 0 e e
in_place-none e = record { makes = λ supply. makes_none e supply; place = refl }

-- some were made, and then none
pub in_place-before : (n m : ℕ) (e f g : Shape) → m ≡ 0 → MakesInPlace n e f → MakesInPlace m f g → MakesInPlace n e g
in_place-before n m e f g none a b = let same : n + m ≡ n = omega (arith, none) in subst (λ k. MakesInPlace k e g) same (in_place-add n m e f g a b)

-- ---- in which no call of the source failed

pub reading-add : (n m : ℕ) (e f g : Shape) (x y z : Option Supply) (a b c : ℕ) → MakesReading n e f x y a b → MakesReading m f g y z b c → MakesReading (n + m) e g x z a c
reading-add n m e f g x y z a b c p q = record {
  makes = makes-add n m e f g x y z p.makes q.makes;
  failures = q.failures ∙ p.failures;
  unfailed = λ u. q.unfailed (p.unfailed u);
}

-- none were made
pub reading_none : (e : Shape) (supply : Option Supply) (failures : ℕ) → MakesReading 0 e e supply supply failures failures
reading_none e supply failures = record { makes = makes_none e supply; failures = refl; unfailed = λ u. u }

-- none were made, and then some
pub reading_later : (m : ℕ) (e f g : Shape) (x y z : Option Supply) (a b c : ℕ) → MakesReading 0 e f x y a b → MakesReading m f g y z b c → MakesReading m e g x z a c
reading_later m e f g x y z a b c p q =
    let same : 0 + m ≡ m = omega arith in
    subst (λ n. MakesReading n e g x z a c) same (reading-add 0 m e f g x y z a b c p q)

-- nothing of the source was taken
pub reading_in_place : (n : ℕ) (e f : Shape) (supply : Option Supply) (failures : ℕ) → MakesInPlace n e f → MakesReading n e f supply supply failures failures
reading_in_place n e f supply failures p = record { makes = p.makes supply; failures = refl; unfailed = λ u. rw p.place u }

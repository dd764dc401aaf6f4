-- One argument of `.ta` more.
use Rattle.std.proofs.Common.{◌≡◌, ℕ, suc, ◌==◌, false, cond, List, [], ◌∷◌, length, ap}
use Rattle.nr_settings.specs.Arguments.{number_in, after_number}
use Rattle.nr_settings.specs.Tabs.{numbers_in, with_stop, with_stops}
use Rattle.nr_settings.specs.declared.tabs.Ruler.{Ruler}

pub with_stops-more : (v n : ℕ) (line : List ℕ) (r : Ruler) → (length (number_in line) == 0) ≡ false → with_stops v (numbers_in (suc n) line) r ≡ with_stops v (numbers_in n (after_number line)) (with_stop v (number_in line) r)
with_stops-more v n line r some = ap (λ b. with_stops v (cond b [] (number_in line ∷ numbers_in n (after_number line))) r) some

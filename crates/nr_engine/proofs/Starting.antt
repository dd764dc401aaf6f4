-- The state before the first move.
use Rattle.std.proofs.Common.{◌≡◌, ℕ, ◌+◌, ◌-◌, ◌*◌, ◌≤◌, List, [], Option, Some, refl, sym, ap, ◌∙◌, subst, arith}
use Rattle.std.proofs.lemmas.Nat.{mul-le}
use Rattle.nr_units.specs.Source.{Supply}
use Rattle.nr_store.specs.Store.{charge_of}
use Rattle.nr_input.specs.Place.{nothing_reached}
use Rattle.nr_input.specs.Weights.{expansions_worth}
use Rattle.nr_options.specs.Limits.{Bounds}
use Rattle.nr_options.specs.declared.options.Options.{Options}
use Rattle.nr_formatter.specs.Limits as formatter
use Rattle.nr_formatter.specs.Weights as weights
use Rattle.nr_formatter.specs.Weights.{owed, steps_left}
use Rattle.nr_formatter.specs.declared.formatter.Formatter.{Formatter}
use Rattle.nr_machine.specs.State.{State, start, choices, formatter_at_first}
use Rattle.nr_machine.specs.Machine.{state_after}
use Rattle.nr_machine.specs.Run.{Answers, moves_a_byte}
use Rattle.nr_machine.specs.Holding.{Shape, Holds, Made, Halts, Finishes, weight, worth}
use Rattle.nr_machine.specs.Choosing.{IsNew, StaysLight}
use Rattle.nr_engine.specs.Travelling.{Travelled}
use Rattle.nr_machine.specs.declared.outcome.Outcome.{Outcome}
use Rattle.nr_machine.proofs.Standing.{state_after-add, finishes_after, finishes_stopped, none_spent, answers}
use Rattle.fast_machine.proofs.Running.{worth_same}

no_charge : (b : Bounds) → charge_of (formatter_at_first b).store ≡ 0
no_charge b = refl

within_first : (b : Bounds) → formatter.IsWithin (formatter_at_first b)
within_first b = record {
  stored = subst (λ k. k ≤ b.stored) (sym (no_charge b)) (omega arith);
  depth = omega arith;
  line = omega arith;
  burst = omega arith;
}

pub starts : (b : Bounds) (options : Options) (supply : Supply) (e : Shape) → IsNew b options e → Holds (choices options) (Some supply) (start b options supply) e
starts b options supply e new = record {
  formatter = new.formatter;
  stands = record {
    chosen_is = refl;
    coming = record { taken = ap (λ p. p.taken) new.place; inside = ap (λ p. p.inside) new.place; stands = rw new.place refl };
    row = new.row;
    page = new.page;
    page_limit = new.page_limit;
    select = new.select;
    faces = new.faces;
    within = record { formatter = subst (λ (x : Formatter). formatter.IsWithin x) (sym new.formatter) (within_first b); page = omega arith };
  };
}

-- ---- how many moves there may be

first_weight : (b : Bounds) → weights.weight nothing_reached (formatter_at_first b) + 33 ≤ expansions_worth b.expansions 0 b.stored + 512
unfolding weights.weight owed steps_left
first_weight b = omega arith

pub starts_light : (b : Bounds) (e : Shape) → e.formatter ≡ formatter_at_first b → e.place ≡ nothing_reached → weight e + 33 ≤ worth e * (e.place.taken + 1)
starts_light b e formatter_is place = rw (formatter_is, place) (omega (arith, first_weight b))

worth_first : (b : Bounds) (e : Shape) → e.formatter ≡ formatter_at_first b → worth e ≡ expansions_worth b.expansions 0 b.stored + 512
worth_first b e formatter_is = rw formatter_is refl

expansions-is : (x s : ℕ) → expansions_worth x 0 s ≡ x * (256 * (s + 3))
unfolding expansions_worth
expansions-is x s = let e : x - 0 ≡ x = omega arith in ap (λ k. k * (256 * (s + 3))) e

few : (x s p d : ℕ) → x * (256 * (s + 3)) + 512 ≤ 256 * (x + 1) * (s + p + d + 4)
few x s p d =
    let a : x * (256 * (s + 3)) ≡ 256 * (x * (s + 3)) = grind arith in
    let more = mul-le x (s + 3) x (s + p + d + 4) (omega arith) (omega arith) in
    let b : 256 * (x + 1) * (s + p + d + 4) ≡ 256 * (x * (s + p + d + 4)) + 256 * (s + p + d + 4) = grind arith in
    omega (arith, a, more, b)

pub within_moves : (b : Bounds) (e : Shape) (n taken : ℕ) → e.formatter ≡ formatter_at_first b → n ≤ worth e * (taken + 1) → n ≤ moves_a_byte b * (taken + 1)
within_moves b e n taken formatter_is within =
    let is = worth_first b e formatter_is ∙ ap (λ k. k + 512) (expansions-is b.expansions b.stored) in
    let less : worth e ≤ moves_a_byte b = subst (λ k. k ≤ moves_a_byte b) (sym is) (few b.expansions b.stored b.cells b.depth) in
    let all = mul-le (worth e) (taken + 1) (moves_a_byte b) (taken + 1) less (omega arith) in
    omega (arith, within, all)

-- where the options have taken effect

pub chosen_bound : (b : Bounds) (e f : Shape) (m : ℕ) → e.formatter ≡ formatter_at_first b → e.place ≡ nothing_reached → StaysLight e f → m ≤ 33 → m + weight f ≤ worth f * (f.place.taken + 1)
chosen_bound b e f m formatter_is place stays few_moves =
    let light = starts_light b e formatter_is place in
    subst (λ k. m + k ≤ worth f * (f.place.taken + 1)) (sym stays.weighs)
    (subst (λ k. m + weight e ≤ k * (f.place.taken + 1)) (sym (worth_same e f stays.limit stays.most))
    (subst (λ p. m + weight e ≤ worth e * (p.taken + 1)) (sym stays.place) (omega (arith, light, few_moves))))

pub few_moves : (b : Bounds) (n taken : ℕ) → n ≤ 33 → n ≤ moves_a_byte b * (taken + 1)
few_moves b n taken few_enough =
    let all = mul-le 33 1 (256 * (b.expansions + 1)) (b.stored + b.cells + b.depth + 4) (omega arith) (omega arith) in
    let more = mul-le 33 1 (moves_a_byte b) (taken + 1) (omega (arith, all)) (omega arith) in
    omega (arith, few_enough, more)

-- the moves of the options alone
pub halted_early : (b : Bounds) (s : State) (n : ℕ) (outcome : Outcome) (old new : Option (List ℕ)) → s.pages ≡ [] → 64 ≤ b.moves → n ≤ 33 → Halts s n outcome old new → Answers b s n outcome old new
halted_early b s n outcome old new none least few_enough h =
    answers b s n outcome old new none
    (finishes_stopped b.moves n s n outcome old new (omega arith) (none_spent b.moves n (state_after n s) (omega arith)) h) (few_moves b n (state_after n s).coming.taken few_enough)

-- the moves of the options, and then others up to where the run ends
pub answered : (b : Bounds) (s : State) (n after : ℕ) (e f : Shape) (x : Option Supply) (outcome : Outcome) (held new : Option (List ℕ)) → s.pages ≡ [] → e.formatter ≡ formatter_at_first b
    → StaysLight e f → Made [] s n f x held held → Travelled b.moves (state_after n s) n after (worth f) outcome held new → Answers b s after outcome held new
answered b s n after e f x outcome held new none formatter_is stays made u =
    let t = state_after u.count (state_after n s) in
    let all = within_moves b e after t.coming.taken formatter_is (subst (λ k. after ≤ k * (t.coming.taken + 1)) (worth_same e f stays.limit stays.most) u.bound) in
    let bound = subst (λ (v : State). after ≤ moves_a_byte b * (v.coming.taken + 1)) (sym (state_after-add s n u.count)) all in
    subst (λ k. Answers b s k outcome held new) (sym u.counted)
    (answers b s (n + u.count) outcome held new none
    (subst (λ k. Finishes b.moves k s (n + u.count) outcome held new) u.counted (finishes_after [] b.moves after s n u.count f x outcome held held new made u.finishes))
    (subst (λ k. k ≤ moves_a_byte b * ((state_after (n + u.count) s).coming.taken + 1)) u.counted bound))

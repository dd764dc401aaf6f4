-- One move more of a stretch.
use Rattle.std.specs.Prelude.{slice_get}
use Rattle.std.specs.Int.{from_bool}
use Rattle.std.proofs.Common.{◌≡◌, ℕ, ◌+◌, ◌-◌, ◌*◌, ◌<◌, ◌≤◌, Bool, true, false, List, length, Some, Option, refl, sym, subst, ap, ◌∙◌, add-one, below_more, arith}
use Rattle.nr_reading.specs.declared.next_item.NextItem.{NextItem}
use Rattle.nr_reading.specs.declared.next_item.NextItem.TheVariants as next_items
use Rattle.nr_reading.specs.declared.half.Half.{Half}
use Rattle.nr_reading.specs.declared.half.Seen.{Seen}
use Rattle.nr_reading.specs.declared.mode.PendingAct.TheVariants as pending_acts
use Rattle.nr_reading.specs.Half.{TakenIn, taken_in, take_in}
use Rattle.nr_reading.specs.Many.Passing.{quiet}
use Rattle.nr_reading.specs.Many.Runs.{Spot, one_if, after_taken_in, afterwards, spot_after, MayGoOn, HasTakenIn}
use Rattle.nr_reading.specs.Weights.{weight_of_half, cost_of_event, blanks_owed, worth_of_item, paid_by, PaysFor}

one_if-le : (b : Bool) → one_if b ≤ 1
one_if-le true = omega arith
one_if-le false = omega arith

paid_by-is : (b : Bool) (w : ℕ) → w ≡ 256 → paid_by b w ≡ 256 * one_if b
paid_by-is true w is = omega arith
paid_by-is false w is = omega arith

-- what was owed between is owed from the first on
paid_on : (first middle last cost n taken more owed owing owes : ℕ)
    → middle + 1 + n + 178 * (owing - owed) ≤ first + 256 * taken + 1
    → last + cost + 178 * (owes - owing) ≤ middle + 256 * more
    → last + cost + (n + 1) + 178 * (owes - owed) ≤ first + 256 * (taken + more) + 1
paid_on first middle last cost n taken more owed owing owes old new = omega arith

-- an item that is taken in is one move more
pub taken_in_more : (n : ℕ) (fs : List NextItem) (h : Half) (p : Spot) (f : NextItem) (k : Half) (seen : Seen)
    → HasTakenIn n fs h p → MayGoOn fs p → slice_get fs p.taken ≡ Some f → worth_of_item f ≡ 256
    → taken_in k seen ≡ take_in f p.half → PaysFor f p.half k seen → HasTakenIn (n + 1) fs h (after_taken_in (taken_in k seen) p.taken)
taken_in_more n fs h p f k seen has may some text is paid = record {
  leads =
      ap (λ j. spot_after j fs h) (add-one n)
      ∙ ap (λ (q : Spot). afterwards (slice_get fs q.taken) q) has.leads
      ∙ ap (λ (o : Option NextItem). afterwards o p) some
      ∙ ap (λ (m : TakenIn). after_taken_in m p.taken) (sym is);
  goes = below_more _ _ has.goes (subst (λ (q : Spot). MayGoOn fs q) (sym has.leads) may);
  within = let one = one_if-le seen.takes in let room = may.some in omega arith;
  pays =
      let cost : cost_of_event p.event ≡ 1 = ap cost_of_event may.event in
      let old = has.pays in
      let new = paid.pays in
      let worth : paid_by seen.takes (worth_of_item f) ≡ 256 * one_if seen.takes = paid_by-is seen.takes (worth_of_item f) text in
      paid_on (weight_of_half h) (weight_of_half p.half) (weight_of_half k) (cost_of_event seen.event) n p.taken (one_if seen.takes) (blanks_owed h) (blanks_owed p.half) (blanks_owed k) (omega arith) (omega arith);
  tells = paid.tells;
}

one_if-from : (b : Bool) → one_if b ≡ from_bool b
one_if-from true = refl
one_if-from false = refl

-- the same of a byte, as the program counts it
pub taken_in_counted : (n taken more b : ℕ) (fs : List NextItem) (h j k : Half) (seen : Seen)
    → HasTakenIn n fs h (quiet taken j) → taken < length fs → j.reading.pending_act ≡ pending_acts.Look → slice_get fs taken ≡ Some (next_items.Byte b)
    → taken_in k seen ≡ take_in (next_items.Byte b) j → PaysFor (next_items.Byte b) j k seen → more ≡ from_bool seen.takes
    → HasTakenIn (n + 1) fs h (record { taken = taken + more; half = k; event = seen.event })
taken_in_counted n taken more b fs h j k seen has within look some is paid counted =
    subst (λ m. HasTakenIn (n + 1) fs h (record { taken = taken + m; half = k; event = seen.event })) (one_if-from seen.takes ∙ sym counted)
    (taken_in_more n fs h (quiet taken j) (next_items.Byte b) k seen has (record { some = within; pending_act = look; event = refl }) some refl is paid)

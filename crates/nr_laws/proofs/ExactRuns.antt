-- In a run a move is refused at a limit exactly where it would lead above it.
use Rattle.std.specs.Prelude.{nat_lt}
use Rattle.std.proofs.lemmas.Bool.{ltb-false}
use Rattle.std.proofs.Common.{◌≡◌, ◌≢◌, ℕ, zero, suc, ◌≤◌, Bool, true, false, if◌then◌else◌, List, [], ◌∷◌, length, Option, None, Some, Ok, Err, refl, sym, ◌∙◌, arith}
use Rattle.nr_units.specs.Source.{Supply}
use Rattle.nr_fill.specs.Piece.{line_cells}
use Rattle.nr_page.specs.Grid.{page_charge}
use Rattle.nr_symbol_tables.specs.Table.{Named, find, put}
use Rattle.nr_store.specs.declared.request.Request.{Request}
use Rattle.nr_store.specs.declared.request.TheConstants.{REQUESTS}
use Rattle.nr_store.specs.Request.{with_acts, name_of}
use Rattle.nr_store.specs.Store.{Means, Act, charge_of, shown, weight_of}
use Rattle.nr_store.proofs.Naming.{sum_of, put_sum, put_sum_new}
use Rattle.nr_reading.specs.declared.mode.PendingAct.{PendingAct}
use Rattle.nr_reading.specs.declared.mode.PendingAct.TheVariants as pending_acts
use Rattle.nr_input.specs.Acting.{name_in}
use Rattle.nr_input.specs.Moving.{looks}
use Rattle.nr_input.specs.Moving as input
use Rattle.nr_input.specs.declared.refusal.Refusal.{Refusal}
use Rattle.nr_formatter.specs.Access.{collected}
use Rattle.nr_options.specs.Limits.{Bounds}
use Rattle.nr_options.specs.declared.options.Options.{Options}
use Rattle.nr_machine.specs.State.{State, start}
use Rattle.nr_machine.specs.Machine.{step, state_after, situation_of}
use Rattle.nr_machine.specs.Measures.{IsWithin, passed}
use Rattle.nr_machine.specs.Run.{Kind, Reads, Works, Over, kind, Goes, GoesBy, IsRefusal, Passes, PassesBy, Runs}
use Rattle.nr_machine.specs.declared.outcome.Measure.{Measure}
use Rattle.nr_machine.specs.declared.outcome.Measure.TheVariants as measures
use Rattle.nr_laws.specs.Moves.{LimitsAreExact}
use Rattle.nr_laws.proofs.MadeMoves.{above_is_refused}
use Rattle.nr_laws.proofs.PrintedItems.{IsPending}
use Rattle.nr_laws.proofs.PrintedLines.{all-among, every}
use Rattle.nr_laws.proofs.PrintedStates.{AreClear, clear-after, starts-clear}
use Rattle.nr_laws.proofs.RefusedMoves.{refused_is_above}
use Rattle.nr_laws.proofs.Stopping.{for_limit, no_sight}

-- ---- a move is made or refused

reads-not : (b : Bool) (s : State) (m : Measure) (r : Refusal) → input.GoesBy b (situation_of s) → input.RefusesBy b (situation_of s) r → IsRefusal m r → ⊥
reads-not true s m r goes refuses is = no_sight (shown s.formatter.store.levels) s.coming r (for_limit m r is) refuses
reads-not false s m r goes refuses is = (let wrong : Ok tt ≡ Err r = sym goes ∙ refuses in cc)

not-both : (k : Kind) (s : State) (m : Measure) → GoesBy k s → PassesBy k s m → ⊥
not-both Reads s m goes passes = reads-not (looks (situation_of s)) s m passes.0 goes passes.1 passes.2
not-both Works s m goes passes = (let wrong : None ≡ Some m = sym goes ∙ passes in cc)
not-both Over s m goes passes = goes

-- ---- a state above no limit is within all

within-by : (a b c p d : Bool) (s : State) → (a ≡ false → charge_of s.formatter.store ≤ s.formatter.store.limit) → (b ≡ false → length s.formatter.store.levels ≤ s.formatter.store.deepest)
    → (c ≡ false → line_cells (collected s.formatter) ≤ s.formatter.line.limit) → (p ≡ false → page_charge s.lines ≤ s.page_limit) → (d ≡ false → s.formatter.reader.burst ≤ s.formatter.reader.most)
    → (if a then Some measures.Stored else (if b then Some measures.Depth else (if c then Some measures.LineCells else (if p then Some measures.PageCells else (if d then Some measures.Expansions else None))))) ≡ None
    → IsWithin s
within-by true b c p d s stored depth line page burst none = let wrong : ⊥ = cc in absurd wrong
within-by false true c p d s stored depth line page burst none = let wrong : ⊥ = cc in absurd wrong
within-by false false true p d s stored depth line page burst none = let wrong : ⊥ = cc in absurd wrong
within-by false false false true d s stored depth line page burst none = let wrong : ⊥ = cc in absurd wrong
within-by false false false false true s stored depth line page burst none = let wrong : ⊥ = cc in absurd wrong
within-by false false false false false s stored depth line page burst none =
    record { formatter = record { stored = stored refl; depth = depth refl; line = line refl; burst = burst refl }; page = page refl }

passed-none : (s : State) → passed s ≡ None → IsWithin s
passed-none s none =
    let f = s.formatter in
    within-by (nat_lt f.store.limit (charge_of f.store)) (nat_lt f.store.deepest (length f.store.levels)) (nat_lt f.line.limit (line_cells (collected f))) (nat_lt s.page_limit (page_charge s.lines))
    (nat_lt f.reader.most f.reader.burst) s (ltb-false f.store.limit (charge_of f.store)) (ltb-false f.store.deepest (length f.store.levels)) (ltb-false f.line.limit (line_cells (collected f)))
    (ltb-false s.page_limit (page_charge s.lines)) (ltb-false f.reader.most f.reader.burst) none

pending_act-not : (d : PendingAct) → IsPending every d → d ≢ pending_acts.Expanded
pending_act-not pending_acts.Expanded h is = h
pending_act-not d h is = (let wrong : ⊥ = cc in wrong)

module _ (s : State) (within : IsWithin s) (clear : AreClear every s) where
  refuses : s.formatter.reader.half.reading.pending_act ≢ pending_acts.Expanded
  refuses = pending_act-not s.formatter.reader.half.reading.pending_act clear.kept.half.pending_act

  above : (m : Measure) → passed (step s) ≡ Some m → Passes s m
  above m is = above_is_refused s m within refuses (λ names. clear.kept.stored.once (name_in s.formatter.reader)) is

  made : (x : Option Measure) → passed (step s) ≡ x → Goes s → IsWithin (step s)
  made None is goes = passed-none (step s) is
  made (Some m) is goes = absurd (not-both (kind s) s m goes (above m is))

-- ---- of a run

acts-weigh : (es : List (ℕ × ℕ × Request)) (ns : List (Named Means)) → sum_of weight_of ns ≡ 0 → sum_of weight_of (with_acts es ns) ≡ 0
acts-weigh [] ns none = none
acts-weigh (e ∷ es) ns none = acts-weigh es (put (name_of e) (Act e.2) ns) (by (find (name_of e) ns) refl)
  where
    by : (o : Option Means) → find (name_of e) ns ≡ o → sum_of weight_of (put (name_of e) (Act e.2) ns) ≡ 0
    by None is = omega (arith, none, put_sum_new weight_of (name_of e) (Act e.2) ns is)
    by (Some m) is = omega (arith, none, put_sum weight_of (name_of e) (Act e.2) m ns is)

starts-within : (b : Bounds) (options : Options) (supply : Supply) → IsWithin (start b options supply)
starts-within b options supply =
    let none = acts-weigh REQUESTS [] refl in
    record { formatter = record { stored = omega (arith, none); depth = omega arith; line = omega arith; burst = omega arith }; page = omega arith }

module _ (b : Bounds) (options : Options) (supply : Supply) where
  first : State
  first = start b options supply

  clear : (n : ℕ) → AreClear every (state_after n (start b options supply))
  clear n = clear-after every n (start b options supply) (starts-clear every b options supply (all-among supply.bytes))

  within-after : (n : ℕ) → Runs n (start b options supply) → IsWithin (state_after n (start b options supply))
  within-after zero runs = starts-within b options supply
  within-after (suc n) runs =
      let s = state_after n (start b options supply) in
      made s (within-after n (λ m less. runs m (omega arith))) (clear n) (passed (step s)) refl (runs n (omega arith))

pub limits_are_exact : LimitsAreExact
limits_are_exact b options supply n which runs =
    let s = state_after n (start b options supply) in
    let within = within-after b options supply n runs in
    let clear = clear b options supply n in
    ((λ passes. refused_is_above s which within (refuses s within clear) passes), (λ is. above s within clear which is))

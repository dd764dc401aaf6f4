-- A move that is made is made under wider limits too.
use Rattle.std.specs.Prelude.{nat_lt, length}
use Rattle.std.proofs.Common.{◌≡◌, Bool, true, false, if◌then◌else◌, None, Some, refl, ap, sym, ◌∙◌}
use Rattle.nr_store.specs.Store.{charge_of}
use Rattle.nr_fill.specs.Piece.{line_cells}
use Rattle.nr_page.specs.Grid.{page_charge}
use Rattle.nr_input.specs.Moving.{looks}
use Rattle.nr_input.specs.Moving as input
use Rattle.nr_options.specs.Limits.{Bounds}
use Rattle.nr_formatter.specs.Access.{collected}
use Rattle.nr_machine.specs.State.{State}
use Rattle.nr_machine.specs.Machine.{step, situation_of}
use Rattle.nr_machine.specs.Measures.{passed}
use Rattle.nr_machine.specs.declared.outcome.Measure.TheVariants as measures
use Rattle.nr_machine.specs.Run.{Kind, Reads, Works, Over, kind, Goes, GoesBy}
use Rattle.nr_laws.specs.Laws.{AtLeast}
use Rattle.nr_laws.specs.Limited.{state_under}
use Rattle.nr_laws.proofs.InputLimits.{lt-wider, answer-wider}
use Rattle.nr_laws.proofs.StepLimits.{step-under}

passed_by : (a b c d e a' b' c' d' e' : Bool) → (a ≡ false → a' ≡ false) → (b ≡ false → b' ≡ false) → (c ≡ false → c' ≡ false) → (d ≡ false → d' ≡ false) → (e ≡ false → e' ≡ false)
    → (if a then Some measures.Stored else (if b then Some measures.Depth else (if c then Some measures.LineCells else (if d then Some measures.PageCells else (if e then Some measures.Expansions else None))))) ≡ None
    → (if a' then Some measures.Stored else (if b' then Some measures.Depth else (if c' then Some measures.LineCells else (if d' then Some measures.PageCells else (if e' then Some measures.Expansions else None))))) ≡ None
passed_by true b c d e a' b' c' d' e' u v w x y none = cc
passed_by false true c d e a' b' c' d' e' u v w x y none = cc
passed_by false false true d e a' b' c' d' e' u v w x y none = cc
passed_by false false false true e a' b' c' d' e' u v w x y none = cc
passed_by false false false false true a' b' c' d' e' u v w x y none = cc
passed_by false false false false false a' b' c' d' e' u v w x y none = rw (u refl, v refl, w refl, x refl, y refl)

passed-wider : (b b' : Bounds) (s : State) → AtLeast b b' → passed (state_under b s) ≡ None → passed (state_under b' s) ≡ None
passed-wider b b' s h none =
    let v = s.formatter.store in
    passed_by (nat_lt b.stored (charge_of v)) (nat_lt b.depth (length v.levels)) (nat_lt b.cells (line_cells (collected s.formatter))) (nat_lt b.cells (page_charge s.lines)) (nat_lt b.expansions s.formatter.reader.burst)
    (nat_lt b'.stored (charge_of v)) (nat_lt b'.depth (length v.levels)) (nat_lt b'.cells (line_cells (collected s.formatter))) (nat_lt b'.cells (page_charge s.lines)) (nat_lt b'.expansions s.formatter.reader.burst)
    (lt-wider b.stored b'.stored (charge_of v) h.stored) (lt-wider b.depth b'.depth (length v.levels) h.depth) (lt-wider b.cells b'.cells (line_cells (collected s.formatter)) h.cells)
    (lt-wider b.cells b'.cells (page_charge s.lines) h.cells) (lt-wider b.expansions b'.expansions s.formatter.reader.burst h.expansions) none

input-wider : (c : Bool) (b b' : Bounds) (s : State) → AtLeast b b' → input.GoesBy c (situation_of (state_under b s)) → input.GoesBy c (situation_of (state_under b' s))
input-wider true b b' s h goes = goes
input-wider false b b' s h goes =
    answer-wider b.stored b'.stored b.depth b'.depth b.expansions b'.expansions h.stored h.depth h.expansions s.formatter.reader.half.reading.pending_act s.formatter.store s.formatter.reader goes

goes_by-wider : (k : Kind) (b b' : Bounds) (s : State) → AtLeast b b' → GoesBy k (state_under b s) → GoesBy k (state_under b' s)
goes_by-wider Reads b b' s h goes = input-wider (looks (situation_of s)) b b' s h goes
goes_by-wider Works b b' s h goes =
    ap passed (step-under b' s) ∙ passed-wider b b' (step s) h (ap passed (sym (step-under b s)) ∙ goes)
goes_by-wider Over b b' s h goes = goes

pub goes-wider : (b b' : Bounds) (s : State) → AtLeast b b' → Goes (state_under b s) → Goes (state_under b' s)
goes-wider b b' s h goes = goes_by-wider (kind s) b b' s h goes

-- Which measure a state passes first.
use Rattle.std.proofs.Common.{◌≡◌, ℕ, ◌≤◌, ◌<◌, Bool, true, false, Option, None, Some, Result, Ok, Err, refl, sym, ap, ◌∙◌, arith, inl, inr, length}
use Rattle.std.specs.Prelude.{nat_lt, if◌then◌else◌}
use Rattle.std.proofs.lemmas.Bool.{le-ltb, lt-ltb, cases_lt}
use Rattle.nr_fill.specs.Piece.{line_cells}
use Rattle.nr_store.specs.Store.{charge_of}
use Rattle.nr_page.specs.Grid.{page_charge}
use Rattle.nr_formatter.specs.Access.{collected}
use Rattle.nr_formatter.specs.Limits as formatter
use Rattle.nr_formatter.specs.Limits.{judged, judged_by}
use Rattle.nr_formatter.specs.declared.formatter.Formatter.{Formatter}
use Rattle.nr_formatter.specs.declared.passed.Passed.{Passed}
use Rattle.nr_formatter.specs.declared.passed.Passed.TheVariants as passes
use Rattle.nr_machine.specs.State.{State}
use Rattle.nr_machine.specs.Measures.{IsWithin, measure_of, passed}
use Rattle.nr_machine.specs.declared.outcome.Measure.{Measure}
use Rattle.nr_machine.specs.declared.outcome.Measure.TheVariants.{Stored, Depth, LineCells, PageCells, Expansions}

-- no limit is passed where each measure is within
pub passed_none : (s : State) → IsWithin s → passed s ≡ None
passed_none s w = rw (
  le-ltb s.formatter.store.limit (charge_of s.formatter.store) w.formatter.stored,
  le-ltb s.formatter.store.deepest (length s.formatter.store.levels) w.formatter.depth,
  le-ltb s.formatter.line.limit (line_cells (collected s.formatter)) w.formatter.line,
  le-ltb s.page_limit (page_charge s.lines) w.page,
  le-ltb s.formatter.reader.most s.formatter.reader.burst w.formatter.burst,
)

-- each measure, where those before it are within

pub passed_stored : (s : State) → s.formatter.store.limit < charge_of s.formatter.store → passed s ≡ Some Stored
passed_stored s over = rw (lt-ltb s.formatter.store.limit (charge_of s.formatter.store) over) refl

-- ---- a move of the formatter

pub not_over : (m n : ℕ) → nat_lt m n ≡ false → n ≤ m
not_over m n e = elim (cases_lt m n) [
  | inl k ↦ absurd (let f : true ≡ false = sym (lt-ltb m n k) ∙ e in cc)
  | inr k ↦ omega (arith, k)
]

pub over : (m n : ℕ) → nat_lt m n ≡ true → m < n
over m n e = elim (cases_lt m n) [
  | inl k ↦ k
  | inr k ↦ absurd (let f : true ≡ false = sym e ∙ le-ltb m n (omega (arith, k)) in cc)
]

abbrev four : Bool → Bool → Bool → Bool → Option Passed
four a b c d = if a then Some passes.Stored else (if b then Some passes.Depth else (if c then Some passes.LineCells else (if d then Some passes.Expansions else None)))

abbrev five : Bool → Bool → Bool → Bool → Bool → Option Measure
five a b c p d = if a then Some Stored else (if b then Some Depth else (if c then Some LineCells else (if p then Some PageCells else (if d then Some Expansions else None))))

record AllFalse (a b c d : Bool) : Type 0 where
  first : a ≡ false
  second : b ≡ false
  third : c ≡ false
  fourth : d ≡ false

abbrev is_made : Result (Unit {0}) Passed → Bool
is_made (Ok x) = true
is_made (Err e) = false

ok_four : (a b c d : Bool) → judged_by (four a b c d) ≡ Ok tt → AllFalse a b c d
ok_four true b c d e = absurd (let f : false ≡ true = ap is_made e in cc)
ok_four false true c d e = absurd (let f : false ≡ true = ap is_made e in cc)
ok_four false false true d e = absurd (let f : false ≡ true = ap is_made e in cc)
ok_four false false false true e = absurd (let f : false ≡ true = ap is_made e in cc)
ok_four false false false false e = record { first = refl; second = refl; third = refl; fourth = refl }

abbrev measure_in : Measure → Result (Unit {0}) Passed → Measure
measure_in m (Ok x) = m
measure_in m (Err e) = measure_of e

err_four : (a b c p d : Bool) (x : Passed) → p ≡ false → judged_by (four a b c d) ≡ Err x → five a b c p d ≡ Some (measure_of x)
err_four true b c p d x q e = ap (λ r. Some (measure_in Stored r)) e
err_four false true c p d x q e = ap (λ r. Some (measure_in Stored r)) e
err_four false false true p d x q e = ap (λ r. Some (measure_in Stored r)) e
err_four false false false true d x q e = absurd (let f : true ≡ false = q in cc)
err_four false false false false true x q e = ap (λ r. Some (measure_in Stored r)) e
err_four false false false false false x q e = absurd (let f : true ≡ false = ap is_made e in cc)

-- where it is made each measure is within
pub judged_within : (f : Formatter) → judged f ≡ Ok tt → formatter.IsWithin f
judged_within f e =
    let all : AllFalse (nat_lt f.store.limit (charge_of f.store)) (nat_lt f.store.deepest (length f.store.levels)) (nat_lt f.line.limit (line_cells (collected f))) (nat_lt f.reader.most f.reader.burst) = ok_four _ _ _ _ e in
    record {
      stored = not_over f.store.limit (charge_of f.store) all.first;
      depth = not_over f.store.deepest (length f.store.levels) all.second;
      line = not_over f.line.limit (line_cells (collected f)) all.third;
      burst = not_over f.reader.most f.reader.burst all.fourth;
    }

-- where it is refused the measure is the first that is passed
pub judged_passed : (s : State) (x : Passed) → page_charge s.lines ≤ s.page_limit → judged s.formatter ≡ Err x → passed s ≡ Some (measure_of x)
judged_passed s x page e =
    err_four (nat_lt s.formatter.store.limit (charge_of s.formatter.store)) (nat_lt s.formatter.store.deepest (length s.formatter.store.levels))
    (nat_lt s.formatter.line.limit (line_cells (collected s.formatter))) (nat_lt s.page_limit (page_charge s.lines))
    (nat_lt s.formatter.reader.most s.formatter.reader.burst) x (le-ltb s.page_limit (page_charge s.lines) page) e

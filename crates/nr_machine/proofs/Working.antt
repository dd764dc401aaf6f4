-- Parts of a move.
use Rattle.std.proofs.Common.{◌≡◌, ℕ, ◌+◌, List, [], ◌∷◌, ◌++◌, length, Option, Some, Result, Ok, Err, refl, sym, ap, ◌∙◌, subst, append-nil, arith}
use Rattle.std.specs.Prelude.{OnOk}
use Rattle.std.proofs.KnownBytes.{Keeps-refl}
use Rattle.std.proofs.lemmas.Grind.{flat_map-append}
use Rattle.std.proofs.lemmas.List.Sums.{sum_by_push}
use Rattle.nr_units.specs.Source.{Supply}
use Rattle.nr_fill.specs.CellRow.{IsRow}
use Rattle.nr_page.specs.Grid.{Placed, page_charge}
use Rattle.nr_page.specs.Page.{Holds as HoldsPage}
use Rattle.nr_input.specs.Place.{HoldsComing}
use Rattle.nr_input.specs.Laws.{all_counted}
use Rattle.nr_input.specs.Moving as input
use Rattle.nr_input.specs.Refusal.{place_reported}
use Rattle.nr_input.specs.declared.refusal.Refusal.{Refusal}
use Rattle.nr_input.specs.declared.refusal.Refusal.TheVariants as refusals
use Rattle.nr_formatter.specs.Limits as formatter
use Rattle.nr_formatter.specs.Limits.{judged}
use Rattle.nr_formatter.specs.Weights.{Falls}
use Rattle.nr_formatter.specs.declared.formatter.Formatter.{Formatter}
use Rattle.nr_formatter.specs.declared.passed.Passed.{Passed}
use Rattle.nr_machine.specs.State.{State, Ended, plainly}
use Rattle.nr_machine.specs.Machine.{step, situation_of}
use Rattle.nr_machine.specs.Printing.{bytes_of, text}
use Rattle.nr_machine.specs.Measures.{IsWithin, passed}
use Rattle.nr_machine.specs.Run.{Reads as ReadsKind, Works as WorksKind, kind, GoesBy, PassesBy, Passes, Stops, place_by, refusal_outcome, measured, limited, stopped}
use Rattle.nr_machine.specs.Holding.{Shape, at, Stands, Holds, Wrote, Moved, Left, IsLighter, AfterWork, AfterQuietWork, AfterMove, Works, WorksQuietly}
use Rattle.nr_machine.specs.declared.outcome.Measure.{Measure}
use Rattle.nr_machine.specs.declared.outcome.Measure.TheVariants as measures
use Rattle.nr_machine.specs.declared.outcome.Stop.{Stop}
use Rattle.nr_machine.specs.declared.outcome.Stop.TheVariants as stops
use Rattle.nr_machine.proofs.Standing.{wrote_nothing}
use Rattle.nr_machine.proofs.Measured.{passed_none, judged_within, judged_passed}

-- the engine holds a state whose formatter is its own
pub holds_of : (supply : Option Supply) (t : State) (e : Shape) → e.formatter ≡ t.formatter → t.chosen ≡ [] → HoldsComing t.coming e.place supply
    → IsRow t.row e.row → HoldsPage t.lines e.page → e.page.limit ≡ t.page_limit → e.select ≡ t.select → e.faces ≡ t.faces → IsWithin t → Holds [] supply t e
holds_of supply t e formatter chosen coming row page limit select faces within = record {
  formatter = formatter;
  stands = record {
    chosen_is = chosen;
    coming = coming;
    row = row;
    page = page;
    page_limit = limit;
    select = select;
    faces = faces;
    within = subst (λ f. IsWithin (record t { formatter = f })) (sym formatter) within;
  };
}

-- where only the formatter changed
pub holds_plainly : (g : Formatter → Formatter) (supply : Option Supply) (s : State) (e : Shape) (f : Formatter) → Stands [] supply s e → f ≡ g e.formatter
    → IsWithin (plainly g (at e s)) → Holds [] supply (plainly g (at e s)) (record e { formatter = f })
holds_plainly g supply s e f h is within =
    holds_of supply (plainly g (at e s)) (record e { formatter = f }) is h.chosen_is h.coming h.row h.page h.page_limit h.select h.faces within

-- a work of the formatter alone, by its answer
pub formatter_worked : (g : Formatter → Formatter) (supply : Option Supply) (s : State) (e : Shape) (f : Formatter) (r : Result (Unit {0}) Passed)
    → Stands [] supply s e → r ≡ judged (g e.formatter) → OnOk r (f ≡ g e.formatter)
    → AfterQuietWork supply (at e s) (plainly g (at e s)) (record e { formatter = f }) (measured r)
formatter_worked g supply s e f (Ok x) h is new =
    (holds_plainly g supply s e f h new (record { formatter = judged_within (g e.formatter) (sym is); page = h.within.page }), refl)
formatter_worked g supply s e f (Err p) h is new = judged_passed (plainly g (at e s)) p h.within.page (sym is)

-- what the formatter alone does, as a part of a move
pub formatter_works : (g : Formatter → Formatter) (e : Shape) (f : Formatter) (r : Result (Unit {0}) Passed) → (formatter.IsWithin e.formatter → r ≡ judged (g e.formatter))
    → OnOk r (f ≡ g e.formatter) → OnOk r (Falls 1 0 e.formatter f) → WorksQuietly (plainly g) e (record e { formatter = f }) (measured r)
formatter_works g e f r is new falls = record {
  comes = λ supply s h. formatter_worked g supply s e f r h (is h.within.formatter) new;
  lightens = lightens r falls;
}
  where
    lightens : (q : Result (Unit {0}) Passed) → OnOk q (Falls 1 0 e.formatter f) → OnOk (measured q) (IsLighter e (record e { formatter = f }))
    lightens (Ok x) h = (h, refl)
    lightens (Err p) h = tt

-- a part that writes nothing, as one that might
pub works_loudly : (f : State → State) (e e' : Shape) (held : Option (List ℕ)) → WorksQuietly f e e' (Ok tt) → Works f e e' held held (Ok tt)
works_loudly f e e' held w = record {
  comes = λ supply s h. (let come = w.comes supply s h in (come.0, wrote_nothing (at e s) (f (at e s)) held come.1));
  lightens = w.lightens;
}

-- ---- a test that refuses

-- ---- a whole move

within_of : (supply : Option Supply) (t : State) (e : Shape) → Holds [] supply t e → IsWithin t
within_of supply t e h = subst (λ f. IsWithin (record t { formatter = f })) h.formatter h.stands.within

-- s leads to t, and the input is not read
module _ (supply : Option Supply) (s t : State) (e : Shape) (works : kind s ≡ WorksKind) (is : step s ≡ t) where
  moved : (old new : Option (List ℕ)) → Holds [] supply t e → Wrote s t old new → Moved s e supply old new
  moved old new holds wrote = record {
    goes = subst (λ k. GoesBy k s) (sym works) (ap passed is ∙ passed_none t (within_of supply t e holds));
    holds = rw is holds;
    wrote = rw is wrote;
  }

  passes : (which : Measure) → passed t ≡ Some which → Passes s which
  passes which over = subst (λ k. PassesBy k s which) (sym works) (ap passed is ∙ over)

  -- it is reported after all bytes that were taken
  reported_at : (n : ℕ) → n ≡ s.coming.taken → n ≡ place_by (kind s) s
  reported_at n taken = subst (λ k. n ≡ place_by k s) (sym works) taken

  -- a work that is all of a move, at this place of the input
  pub worked : (old new : Option (List ℕ)) (r : Result (Unit {0}) Stop) (n : ℕ) → n ≡ s.coming.taken → AfterWork supply s t e old new r → AfterMove s e supply old new (stopped n r)
  worked old new (Ok x) n taken w = moved old new w.0 w.1
  worked old new (Err (stops.Limit which)) n taken w = ((passes which w.0, reported_at n taken), w.1)
  worked old new (Err stops.WriteFault) n taken w = (
    (subst (λ k. GoesBy k s) (sym works) (ap passed is ∙ passed_none t w.0), (w.1.page, ap (λ x. x.pages) is ∙ w.1.ends)),
    record { page = w.1.page; ends = ap (λ x. x.pages) is ∙ w.1.ends; prefix = w.1.prefix },
  )

  pub worked_quietly : (held : Option (List ℕ)) (r : Result (Unit {0}) Measure) (n : ℕ) → n ≡ s.coming.taken → AfterQuietWork supply s t e r → AfterMove s e supply held held (limited n r)
  worked_quietly held (Ok x) n taken w = moved held held w.0 (wrote_nothing s t held w.1)
  worked_quietly held (Err which) n taken w = ((passes which w, reported_at n taken), Keeps-refl held)

-- ---- a move that reads is refused

module _ (s : State) (reads : kind s ≡ ReadsKind) (n : ℕ) (emitted : n ≡ place_reported s.coming.taken s.formatter.reader) where
  at_place : n ≡ place_by (kind s) s
  at_place = subst (λ k. n ≡ place_by k s) (sym reads) emitted

  pub refused_stops : (x : Refusal) → input.Refuses (situation_of s) x → Stops s (refusal_outcome n x)
  refused_stops refusals.Stored h = (subst (λ k. PassesBy k s measures.Stored) (sym reads) (refusals.Stored, h, refl), at_place)
  refused_stops refusals.Depth h = (subst (λ k. PassesBy k s measures.Depth) (sym reads) (refusals.Depth, h, refl), at_place)
  refused_stops refusals.Expansions h = (subst (λ k. PassesBy k s measures.Expansions) (sym reads) (refusals.Expansions, h, refl), at_place)
  refused_stops refusals.ReadFault h = (reads, h, emitted ∙ all_counted (situation_of s) h)
  refused_stops refusals.TooLong h = (reads, h)

-- nothing goes out then
pub refused_left : (s : State) (n : ℕ) (held : Option (List ℕ)) (x : Refusal) → Left s (refusal_outcome n x) held held
refused_left s n held refusals.Stored = Keeps-refl held
refused_left s n held refusals.Depth = Keeps-refl held
refused_left s n held refusals.Expansions = Keeps-refl held
refused_left s n held refusals.ReadFault = Keeps-refl held
refused_left s n held refusals.TooLong = Keeps-refl held

-- ---- pages

-- one page more
pub text-push : (pages : List Ended) (p : Ended) → text (pages ++ p ∷ []) ≡ text pages ++ bytes_of p
text-push pages p = flat_map-append bytes_of pages (p ∷ []) ∙ ap (λ x. text pages ++ x) (append-nil (bytes_of p))

pub page_charge-push : (lines : List Placed) (x : Placed) → page_charge (lines ++ x ∷ []) ≡ page_charge lines + 1 + length x.cells
page_charge-push lines x = omega (arith, sum_by_push (λ (line : Placed). 1 + length line.cells) lines x)

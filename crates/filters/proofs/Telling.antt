-- A line of several parts is reported.
use Rattle.std.proofs.Common.{◌≡◌, ℕ, List, Option, Result, Ok, Err, OnOk, OnErr, inl, inr, sym, subst, ap, ◌∙◌}
use Rattle.std.specs.Io.KnownBytes.{Appends}
use Rattle.nr_units.specs.Failures.{SinkFailures, put_counted}
use Rattle.nr_units.specs.Sink.{AppendsPrefix}
use Rattle.filters.specs.declared.endings.Ending.{Ending}
use Rattle.filters.specs.Endings.{Tells, line_of, reported, reported_named}

pub Tells-put : {T E : Type 0} (r : Result T E) (a b : Option (List ℕ)) (f h : SinkFailures) (line other : List ℕ) → line ≡ other
    → OnOk r (Appends a b line) → OnErr r (AppendsPrefix a b line) → h ≡ put_counted f r → Tells a b f h other
Tells-put (Ok x) a b f h line other is ok err counted = inl (counted, subst (Appends a b) is ok)
Tells-put (Err e) a b f h line other is ok err counted = inr (counted, subst (AppendsPrefix a b) is err)

pub reported_is : (p w v p' w' v' : List ℕ) → p ≡ p' → w ≡ w' → v ≡ v' → reported p w v ≡ reported p' w' v'
reported_is p w v p' w' v' a b c = ap (λ x. reported x w v) a ∙ ap (λ x. reported p' x v) b ∙ ap (λ x. reported p' w' x) c

pub reported_named_is : (p n w v p' n' w' v' : List ℕ) → p ≡ p' → n ≡ n' → w ≡ w' → v ≡ v' → reported_named p n w v ≡ reported_named p' n' w' v'
reported_named_is p n w v p' n' w' v' a b c d =
    ap (λ x. reported_named x n w v) a ∙ ap (λ x. reported_named p' x w v) b ∙ ap (λ x. reported_named p' n' x v) c ∙ ap (λ x. reported_named p' n' w' x) d

-- the line of an ending that is known
pub Tells-at : (a b : Option (List ℕ)) (f h : SinkFailures) (program : List ℕ) (e known : Ending) → e ≡ known → Tells a b f h (line_of program known) → Tells a b f h (line_of program e)
Tells-at a b f h program e known is tells = subst (λ (x : Ending). Tells a b f h (line_of program x)) (sym is) tells

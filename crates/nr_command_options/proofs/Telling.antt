-- What is reported by several writes.
use Rattle.std.proofs.Common.{ℕ, List, ◌++◌, Option, Result, Ok, Err, OnErr}
use Rattle.std.specs.Io.KnownBytes.{Appends}
use Rattle.nr_units.specs.Sink.{AppendsPrefix}
use Rattle.nr_units.proofs.Prefixes.{AppendsPrefix-after}

-- what holds anyhow holds at an error
pub on_err_always : {T E P : Type 0} (r : Result T E) → P → OnErr r P
on_err_always (Ok x) p = tt
on_err_always (Err e) p = p

-- xs was written before, and the last write took a prefix of ys, if it failed
pub AppendsPrefix-last : {T E : Type 0} (r : Result T E) (a b c : Option (List ℕ)) (xs ys : List ℕ) → Appends a b xs → OnErr r (AppendsPrefix b c ys) → OnErr r (AppendsPrefix a c (xs ++ ys))
AppendsPrefix-last (Ok x) a b c xs ys p q = tt
AppendsPrefix-last (Err e) a b c xs ys p q = AppendsPrefix-after a b c xs ys p q

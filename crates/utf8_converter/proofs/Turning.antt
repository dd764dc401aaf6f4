-- How what waits goes out.
use Rattle.std.proofs.Common.{◌≡◌, ℕ, List, [], ◌++◌, Option, Result, Ok, Err, OnErr, OnOk, refl, sym, ◌∙◌, ap, append-nil}
use Rattle.std.specs.Io.KnownBytes.{Appends}
use Rattle.std.proofs.KnownBytes.{Appends-trans, Appends-nil}
use Rattle.nr_units.specs.Sink.{AppendsPrefix}
use Rattle.nr_units.specs.declared.source.Fault.{Fault}
use Rattle.nr_units.proofs.Prefixes.{AppendsPrefix-after}
use Rattle.document_stages.specs.Running.{Flushes, PrefixAtErr}

pub Flushes-none : (k : Option (List ℕ)) (p : List ℕ) → Flushes k k p p
Flushes-none k p = record { out = []; went_out = Appends-nil k; all = refl }

pub Flushes-all : (k m : Option (List ℕ)) (p left : List ℕ) → Appends k m p → left ≡ [] → Flushes k m p left
Flushes-all k m p left went none =
    record { out = p; went_out = went; all = sym (ap (λ (xs : List ℕ). p ++ xs) none ∙ append-nil p) }

pub Flushes-on : (x : Result (Unit {0}) Fault) (k m : Option (List ℕ)) (p left : List ℕ) → OnOk x (Appends k m p) → OnOk x (left ≡ []) → OnOk x (Flushes k m p left)
Flushes-on (Ok x) k m p left went none = Flushes-all k m p left went none
Flushes-on (Err e) k m p left went none = tt

-- what waits goes out, and then these
pub Emits-ok : (x : Result (Unit {0}) Fault) (a b c : Option (List ℕ)) (p q left : List ℕ) → Appends a b p → OnOk x (Appends b c q) → left ≡ [] → OnOk x (Flushes a c (p ++ q) left)
Emits-ok (Ok x) a b c p q left first last none = Flushes-all a c (p ++ q) left (Appends-trans a b c p q first last) none
Emits-ok (Err e) a b c p q left first last none = tt

pub Emits-err : (x : Result (Unit {0}) Fault) (a b c : Option (List ℕ)) (p q : List ℕ) → Appends a b p → OnErr x (AppendsPrefix b c q) → PrefixAtErr x a c (p ++ q)
Emits-err (Ok x) a b c p q first last = tt
Emits-err (Err e) a b c p q first last = AppendsPrefix-after a b c p q first last

-- What goes out of several parts.
use Rattle.std.proofs.Common.{◌≡◌, ℕ, List, ◌++◌, Option, Result, OnOk, OnErr, codes, append_assoc, sym, ap, subst, ◌∙◌}
use Rattle.std.specs.Io.KnownBytes.{Appends}
use Rattle.nr_units.specs.Sink.{AppendsPrefix}
use Rattle.filters_complaints.specs.Names.{printable}
use Rattle.mdoc_command.specs.Complaints.{parts_text, rest_text}
use Rattle.mdoc_command.specs.declared.complaints.Parts.{Parts}

-- ---- parts of a line

pub rest_is : (what between first second first' second' : List ℕ) → first ≡ printable first' → second ≡ printable second'
    → what ++ (first ++ (between ++ (second ++ codes "\n"))) ≡ rest_text what first' between second'
rest_is what between first second first' second' a b =
    ap (λ x. what ++ (x ++ (between ++ (second ++ codes "\n")))) a ∙ ap (λ x. what ++ (printable first' ++ (between ++ (x ++ codes "\n")))) b

pub parts_are : (parts : Parts) (kind : List ℕ) → parts_text parts ≡ kind → rest_text parts.what.now parts.first parts.between.now parts.second ≡ kind ++ codes "\n"
parts_are parts kind is =
    let end = codes "\n" in
    let what = parts.what.now in
    let first = printable parts.first in
    let between = parts.between.now in
    let second = printable parts.second in
    let inner : between ++ (second ++ end) ≡ (between ++ second) ++ end = sym (append_assoc between second end) in
    let outer : what ++ (first ++ ((between ++ second) ++ end)) ≡ ((what ++ first) ++ (between ++ second)) ++ end =
    sym (append_assoc (what ++ first) (between ++ second) end ∙ append_assoc what first ((between ++ second) ++ end)) in
    ap (λ x. what ++ (first ++ x)) inner ∙ (outer ∙ ap (λ x. x ++ end) is)

-- ---- one after the other

pub ok_is : {T E : Type 0} (r : Result T E) (a b : Option (List ℕ)) (xs ys : List ℕ) → xs ≡ ys → OnOk r (Appends a b xs) → OnOk r (Appends a b ys)
ok_is r a b xs ys same ok = subst (λ (zs : List ℕ). OnOk r (Appends a b zs)) same ok

pub err_is : {T E : Type 0} (r : Result T E) (a b : Option (List ℕ)) (xs ys : List ℕ) → xs ≡ ys → OnErr r (AppendsPrefix a b xs) → OnErr r (AppendsPrefix a b ys)
err_is r a b xs ys same err = subst (λ (zs : List ℕ). OnErr r (AppendsPrefix a b zs)) same err

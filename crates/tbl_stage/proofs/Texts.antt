-- What a source gives whose tables are set.
use Rattle.std.proofs.Common.{◌≡◌, ℕ, ◌+◌, ◌-◌, List, [], Bool, false, min, nat_le, Option, Some, ap, ◌∙◌}
use Rattle.nr_units.specs.Source.{Supply}
use Rattle.document_stages.specs.Pulling.{pulled}
use Rattle.tbl_stage.specs.Staged.{has_all, said}
use Rattle.tbl_stage.specs.Text.{Bounds, first_in, most_of, set_text}

pub set_so : (text result : Option Supply) (says : Bool → List ℕ → List ℕ) (fits : List ℕ → Bool) (wants most : ℕ) (b : Bounds) (q : Supply)
    → result ≡ pulled text (nat_le wants b.room) says fits [] 0 false → wants ≡ min most 1099511627775 + 1 → says ≡ said (min most 1099511627775) (first_in b)
    → fits ≡ has_all (min most 1099511627775) (first_in b) → most ≡ b.room - 1 → text ≡ Some q → result ≡ Some (set_text b q)
set_so text result says fits wants most b q is wanted said_is fits_is few of =
    let same : min most 1099511627775 ≡ most_of b = ap (λ (k : ℕ). min k 1099511627775) few in
    is
    ∙ ap (λ (k : ℕ). pulled text (nat_le k b.room) says fits [] 0 false) (wanted ∙ ap (λ (k : ℕ). k + 1) same)
    ∙ ap (λ (z : Bool → List ℕ → List ℕ). pulled text (nat_le (most_of b + 1) b.room) z fits [] 0 false) (said_is ∙ ap (λ (k : ℕ). said k (first_in b)) same)
    ∙ ap (λ (z : List ℕ → Bool). pulled text (nat_le (most_of b + 1) b.room) (said (most_of b) (first_in b)) z [] 0 false) (fits_is ∙ ap (λ (k : ℕ). has_all k (first_in b)) same)
    ∙ ap (λ (x : Option Supply). pulled x (nat_le (most_of b + 1) b.room) (said (most_of b) (first_in b)) (has_all (most_of b) (first_in b)) [] 0 false) of

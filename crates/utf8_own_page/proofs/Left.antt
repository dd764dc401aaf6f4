-- Where all have room a table lacks none.
use Rattle.std.proofs.Common.{◌≡◌, ℕ, List, [], ◌∷◌, length, Bool, true, false, ◌||◌, refl, sym, subst, ◌∙◌, arith}
use Rattle.utf8_own_characters.specs.declared.cluster.Cluster.{Cluster}
use Rattle.utf8_own_characters.specs.declared.counting.Count.{Count}
use Rattle.utf8_own_characters.specs.Choosing.{Choice, chosen, each_is_somewhere, is_in, left_out, nothing}
use Rattle.utf8_own_characters.proofs.ChoiceLaws.{none_is_lost}
use Rattle.utf8_own_characters.proofs.Tests.{and_first, and_second, if_so}
use Rattle.utf8_own_page.specs.Lacking.{lacking, left_of}

is_there : (b : Bool) → b || false ≡ true → b ≡ true
is_there true p = refl
is_there false p = p

none_lacking : (k : Choice) (xs : List Count) → each_is_somewhere k [] xs ≡ true → lacking k xs ≡ []
none_lacking k [] p = refl
none_lacking k (x ∷ xs) p =
    if_so (is_in k x.cluster) (lacking k xs) (x.cluster ∷ lacking k xs)
    (is_there (is_in k x.cluster) (and_first (is_in k x.cluster || false) (each_is_somewhere k [] xs) p))
    ∙ none_lacking k xs (and_second (is_in k x.cluster || false) (each_is_somewhere k [] xs) p)

no_items : (cs : List Cluster) → length cs ≡ 0 → cs ≡ []
no_items [] p = refl
no_items (c ∷ cs) p = absurd (omega arith)

pub none_left : (xs : List Count) → length (left_out nothing xs) ≡ 0 → left_of xs ≡ []
none_left xs p =
    none_lacking (chosen nothing xs) xs
    (subst (λ (out : List Cluster). each_is_somewhere (chosen nothing xs) out xs ≡ true) (no_items (left_out nothing xs) p) (none_is_lost xs))

-- An item that is taken is one less of those before the next byte.
use Rattle.std.proofs.Common.{◌≡◌, ℕ, ◌+◌, ◌-◌, ◌*◌, ◌<◌, ◌≤◌, List, [], ◌∷◌, Option, None, Some, refl, ap, sym, ◌∙◌, arith}
use Rattle.std.proofs.lemmas.List.Sums.{sum_by-cons}
use Rattle.std.proofs.Math.Nat.{mul-le-mul_right}
use Rattle.nr_store.specs.Store.{Stored, Level, Read, Mark, Reading, left_of, left_in}
use Rattle.nr_store.specs.declared.element.Element.{Element}
use Rattle.nr_input.specs.Weights.{items_in, items_left, expansion_worth, expansions_worth}

-- ---- the levels

left_of-items : {K : Type 0} (rest : List Element) (old : List (List ℕ)) (charge : ℕ) (resume : Option K) (ls : List (Level K)) (v : Stored K)
    → let l : Reading K = record { rest = rest; old = old; charge = charge; resume = resume } in items_left (left_of rest l ls v).levels + 1 ≡ items_left (Read l ∷ ls)
left_of-items [] old charge None ls v = omega (arith, sum_by-cons items_in (Read (record { rest = []; old = old; charge = charge; resume = None })) ls)
left_of-items [] old charge (Some mode) ls v =
    let before = sum_by-cons items_in (Read (record { rest = []; old = old; charge = charge; resume = Some mode })) ls in
    let afterwards = sum_by-cons items_in (Mark mode) ls in omega arith
left_of-items (x ∷ xs) old charge resume ls v =
    let before = sum_by-cons items_in (Read (record { rest = x ∷ xs; old = old; charge = charge; resume = resume })) ls in
    let afterwards = sum_by-cons items_in (Read (record { rest = xs; old = old; charge = charge; resume = resume })) ls in omega arith

-- what is taken of a level is one item; a mark counts as two
abbrev pub items_taken : {K : Type 0} → Level K → ℕ
items_taken (Read l) = 1
items_taken (Mark mode) = 2

pub left_in-items : {K : Type 0} (l : Level K) (ls : List (Level K)) (v : Stored K) → items_left (left_in l ls v).levels + items_taken l ≡ items_left (l ∷ ls)
left_in-items (Read l) ls v = left_of-items l.rest l.old l.charge l.resume ls v
left_in-items (Mark mode) ls v = omega (arith, sum_by-cons items_in (Mark mode) ls)

left_of-limit : {K : Type 0} (rest : List Element) (l : Reading K) (ls : List (Level K)) (v : Stored K) → (left_of rest l ls v).limit ≡ v.limit
left_of-limit [] l ls v = refl
left_of-limit (x ∷ xs) l ls v = refl

pub left_in-limit : {K : Type 0} (l : Level K) (ls : List (Level K)) (v : Stored K) → (left_in l ls v).limit ≡ v.limit
left_in-limit (Read l) ls v = left_of-limit l.rest l ls v
left_in-limit (Mark mode) ls v = refl

-- ---- the expansions

one_more_product : (k w : ℕ) → (k + 1) * w ≡ k * w + w
one_more_product k w = omega arith

-- one less may still come
pub expansions_worth-spent : (most burst stored : ℕ) → burst < most → expansions_worth most (burst + 1) stored + expansion_worth stored ≡ expansions_worth most burst stored
unfolding expansions_worth
expansions_worth-spent most burst stored less =
    let k : most - burst ≡ (most - (burst + 1)) + 1 = omega arith in
    sym (one_more_product (most - (burst + 1)) (expansion_worth stored)) ∙ ap (λ n. n * expansion_worth stored) (sym k)

-- never more than at the beginning
pub expansions_worth-le : (most burst stored : ℕ) → expansions_worth most burst stored ≤ expansions_worth most 0 stored
unfolding expansions_worth
expansions_worth-le most burst stored = mul-le-mul_right (expansion_worth stored) (omega arith)

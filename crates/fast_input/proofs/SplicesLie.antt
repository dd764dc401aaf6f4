-- Splices as they lie in memory.
use Rattle.std.specs.Prelude.{slice_get}
use Rattle.std.proofs.Common.{◌≡◌, ℕ, ◌+◌, ◌-◌, ◌<◌, ◌≤◌, List, [], ◌∷◌, ◌++◌, length, take, get_or, Some, refl, ap, sym, ◌∙◌, arith}
use Rattle.std.proofs.lemmas.List.{get_or-take, length-take, take_more}
use Rattle.std.proofs.lemmas.Option.{slice_get-get_or}
use Rattle.fast_input.specs.declared.splices.Splice.{Splice}
use Rattle.fast_input.specs.Gathering.{last_asked}

-- the n-th is where it lies
pub lies_at : (all seen : List Splice) (len n : ℕ) (d : Splice) → take len all ≡ seen → n < length seen → slice_get seen n ≡ Some (get_or all n d)
lies_at all seen len n d is less =
    let within = ap length is in
    let few : n < len = omega (arith, within, less, length-take len all) in
    slice_get-get_or seen n d less ∙ ap (λ (xs : List Splice). Some (get_or xs n d)) (sym is) ∙ ap Some (get_or-take len all n d few)

-- the name that was asked for last is that of the last
pub last_asked-more : (ss : List Splice) (s : Splice) (name : List ℕ) → last_asked (ss ++ s ∷ []) name ≡ s.asked
last_asked-more [] s name = refl
last_asked-more (t ∷ ss) s name = last_asked-more ss s t.asked

pub last_asked-at : (all seen : List Splice) (len : ℕ) (d : Splice) (name : List ℕ) → take len all ≡ seen → 0 < len → len ≤ length all → last_asked seen name ≡ (get_or all (len - 1) d).asked
last_asked-at all seen len d name is some within =
    let count : (len - 1) + 1 ≡ len = omega (arith, some) in
    let more = take_more all (len - 1) d (omega (arith, some, within)) in
    ap (λ (xs : List Splice). last_asked xs name) (sym is ∙ ap (λ k. take k all) (sym count) ∙ more) ∙ last_asked-more (take (len - 1) all) (get_or all (len - 1) d) name

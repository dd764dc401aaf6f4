-- Bytes that go through two stages.
use Rattle.std.proofs.Common.{◌≡◌, ℕ, zero, suc, ◌+◌, ◌-◌, ◌*◌, ◌≤◌, ◌<◌, List, [], ◌++◌, length, take, drop, Bool, true, sym, ap, ◌∙◌, append_assoc, append-nil, arith}
use Rattle.std.proofs.lemmas.List.{length-drop, take_rest}
use Rattle.std.proofs.lemmas.Nat.{mul-le}
use Rattle.std.proofs.Math.Nat.{mul-add, mul-suc}
use Rattle.std.proofs.Math.Seq.{take-add}
use Rattle.preconv_command.specs.Through.{through}

-- ---- those from a place on

rest_length : (xs : List ℕ) (at : ℕ) → length (take (length xs - at) (drop at xs)) ≡ length xs - at
rest_length xs at = ap (λ (l : List ℕ). length l) (take_rest xs at) ∙ length-drop at xs

pub rest_some : (xs : List ℕ) (at : ℕ) → at < length xs → 0 < length (take (length xs - at) (drop at xs))
rest_some xs at more = omega (arith, rest_length xs at, more)

pub rest_within : (xs : List ℕ) (at n : ℕ) → at < length xs → n ≤ length (take (length xs - at) (drop at xs)) → at + n ≤ length xs
rest_within xs at n more all = omega (arith, rest_length xs at, more, all)

more_from : (xs : List ℕ) (at n : ℕ) → take (at + n) xs ≡ take at xs ++ take n (take (length xs - at) (drop at xs))
more_from xs at n = take-add at n xs ∙ ap (λ (l : List ℕ). take at xs ++ take n l) (sym (take_rest xs at))

-- ---- all are turned

-- those before a place, and some more
pub said_more : (a b c : Bool → List ℕ → List ℕ) (xs waits mid new : List ℕ) (at n : ℕ)
    → ((ends : Bool) → (rest : List ℕ) → waits ++ a ends (take at xs ++ rest) ≡ mid ++ b ends rest)
    → ((ends : Bool) → (rest : List ℕ) → mid ++ b ends (take n (take (length xs - at) (drop at xs)) ++ rest) ≡ new ++ c ends rest)
    → (ends : Bool) → (rest : List ℕ) → waits ++ a ends (take (at + n) xs ++ rest) ≡ new ++ c ends rest
said_more a b c xs waits mid new at n first second ends rest =
    let some : List ℕ = take n (take (length xs - at) (drop at xs)) in
    ap (λ (l : List ℕ). waits ++ a ends (l ++ rest)) (more_from xs at n) ∙ ap (λ (l : List ℕ). waits ++ a ends l) (append_assoc (take at xs) some rest)
    ∙ first ends (some ++ rest) ∙ second ends rest

-- there is room for one more
pub room_for : (wants at len waits out capacity : ℕ) → at < len → out ≤ waits + wants * at → waits + wants * len ≤ capacity → out + wants ≤ capacity
room_for wants at len waits out capacity more few room =
    let next : wants * (at + 1) ≤ wants * len = mul-le wants (at + 1) wants len (omega arith) (omega arith) in
    let split = mul-add wants at 1 in
    omega (arith, next, split, few, room)

-- so many more were turned
pub few_more : (wants at n waits mid new : ℕ) → mid ≤ waits + wants * at → new ≤ mid + wants * n → new ≤ waits + wants * (at + n)
few_more wants at n waits mid new first second = let split = mul-add wants at n in omega (arith, split, first, second)

-- ---- the second turns what the first made

-- of bytes that the first turned
pub through_more : (s s' t t' : Bool → List ℕ → List ℕ) (xs made waits items : List ℕ)
    → ((ends : Bool) → (rest : List ℕ) → s ends (xs ++ rest) ≡ made ++ s' ends rest)
    → ((ends : Bool) → (rest : List ℕ) → waits ++ t ends (made ++ rest) ≡ items ++ t' ends rest)
    → (ends : Bool) → (rest : List ℕ) → waits ++ through s t ends (xs ++ rest) ≡ items ++ through s' t' ends rest
through_more s s' t t' xs made waits items first second ends rest =
    ap (λ (l : List ℕ). waits ++ t ends l) (first ends rest) ∙ second ends (s' ends rest)

-- of the end
pub through_end : (s t t' : Bool → List ℕ → List ℕ) (made waits mid items : List ℕ) → s true [] ≡ made
    → ((ends : Bool) → (rest : List ℕ) → waits ++ t ends (made ++ rest) ≡ mid ++ t' ends rest)
    → mid ++ t' true [] ≡ items → waits ++ through s t true [] ≡ items
through_end s t t' made waits mid items first second last =
    ap (λ (l : List ℕ). waits ++ t true l) (first ∙ sym (append-nil made)) ∙ second true [] ∙ last

-- ---- room

-- for all that the first made, and for the end
pub room_in : (wants made capacity room waits out : ℕ) → made ≤ capacity → wants * (capacity + 1) ≤ room → waits + room ≤ out
    → waits + (wants * made + wants) ≤ out
room_in wants made capacity room waits out within fits all =
    let most : wants * (made + 1) ≤ wants * (capacity + 1) = mul-le wants (made + 1) wants (capacity + 1) (omega arith) (omega arith) in
    let split = mul-add wants made 1 in
    omega (arith, most, split, fits, all)

-- what comes of so many, where the first makes at most so much of each
pub few_of : (first wants made capacity room n waits new : ℕ) → made ≤ capacity → made ≤ first * n → wants * (capacity + 1) ≤ room
    → new ≤ waits + wants * made → new ≤ waits + room * n
few_of first wants made capacity room zero waits new within measured fits few =
    let none : wants * made ≤ wants * 0 = mul-le wants made wants 0 (omega arith) (omega arith) in
    omega (arith, none, few)
few_of first wants made capacity room (suc n) waits new within measured fits few =
    let all : wants * made ≤ wants * (capacity + 1) = mul-le wants made wants (capacity + 1) (omega arith) (omega arith) in
    let one = mul-suc room n in
    omega (arith, all, one, fits, few)

-- What a run of elements comes to that is taken one by one.
use Rattle.std.proofs.Common.{◌≡◌, ℕ, zero, suc, ◌≤◌, List, [], ◌∷◌, length, drop, sum_by, Some, refl, ap, sym, ◌∙◌, inl, inr, arith}
use Rattle.std.proofs.lemmas.List.Sums.{sum_by-cons}
use Rattle.std.proofs.lemmas.Bool.{cases_Bool, cond-true, cond-false}
use Rattle.nr_symbol_tables.specs.Table.{is_same, Named, find}
use Rattle.nr_store.specs.declared.element.Element.{Element}
use Rattle.nr_store.specs.Store.{Level, Read, Mark, Reading, Stored, Means, Act, Words, words, weight, weight_of}
use Rattle.nr_store.specs.Windows.{rest_in, rest_of, left_times, run_left}

-- a text is charged under its name
pub named_weighs : (name : List ℕ) (text : List Element) (ns : List (Named Means))
    → words (find name ns) ≡ Some text → weight text ≤ sum_by (λ (n : Named Means). weight_of n.value) ns
named_weighs name text [] is = let no : ⊥ = cc in absurd no
named_weighs name text (n ∷ ns) is =
    let all = sum_by-cons (λ (m : Named Means). weight_of m.value) n ns in
    elim (cases_Bool (is_same n.name name)) [
      | inl hit
          ↦ omega (
            arith,
            all,
            words_weigh n.value text
                (ap words (sym (cond-true (is_same n.name name) (Some n.value) (find name ns) hit)) ∙ is),
          )
      | inr missed
          ↦ omega (
            arith,
            all,
            named_weighs name text ns
                (ap words (sym (cond-false (is_same n.name name) (Some n.value) (find name ns) missed)) ∙ is),
          )
    ]
  where
    words_weigh : (m : Means) (text : List Element) → words (Some m) ≡ Some text → weight text ≤ weight_of m
    words_weigh (Act request) text is = let no : ⊥ = cc in absurd no
    words_weigh (Words xs) text is = let same : xs ≡ text = cc in
        let long : length xs ≡ length text = ap length same in omega (arith, long)

-- of a level with this left of its text
reading_left : {K : Type 0} (n : ℕ) (xs : List Element) (l : Reading K) (ls : List (Level K)) (v : Stored K)
    → n ≤ length xs
    → left_times n (record v { levels = Read (record l { rest = xs }) ∷ ls }) ≡ record v
    { levels = Read (record l { rest = drop n xs }) ∷ ls }
reading_left zero xs l ls v within = refl
reading_left (suc n) [] l ls v within = absurd (omega arith)
reading_left (suc n) (x ∷ xs) l ls v within = reading_left n xs l ls v (omega arith)

nothing_left : {K : Type 0} (n : ℕ) (v w : Stored K) → n ≤ 0 → v ≡ w → left_times n v ≡ w
nothing_left zero v w none same = same
nothing_left (suc n) v w none same = absurd (omega arith)

level_left : {K : Type 0} (n : ℕ) (l : Level K) (ls : List (Level K)) (v : Stored K) → n ≤ length (rest_in l)
    → left_times n (record v { levels = l ∷ ls }) ≡ run_left n (record v { levels = l ∷ ls })
level_left n (Read l) ls v within = reading_left n l.rest l ls v within
level_left n (Mark mode) ls v within =
    nothing_left n (record v { levels = Mark mode ∷ ls }) (record v { levels = Mark mode ∷ ls }) within refl

levels_left : {K : Type 0} (n : ℕ) (ls : List (Level K)) (v : Stored K) → n ≤ length (rest_of ls)
    → left_times n (record v { levels = ls }) ≡ run_left n (record v { levels = ls })
levels_left n [] v within = nothing_left n (record v { levels = [] }) (record v { levels = [] }) within refl
levels_left n (l ∷ ls) v within = level_left n l ls v within

-- a run that is taken at once is that run taken one by one
pub left_times-run : {K : Type 0} (n : ℕ) (v : Stored K) → n ≤ length (rest_of v.levels)
    → left_times n v ≡ run_left n v
left_times-run n v within = levels_left n v.levels v within

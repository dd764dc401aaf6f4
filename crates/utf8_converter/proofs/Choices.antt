-- What is counted of a page, and that no table has more of it than the one that is chosen.
use Rattle.std.proofs.Common.{◌≡◌, ℕ, zero, suc, ◌+◌, ◌<◌, ◌≤◌, List, [], ◌∷◌, ◌++◌, length, take, get_or, set, Bool, true, false, ◌==◌, ◌&&◌, nat_lt, if◌then◌else◌, Option, None, Some, ◌⊎◌, inl, inr, refl, sym, ◌∙◌, ap, subst, add-one, append-nil, Ok, arith}
use Rattle.std.specs.List.{sum_by}
use Rattle.std.proofs.lemmas.Bool.Decides.{nat_tests}
use Rattle.std.proofs.lemmas.List.{get_or-set_other, length-set, take_all}
use Rattle.std.proofs.lemmas.List.Sums.{sum_by-cons}
use Rattle.std.proofs.lemmas.Grind.{get_or-set_at}
use Rattle.std.proofs.Math.Seq.{take-append_seam}
use Rattle.nr_units.specs.Source.{Supply}
use Rattle.nr_units.specs.declared.source.Fault.{Fault}
use Rattle.utf8_characters.specs.declared.table.FixedTable.{FixedTable}
use Rattle.utf8_characters.specs.declared.table.FixedTable.TheVariants.{English, Latin, Cyrillic, Greek, Latin1}
use Rattle.utf8_characters.specs.Tables.{characters}
use Rattle.utf8_converter.specs.Choosing.{one_if, character_at, occurrences, covered, better, if_any, fullest, chosen, IsChoice, IsBest, Counts, covered_by, better_by, fullest_by, chosen_by, Chooses, IsPrefix}

-- ---- counting

one_if-le : (x : Bool) → one_if x ≤ 1
one_if-le true = omega arith
one_if-le false = omega arith

pub occurrences-le : (page : List ℕ) (n c : ℕ) → occurrences page n c ≤ n
occurrences-le page zero c = omega arith
occurrences-le page (suc n) c =
    let before = occurrences-le page n c in let one = one_if-le (character_at page n == c) in omega (arith, before, one)

one_same : (a c : ℕ) → a ≡ c → one_if (a == c) ≡ 1
one_same a c e = grind (arith, nat_tests)

one_other : (a c : ℕ) → ¬ (a ≡ c) → one_if (a == c) ≡ 0
one_other a c e = grind (arith, nat_tests)

one_more : (page : List ℕ) (n c : ℕ) → occurrences page (n + 1) c ≡ occurrences page n c + one_if (character_at page n == c)
one_more page n c = ap (λ (k : ℕ). occurrences page k c) (add-one n)

same_or_not : (a c : ℕ) → (a ≡ c) ⊎ ¬ (a ≡ c)
same_or_not a c = grind (arith, nat_tests)

-- the character at the next place is none of those that are counted
pub Counts-beyond : (page : List ℕ) (n : ℕ) (counts : List ℕ) → Counts page n counts → length counts ≤ character_at page n → Counts page (n + 1) counts
Counts-beyond page n counts h beyond c within =
    let other : ¬ (character_at page n ≡ c) = λ e. omega (arith, e, beyond, within) in
    let one = one_other (character_at page n) c other in
    let more = one_more page n c in
    let before = h c within in
    omega (arith, one, more, before)

set_by : (page : List ℕ) (n : ℕ) (counts : List ℕ) (at c : ℕ) → Counts page n counts → at ≡ character_at page n → at < length counts → c < length counts
    → (at ≡ c) ⊎ ¬ (at ≡ c) → get_or (set counts at (get_or counts at 0 + 1)) c 0 ≡ occurrences page (n + 1) c
set_by page n counts at c h is within low (inl same) =
    let one = one_same (character_at page n) c (sym is ∙ same) in
    let more = one_more page n c in
    let before = h c low in
    let put = get_or-set_at counts at c (get_or counts at 0 + 1) 0 (sym same) within in
    let old : get_or counts at 0 ≡ get_or counts c 0 = ap (λ (k : ℕ). get_or counts k 0) same in
    omega (arith, one, more, before, put, old)
set_by page n counts at c h is within low (inr other) =
    let one = one_other (character_at page n) c (λ e. other (is ∙ e)) in
    let more = one_more page n c in
    let before = h c low in
    let put = get_or-set_other counts at c (get_or counts at 0 + 1) 0 (λ e. other (sym e)) in
    omega (arith, one, more, before, put)

-- it is counted
pub Counts-set : (page : List ℕ) (n : ℕ) (counts : List ℕ) (at : ℕ) → Counts page n counts → at ≡ character_at page n → at < length counts
    → Counts page (n + 1) (set counts at (get_or counts at 0 + 1))
Counts-set page n counts at h is within c low =
    let same = length-set counts at (get_or counts at 0 + 1) in
    set_by page n counts at c h is within (omega (arith, low, same)) (same_or_not at c)

-- ---- tables

abbrev all_low : List ℕ → Bool
all_low [] = true
all_low (x ∷ xs) = nat_lt x 10240 && all_low xs

tables_low : (t : FixedTable) → all_low (characters t) ≡ true
unfolding characters
tables_low English = refl
tables_low Latin = refl
tables_low Cyrillic = refl
tables_low Greek = refl
tables_low Latin1 = refl

both_first : (x y : Bool) → x && y ≡ true → x ≡ true
both_first true y p = refl
both_first false y p = p

both_second : (x y : Bool) → x && y ≡ true → y ≡ true
both_second true y p = p
both_second false y p = absurd (let no : false ≡ true = p in cc)

is_low : (x n : ℕ) → nat_lt x n ≡ true → x < n
is_low x n p = grind (arith, nat_tests)

sum_same : (page counts xs : List ℕ) → Counts page (length page) counts → length counts ≡ 10240 → all_low xs ≡ true
    → sum_by (λ (c : ℕ). get_or counts c 0) xs ≡ sum_by (λ (c : ℕ). occurrences page (length page) c) xs
sum_same page counts [] h long low = refl
sum_same page counts (x ∷ xs) h long low =
    let small = is_low x 10240 (both_first (nat_lt x 10240) (all_low xs) low) in
    let here = h x (omega (arith, small, long)) in
    let rest = sum_same page counts xs h long (both_second (nat_lt x 10240) (all_low xs) low) in
    sum_by-cons (λ (c : ℕ). get_or counts c 0) x xs
    ∙ ap (λ (n : ℕ). n + sum_by (λ (c : ℕ). get_or counts c 0) xs) here
    ∙ ap (λ (n : ℕ). occurrences page (length page) x + n) rest
    ∙ sym (sum_by-cons (λ (c : ℕ). occurrences page (length page) c) x xs)

covered_same : (page counts : List ℕ) → Counts page (length page) counts → length counts ≡ 10240 → (t : FixedTable) → covered_by counts t ≡ covered page t
covered_same page counts h long t = sum_same page counts (characters t) h long (tables_low t)

better_same : (page counts : List ℕ) → Counts page (length page) counts → length counts ≡ 10240 → (s t : FixedTable) → better_by counts s t ≡ better page s t
better_same page counts h long s t =
    ap (λ (n : ℕ). if nat_lt n (covered_by counts t) then t else s) (covered_same page counts h long s)
    ∙ ap (λ (n : ℕ). if nat_lt (covered page s) n then t else s) (covered_same page counts h long t)

fullest_same : (page counts : List ℕ) → Counts page (length page) counts → length counts ≡ 10240 → fullest_by counts ≡ fullest page
fullest_same page counts h long =
    let european = better_same page counts h long English Latin in
    let second : better_by counts (better_by counts English Latin) Cyrillic ≡ better page (better page English Latin) Cyrillic =
    ap (λ (t : FixedTable). better_by counts t Cyrillic) european ∙ better_same page counts h long (better page English Latin) Cyrillic in
    ap (λ (t : FixedTable). better_by counts t Greek) second ∙ better_same page counts h long (better page (better page English Latin) Cyrillic) Greek

pub chosen-same : (page counts : List ℕ) → Counts page (length page) counts → length counts ≡ 10240 → chosen_by counts ≡ chosen page
chosen-same page counts h long =
    ap (λ (t : FixedTable). if_any (covered_by counts t) t) (fullest_same page counts h long)
    ∙ ap (λ (n : ℕ). if_any n (fullest page)) (covered_same page counts h long (fullest page))

-- ---- none has more

more_by : (x : Bool) (f : FixedTable → ℕ) (s t : FixedTable) → nat_lt (f s) (f t) ≡ x → (f s ≤ f (if x then t else s)) × (f t ≤ f (if x then t else s))
more_by true f s t e = (grind (arith, nat_tests), omega arith)
more_by false f s t e = (omega arith, grind (arith, nat_tests))

more : (page : List ℕ) (s t : FixedTable) → (covered page s ≤ covered page (better page s t)) × (covered page t ≤ covered page (better page s t))
more page s t = more_by (nat_lt (covered page s) (covered page t)) (covered page) s t refl

best_by : (page : List ℕ) (n : ℕ) (other : FixedTable) → IsChoice other → covered page English ≤ n → covered page Latin ≤ n → covered page Cyrillic ≤ n → covered page Greek ≤ n
    → covered page other ≤ n
best_by page n English is e l c g = e
best_by page n Latin is e l c g = l
best_by page n Cyrillic is e l c g = c
best_by page n Greek is e l c g = g
best_by page n Latin1 is e l c g = absurd is

fullest_best : (page : List ℕ) → IsBest page (fullest page)
fullest_best page other is =
    let european = better page English Latin in
    let slavic = better page european Cyrillic in
    let a = more page English Latin in
    let b = more page european Cyrillic in
    let c = more page slavic Greek in
    best_by page (covered page (fullest page)) other is (omega (arith, a.0, b.0, c.0)) (omega (arith, a.1, b.0, c.0)) (omega (arith, b.1, c.0)) c.1

zero_is : (n : ℕ) → (n == 0) ≡ true → n ≡ 0
zero_is n p = grind (arith, nat_tests)

if_best : (x : Bool) (page : List ℕ) (t : FixedTable) → (covered page t == 0) ≡ x → IsBest page t → IsBest page (if x then English else t)
if_best true page t none best other is =
    let few = best other is in let zero = zero_is (covered page t) none in omega (arith, few, zero)
if_best false page t none best other is = best other is

pub chosen-best : (page : List ℕ) → IsBest page (chosen page)
chosen-best page = if_best (covered page (fullest page) == 0) page (fullest page) refl (fullest_best page)

-- ---- the prefix of an input

prefix_by : (q t : Supply) (room : ℕ) (items : List ℕ) → length items ≤ room → q.bytes ≡ items ++ t.bytes → (length items ≡ room) ⊎ (t.bytes ≡ []) → take room q.bytes ≡ items
prefix_by q t room items within came (inl full) =
    ap (λ (n : ℕ). take n q.bytes) (sym full) ∙ ap (take (length items)) came ∙ take-append_seam items t.bytes
prefix_by q t room items within came (inr ends) =
    let all : q.bytes ≡ items = came ∙ ap (λ (ys : List ℕ). items ++ ys) ends ∙ append-nil items in
    ap (take room) all ∙ take_all room items within

pub prefix-is : (q : Supply) (new : Option Supply) (room : ℕ) (items : List ℕ) → length items ≤ room → IsPrefix (Some q) new room items → take room q.bytes ≡ items
prefix-is q None room items within f = absurd f.came
prefix-is q (Some t) room items within f = prefix_by q t room items within f.came f.whole

pub chooses : (a b : Option Supply) (room : ℕ) (items counts : List ℕ) (table : FixedTable) → room ≡ 65536 → length items ≤ room → IsPrefix a b room items
    → Counts items (length items) counts → length counts ≡ 10240 → table ≡ chosen_by counts → Chooses {E = Fault} a (Ok table)
chooses None b room items counts table whole within f h long is = tt
chooses (Some q) b room items counts table whole within f h long is =
    let prefix : take 65536 q.bytes ≡ items = ap (λ (n : ℕ). take n q.bytes) (sym whole) ∙ prefix-is q b room items within f in
    let same : table ≡ chosen items = is ∙ chosen-same items counts h long in
    let P : List ℕ → Type 0 = λ page. (table ≡ chosen page) × IsBest page table in
    let Q : FixedTable → Type 0 = λ t. IsBest items t in
    subst P (sym prefix) (same, subst Q (sym same) (chosen-best items))

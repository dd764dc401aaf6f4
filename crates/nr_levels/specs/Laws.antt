-- What arguments come to that are joined and cut up again.
use Rattle.std.specs.Prelude.{◌≡◌, ℕ, ◌+◌, ◌==◌, true, false, List, [], ◌∷◌, ◌++◌, length, drop, sum, map, refl}
use Rattle.std.proofs.Common.{ap, ap₂, sym, ◌∙◌, append_assoc, length-append, arith}
use Rattle.std.proofs.lemmas.Bool.{cond-true, cond-false}
use Rattle.std.proofs.lemmas.List.{take-append-le, take_all, append-nil}
use Rattle.std.proofs.lemmas.List.Sums.{sum_by-cons}
use Rattle.nr_levels.specs.Levels.{cut}
use Rattle.nr_levels.specs.Gathering.{Gathered, joined, bytes_in, with_byte, with_bytes}

pub sum-cons : (n : ℕ) (ns : List ℕ) → sum (n ∷ ns) ≡ n + sum ns
sum-cons n ns = sum_by-cons (λ (x : ℕ). x) n ns

-- texts are cut again where they were joined
pub cut_joined : (texts : List (List ℕ)) → cut (map (λ (b : List ℕ). length b) texts) (joined texts) ≡ texts
cut_joined [] = refl
cut_joined (t ∷ ts) =
    ap₂ (λ u us. u ∷ us) (take-append-le (length t) t (joined ts) (omega arith)
    ∙ take_all (length t) t (omega arith))
    (ap (cut (map (λ (b : List ℕ). length b) ts)) (drop_at t (joined ts)) ∙ cut_joined ts)
  where
    drop_at : (xs ys : List ℕ) → drop (length xs) (xs ++ ys) ≡ ys
    drop_at [] ys = refl
    drop_at (x ∷ xs) ys = drop_at xs ys

pub length-joined : (texts : List (List ℕ)) → length (joined texts) ≡ bytes_in texts
length-joined [] = refl
length-joined (t ∷ ts) = let all = sum_by-cons (λ (b : List ℕ). length b) t ts in
    let rest = length-joined ts in omega (arith, length-append t (joined ts))

pub sum-lengths : (texts : List (List ℕ)) → sum (map (λ (b : List ℕ). length b) texts) ≡ length (joined texts)
sum-lengths [] = refl
sum-lengths (t ∷ ts) = let all = sum-cons (length t) (map (λ (b : List ℕ). length b) ts) in
    let rest = sum-lengths ts in omega (arith, length-append t (joined ts))

-- ---- bytes that are added

with_byte-full : (b : ℕ) (g : Gathered) → (length g.kept == 9) ≡ true → with_byte b g ≡ g
with_byte-full b g full = cond-true (length g.kept == 9) g _ full

with_byte-more : (b : ℕ) (g : Gathered) → (length g.kept == 9) ≡ false
    → with_byte b g ≡ record g { last = g.last ++ b ∷ [] }
with_byte-more b g more = cond-false (length g.kept == 9) g _ more

-- where nine are read whole they are dropped
pub with_bytes-full : (bs : List ℕ) (g : Gathered) → (length g.kept == 9) ≡ true → with_bytes bs g ≡ g
with_bytes-full [] g full = refl
with_bytes-full (b ∷ bs) g full = ap (with_bytes bs) (with_byte-full b g full) ∙ with_bytes-full bs g full

-- else they come after the others
pub with_bytes-more : (bs : List ℕ) (g : Gathered) → (length g.kept == 9) ≡ false → with_bytes bs g ≡ record g
    { last = g.last ++ bs }
with_bytes-more [] g more = ap (λ ys. record g { last = ys }) (sym (append-nil g.last))
with_bytes-more (b ∷ bs) g more =
    ap (with_bytes bs) (with_byte-more b g more)
    ∙ with_bytes-more bs (record g { last = g.last ++ b ∷ [] }) more
    ∙ ap (λ ys. record g { last = ys }) (append_assoc g.last (b ∷ []) bs)

-- one more at the end
pub with_bytes-append : (bs : List ℕ) (b : ℕ) (g : Gathered)
    → with_bytes (bs ++ b ∷ []) g ≡ with_byte b (with_bytes bs g)
with_bytes-append [] b g = refl
with_bytes-append (x ∷ bs) b g = with_bytes-append bs b (with_byte x g)

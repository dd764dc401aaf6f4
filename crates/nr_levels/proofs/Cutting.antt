-- Lemmas on bytes that are cut up by lengths.
use Rattle.std.proofs.Common.{◌≡◌, ℕ, zero, suc, ◌+◌, ◌-◌, ◌<◌, ◌≤◌, List, [], ◌∷◌, ◌++◌, length, take, drop, sum, map, set, refl, ap, ap₂, sym, ◌∙◌, eqb, inl, inr, arith}
use Rattle.std.proofs.lemmas.List.{take-append-le, drop-append-le, length-take-le, length-drop, take_all, drop_all, drop-drop, length-map, take_more_set}
use Rattle.std.proofs.lemmas.Bool.{cases_lt, cond-false, eq-eqb, ne_eqb}
use Rattle.nr_levels.specs.Levels.{cut}
use Rattle.nr_levels.specs.Laws.{sum-cons, length-joined, with_bytes-full, with_bytes-more}
use Rattle.nr_levels.specs.Gathering.{Gathered, joined, gathered_len, with_byte, with_bytes, with_end, gathered_of, IsGathering}

-- more bytes after change nothing
pub cut_more : (lens bytes more : List ℕ) → sum lens ≤ length bytes → cut lens (bytes ++ more) ≡ cut lens bytes
cut_more [] bytes more within = refl
cut_more (n ∷ ns) bytes more within =
    let all = sum-cons n ns in
    ap₂ (λ t ts. t ∷ ts) (take-append-le n bytes more (omega arith))
    (ap (cut ns) (drop-append-le n bytes more (omega arith)) ∙ cut_more ns (drop n bytes) more (omega (arith, length-drop n bytes)))

-- one length more
pub cut_one : (lens bytes : List ℕ) (n : ℕ) → cut (lens ++ n ∷ []) bytes ≡ cut lens bytes ++ take n (drop (sum lens) bytes) ∷ []
cut_one [] bytes n = refl
cut_one (m ∷ ms) bytes n =
    let all = sum-cons m ms in
    let at : drop (sum ms) (drop m bytes) ≡ drop (sum (m ∷ ms)) bytes = drop-drop (sum ms) m bytes ∙ ap (λ k. drop k bytes) (let e : m + sum ms ≡ sum (m ∷ ms) = omega arith in e) in
    ap (λ ts. take m bytes ∷ ts) (cut_one ms (drop m bytes) n ∙ ap (λ bs. cut ms (drop m bytes) ++ take n bs ∷ []) at)

take_sum : (n m : ℕ) (xs : List ℕ) → take n xs ++ take m (drop n xs) ≡ take (n + m) xs
take_sum zero m xs = ap (λ k. take k xs) (let e : m ≡ 0 + m = omega arith in e)
take_sum (suc n) zero [] = ap (λ k. take k []) (let e : suc n ≡ suc n + 0 = omega arith in e)
take_sum (suc n) (suc m) [] = ap (λ k. take k []) (let e : suc (n + suc m) ≡ suc n + suc m = omega arith in e)
take_sum (suc n) m (x ∷ xs) = ap (λ ys. x ∷ ys) (take_sum n m xs) ∙ ap (λ k. take k (x ∷ xs)) (let e : suc (n + m) ≡ suc n + m = omega arith in e)

pub joined_cut : (lens bytes : List ℕ) → sum lens ≤ length bytes → joined (cut lens bytes) ≡ take (sum lens) bytes
joined_cut [] bytes within = refl
joined_cut (n ∷ ns) bytes within =
    let all = sum-cons n ns in
    let rest = joined_cut ns (drop n bytes) (omega (arith, length-drop n bytes)) in
    ap (λ bs. take n bytes ++ bs) rest ∙ take_sum n (sum ns) bytes ∙ ap (λ k. take k bytes) (sym all)

pub lengths_cut : (lens bytes : List ℕ) → sum lens ≤ length bytes → map (λ (b : List ℕ). length b) (cut lens bytes) ≡ lens
lengths_cut [] bytes within = refl
lengths_cut (n ∷ ns) bytes within =
    let all = sum-cons n ns in
    ap₂ (λ m ms. m ∷ ms) (length-take-le n bytes (omega arith)) (lengths_cut ns (drop n bytes) (omega (arith, length-drop n bytes)))

-- ---- the arguments that are being read

module _ (lens bytes : List ℕ) (count from room : ℕ) (h : IsGathering lens bytes count from room) where
  abbrev ls : List ℕ
  ls = take count lens

  abbrev now : Gathered
  now = gathered_of (take count lens) bytes from

  sum_within : sum (take count lens) ≤ length bytes
  sum_within = let start = h.start in let within = h.within in omega arith

  count_is : length (take count lens) ≡ count
  count_is = let nine = h.nine in let all = h.all in length-take-le count lens (omega arith)

  pub lens_kept : take count lens ≡ map (λ (b : List ℕ). length b) now.kept
  lens_kept = sym (lengths_cut (take count lens) bytes sum_within)

  pub kept_count : length now.kept ≡ count
  kept_count = sym (length-map now.kept (λ (b : List ℕ). length b)) ∙ ap length (sym lens_kept) ∙ count_is

  pub kept_bytes : take from bytes ≡ joined now.kept
  kept_bytes = ap (λ n. take n bytes) h.start ∙ sym (joined_cut (take count lens) bytes sum_within)

  pub kept_len : from ≡ length (joined now.kept)
  kept_len = let within = h.within in sym (length-take-le from bytes within) ∙ ap length kept_bytes

  pub all_len : length bytes ≡ gathered_len now
  all_len = let kept = length-joined now.kept in let is = kept_len in let within = h.within in omega (arith, length-drop from bytes)

  pub full_is : (eqb count 9) ≡ (eqb (length now.kept) 9)
  full_is = ap (λ n. eqb n 9) (sym kept_count)

  pub pushed_byte : (count ≡ 9 → ⊥) → (byte : ℕ) → gathered_of (take count lens) (bytes ++ byte ∷ []) from ≡ with_byte byte now
  pushed_byte more byte =
      ap₂ (λ ks l. record { kept = ks; last = l }) (cut_more (take count lens) bytes (byte ∷ []) sum_within) (drop-append-le from bytes (byte ∷ []) h.within)
      ∙ sym (cond-false (eqb (length now.kept) 9) now _ (ne_eqb (length now.kept) 9 (λ e. more (sym kept_count ∙ e))))

  pub unchanged_bytes : count ≡ 9 → (more : List ℕ) → now ≡ with_bytes more now
  unchanged_bytes full more = sym (with_bytes-full more now (eq-eqb (length now.kept) 9 (kept_count ∙ full)))

  pub extended_bytes : (count ≡ 9 → ⊥) → (more : List ℕ) → gathered_of (take count lens) (bytes ++ more) from ≡ with_bytes more now
  extended_bytes fewer more =
      ap₂ (λ ks l. record { kept = ks; last = l }) (cut_more (take count lens) bytes more sum_within) (drop-append-le from bytes more h.within)
      ∙ sym (with_bytes-more more now (ne_eqb (length now.kept) 9 (λ e. fewer (sym kept_count ∙ e))))

  -- the lengths with one more
  abbrev more_lens : List ℕ
  more_lens = set lens count (length bytes - from)

  ended_lens : count < 9 → take (count + 1) more_lens ≡ take count lens ++ (length bytes - from) ∷ []
  ended_lens more = let all = h.all in take_more_set lens count (length bytes - from) (omega arith)

  ended_kept : take (length bytes - from) (drop (sum (take count lens)) bytes) ≡ drop from bytes
  ended_kept =
      ap (λ n. take (length bytes - from) (drop n bytes)) (sym h.start) ∙ take_all (length bytes - from) (drop from bytes) (omega (arith, length-drop from bytes))

  pub ended_is : (count ≡ 9 → ⊥) → gathered_of (take (count + 1) more_lens) bytes (length bytes) ≡ with_end now
  ended_is more =
      let nine = h.nine in
      let below : count < 9 = elim (cases_lt count 9) [ inl b ↦ b | inr a ↦ absurd (more (omega arith)) ] in
      ap₂ (λ ls l. record { kept = cut ls bytes; last = l }) (ended_lens below) (drop_all (length bytes) bytes (omega arith))
      ∙ ap (λ ks. record { kept = ks; last = [] }) (cut_one (take count lens) bytes (length bytes - from) ∙ ap (λ k. cut (take count lens) bytes ++ k ∷ []) ended_kept)
      ∙ sym (cond-false (eqb (length now.kept) 9) now _ (ne_eqb (length now.kept) 9 (λ e. more (sym kept_count ∙ e))))

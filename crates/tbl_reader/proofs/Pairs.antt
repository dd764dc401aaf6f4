-- Two backslashes become a backslash and an `e`, byte after byte.
use Rattle.std.proofs.Common.{◌≡◌, ℕ, zero, suc, ◌+◌, ◌<◌, ◌≤◌, List, [], ◌∷◌, ◌++◌, length, take, drop, get_or, Bool, false, Some, None, refl, sym, ◌∙◌, ap, append_assoc, append-nil, arith}
use Rattle.std.proofs.lemmas.List.{take_all, drop_all, drop_more, take_more_set, drop-set-lt}
use Rattle.std.proofs.Math.ListN.{set, length-set}
use Rattle.std.specs.List.{slice_get}
use Rattle.tbl_reader.specs.Fields.{second_of, is_alone, paired, open_after}

-- the bytes up to a place were read
pub record Paired (start at : ℕ) (alone : Bool) (old now : List ℕ) : Type 0 where
  pub prefix : take at now ++ paired alone (drop at now) ≡ take start old ++ paired false (drop start old)
  pub rest : drop at now ≡ drop at old
  pub opens : open_after alone (drop at old) ≡ open_after false (drop start old)
  pub same : length now ≡ length old

pub paired_first : (start : ℕ) (old : List ℕ) → Paired start start false old old
paired_first start old = record { prefix = refl; rest = refl; opens = refl; same = refl }

some_is : (x y : ℕ) → Some x ≡ Some y → x ≡ y
some_is x y e = cc

got : (xs : List ℕ) (i b : ℕ) → slice_get xs i ≡ Some b → get_or xs i 0 ≡ b
got [] i b e = absurd (let no : None ≡ Some b = e in cc)
got (x ∷ xs) zero b e = some_is x b e
got (x ∷ xs) (suc i) b e = got xs i b e

tail_is : (x y : ℕ) (xs ys : List ℕ) → x ∷ xs ≡ y ∷ ys → xs ≡ ys
tail_is x y xs ys e = cc

pub paired_more : (start at b : ℕ) (alone : Bool) (old now : List ℕ) → at < length now → slice_get now at ≡ Some b → Paired start at alone old now
    → Paired start (at + 1) (is_alone alone b) old (set now at (second_of alone b))
paired_more start at b alone old now within got_b h =
    let d = second_of alone b in
    let next = is_alone alone b in
    let rest = drop (at + 1) now in
    let here : drop at now ≡ b ∷ rest = drop_more now at 0 within ∙ ap (λ (x : ℕ). x ∷ rest) (got now at b got_b) in
    let same = h.same in
    let there : drop at old ≡ get_or old at 0 ∷ drop (at + 1) old = drop_more old at 0 (omega (arith, same, within)) in
    let both : b ∷ rest ≡ get_or old at 0 ∷ drop (at + 1) old = sym here ∙ h.rest ∙ there in
    let tails : rest ≡ drop (at + 1) old = tail_is b (get_or old at 0) rest (drop (at + 1) old) both in
    let kept : drop (at + 1) (set now at d) ≡ rest = drop-set-lt (at + 1) now at d (omega arith) in
    let prefix : take (at + 1) (set now at d) ≡ take at now ++ d ∷ [] = take_more_set now at d within in
    record {
      prefix = ap (λ (xs : List ℕ). xs ++ paired next (drop (at + 1) (set now at d))) prefix
          ∙ ap (λ (xs : List ℕ). (take at now ++ d ∷ []) ++ paired next xs) kept
          ∙ append_assoc (take at now) (d ∷ []) (paired next rest)
          ∙ ap (λ (xs : List ℕ). take at now ++ paired alone xs) (sym here)
          ∙ h.prefix;
      rest = kept ∙ tails;
      opens = ap (λ (xs : List ℕ). open_after next xs) (sym tails) ∙ ap (open_after alone) (sym here ∙ h.rest) ∙ h.opens;
      same = length-set now at d ∙ h.same;
    }

pub paired_all : (start at : ℕ) (alone : Bool) (old now : List ℕ) → length now ≤ at → Paired start at alone old now
    → (now ≡ take start old ++ paired false (drop start old)) × (alone ≡ open_after false (drop start old))
paired_all start at alone old now all h =
    let none : drop at now ≡ [] = drop_all at now all in (
      sym (append-nil now) ∙ ap (λ (xs : List ℕ). xs ++ []) (sym (take_all at now all)) ∙ ap (λ (xs : List ℕ). take at now ++ paired alone xs) (sym none) ∙ h.prefix,
      ap (open_after alone) (sym (sym h.rest ∙ none)) ∙ h.opens,
    )

use Rattle.std.proofs.Common.{◌≡◌, ◌≤◌, ◌<◌, ℕ, ◌+◌, ◌-◌, List, [], ◌∷◌, ◌++◌, length, take, drop, get_or, true, false, ◌==◌, sym, ◌∙◌, ap, subst, arith, add-one, length-drop}
use Rattle.std.proofs.lemmas.Bool.Decides.{nat_tests}
use Rattle.std.proofs.lemmas.List.{take_more, get_or-drop}
use Rattle.std.proofs.Common.{drop-cons}
use Rattle.document_sources.specs.Names.{are_proper, is_proper}
use Rattle.document_sources.proofs.names.is_inner.Goals as goal
use Rattle.document_sources.proofs.names.is_inner.Goals.{then-path-at-eq47+else-not-is_proper, else-path-at-eq47}

at_slash : (part bs : List ℕ) (b : ℕ) → b ≡ 47 → is_proper part ≡ true → are_proper part (b ∷ bs) ≡ are_proper [] bs
at_slash part bs b is proper = rw (is, proper)

not_slash : (b : ℕ) → (b ≡ 47 → ⊥) → (b == 47) ≡ false
not_slash b differs = grind (arith, nat_tests)

at_other : (part bs : List ℕ) (b : ℕ) → (b ≡ 47 → ⊥) → are_proper part (b ∷ bs) ≡ are_proper (part ++ b ∷ []) bs
at_other part bs b differs = rw (not_slash b differs)

prefix : (path : List ℕ) (at : ℕ) → at < length path → drop at path ≡ get_or path at 0 ∷ drop (at + 1) path
prefix path at h = rw add-one (drop-cons path at 0 h)

none_left : (at : ℕ) (path : List ℕ) → take (at + 1 - (at + 1)) path ≡ []
none_left at path = let none : at + 1 - (at + 1) ≡ 0 = omega arith in rw none

part_more : (path : List ℕ) (start at : ℕ) → start ≤ at → at < length path
    → take (at + 1 - start) (drop start path) ≡ take (at - start) (drop start path) ++ get_or path at 0 ∷ []
part_more path start at from h =
    let count : at + 1 - start ≡ at - start + 1 = omega arith in
    let there : start + (at - start) ≡ at = omega arith in
    let short : at - start < length (drop start path) = omega (arith, length-drop start path) in
    let byte : get_or (drop start path) (at - start) 0 ≡ get_or path at 0 = get_or-drop start path (at - start) 0 ∙ ap (λ (k : ℕ). get_or path k 0) there in
    ap (λ (k : ℕ). take k (drop start path)) count ∙ take_more (drop start path) (at - start) 0 short
    ∙ ap (λ (b : ℕ). take (at - start) (drop start path) ++ b ∷ []) byte

slash_step : (path : List ℕ) (start at : ℕ) → at < length path → get_or path at 0 ≡ 47 → is_proper (take (at - start) (drop start path)) ≡ true
    → are_proper [] path ≡ are_proper (take (at - start) (drop start path)) (drop at path)
    → are_proper [] path ≡ are_proper (take (at + 1 - (at + 1)) (drop (at + 1) path)) (drop (at + 1) path)
slash_step path start at h is proper same =
    same ∙ ap (are_proper (take (at - start) (drop start path))) (prefix path at h)
    ∙ at_slash (take (at - start) (drop start path)) (drop (at + 1) path) (get_or path at 0) is proper
    ∙ ap (λ (part : List ℕ). are_proper part (drop (at + 1) path)) (sym (none_left at (drop (at + 1) path)))

other_step : (path : List ℕ) (start at : ℕ) → start ≤ at → at < length path → (get_or path at 0 ≡ 47 → ⊥)
    → are_proper [] path ≡ are_proper (take (at - start) (drop start path)) (drop at path)
    → are_proper [] path ≡ are_proper (take (at + 1 - start) (drop start path)) (drop (at + 1) path)
other_step path start at from h differs same =
    same ∙ ap (are_proper (take (at - start) (drop start path))) (prefix path at h)
    ∙ at_other (take (at - start) (drop start path)) (drop (at + 1) path) (get_or path at 0) differs
    ∙ ap (λ (part : List ℕ). are_proper part (drop (at + 1) path)) (sym (part_more path start at from h))

pub loop-at-preserved : goal.loop-at-preserved
loop-at-preserved c =
    let path = c.args.path.now in
    let at = c.loop-at.at in
    let P : ℕ → Type 0 = λ k. are_proper [] path ≡ are_proper (take (at + 1 - k) (drop k path)) (drop (at + 1) path) in
    elim c.if-path-at-eq47.branch [
      | then-path-at-eq47+else-not-is_proper w ↦ record {
        part = omega arith;
        same = subst P (sym w.start-is) (slash_step path c.loop-at.start at c.loop-at-test.true w.if-path-at-eq47.true (sym w.is_proper.ensures ∙ w.if-not-is_proper.false) c.loop-at.invariant.same);
      }
      | else-path-at-eq47 w ↦ record {
        part = omega arith;
        same = subst P (sym w.start-is) (other_step path c.loop-at.start at c.loop-at.invariant.part c.loop-at-test.true w.if-path-at-eq47.false c.loop-at.invariant.same);
      }
    ]

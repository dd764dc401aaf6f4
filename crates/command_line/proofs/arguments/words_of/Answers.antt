use Rattle.std.proofs.Common.{◌≡◌, ℕ, zero, suc, ◌+◌, ◌<◌, ◌≤◌, List, [], ◌∷◌, ◌++◌, length, map, Option, Some, None, slice_get, string_bytes, Global, refl, sym, ap, ◌∙◌, subst, arith, below_more, length-append}
use Rattle.std.specs.Option.{option_map}
use Rattle.std.proofs.lemmas.Option.{slice_get_past}
use Rattle.std.proofs.lemmas.List.{length-map, map-append}
use Rattle.command_line.proofs.arguments.words_of.Goals as goal

slice_get-prefix : {A : Type 0} (xs ys : List A) (i : ℕ) → i < length xs → slice_get (xs ++ ys) i ≡ slice_get xs i
slice_get-prefix [] ys i within = absurd (omega arith)
slice_get-prefix (x ∷ xs) ys zero within = refl
slice_get-prefix (x ∷ xs) ys (suc i) within = slice_get-prefix xs ys i (omega arith)

slice_get-last : {A : Type 0} (xs : List A) (x : A) (i : ℕ) → length xs ≡ i → slice_get (xs ++ x ∷ []) i ≡ Some x
slice_get-last [] x i is = let same : i ≡ 0 = omega arith in ap (slice_get (x ∷ [])) same
slice_get-last (y ∷ xs) x zero is = absurd (omega arith)
slice_get-last (y ∷ xs) x (suc i) is = slice_get-last xs x i (omega arith)

-- one more word stands after those that were read
next_stands : {X : Type 0} (view : X → List ℕ) (stands : ℕ → Option (List ℕ) → Type 0) (old new : List X) (word : X) (at : ℕ)
    → at ≡ length old → stands (at + 1) (Some (view word)) → new ≡ old ++ word ∷ []
    → ((place : ℕ) → place < length old → stands (place + 1) (slice_get (map view old) place))
    → (place : ℕ) → place < length new → stands (place + 1) (slice_get (map view new) place)
next_stands view stands old new word at at_is reported new_is each place within =
    let sizes : length (map view old) ≡ length old = length-map old view in
    let grown : map view new ≡ map view old ++ view word ∷ [] = ap (map view) new_is ∙ map-append view old (word ∷ []) in
    let P : ℕ → Type 0 = λ k. stands (k + 1) (slice_get (map view new) k) in
    let below : (k : ℕ) → k < length old → P k = λ k inside.
    subst (stands (k + 1)) (sym (ap (λ l. slice_get l k) grown ∙ slice_get-prefix (map view old) (view word ∷ []) k (omega (arith, sizes)))) (each k inside) in
    let last : slice_get (map view new) (length old) ≡ Some (view word) = ap (λ l. slice_get l (length old)) grown ∙ slice_get-last (map view old) (view word) (length old) sizes in
    let here : P (length old) = subst (stands (length old + 1)) (sym last) (subst (λ n. stands (n + 1) (Some (view word))) at_is reported) in
    let long : length new ≡ length old + 1 = ap length new_is ∙ length-append old (word ∷ []) in
    below_more P (length old) below here place (omega arith)

-- nothing stands after them
none_stands : {X : Type 0} (view : X → List ℕ) (stands : ℕ → Option (List ℕ) → Type 0) (words : List X) (at : ℕ)
    → at ≡ length words → stands (at + 1) None
    → ((place : ℕ) → place < length words → stands (place + 1) (slice_get (map view words) place))
    → (place : ℕ) → place ≤ length (map view words) → stands (place + 1) (slice_get (map view words) place)
none_stands view stands words at at_is reported each place within =
    let sizes : length (map view words) ≡ length words = length-map words view in
    let P : ℕ → Type 0 = λ k. stands (k + 1) (slice_get (map view words) k) in
    let none : slice_get (map view words) (length words) ≡ None = slice_get_past (map view words) (length words) (omega arith) in
    let here : P (length words) = subst (stands (length words + 1)) (sym none) (subst (λ n. stands (n + 1) None) at_is reported) in
    below_more P (length words) each here place (omega arith)

pub loop-words-preserved : goal.loop-words-preserved
loop-words-preserved g c =
    let words = c.loop-words.words in
    let stands = g.C.CommandLine.may_stand c.args.line.now in
    let at_is : c.len.result ≡ length words.items = c.len.ensures ∙ sym c.loop-words.invariant.long in
    let reported = subst (λ o. stands (c.len.result + 1) (option_map (string_bytes {Z = Global}) o)) c.in-Some.is c.in_ok-word.ensures in
    let items : c.push.new.self.items ≡ words.items ++ c.in-Some.word ∷ [] = c.in_ok-push.ensures.items in
    record {
      long = omega (arith, ap length items, length-append words.items (c.in-Some.word ∷ []), c.in_ok-push.ensures.len, c.loop-words.invariant.long);
      each = next_stands string_bytes stands words.items c.push.new.self.items c.in-Some.word c.len.result at_is reported items c.loop-words.invariant.each;
    }

pub returns : goal.returns
returns g c =
    let words = c.loop-words.words in
    let stands = g.C.CommandLine.may_stand c.args.line.now in
    let at_is : c.len.result ≡ length words.items = c.len.ensures ∙ sym c.loop-words.invariant.long in
    let reported = subst (λ o. stands (c.len.result + 1) (option_map (string_bytes {Z = Global}) o)) c.in_default.is c.in_ok-word.ensures in
    none_stands string_bytes stands words.items c.len.result at_is reported c.loop-words.invariant.each

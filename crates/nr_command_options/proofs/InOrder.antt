-- The texts that are read, by their places.
use Rattle.std.proofs.Common.{◌≡◌, ℕ, zero, suc, ◌+◌, ◌-◌, ◌<◌, ◌≤◌, List, [], ◌∷◌, ◌++◌, length, get_or, map, Bool, true, false, cond, None, Some, refl, sym, ap, ◌∙◌, arith, length-append}
use Rattle.std.specs.List.{slice_get}
use Rattle.std.specs.Borrow.{Bor}
use Rattle.std.proofs.lemmas.Option.{slice_get-get_or}
use Rattle.std.proofs.lemmas.List.{get_or-map, length-map}
use Rattle.nr_command_options.specs.Inputs.{Reading, ReadsMacros, ReadsStandard, named}
use Rattle.nr_command_options.specs.Job.{texts}
use Rattle.nr_command_options.proofs.Parting.{texts-get_or}

slice_get-prefix : (xs ys : List Reading) (i : ℕ) → i < length xs → slice_get (xs ++ ys) i ≡ slice_get xs i
slice_get-prefix [] ys i within = absurd (omega arith)
slice_get-prefix (x ∷ xs) ys zero within = refl
slice_get-prefix (x ∷ xs) ys (suc i) within = slice_get-prefix xs ys i (omega arith)

slice_get-afterwards : (xs ys : List Reading) (i k : ℕ) → length xs + k ≡ i → slice_get (xs ++ ys) i ≡ slice_get ys k
slice_get-afterwards [] ys i k is = let same : i ≡ k = omega arith in ap (slice_get ys) same
slice_get-afterwards (x ∷ xs) ys zero k is = absurd (omega arith)
slice_get-afterwards (x ∷ xs) ys (suc i) k is = slice_get-afterwards xs ys i k (omega arith)

length-texts : (words : List (Bor (List ℕ))) → length (texts words) ≡ length words
length-texts words = length-map words (λ (word : Bor (List ℕ)). word.now)

text_at : (f : List ℕ → Reading) (words : List (Bor (List ℕ))) (i : ℕ) (d : Bor (List ℕ)) → i < length words → slice_get (map f (texts words)) i ≡ Some (f (get_or words i d).now)
text_at f words i d within =
    let inside : i < length (texts words) = omega (arith, length-texts words) in
    slice_get-get_or (map f (texts words)) i (f d.now) (omega (arith, length-map (texts words) f))
    ∙ ap (λ (r : Reading). Some r) (get_or-map f (texts words) i d.now (f d.now) inside ∙ ap f (texts-get_or words i d))

-- the texts that are read
abbrev in_order : List ℕ → List (Bor (List ℕ)) → List (Bor (List ℕ)) → Bool → List Reading
in_order folder macros files reads = map (λ name. ReadsMacros folder name) (texts macros) ++ map named (texts files) ++ cond reads (ReadsStandard ∷ []) []

pub macro_at : (folder : List ℕ) (macros files : List (Bor (List ℕ))) (reads : Bool) (i : ℕ) (d : Bor (List ℕ)) → i < length macros
    → Some (ReadsMacros folder (get_or macros i d).now) ≡ slice_get (in_order folder macros files reads) i
macro_at folder macros files reads i d within =
    let A = map (λ name. ReadsMacros folder name) (texts macros) in
    let B = map named (texts files) in
    let size : length A ≡ length macros = length-map (texts macros) (λ name. ReadsMacros folder name) ∙ length-texts macros in
    sym (slice_get-prefix (A ++ B) (cond reads (ReadsStandard ∷ []) []) i (omega (arith, length-append A B)) ∙ slice_get-prefix A B i (omega arith) ∙ text_at (λ name. ReadsMacros folder name) macros i d within)

pub file_at : (folder : List ℕ) (macros files : List (Bor (List ℕ))) (reads : Bool) (i k : ℕ) (d : Bor (List ℕ)) → length macros + k ≡ i → k < length files
    → Some (named (get_or files k d).now) ≡ slice_get (in_order folder macros files reads) i
file_at folder macros files reads i k d is within =
    let A = map (λ name. ReadsMacros folder name) (texts macros) in
    let B = map named (texts files) in
    let size : length A ≡ length macros = length-map (texts macros) (λ name. ReadsMacros folder name) ∙ length-texts macros in
    let size_b : length B ≡ length files = length-map (texts files) named ∙ length-texts files in
    sym (slice_get-prefix (A ++ B) (cond reads (ReadsStandard ∷ []) []) i (omega (arith, length-append A B)) ∙ slice_get-afterwards A B i k (omega arith) ∙ text_at named files k d within)

after_at : (folder : List ℕ) (macros files : List (Bor (List ℕ))) (reads : Bool) (i k : ℕ) → length macros + length files + k ≡ i
    → slice_get (in_order folder macros files reads) i ≡ slice_get (cond reads (ReadsStandard ∷ []) []) k
after_at folder macros files reads i k is =
    let A = map (λ name. ReadsMacros folder name) (texts macros) in
    let B = map named (texts files) in
    let size : length A ≡ length macros = length-map (texts macros) (λ name. ReadsMacros folder name) ∙ length-texts macros in
    let size_b : length B ≡ length files = length-map (texts files) named ∙ length-texts files in
    slice_get-afterwards (A ++ B) (cond reads (ReadsStandard ∷ []) []) i k (omega (arith, length-append A B))

pub standard_at : (folder : List ℕ) (macros files : List (Bor (List ℕ))) (reads : Bool) (i : ℕ) → length macros + length files ≡ i → reads ≡ true
    → Some ReadsStandard ≡ slice_get (in_order folder macros files reads) i
standard_at folder macros files reads i is reads_is = sym (after_at folder macros files reads i 0 (omega arith) ∙ rw reads_is refl)

pub none_unread : (folder : List ℕ) (macros files : List (Bor (List ℕ))) (reads : Bool) (i : ℕ) → length macros + length files ≤ i → reads ≡ false
    → None ≡ slice_get (in_order folder macros files reads) i
none_unread folder macros files reads i is reads_is = sym (after_at folder macros files reads i (i - (length macros + length files)) (omega arith) ∙ rw reads_is refl)

pub none_after : (folder : List ℕ) (macros files : List (Bor (List ℕ))) (reads : Bool) (i : ℕ) → length macros + length files < i → None ≡ slice_get (in_order folder macros files reads) i
none_after folder macros files reads i is = sym (after_at folder macros files reads i (i - (length macros + length files)) (omega arith) ∙ past reads (i - (length macros + length files)) (omega arith))
  where
    past : (b : Bool) (k : ℕ) → 0 < k → slice_get (cond b (ReadsStandard ∷ []) []) k ≡ None
    past true zero some = absurd (omega arith)
    past true (suc k) some = refl
    past false k some = refl

-- The words that are options, and the files after them.
use Rattle.std.proofs.Common.{◌≡◌, ℕ, zero, suc, ◌+◌, ◌<◌, ◌≤◌, true, List, [], ◌∷◌, ◌++◌, length, length-take, take, drop, get_or, get_or-take, refl, sym, ap, ◌∙◌, arith}
use Rattle.std.proofs.lemmas.List.{take_more}
use Rattle.std.proofs.lemmas.List.Folds.{length-prefix_len}
use Rattle.std.proofs.lemmas.List.Sums.{prefix_len_passes}
use Rattle.std.specs.List.{prefix_len}
use Rattle.std.specs.Borrow.{Bor}
use Rattle.nr_command_options.specs.Arguments.{is_option, options, files}
use Rattle.nr_command_options.specs.Job.{texts}

pub texts-take : (n : ℕ) (words : List (Bor (List ℕ))) → texts (take n words) ≡ take n (texts words)
texts-take zero words = refl
texts-take (suc n) [] = refl
texts-take (suc n) (word ∷ words) = ap (λ (ws : List (List ℕ)). word.now ∷ ws) (texts-take n words)

pub texts-drop : (n : ℕ) (words : List (Bor (List ℕ))) → texts (drop n words) ≡ drop n (texts words)
texts-drop zero words = refl
texts-drop (suc n) [] = refl
texts-drop (suc n) (word ∷ words) = texts-drop n words

pub texts-append : (words : List (Bor (List ℕ))) (word : Bor (List ℕ)) → texts (words ++ word ∷ []) ≡ texts words ++ word.now ∷ []
texts-append [] word = refl
texts-append (w ∷ words) word = ap (λ (ws : List (List ℕ)). w.now ∷ ws) (texts-append words word)

-- the first words, as many as are options
pub options-take : (n : ℕ) (words : List (Bor (List ℕ))) → n ≡ length (options (texts words)) → texts (take n words) ≡ options (texts words)
options-take n words is =
    texts-take n words ∙ ap (λ (k : ℕ). take k (texts words)) (is ∙ length-prefix_len is_option (texts words))

pub files-drop : (n : ℕ) (words : List (Bor (List ℕ))) → n ≡ length (options (texts words)) → texts (drop n words) ≡ files (texts words)
files-drop n words is = texts-drop n words ∙ ap (λ (k : ℕ). drop k (texts words)) is

pub texts-get_or : (words : List (Bor (List ℕ))) (i : ℕ) (d : Bor (List ℕ)) → get_or (texts words) i d.now ≡ (get_or words i d).now
texts-get_or [] i d = refl
texts-get_or (word ∷ words) zero d = refl
texts-get_or (word ∷ words) (suc i) d = texts-get_or words i d

-- each of them is an option
pub option_at : (words firsts : List (Bor (List ℕ))) (n i : ℕ) (d : Bor (List ℕ)) → firsts ≡ take n words → n ≡ length (options (texts words)) → i < length firsts
    → is_option (get_or firsts i d).now ≡ true
option_at words firsts n i d firsts_are n_is within =
    let prefix : n ≡ prefix_len is_option (texts words) = n_is ∙ length-prefix_len is_option (texts words) in
    let short : length firsts ≤ n = rw firsts_are (omega (arith, length-take n words)) in
    let below : i < n = omega arith in
    let same : (get_or firsts i d).now ≡ get_or (texts words) i d.now = ap (λ (xs : List (Bor (List ℕ))). (get_or xs i d).now) firsts_are ∙ ap (λ (w : Bor (List ℕ)). w.now) (get_or-take n words i d below) ∙ sym (texts-get_or words i d) in
    rw same (prefix_len_passes is_option (texts words) i d.now (omega (arith, prefix)))

-- the words are those before one, that one, and those after it
pub texts_cut : (words : List (Bor (List ℕ))) (i : ℕ) (d : Bor (List ℕ)) → i < length words → texts words ≡ texts (take i words) ++ (get_or words i d).now ∷ texts (drop (suc i) words)
texts_cut [] i d within = absurd (omega arith)
texts_cut (word ∷ words) zero d within = refl
texts_cut (word ∷ words) (suc i) d within = ap (λ (ws : List (List ℕ)). word.now ∷ ws) (texts_cut words i d (omega arith))

pub texts_more : (words : List (Bor (List ℕ))) (i : ℕ) (d : Bor (List ℕ)) → i < length words → texts (take (i + 1) words) ≡ texts (take i words) ++ (get_or words i d).now ∷ []
texts_more words i d within = ap texts (take_more words i d within) ∙ texts-append (take i words) (get_or words i d)

-- There is one answer.
use Rattle.std.proofs.Common.{◌≡◌, ℕ, ◌+◌, List, [], ◌∷◌, ◌++◌, length, IsTrue, Result, Ok, Err, refl, sym, ap, subst, ◌∙◌, arith, append_assoc, append-nil, length-append}
use Rattle.std.proofs.lemmas.Bool.Decides.{nat_tests}
use Rattle.std.proofs.lemmas.List.Elements.{filter_map-append}
use Rattle.std.specs.List.{filter_map, AllZip}
use Rattle.nr_command_options.specs.declared.usage.Case.{Case}
use Rattle.nr_command_options.specs.declared.usage.Case.TheVariants.{LeftOut, Unknown, BadValue, TooMany}
use Rattle.nr_command_options.specs.Settings.{Meaning, PrintOnly, BeginAt, SetRegister, ReadMacros, MacrosIn, ReadInput, ShowFaces, SetLimit, Means, IsIllFormed, hyphen, letter_of, is_among, known_letters, left_out_letters}
use Rattle.nr_command_options.specs.Arguments.{AreFew, IsFull, IsBad, Asked, Complaint, IsAnswer, IsGood, IsFirstBad, Mean, asked_by, register, macro_name, options, files}
use Rattle.nr_command_options.specs.Job.{OnlyMeans, Taken, LacksRoom, Refuses}

-- ---- a word is not bad and good

letter_known : (meaning : Meaning) → IsTrue (is_among known_letters (letter_of meaning))
letter_known (PrintOnly pages) = refl
letter_known (BeginAt n) = refl
letter_known (SetRegister name n) = refl
letter_known (ReadMacros name) = refl
letter_known (MacrosIn folder) = refl
letter_known ReadInput = refl
letter_known ShowFaces = refl
letter_known (SetLimit limit n) = refl

letter_not_left_out : (letter : ℕ) → IsTrue (is_among known_letters letter) → IsTrue (is_among left_out_letters letter) → ⊥
letter_not_left_out letter known left_out = grind (arith, nat_tests)

-- two words of one letter each
same_letter : (word : List ℕ) (a b : ℕ) (v w : List ℕ) → word ≡ hyphen ∷ a ∷ v → word ≡ hyphen ∷ b ∷ w → a ≡ b
same_letter word a b v w p q = cc

among_along : (letters : List ℕ) (a b : ℕ) → a ≡ b → IsTrue (is_among letters a) → IsTrue (is_among letters b)
among_along letters a b is among = subst (λ (l : ℕ). IsTrue (is_among letters l)) is among

-- a word that is bad by its form means nothing
IllFormed-means : (case : Case) (word : List ℕ) (meaning : Meaning) → IsIllFormed case word → Means meaning word → ⊥
IllFormed-means LeftOut word meaning (letter, value, is, among) means =
    let same = same_letter word letter (letter_of meaning) value means.0 is means.1 in
    letter_not_left_out (letter_of meaning) (letter_known meaning) (among_along left_out_letters letter (letter_of meaning) same among)
IllFormed-means Unknown word meaning (letter, value, is, left_out, known) means =
    let same = same_letter word (letter_of meaning) letter means.0 value means.1 is in
    known (among_along known_letters (letter_of meaning) letter same (letter_known meaning))
IllFormed-means BadValue word meaning bad means = bad.4 meaning means
IllFormed-means TooMany word meaning bad means = bad

-- it is bad in one way
IllFormed-one : (case other : Case) (word : List ℕ) → IsIllFormed case word → IsIllFormed other word → other ≡ case
IllFormed-one LeftOut LeftOut word a b = refl
IllFormed-one Unknown Unknown word a b = refl
IllFormed-one BadValue BadValue word a b = refl
IllFormed-one TooMany other word a b = absurd a
IllFormed-one LeftOut TooMany word a b = absurd b
IllFormed-one Unknown TooMany word a b = absurd b
IllFormed-one BadValue TooMany word a b = absurd b
IllFormed-one LeftOut Unknown word a b = absurd (b.3 (among_along left_out_letters a.0 b.0 (same_letter word a.0 b.0 a.1 b.1 a.2 b.2) a.3))
IllFormed-one Unknown LeftOut word a b = absurd (a.3 (among_along left_out_letters b.0 a.0 (same_letter word b.0 a.0 b.1 a.1 b.2 a.2) b.3))
IllFormed-one BadValue Unknown word a b = absurd (b.4 (among_along known_letters a.0 b.0 (same_letter word a.0 b.0 a.1 b.1 a.2 b.2) a.3))
IllFormed-one Unknown BadValue word a b = absurd (a.4 (among_along known_letters b.0 a.0 (same_letter word b.0 a.0 b.1 a.1 b.2 a.2) b.3))
IllFormed-one LeftOut BadValue word a b = absurd (letter_not_left_out a.0 (among_along known_letters b.0 a.0 (same_letter word b.0 a.0 b.1 a.1 b.2 a.2) b.3) a.3)
IllFormed-one BadValue LeftOut word a b = absurd (letter_not_left_out b.0 (among_along known_letters a.0 b.0 (same_letter word a.0 b.0 a.1 b.1 a.2 b.2) a.3) b.3)

-- where all are few, none of its kind was one too many
AreFew-full : (before : List Meaning) (meaning : Meaning) (more : List Meaning) → AreFew (before ++ meaning ∷ more) → IsFull before meaning → ⊥
AreFew-full before (SetRegister name n) more few full =
    let all : length (filter_map register (before ++ SetRegister name n ∷ more)) ≡ length (filter_map register before) + (1 + length (filter_map register more)) = simp (filter_map-append, length-append) (omega arith) in
    omega (arith, few.registers, full)
AreFew-full before (ReadMacros name) more few full =
    let all : length (filter_map macro_name (before ++ ReadMacros name ∷ more)) ≡ length (filter_map macro_name before) + (1 + length (filter_map macro_name more)) = simp (filter_map-append, length-append) (omega arith) in
    omega (arith, few.macros, full)
AreFew-full before other more few full = full

-- ---- the first bad word

-- a word is bad after these, and if its form is good it has one meaning
abbrev pub IsBadOnly : List Meaning → Case → List ℕ → Type 0
IsBadOnly before TooMany word = (meaning : Meaning) × OnlyMeans meaning word × IsFull before meaning
IsBadOnly before LeftOut word = IsIllFormed LeftOut word
IsBadOnly before Unknown word = IsIllFormed Unknown word
IsBadOnly before BadValue word = IsIllFormed BadValue word

pub IsBad-only : (before : List Meaning) (case : Case) (word : List ℕ) → IsBadOnly before case word → IsBad before case word
IsBad-only before TooMany word bad = (bad.0, bad.1.means, bad.2)
IsBad-only before LeftOut word bad = bad
IsBad-only before Unknown word bad = bad
IsBad-only before BadValue word bad = bad

full_along : (before : List Meaning) (a b : Meaning) → a ≡ b → IsFull before a → IsFull before b
full_along before a b is full = subst (λ (m : Meaning). IsFull before m) is full

-- a bad word is none that means this after these
BadOnly-means : (before : List Meaning) (case : Case) (word : List ℕ) (meaning : Meaning) (more : List Meaning) → IsBadOnly before case word → Means meaning word → AreFew (before ++ meaning ∷ more) → ⊥
BadOnly-means before TooMany word meaning more bad means few =
    AreFew-full before meaning more few (full_along before bad.0 meaning (sym (bad.1.only meaning means)) bad.2)
BadOnly-means before LeftOut word meaning more bad means few = IllFormed-means LeftOut word meaning bad means
BadOnly-means before Unknown word meaning more bad means few = IllFormed-means Unknown word meaning bad means
BadOnly-means before BadValue word meaning more bad means few = IllFormed-means BadValue word meaning bad means

Bad-OnlyMeans : (before : List Meaning) (case : Case) (word : List ℕ) (meaning : Meaning) (more : List Meaning) → IsBad before case word → OnlyMeans meaning word → AreFew (before ++ meaning ∷ more) → ⊥
Bad-OnlyMeans before TooMany word meaning more bad only few =
    AreFew-full before meaning more few (full_along before bad.0 meaning (only.only bad.0 bad.1) bad.2)
Bad-OnlyMeans before LeftOut word meaning more bad only few = IllFormed-means LeftOut word meaning bad only.means
Bad-OnlyMeans before Unknown word meaning more bad only few = IllFormed-means Unknown word meaning bad only.means
Bad-OnlyMeans before BadValue word meaning more bad only few = IllFormed-means BadValue word meaning bad only.means

-- a word is bad in one way
Bad-one : (before : List Meaning) (case other : Case) (word : List ℕ) → IsBadOnly before case word → IsBad before other word → other ≡ case
Bad-one before TooMany TooMany word a b = refl
Bad-one before TooMany LeftOut word a b = absurd (IllFormed-means LeftOut word a.0 b a.1.means)
Bad-one before TooMany Unknown word a b = absurd (IllFormed-means Unknown word a.0 b a.1.means)
Bad-one before TooMany BadValue word a b = absurd (IllFormed-means BadValue word a.0 b a.1.means)
Bad-one before LeftOut TooMany word a b = absurd (IllFormed-means LeftOut word b.0 a b.1)
Bad-one before Unknown TooMany word a b = absurd (IllFormed-means Unknown word b.0 a b.1)
Bad-one before BadValue TooMany word a b = absurd (IllFormed-means BadValue word b.0 a b.1)
Bad-one before LeftOut LeftOut word a b = refl
Bad-one before LeftOut Unknown word a b = IllFormed-one LeftOut Unknown word a b
Bad-one before LeftOut BadValue word a b = IllFormed-one LeftOut BadValue word a b
Bad-one before Unknown LeftOut word a b = IllFormed-one Unknown LeftOut word a b
Bad-one before Unknown Unknown word a b = refl
Bad-one before Unknown BadValue word a b = IllFormed-one Unknown BadValue word a b
Bad-one before BadValue LeftOut word a b = IllFormed-one BadValue LeftOut word a b
Bad-one before BadValue Unknown word a b = IllFormed-one BadValue Unknown word a b
Bad-one before BadValue BadValue word a b = refl

-- ---- the words before it

-- one more after these, and then the others
one_more : (P : List Meaning → Type 0) (before : List Meaning) (meaning : Meaning) (more : List Meaning) → P (before ++ meaning ∷ more) → P ((before ++ meaning ∷ []) ++ more)
one_more P before meaning more p = subst P (sym (append_assoc before (meaning ∷ []) more)) p

-- the same words mean the same
same_meanings : (ms others : List Meaning) (words : List (List ℕ)) → AllZip OnlyMeans ms words → Mean others words → others ≡ ms
same_meanings [] [] [] only mean = refl
same_meanings [] (o ∷ others) [] only mean = absurd mean
same_meanings [] others (w ∷ words) only mean = absurd only
same_meanings (m ∷ ms) others [] only mean = absurd only
same_meanings (m ∷ ms) [] (w ∷ words) only mean = absurd mean
same_meanings (m ∷ ms) (o ∷ others) (w ∷ words) only mean =
    let head : o ≡ m = only.0.only o mean.0 in
    let tail = same_meanings ms others words only.1 mean.1 in cc

-- where all mean something, and are few, none is bad
none_bad : (before ms others : List Meaning) (words good rest : List (List ℕ)) (case : Case) (word : List ℕ) → AllZip OnlyMeans ms words → AreFew (before ++ ms)
    → words ≡ good ++ word ∷ rest → Mean others good → IsBad (before ++ others) case word → ⊥
none_bad before [] others [] [] rest case word only few is mean bad = cc
none_bad before [] others [] (g ∷ good) rest case word only few is mean bad = cc
none_bad before [] others (w ∷ words) good rest case word only few is mean bad = only
none_bad before (m ∷ ms) others [] good rest case word only few is mean bad = only
none_bad before (m ∷ ms) [] (w ∷ words) [] rest case word only few is mean bad =
    let same : w ≡ word = cc in
    let here = subst (λ (t : List ℕ). OnlyMeans m t) same only.0 in
    Bad-OnlyMeans before case word m ms (subst (λ (ns : List Meaning). IsBad ns case word) (append-nil before) bad) here few
none_bad before (m ∷ ms) (o ∷ others) (w ∷ words) [] rest case word only few is mean bad = mean
none_bad before (m ∷ ms) [] (w ∷ words) (g ∷ good) rest case word only few is mean bad = mean
none_bad before (m ∷ ms) (o ∷ others) (w ∷ words) (g ∷ good) rest case word only few is mean bad =
    let same : g ≡ w = cc in
    let tail : words ≡ good ++ word ∷ rest = cc in
    let head : o ≡ m = only.0.only o (subst (λ (t : List ℕ). Means o t) same mean.0) in
    none_bad (before ++ m ∷ []) ms others words good rest case word only.1 (one_more AreFew before m ms few) tail mean.1
    (one_more (λ (ns : List Meaning). IsBad ns case word) before m others (subst (λ (n : Meaning). IsBad (before ++ n ∷ others) case word) head bad))

-- where one is bad, not all mean something and are few
not_all_good : (before ms others : List Meaning) (good rest : List (List ℕ)) (case : Case) (word : List ℕ) → AllZip OnlyMeans ms good → IsBadOnly (before ++ ms) case word
    → Mean others (good ++ word ∷ rest) → AreFew (before ++ others) → ⊥
not_all_good before [] [] [] rest case word only bad mean few = mean
not_all_good before [] (o ∷ others) [] rest case word only bad mean few =
    BadOnly-means before case word o others (subst (λ (ns : List Meaning). IsBadOnly ns case word) (append-nil before) bad) mean.0 few
not_all_good before [] others (g ∷ good) rest case word only bad mean few = only
not_all_good before (m ∷ ms) others [] rest case word only bad mean few = only
not_all_good before (m ∷ ms) [] (g ∷ good) rest case word only bad mean few = mean
not_all_good before (m ∷ ms) (o ∷ others) (g ∷ good) rest case word only bad mean few =
    let head : o ≡ m = only.0.only o mean.0 in
    not_all_good (before ++ m ∷ []) ms others good rest case word only.1 (one_more (λ (ns : List Meaning). IsBadOnly ns case word) before m ms bad) mean.1
    (one_more AreFew before m others (subst (λ (n : Meaning). AreFew (before ++ n ∷ others)) head few))

-- the first bad word is one, and bad in one way
one_first : (before ms others : List Meaning) (good good' rest rest' : List (List ℕ)) (case case' : Case) (word word' : List ℕ)
    → AllZip OnlyMeans ms good → AreFew (before ++ ms) → IsBadOnly (before ++ ms) case word → Mean others good' → AreFew (before ++ others) → IsBad (before ++ others) case' word'
    → good' ++ word' ∷ rest' ≡ good ++ word ∷ rest → (case' ≡ case) × (word' ≡ word)
one_first before [] [] [] [] rest rest' case case' word word' only few bad mean few' bad' is =
    let same : word' ≡ word = cc in (
      Bad-one before case case' word (subst (λ (ns : List Meaning). IsBadOnly ns case word) (append-nil before) bad)
          (subst (λ (t : List ℕ). IsBad before case' t) same (subst (λ (ns : List Meaning). IsBad ns case' word') (append-nil before) bad')),
      same,
    )
one_first before [] (o ∷ others) [] [] rest rest' case case' word word' only few bad mean few' bad' is = absurd mean
one_first before [] [] [] (g' ∷ good') rest rest' case case' word word' only few bad mean few' bad' is = absurd mean
one_first before [] (o ∷ others) [] (g' ∷ good') rest rest' case case' word word' only few bad mean few' bad' is =
    let same : g' ≡ word = cc in
    absurd (BadOnly-means before case word o others (subst (λ (ns : List Meaning). IsBadOnly ns case word) (append-nil before) bad) (subst (λ (t : List ℕ). Means o t) same mean.0) few')
one_first before [] others (g ∷ good) good' rest rest' case case' word word' only few bad mean few' bad' is = absurd only
one_first before (m ∷ ms) others [] good' rest rest' case case' word word' only few bad mean few' bad' is = absurd only
one_first before (m ∷ ms) [] (g ∷ good) [] rest rest' case case' word word' only few bad mean few' bad' is =
    let same : g ≡ word' = cc in
    absurd (Bad-OnlyMeans before case' word' m ms (subst (λ (ns : List Meaning). IsBad ns case' word') (append-nil before) bad') (subst (λ (t : List ℕ). OnlyMeans m t) same only.0) few)
one_first before (m ∷ ms) (o ∷ others) (g ∷ good) [] rest rest' case case' word word' only few bad mean few' bad' is = absurd mean
one_first before (m ∷ ms) [] (g ∷ good) (g' ∷ good') rest rest' case case' word word' only few bad mean few' bad' is = absurd mean
one_first before (m ∷ ms) (o ∷ others) (g ∷ good) (g' ∷ good') rest rest' case case' word word' only few bad mean few' bad' is =
    let same : g' ≡ g = cc in
    let tail : good' ++ word' ∷ rest' ≡ good ++ word ∷ rest = cc in
    let head : o ≡ m = only.0.only o (subst (λ (t : List ℕ). Means o t) same mean.0) in
    one_first (before ++ m ∷ []) ms others good good' rest rest' case case' word word' only.1 (one_more AreFew before m ms few)
    (one_more (λ (ns : List Meaning). IsBadOnly ns case word) before m ms bad) mean.1
    (one_more AreFew before m others (subst (λ (n : Meaning). AreFew (before ++ n ∷ others)) head few'))
    (one_more (λ (ns : List Meaning). IsBad ns case' word') before m others (subst (λ (n : Meaning). IsBad (before ++ n ∷ others) case' word') head bad')) tail

-- ---- what was taken, as an answer

AllZip-means : (ms : List Meaning) (words : List (List ℕ)) → AllZip OnlyMeans ms words → Mean ms words
AllZip-means [] [] only = tt
AllZip-means [] (w ∷ words) only = only
AllZip-means (m ∷ ms) [] only = only
AllZip-means (m ∷ ms) (w ∷ words) only = (only.0.means, AllZip-means ms words only.1)

pub IsGood-taken : (words : List (List ℕ)) (asked : Asked) → Taken (options words) (files words) asked → IsGood words asked
IsGood-taken words asked taken = record {
  meanings = taken.meanings;
  meant = AllZip-means taken.meanings (options words) taken.meant;
  few = taken.few;
  asked_is = taken.asked_is;
}

pub only_good : (words : List (List ℕ)) (asked : Asked) → Taken (options words) (files words) asked → (answer : Result Asked Complaint) → IsAnswer words answer → answer ≡ Ok asked
only_good words asked taken (Ok other) answer =
    let same = same_meanings taken.meanings answer.meanings (options words) taken.meant answer.meant in
    ap Ok (answer.asked_is ∙ ap (λ (ms : List Meaning). asked_by ms (files words)) same ∙ sym taken.asked_is)
only_good words asked taken (Err complaint) answer =
    absurd (none_bad [] taken.meanings answer.meanings (options words) answer.good answer.rest complaint.case complaint.word taken.meant taken.few answer.options_are answer.meant answer.bad)

full_of : (ms : List Meaning) (fs : List (List ℕ)) (meaning : Meaning) → LacksRoom (asked_by ms fs) meaning → IsFull ms meaning
full_of ms fs (SetRegister name n) lacks = lacks
full_of ms fs (ReadMacros name) lacks = lacks
full_of ms fs other lacks = lacks

BadOnly-refused : (ms : List Meaning) (fs : List (List ℕ)) (asked : Asked) (word : List ℕ) (case : Case) → asked ≡ asked_by ms fs → Refuses asked word case → IsBadOnly ms case word
BadOnly-refused ms fs asked word TooMany is refuses = (refuses.0, refuses.1, full_of ms fs refuses.0 (subst (λ (a : Asked). LacksRoom a refuses.0) is refuses.2))
BadOnly-refused ms fs asked word LeftOut is refuses = refuses
BadOnly-refused ms fs asked word Unknown is refuses = refuses
BadOnly-refused ms fs asked word BadValue is refuses = refuses

pub IsFirstBad-refused : (words good rest fs : List (List ℕ)) (asked : Asked) (word : List ℕ) (case : Case) → Taken good fs asked → options words ≡ good ++ word ∷ rest
    → Refuses asked word case → IsFirstBad words (record { case = case; word = word })
IsFirstBad-refused words good rest fs asked word case taken is refuses = record {
  good = good;
  rest = rest;
  options_are = is;
  meanings = taken.meanings;
  meant = AllZip-means taken.meanings good taken.meant;
  few = taken.few;
  bad = IsBad-only taken.meanings case word (BadOnly-refused taken.meanings fs asked word case taken.asked_is refuses);
}

pub only_bad : (words good rest fs : List (List ℕ)) (asked : Asked) (word : List ℕ) (case : Case) → Taken good fs asked → options words ≡ good ++ word ∷ rest
    → Refuses asked word case → (answer : Result Asked Complaint) → IsAnswer words answer → answer ≡ Err (record { case = case; word = word })
only_bad words good rest fs asked word case taken is refuses (Ok other) answer =
    absurd (not_all_good [] taken.meanings answer.meanings good rest case word taken.meant (BadOnly-refused taken.meanings fs asked word case taken.asked_is refuses)
    (subst (λ (ws : List (List ℕ)). Mean answer.meanings ws) is answer.meant) answer.few)
only_bad words good rest fs asked word case taken is refuses (Err complaint) answer =
    let one = one_first [] taken.meanings answer.meanings good answer.good rest answer.rest case complaint.case word complaint.word taken.meant taken.few
    (BadOnly-refused taken.meanings fs asked word case taken.asked_is refuses) answer.meant answer.few answer.bad (sym answer.options_are ∙ is) in
    let P : Case → List ℕ → Result Asked Complaint = λ c w. Err (record { case = c; word = w }) in
    ap (λ (c : Case). P c complaint.word) one.0 ∙ ap (P case) one.1

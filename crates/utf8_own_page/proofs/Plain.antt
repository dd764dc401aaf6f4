-- Bytes that are passed over at once.
use Prim.Native.Char.{code}
use Rattle.std.proofs.Common.{◌≡◌, ℕ, zero, suc, ◌+◌, ◌<◌, ◌≤◌, List, [], ◌∷◌, length, take, drop, get_or, Bool, true, false, not, ◌==◌, ◌&&◌, ◌||◌, ◌⊎◌, nat_le, nat_lt, inl, inr, if◌then◌else◌, refl, sym, subst, ap, ◌∙◌, arith}
use Rattle.std.specs.Array.{IsFirstChunk}
use Rattle.std.proofs.lemmas.Bool.{false≢true}
use Rattle.std.proofs.lemmas.Bool.Decides.{nat_tests}
use Rattle.std.proofs.lemmas.List.{drop-drop, get_or-take}
use Rattle.utf8_characters.specs.declared.table.FixedTable.TheVariants.{English}
use Rattle.preconv_characters.specs.Composed.{lacks_letter}
use Rattle.utf8_own_page.specs.Needing.{AllPlain, before_bracket, begins_number, is_beyond_ascii, is_plain, names_beyond}

-- ---- one byte

is_low : (b c : ℕ) → is_plain b c ≡ true → nat_le 128 b ≡ false
is_low b c plain = grind (arith, nat_tests)

none_by : (low back paren bracket x y : Bool) → (low && (not back || (not paren && not bracket))) ≡ true
    → (back && (if paren then x else (if bracket then y else false))) ≡ false
none_by low false paren bracket x y p = refl
none_by low true false false x y p = refl
none_by true true true bracket x y p = absurd (false≢true p)
none_by false true true bracket x y p = absurd (false≢true p)
none_by true true false true x y p = absurd (false≢true p)
none_by false true false true x y p = absurd (false≢true p)

no_name : (b c : ℕ) (cs : List ℕ) → is_plain b c ≡ true → ((b == code "\\") && names_beyond (c ∷ cs)) ≡ false
no_name b c cs plain =
    none_by (nat_lt b 128) (b == code "\\") (c == code "(") (c == code "[") (lacks_letter English (take 2 cs))
    (begins_number cs || lacks_letter English (before_bracket (take 32 cs))) plain

neither : (high name rest : Bool) → high ≡ false → name ≡ false → (high || name || rest) ≡ rest
neither false false rest p q = refl
neither true name rest p q = absurd (false≢true (sym p))
neither false true rest p q = absurd (false≢true (sym q))

no_end : (back : Bool) → (back && false) ≡ false
no_end true = refl
no_end false = refl

passed_byte : (b : ℕ) (bs : List ℕ) → is_plain b (get_or bs 0 0) ≡ true → is_beyond_ascii (b ∷ bs) ≡ is_beyond_ascii bs
passed_byte b [] plain = neither (nat_le 128 b) ((b == code "\\") && false) false (is_low b 0 plain) (no_end (b == code "\\"))
passed_byte b (c ∷ cs) plain =
    neither (nat_le 128 b) ((b == code "\\") && names_beyond (c ∷ cs)) (is_beyond_ascii (c ∷ cs)) (is_low b c plain) (no_name b c cs plain)

-- ---- some bytes

plain_next : (b : ℕ) (bs : List ℕ) (k : ℕ) → is_plain (get_or (b ∷ bs) (suc k) 0) (get_or (b ∷ bs) (suc k + 1) 0) ≡ true
    → is_plain (get_or bs k 0) (get_or bs (k + 1) 0) ≡ true
plain_next b bs k plain =
    let one : suc k + 1 ≡ suc (k + 1) = omega arith in
    let P : ℕ → Type 0 = λ j. is_plain (get_or bs k 0) (get_or (b ∷ bs) j 0) ≡ true in
    subst P one plain

-- none of the first n is beyond ASCII
passed : (n : ℕ) (bs : List ℕ) → n ≤ length bs → AllPlain n bs → is_beyond_ascii (drop n bs) ≡ is_beyond_ascii bs
passed zero bs few all = refl
passed (suc n) [] few all = absurd (omega (arith, few))
passed (suc n) (b ∷ bs) few all =
    passed n bs (omega (arith, few)) (λ k below. plain_next b bs k (all (suc k) (omega (arith, below))))
    ∙ sym (passed_byte b bs (all 0 (omega arith)))

pub passed-piece : (n : ℕ) (bs : List ℕ) → n ≤ length bs → n ≤ 32 → AllPlain 32 bs → is_beyond_ascii (drop n bs) ≡ is_beyond_ascii bs
passed-piece n bs within few all = passed n bs within (λ k below. all k (omega (arith, few, below)))

-- those of the first 33
pub plain-of : (bs ys : List ℕ) (plain : Bool) → IsFirstChunk bs ys 33 → (plain ≡ true → AllPlain 32 ys) → plain ≡ true → AllPlain 32 bs
plain-of bs ys plain chunk all is k below =
    let P : ℕ → Type 0 = λ b. is_plain b (get_or bs (k + 1) 0) ≡ true in
    let Q : ℕ → Type 0 = λ b. is_plain (get_or ys k 0) b ≡ true in
    let at : (j : ℕ) → j < 33 → get_or ys j 0 ≡ get_or bs j 0 =
    λ j near. ap (λ (xs : List ℕ). get_or xs j 0) chunk.same ∙ get_or-take 33 bs j 0 near in
    subst P (at k (omega (arith, below))) (subst Q (at (k + 1) (omega (arith, below))) (all is k below))

-- ---- byte by byte, and piece by piece

k_or_last : (k n : ℕ) → k < n + 1 → (k < n) ⊎ (k ≡ n)
k_or_last k n l = grind (arith, nat_tests)

plain_at : (bs : List ℕ) (n k : ℕ) → AllPlain n bs → is_plain (get_or bs n 0) (get_or bs (n + 1) 0) ≡ true → (k < n) ⊎ (k ≡ n)
    → is_plain (get_or bs k 0) (get_or bs (k + 1) 0) ≡ true
plain_at bs n k all here (inl low) = all k low
plain_at bs n k all here (inr same) =
    let P : ℕ → Type 0 = λ j. is_plain (get_or bs j 0) (get_or bs (j + 1) 0) ≡ true in
    subst P (sym same) here

-- one byte more
pub plain-more : (all x : Bool) (bs : List ℕ) (n : ℕ) → x ≡ is_plain (get_or bs n 0) (get_or bs (n + 1) 0) → (all ≡ true → AllPlain n bs)
    → all && x ≡ true → AllPlain (n + 1) bs
plain-more true x bs n is before both = λ k below. plain_at bs n k (before refl) (sym is ∙ both) (k_or_last k n below)
plain-more false x bs n is before both = absurd (false≢true both)

-- one piece more
pub passed-more : (page rest : List ℕ) (place count : ℕ) → rest ≡ drop place page → is_beyond_ascii (drop count rest) ≡ is_beyond_ascii rest
    → is_beyond_ascii (drop place page) ≡ is_beyond_ascii page → is_beyond_ascii (drop (place + count) page) ≡ is_beyond_ascii page
passed-more page rest place count is here before =
    ap is_beyond_ascii (sym (drop-drop count place page)) ∙ ap (λ (xs : List ℕ). is_beyond_ascii (drop count xs)) (sym is) ∙ here
    ∙ ap is_beyond_ascii is ∙ before

-- Text without a mark that names no coding goes out as it is.
use Prim.Native.Char.{code}
use Rattle.std.proofs.Common.{◌≡◌, ℕ, zero, suc, ◌+◌, ◌<◌, List, [], ◌∷◌, ◌++◌, Bool, true, false, not, ◌==◌, ◌&&◌, ◌||◌, if◌then◌else◌, refl, ◌∙◌, ap, arith}
use Rattle.std.proofs.lemmas.Bool.Decides.{nat_tests}
use Rattle.preconv_coding.specs.declared.part.Part.{Part}
use Rattle.preconv_coding.specs.declared.part.Part.TheVariants.{Mark, Head}
use Rattle.preconv_coding.specs.declared.part.Step.{Step}
use Rattle.preconv_coding.specs.declared.tag.Tag.TheVariants.{Key, Blanks}
use Rattle.preconv_coding.specs.Tag.{key_read, after_key, line_ended}
use Rattle.preconv_coding.specs.Part.{decided, plain, first, silent}
use Rattle.preconv_coding.specs.UnderCoding.{text_from}
use Rattle.preconv_coding.specs.Laws.{names_nothing, PlainStays}
use Rattle.preconv_coding.proofs.Giving.{plain_text}

lt_split : (x : Bool) (n a b : ℕ) → a < n → b < n → (if x then a else b) < n
lt_split true n a b p q = p
lt_split false n a b p q = q

-- without the `:` the key is not read whole
begins_small : (b : ℕ) → (if b == code "c" then 1 else 0) < 7
begins_small b = lt_split (b == code "c") 7 1 0 (omega arith) (omega arith)

key_small : (next count b : ℕ) → count < 6 → (if next == b then count + 1 else if b == code "c" then 1 else 0) < 7
key_small next count b few = lt_split (next == b) 7 (count + 1) _ (omega arith) (begins_small b)

last_small : (b : ℕ) (x : Bool) → x ≡ false → (if x then 6 + 1 else if b == code "c" then 1 else 0) < 7
last_small b true is = absurd (let no : true ≡ false = is in cc)
last_small b false is = begins_small b

no_colon : (b : ℕ) → (b == code ":") ≡ false → (code ":" == b) ≡ false
no_colon b is = grind (arith, nat_tests)

key_read_small : (k b : ℕ) → k < 7 → (b == code ":") ≡ false → key_read k b < 7
key_read_small zero b few is = key_small (code "c") 0 b (omega arith)
key_read_small (suc zero) b few is = key_small (code "o") 1 b (omega arith)
key_read_small (suc (suc zero)) b few is = key_small (code "d") 2 b (omega arith)
key_read_small (suc (suc (suc zero))) b few is = key_small (code "i") 3 b (omega arith)
key_read_small (suc (suc (suc (suc zero)))) b few is = key_small (code "n") 4 b (omega arith)
key_read_small (suc (suc (suc (suc (suc zero))))) b few is = key_small (code "g") 5 b (omega arith)
key_read_small (suc (suc (suc (suc (suc (suc zero)))))) b few is = last_small b (code ":" == b) (no_colon b is)
key_read_small (suc (suc (suc (suc (suc (suc (suc k))))))) b few is = absurd (omega arith)

abbrev pub head_at : Bool → ℕ → Part
head_at second k = Head (record { second = second; tag = Key k; name = [] })

not_whole : (j : ℕ) → j < 7 → (j == 7) ≡ false
not_whole j few = grind (arith, nat_tests)

-- what stands after a byte of these lines, by whether it is a newline
abbrev pub after_byte : Bool → Bool → ℕ → ℕ → Part
after_byte x second k b = decided (if x then line_ended (record { second = second; tag = Key k; name = [] }) else after_key (key_read k b) (record { second = second; tag = Key k; name = [] }))

and-both : (x y : Bool) → (not x && y) ≡ true → (x ≡ false) × (y ≡ true)
and-both false y e = (refl, e)
and-both true y e = absurd (let no : false ≡ true = e in cc)

-- what the rest comes to, wherever it begins
abbrev Stays : List ℕ → Type 0
Stays bs = (second : Bool) (k : ℕ) → k < 7 → names_nothing second bs ≡ true → text_from (head_at second k) bs ≡ bs

byte_stays : (b : ℕ) (bs : List ℕ) (x second : Bool) (k : ℕ) → Stays bs → k < 7
    → (if x then second || names_nothing true bs else not (b == code ":") && names_nothing second bs) ≡ true
    → b ∷ text_from (after_byte x second k b) bs ≡ b ∷ bs
byte_stays b bs true true k rest few is = ap (λ (xs : List ℕ). b ∷ xs) (plain_text bs)
byte_stays b bs true false k rest few is = ap (λ (xs : List ℕ). b ∷ xs) (rest true 0 (omega arith) is)
byte_stays b bs false second k rest few is =
    let parts = and-both (b == code ":") (names_nothing second bs) is in
    let j = key_read k b in
    let small : j < 7 = key_read_small k b few parts.0 in
    ap (λ (x : Bool). b ∷ text_from (Head (record { second = second; tag = if x then Blanks else Key j; name = [] })) bs) (not_whole j small)
    ∙ ap (λ (xs : List ℕ). b ∷ xs) (rest second j small parts.1)

head_stays : (bs : List ℕ) → Stays bs
head_stays [] second k few is = refl
head_stays (b ∷ bs) second k few is = byte_stays b bs (b == code "\n") second k (head_stays bs) few is

pub plain_stays : PlainStays
plain_stays [] mark is = refl
plain_stays (b ∷ bs) mark is =
    let step : Bool → Step = λ x. if x then silent (Mark b) else plain (first b) (b ∷ []) in
    ap (λ (x : Bool). (step x).text ++ text_from (step x).part bs) mark
    ∙ byte_stays b bs (b == code "\n") false 0 (head_stays bs) (omega arith) is

-- A text in UTF-8 has its characters.
use Rattle.std.proofs.Common.{◌≡◌, ℕ, ◌+◌, ◌*◌, ◌/◌, ◌%◌, ◌<◌, ◌≤◌, List, [], ◌∷◌, ◌++◌, Bool, true, false, nat_lt, if◌then◌else◌, Option, None, Some, inl, inr, refl, ◌∙◌, ap, arith}
use Rattle.std.proofs.lemmas.Bool.{ltb-true, ltb-false}
use Rattle.std.proofs.Math.Utf8.{scalar, scalars, scalar_cases}
use Rattle.std.specs.Prelude.{encode_utf8_all}
use Rattle.std.specs.Char.{encode_utf8}
use Rattle.utf8_own_characters.specs.declared.decoding.Part.{Part}
use Rattle.utf8_own_characters.specs.declared.decoding.Decoded.{Decoded}
use Rattle.utf8_own_characters.specs.Decoding.{none, going, ends, with_six, more, decoded, listed, characters_from, ReadsText}
use Rattle.utf8_own_characters.proofs.Tests.{and_first, and_second, lt_so, lt_not}

-- ---- a byte by its first bits

shape : Bool → Bool → Bool → Bool → Bool → Part → ℕ → Decoded
shape x y z v w p b =
    if x then record { part = none; character = Some b } else
    if y then more p b else
    if z then going (b % 32) 1 else
    if v then going (b % 16) 2 else
    if w then going (b % 8) 3 else going 0 0

shaped : (p : Part) (b : ℕ) → decoded p b ≡ shape (nat_lt b 128) (nat_lt b 192) (nat_lt b 224) (nat_lt b 240) (nat_lt b 248) p b
unfolding shape
shaped p b = refl

alone : (p : Part) (b : ℕ) → b < 128 → decoded p b ≡ record { part = none; character = Some b }
unfolding shape
alone p b h = shaped p b ∙ ap (λ (x : Bool). shape x (nat_lt b 192) (nat_lt b 224) (nat_lt b 240) (nat_lt b 248) p b) (lt_so b 128 h)

pub tail : (p : Part) (b : ℕ) → 128 ≤ b → b < 192 → decoded p b ≡ more p b
unfolding shape
tail p b low high =
    shaped p b
    ∙ ap (λ (x : Bool). shape x (nat_lt b 192) (nat_lt b 224) (nat_lt b 240) (nat_lt b 248) p b) (lt_not b 128 low)
    ∙ ap (λ (y : Bool). shape false y (nat_lt b 224) (nat_lt b 240) (nat_lt b 248) p b) (lt_so b 192 high)

pub lead_two : (p : Part) (b : ℕ) → 192 ≤ b → b < 224 → decoded p b ≡ going (b % 32) 1
unfolding shape
lead_two p b low high =
    shaped p b
    ∙ ap (λ (x : Bool). shape x (nat_lt b 192) (nat_lt b 224) (nat_lt b 240) (nat_lt b 248) p b) (lt_not b 128 (omega (arith, low)))
    ∙ ap (λ (y : Bool). shape false y (nat_lt b 224) (nat_lt b 240) (nat_lt b 248) p b) (lt_not b 192 low)
    ∙ ap (λ (z : Bool). shape false false z (nat_lt b 240) (nat_lt b 248) p b) (lt_so b 224 high)

pub lead_three : (p : Part) (b : ℕ) → 224 ≤ b → b < 240 → decoded p b ≡ going (b % 16) 2
unfolding shape
lead_three p b low high =
    shaped p b
    ∙ ap (λ (x : Bool). shape x (nat_lt b 192) (nat_lt b 224) (nat_lt b 240) (nat_lt b 248) p b) (lt_not b 128 (omega (arith, low)))
    ∙ ap (λ (y : Bool). shape false y (nat_lt b 224) (nat_lt b 240) (nat_lt b 248) p b) (lt_not b 192 (omega (arith, low)))
    ∙ ap (λ (z : Bool). shape false false z (nat_lt b 240) (nat_lt b 248) p b) (lt_not b 224 low)
    ∙ ap (λ (v : Bool). shape false false false v (nat_lt b 248) p b) (lt_so b 240 high)

lead_four : (p : Part) (b : ℕ) → 240 ≤ b → b < 248 → decoded p b ≡ going (b % 8) 3
unfolding shape
lead_four p b low high =
    shaped p b
    ∙ ap (λ (x : Bool). shape x (nat_lt b 192) (nat_lt b 224) (nat_lt b 240) (nat_lt b 248) p b) (lt_not b 128 (omega (arith, low)))
    ∙ ap (λ (y : Bool). shape false y (nat_lt b 224) (nat_lt b 240) (nat_lt b 248) p b) (lt_not b 192 (omega (arith, low)))
    ∙ ap (λ (z : Bool). shape false false z (nat_lt b 240) (nat_lt b 248) p b) (lt_not b 224 (omega (arith, low)))
    ∙ ap (λ (v : Bool). shape false false false v (nat_lt b 248) p b) (lt_not b 240 low)
    ∙ ap (λ (w : Bool). shape false false false false w p b) (lt_so b 248 high)

-- ---- one after the other

step : (p : Part) (b : ℕ) (bs : List ℕ) (d : Decoded) → decoded p b ≡ d → characters_from p (b ∷ bs) ≡ listed d.character ++ characters_from d.part bs
step p b bs d e = ap (λ (x : Decoded). listed x.character ++ characters_from x.part bs) e

abbrev part : ℕ → ℕ → Part
part bits left = record { bits = bits; left = left }

-- the last byte of a character, whose number this is
last : (bits b c : ℕ) (bs : List ℕ) → 128 ≤ b → b < 192 → bits % 65536 * 64 + b % 64 ≡ c → scalar c ≡ true
    → characters_from (part bits 1) (b ∷ bs) ≡ c ∷ characters_from none bs
last bits b c bs low high e is =
    step (part bits 1) b bs (ends (bits % 65536 * 64 + b % 64)) (tail (part bits 1) b low high)
    ∙ ap (λ (n : ℕ). listed (ends n).character ++ characters_from none bs) e
    ∙ ap (λ (x : Bool). listed (if x then Some c else None) ++ characters_from none bs) is

two : (c : ℕ) (bs : List ℕ) → 128 ≤ c → c < 2048 → scalar c ≡ true → characters_from none ((192 + c / 64) ∷ (128 + c % 64) ∷ bs) ≡ c ∷ characters_from none bs
two c bs low high is =
    let a = 192 + c / 64 in let b = 128 + c % 64 in
    step none a (b ∷ bs) (going (a % 32) 1) (lead_two none a (omega arith) (omega (arith, high)))
    ∙ last (a % 32) b c bs (omega arith) (omega arith) (omega (arith, low, high)) is

three : (c : ℕ) (bs : List ℕ) → 2048 ≤ c → c < 65536 → scalar c ≡ true
    → characters_from none ((224 + c / 4096) ∷ (128 + (c / 64) % 64) ∷ (128 + c % 64) ∷ bs) ≡ c ∷ characters_from none bs
three c bs low high is =
    let a = 224 + c / 4096 in let b = 128 + (c / 64) % 64 in let d = 128 + c % 64 in
    step none a (b ∷ d ∷ bs) (going (a % 16) 2) (lead_three none a (omega arith) (omega (arith, high)))
    ∙ step (part (a % 16) 2) b (d ∷ bs) (going ((a % 16) % 65536 * 64 + b % 64) 1) (tail (part (a % 16) 2) b (omega arith) (omega arith))
    ∙ last ((a % 16) % 65536 * 64 + b % 64) d c bs (omega arith) (omega arith) (omega (arith, low, high)) is

four : (c : ℕ) (bs : List ℕ) → 65536 ≤ c → c < 1114112 → scalar c ≡ true
    → characters_from none ((240 + c / 262144) ∷ (128 + (c / 4096) % 64) ∷ (128 + (c / 64) % 64) ∷ (128 + c % 64) ∷ bs) ≡ c ∷ characters_from none bs
four c bs low high is =
    let a = 240 + c / 262144 in let b = 128 + (c / 4096) % 64 in let d = 128 + (c / 64) % 64 in let f = 128 + c % 64 in
    let g = (a % 8) % 65536 * 64 + b % 64 in
    let h = g % 65536 * 64 + d % 64 in
    step none a (b ∷ d ∷ f ∷ bs) (going (a % 8) 3) (lead_four none a (omega arith) (omega (arith, high)))
    ∙ step (part (a % 8) 3) b (d ∷ f ∷ bs) (going g 2) (tail (part (a % 8) 3) b (omega arith) (omega arith))
    ∙ step (part g 2) d (f ∷ bs) (going h 1) (tail (part g 2) d (omega arith) (omega arith))
    ∙ last h f c bs (omega arith) (omega arith) (omega (arith, low, high)) is

-- ---- a character, and all

below : (c : ℕ) → scalar c ≡ true → c < 1114112
below c is = elim (scalar_cases c is) [ inl l ↦ omega (arith, l) | inr l ↦ l.1 ]

read_by : (x y z : Bool) (c : ℕ) (bs : List ℕ) → nat_lt c 128 ≡ x → nat_lt c 2048 ≡ y → nat_lt c 65536 ≡ z → scalar c ≡ true
    → characters_from none ((if x then c ∷ [] else (if y then (192 + c / 64) ∷ (128 + c % 64) ∷ [] else
    (if z then (224 + c / 4096) ∷ (128 + (c / 64) % 64) ∷ (128 + c % 64) ∷ [] else
    (240 + c / 262144) ∷ (128 + (c / 4096) % 64) ∷ (128 + (c / 64) % 64) ∷ (128 + c % 64) ∷ []))) ++ bs) ≡ c ∷ characters_from none bs
read_by true y z c bs p q s is = step none c bs (record { part = none; character = Some c }) (alone none c (ltb-true c 128 p))
read_by false true z c bs p q s is = two c bs (ltb-false c 128 p) (ltb-true c 2048 q) is
read_by false false true c bs p q s is = three c bs (ltb-false c 2048 q) (ltb-true c 65536 s) is
read_by false false false c bs p q s is = four c bs (ltb-false c 65536 s) (below c is) is

read_one : (c : ℕ) (bs : List ℕ) → scalar c ≡ true → characters_from none (encode_utf8 c ++ bs) ≡ c ∷ characters_from none bs
unfolding encode_utf8
read_one c bs is = read_by (nat_lt c 128) (nat_lt c 2048) (nat_lt c 65536) c bs refl refl refl is

pub reads_text : ReadsText
reads_text [] is = refl
reads_text (c ∷ cs) is =
    read_one c (encode_utf8_all cs) (and_first (scalar c) (scalars cs) is)
    ∙ ap {B = List ℕ} (λ (z : List ℕ). c ∷ z) (reads_text cs (and_second (scalar c) (scalars cs) is))

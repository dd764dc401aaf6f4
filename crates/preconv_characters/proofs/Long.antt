-- A character of three bytes beyond the signs that print nothing: it goes out as these bytes.
use lib.Utf8.{scalar, low_scalar}
use Rattle.std.proofs.Common.{◌≡◌, ℕ, ◌+◌, ◌/◌, ◌%◌, ◌<◌, ◌≤◌, List, [], ◌∷◌, Bool, true, false, ◌&&◌, ◌||◌, ◌==◌, nat_lt, nat_le, if◌then◌else◌, inl, inr, refl, sym, ◌∙◌, ap, arith}
use Rattle.std.proofs.lemmas.Bool.{cases_lt, le-ltb, le-leb, lt-ltb}
use Rattle.std.proofs.lemmas.Bool.Decides.{nat_tests}
use Rattle.std.specs.Char.{encode_utf8}
use Rattle.preconv_characters.specs.Likeness.{cut, likeness}
use Rattle.preconv_characters.specs.Saying.{all_sent}
use Rattle.preconv_characters.specs.Targets.{is_long, is_utf8, itself, shown}
use Rattle.preconv_characters.specs.declared.target.Target.{Target}
use Rattle.preconv_characters.proofs.Itself.{shown_is}
use Rattle.preconv_characters.proofs.SentWhole.{itself-sent}

pub record Long (c : ℕ) : Type 0 where
  pub low : 0x2070 ≤ c
  pub high : c ≤ 0xFFFF
  pub whole : scalar c ≡ true

low_of : (c : ℕ) → is_long c ≡ true → 0x2070 ≤ c
low_of c e = grind (arith, nat_tests)

high_of : (c : ℕ) → is_long c ≡ true → c ≤ 0xFFFF
high_of c e = grind (arith, nat_tests)

upper_of : (c : ℕ) → is_long c ≡ true → 0xD800 ≤ c → 0xE000 ≤ c
upper_of c e l = grind (arith, nat_tests)

high_scalar : (c : ℕ) → 57344 ≤ c → c < 1114112 → scalar c ≡ true
high_scalar c l h = rw (le-ltb c 55296 (omega (arith, l)), le-leb 57344 c l, lt-ltb c 1114112 h) refl

whole_of : (c : ℕ) → is_long c ≡ true → scalar c ≡ true
whole_of c e =
    let high = high_of c e in
    elim (cases_lt c 55296) [ inl a ↦ low_scalar c a | inr a ↦ high_scalar c (upper_of c e a) (omega (arith, high)) ]

long_is : (c : ℕ) → is_long c ≡ true → Long c
long_is c e = record { low = low_of c e; high = high_of c e; whole = whole_of c e }

-- its three bytes
abbrev pub three : ℕ → List ℕ
three c = (224 + c / 4096) ∷ (128 + (c / 64) % 64) ∷ (128 + c % 64) ∷ []

encoded : (c : ℕ) → 0x2070 ≤ c → c ≤ 0xFFFF → encode_utf8 c ≡ three c
unfolding encode_utf8
encoded c l h = rw (le-ltb c 128 (omega (arith, l)), le-ltb c 2048 (omega (arith, l)), lt-ltb c 65536 (omega (arith, h))) refl

pub long_bytes : (c : ℕ) → is_long c ≡ true → three c ≡ itself c
long_bytes c e =
    let long = long_is c e in
    sym (encoded c long.low long.high) ∙ ap encode_utf8 (shown_is c c long.whole refl)

no_cut : (c : ℕ) → is_long c ≡ true → (c == cut) ≡ false
no_cut c e = grind (arith, nat_tests)

pub long-sent : (t : Target) (c : ℕ) → is_long c ≡ true → is_utf8 t ≡ true → itself c ≡ all_sent t (likeness t c)
long-sent t c e u = let low = low_of c e in itself-sent t c (omega (arith, low)) (no_cut c e) u

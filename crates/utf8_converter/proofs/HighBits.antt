-- The highest bits of eight bytes, in a number.
use Rattle.std.proofs.Common.{◌≡◌, ℕ, zero, suc, ◌+◌, ◌*◌, ◌/◌, ◌%◌, ◌<◌, ◌∙◌, List, get_or, true, nat_lt, nat_eq, bit_and, w64, refl, sym, ap, arith}
use Rattle.std.specs.Prelude.{min}
use Rattle.std.specs.Int.{bit_at, from_le_bytes}
use Rattle.std.proofs.lemmas.Bool.Decides.{nat_tests}
use Rattle.std.proofs.lemmas.Nat.Bits.{bit_at_and, bit_at-zero}
use Rattle.utf8_converter.specs.Spelling.{AreLow}

min_none : (x : ℕ) → min x 1 ≡ 0 → x ≡ 0
min_none x p = omega (arith, p)

unset : (n i : ℕ) → bit_and n 0x8080808080808080 ≡ 0 → bit_at 0x8080808080808080 i ≡ 1 → bit_at n i ≡ 0
unset n i none one =
    let both : bit_at (bit_and n 0x8080808080808080) i ≡ min (bit_at n i) (bit_at 0x8080808080808080 i) = bit_at_and n 0x8080808080808080 i in
    let no : bit_at (bit_and n 0x8080808080808080) i ≡ 0 = ap (λ (x : ℕ). bit_at x i) none ∙ bit_at-zero i in
    min_none (bit_at n i) (ap (λ (x : ℕ). min (bit_at n i) x) (sym one) ∙ sym both ∙ no)

is_low : (b : ℕ) → b < 128 → nat_lt b 128 ≡ true
is_low b p = grind (arith, nat_tests)

pub no_bits : (n : ℕ) → nat_eq n 0 ≡ true → n ≡ 0
no_bits n p = grind (arith, nat_tests)

-- a byte whose bit is unset, among those below and above
byte_0 : (n b above : ℕ) → n ≡ b + above * 256 → b < 256 → n / 128 % 2 ≡ 0 → b < 128
byte_0 n b above e q r = omega (arith, e, q, r)

byte_1 : (n low b above : ℕ) → n ≡ low + b * 256 + above * 65536 → low < 256 → b < 256 → n / 32768 % 2 ≡ 0 → b < 128
byte_1 n low b above e p q r = omega (arith, e, p, q, r)

byte_2 : (n low b above : ℕ) → n ≡ low + b * 65536 + above * 16777216 → low < 65536 → b < 256 → n / 8388608 % 2 ≡ 0 → b < 128
byte_2 n low b above e p q r = omega (arith, e, p, q, r)

byte_3 : (n low b above : ℕ) → n ≡ low + b * 16777216 + above * 4294967296 → low < 16777216 → b < 256 → n / 2147483648 % 2 ≡ 0 → b < 128
byte_3 n low b above e p q r = omega (arith, e, p, q, r)

byte_4 : (n low b above : ℕ) → n ≡ low + b * 4294967296 + above * 1099511627776 → low < 4294967296 → b < 256 → n / 549755813888 % 2 ≡ 0 → b < 128
byte_4 n low b above e p q r = omega (arith, e, p, q, r)

byte_5 : (n low b above : ℕ) → n ≡ low + b * 1099511627776 + above * 281474976710656 → low < 1099511627776 → b < 256 → n / 140737488355328 % 2 ≡ 0 → b < 128
byte_5 n low b above e p q r = omega (arith, e, p, q, r)

byte_6 : (n low b above : ℕ) → n ≡ low + b * 281474976710656 + above * 72057594037927936 → low < 281474976710656 → b < 256 → n / 36028797018963968 % 2 ≡ 0 → b < 128
byte_6 n low b above e p q r = omega (arith, e, p, q, r)

byte_7 : (n low b : ℕ) → n ≡ low + b * 72057594037927936 → low < 72057594037927936 → b < 256 → n / 9223372036854775808 % 2 ≡ 0 → b < 128
byte_7 n low b e p q r = omega (arith, e, p, q, r)

-- each of eight
record Low (a b c d e f g h : ℕ) : Type 0 where
  at_0 : a < 128
  at_1 : b < 128
  at_2 : c < 128
  at_3 : d < 128
  at_4 : e < 128
  at_5 : f < 128
  at_6 : g < 128
  at_7 : h < 128

eight : (a b c d e f g h n : ℕ) → a < 256 → b < 256 → c < 256 → d < 256 → e < 256 → f < 256 → g < 256 → h < 256 → n ≡ a + b * 256 + c * 65536 + d * 16777216 + e * 4294967296 + f * 1099511627776 + g * 281474976710656 + h * 72057594037927936 → bit_and n 0x8080808080808080 ≡ 0 → Low a b c d e f g h
eight a b c d e f g h n a' b' c' d' e' f' g' h' is none = record {
  at_0 = byte_0 n a (b + c * 256 + d * 65536 + e * 16777216 + f * 4294967296 + g * 1099511627776 + h * 281474976710656) (omega arith) a' (unset n 7 none refl);
  at_1 = byte_1 n (a) b (c + d * 256 + e * 65536 + f * 16777216 + g * 4294967296 + h * 1099511627776) (omega arith) (omega arith) b' (unset n 15 none refl);
  at_2 = byte_2 n (a + b * 256) c (d + e * 256 + f * 65536 + g * 16777216 + h * 4294967296) (omega arith) (omega arith) c' (unset n 23 none refl);
  at_3 = byte_3 n (a + b * 256 + c * 65536) d (e + f * 256 + g * 65536 + h * 16777216) (omega arith) (omega arith) d' (unset n 31 none refl);
  at_4 = byte_4 n (a + b * 256 + c * 65536 + d * 16777216) e (f + g * 256 + h * 65536) (omega arith) (omega arith) e' (unset n 39 none refl);
  at_5 = byte_5 n (a + b * 256 + c * 65536 + d * 16777216 + e * 4294967296) f (g + h * 256) (omega arith) (omega arith) f' (unset n 47 none refl);
  at_6 = byte_6 n (a + b * 256 + c * 65536 + d * 16777216 + e * 4294967296 + f * 1099511627776) g (h) (omega arith) (omega arith) g' (unset n 55 none refl);
  at_7 = byte_7 n (a + b * 256 + c * 65536 + d * 16777216 + e * 4294967296 + f * 1099511627776 + g * 281474976710656) h (omega arith) (omega arith) h' (unset n 63 none refl);
}

each_of : (bs : List ℕ) → Low (get_or bs 0 0) (get_or bs 1 0) (get_or bs 2 0) (get_or bs 3 0) (get_or bs 4 0) (get_or bs 5 0) (get_or bs 6 0) (get_or bs 7 0) → AreLow 8 bs
each_of bs low zero below = is_low (get_or bs 0 0) low.at_0
each_of bs low (suc zero) below = is_low (get_or bs 1 0) low.at_1
each_of bs low (suc (suc zero)) below = is_low (get_or bs 2 0) low.at_2
each_of bs low (suc (suc (suc zero))) below = is_low (get_or bs 3 0) low.at_3
each_of bs low (suc (suc (suc (suc zero)))) below = is_low (get_or bs 4 0) low.at_4
each_of bs low (suc (suc (suc (suc (suc zero))))) below = is_low (get_or bs 5 0) low.at_5
each_of bs low (suc (suc (suc (suc (suc (suc zero)))))) below = is_low (get_or bs 6 0) low.at_6
each_of bs low (suc (suc (suc (suc (suc (suc (suc zero))))))) below = is_low (get_or bs 7 0) low.at_7
each_of bs low (suc (suc (suc (suc (suc (suc (suc (suc k)))))))) below = absurd (omega (arith, below))

-- a number of these bytes, of which none has its highest bit
pub are-low : (bs : List ℕ) (n : ℕ) → ((i : ℕ) → get_or bs i 0 < 256) → n ≡ from_le_bytes w64 bs → bit_and n 0x8080808080808080 ≡ 0 → AreLow 8 bs
are-low bs n small is none =
    each_of bs (eight (get_or bs 0 0) (get_or bs 1 0) (get_or bs 2 0) (get_or bs 3 0) (get_or bs 4 0) (get_or bs 5 0) (get_or bs 6 0) (get_or bs 7 0) n (small 0) (small 1) (small 2) (small 3) (small 4) (small 5) (small 6) (small 7) is none)

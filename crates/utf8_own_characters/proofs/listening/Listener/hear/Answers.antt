use Rattle.std.proofs.Common.{◌≡◌, ℕ, ◌<◌, Bool, true, false, nat_le, nat_lt, if◌then◌else◌, None, Some, refl, sym, ◌∙◌, ap, arith}
use Rattle.std.proofs.lemmas.Bool.Decides.{nat_tests}
use Rattle.unicode_width.specs.Width.{alone, char_width}
use Rattle.utf8_own_characters.specs.declared.listening.Listener.{Listener}
use Rattle.utf8_own_characters.specs.Cluster.{is_mark, is_zero}
use Rattle.utf8_own_characters.specs.Listening.{going, hear, hear_letter, hear_mark, is_unseen}
use Rattle.utf8_own_characters.proofs.listening.Listener.hear.Goals as goal

low_unseen : (c : ℕ) → c < 128 → is_unseen c ≡ false
low_unseen c l = grind (arith, nat_tests)

low_test : (c : ℕ) → c < 128 → nat_le 0xA0 c ≡ false
low_test c l = grind (arith, nat_tests)

width_by : (x y z : Bool) (w : ℕ) → z ≡ false → is_zero (if x then (if y then Some 1 else None) else (if z then Some w else None)) ≡ false
width_by true true z w e = refl
width_by true false z w e = refl
width_by false y false w e = refl
width_by false y true w e = absurd (let no : true ≡ false = e in cc)

low_mark : (c : ℕ) → c < 128 → is_mark c ≡ false
unfolding char_width
low_mark c l = width_by (nat_lt c 0x7F) (nat_le 0x20 c) (nat_le 0xA0 c) (alone false c).0 (low_test c l)

letter_heard : (l : Listener) (c : ℕ) → c < 128 → hear_letter l c ≡ hear l c
letter_heard l c p =
    sym (ap (λ (x : Bool). if x then going l l.held else (if is_mark c then hear_mark l c else hear_letter l c)) (low_unseen c p)
    ∙ ap (λ (x : Bool). if x then hear_mark l c else hear_letter l c) (low_mark c p))

pub returns-then-from-lt128 : goal.returns-then-from-lt128
returns-then-from-lt128 c =
    c.hear_letter.ensures ∙ letter_heard c.args.self c.args.character (omega (arith, c.if-from-lt128.true, c.from.ensures))

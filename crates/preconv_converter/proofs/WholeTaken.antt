-- A character of two or three bytes is taken whole.
use Rattle.std.proofs.Common.{◌≡◌, ℕ, ◌<◌, ◌≤◌, List, [], ◌∷◌, ◌++◌, length, take, get_or, Bool, true, false, nat_lt, ◌&&◌, if◌then◌else◌, refl, sym, ◌∙◌, ap, arith}
use Rattle.std.proofs.lemmas.Bool.{lt-ltb, le-ltb}
use Rattle.std.proofs.lemmas.Bool.Decides.{nat_tests}
use Rattle.preconv_lines.specs.declared.half.Coming.TheVariants.{Wide}
use Rattle.preconv_converter.specs.declared.reader.Pending.TheVariants.{Nothing, One, Two, Three}
use Rattle.preconv_converter.specs.declared.reader.Reader.{Reader}
use Rattle.preconv_lines.specs.Offering.{is_raw}
use Rattle.preconv_characters.specs.Numbers.{is_within}
use Rattle.preconv_converter.specs.Reading.{Takes, Emitted, apart, fed, heard, is_second, is_tail, is_three}
use Rattle.preconv_converter.specs.Reading.{is_two, pending_with, three_code, emitted, two_code, whole}
use Rattle.preconv_converter.proofs.Characters.{cooked_read, last, lead, silent}
use Rattle.preconv_converter.proofs.Plain.{and-first, and-second, none_heard}

-- ---- numbers

pub record Within (first end b : ℕ) : Type 0 where
  pub low : first ≤ b
  pub high : b ≤ end

pub within : (first end b : ℕ) → is_within first end b ≡ true → Within first end b
within first end b e = record { low = grind (arith, nat_tests); high = grind (arith, nat_tests) }

tail_is_second : (a b : ℕ) → a < 224 → is_tail b ≡ true → is_second a b ≡ true
tail_is_second a b l e = grind (arith, nat_tests)

-- ---- their bytes

two_fed : (a b : ℕ) (r : Reader) → is_two a b ≡ true → is_raw r.half.line ≡ false → r.pending ≡ Nothing → fed r (a ∷ b ∷ []) ≡ heard (Wide (two_code a b)) r
two_fed a b r two cooked none =
    let s = pending_with (One a) r in
    let first = within 194 223 a (and-first (is_within 194 223 a) (is_tail b) two) in
    let low = first.low in
    let high = first.high in
    silent a r s (b ∷ []) (lead a r low (omega (arith, high)) cooked none)
    ∙ last b s (heard (Wide (two_code a b)) r)
    (cooked_read b s cooked
    ∙ ap (λ (x : Bool). if x then (if nat_lt a 224 then whole (two_code a b) s else emitted (pending_with (Two a b) s) [] 0) else apart b s)
    (tail_is_second a b (omega (arith, high)) (and-second (is_within 194 223 a) (is_tail b) two))
    ∙ ap (λ (x : Bool). if x then whole (two_code a b) s else emitted (pending_with (Two a b) s) [] 0) (lt-ltb a 224 (omega (arith, high)))
    ∙ ap (λ (u : Reader). heard (Wide (two_code a b)) u) (none_heard r.pending r none refl))

pub three_fed : (a b d : ℕ) (r : Reader) → is_three a b d ≡ true → is_raw r.half.line ≡ false → r.pending ≡ Nothing → fed r (a ∷ b ∷ d ∷ []) ≡ heard (Wide (three_code a b d)) r
three_fed a b d r three cooked none =
    let s = pending_with (One a) r in
    let u = pending_with (Two a b) r in
    let both = and-first (is_within 224 239 a && is_second a b) (is_tail d) three in
    let first = within 224 239 a (and-first (is_within 224 239 a) (is_second a b) both) in
    let low = first.low in
    let high = first.high in
    silent a r s (b ∷ d ∷ []) (lead a r (omega (arith, low)) (omega (arith, high)) cooked none)
    ∙ silent b s u (d ∷ [])
    (cooked_read b s cooked
    ∙ ap (λ (x : Bool). if x then (if nat_lt a 224 then whole (two_code a b) s else emitted (pending_with (Two a b) s) [] 0) else apart b s)
    (and-second (is_within 224 239 a) (is_second a b) both)
    ∙ ap (λ (x : Bool). if x then whole (two_code a b) s else emitted (pending_with (Two a b) s) [] 0) (le-ltb a 224 low))
    ∙ last d u (heard (Wide (three_code a b d)) r)
    (cooked_read d u cooked
    ∙ ap (λ (x : Bool). if x then (if nat_lt a 240 then whole (three_code a b d) u else emitted (pending_with (Three a b d) u) [] 0) else apart d u)
    (and-second (is_within 224 239 a && is_second a b) (is_tail d) three)
    ∙ ap (λ (x : Bool). if x then whole (three_code a b d) u else emitted (pending_with (Three a b d) u) [] 0) (lt-ltb a 240 (omega (arith, high)))
    ∙ ap (λ (v : Reader). heard (Wide (three_code a b d)) v) (none_heard r.pending r none refl))

-- ---- the first of some bytes

prefix_two : (bs : List ℕ) → 2 ≤ length bs → take 2 bs ≡ get_or bs 0 0 ∷ get_or bs 1 0 ∷ []
prefix_two [] l = absurd (omega arith)
prefix_two (a ∷ []) l = absurd (omega arith)
prefix_two (a ∷ b ∷ bs) l = refl

prefix_three : (bs : List ℕ) → 3 ≤ length bs → take 3 bs ≡ get_or bs 0 0 ∷ get_or bs 1 0 ∷ get_or bs 2 0 ∷ []
prefix_three [] l = absurd (omega arith)
prefix_three (a ∷ []) l = absurd (omega arith)
prefix_three (a ∷ b ∷ []) l = absurd (omega arith)
prefix_three (a ∷ b ∷ c ∷ bs) l = refl

taken_so : (n : ℕ) (bs : List ℕ) (r s : Reader) (p left : List ℕ) (steps : ℕ) (t : Emitted) → fed r (take n bs) ≡ t
    → s ≡ t.reader → left ≡ p ++ t.bytes → steps ≡ t.steps → Takes n bs r s p left steps
taken_so n bs r s p left steps t e reader out made = record {
  reader = reader ∙ sym (ap (λ (x : Emitted). x.reader) e);
  out = out ∙ ap (λ (x : Emitted). p ++ x.bytes) (sym e);
  made = made ∙ sym (ap (λ (x : Emitted). x.steps) e);
}

pub Takes-two : (bs : List ℕ) (r s : Reader) (p left : List ℕ) (steps : ℕ) → 2 ≤ length bs → r.pending ≡ Nothing → is_raw r.half.line ≡ false
    → is_two (get_or bs 0 0) (get_or bs 1 0) ≡ true
    → s ≡ (heard (Wide (two_code (get_or bs 0 0) (get_or bs 1 0))) r).reader → left ≡ p ++ (heard (Wide (two_code (get_or bs 0 0) (get_or bs 1 0))) r).bytes
    → steps ≡ (heard (Wide (two_code (get_or bs 0 0) (get_or bs 1 0))) r).steps → Takes 2 bs r s p left steps
Takes-two bs r s p left steps l none cooked two reader out made =
    let a = get_or bs 0 0 in
    let b = get_or bs 1 0 in
    taken_so 2 bs r s p left steps (heard (Wide (two_code a b)) r) (ap (fed r) (prefix_two bs l) ∙ two_fed a b r two cooked none) reader out made

pub Takes-three : (bs : List ℕ) (r s : Reader) (p left : List ℕ) (steps : ℕ) → 3 ≤ length bs → r.pending ≡ Nothing → is_raw r.half.line ≡ false
    → is_three (get_or bs 0 0) (get_or bs 1 0) (get_or bs 2 0) ≡ true
    → s ≡ (heard (Wide (three_code (get_or bs 0 0) (get_or bs 1 0) (get_or bs 2 0))) r).reader
    → left ≡ p ++ (heard (Wide (three_code (get_or bs 0 0) (get_or bs 1 0) (get_or bs 2 0))) r).bytes
    → steps ≡ (heard (Wide (three_code (get_or bs 0 0) (get_or bs 1 0) (get_or bs 2 0))) r).steps → Takes 3 bs r s p left steps
Takes-three bs r s p left steps l none cooked three reader out made =
    let a = get_or bs 0 0 in
    let b = get_or bs 1 0 in
    let d = get_or bs 2 0 in
    taken_so 3 bs r s p left steps (heard (Wide (three_code a b d)) r) (ap (fed r) (prefix_three bs l) ∙ three_fed a b d r three cooked none) reader out made

-- What is read of a text, as it is scanned: how far the answer is known, and that it is the one computed.
use Rattle.std.proofs.Common.{◌≡◌, ℕ, suc, ◌+◌, ◌<◌, ◌≤◌, false, Option, Some, None, List, ◌∷◌, length, drop, get_or, ℤ, unsigned_abs, arith, refl, ap, sym, subst, ◌∙◌}
use Rattle.std.specs.Prelude.{IfSome}
use Rattle.std.proofs.Math.Seq.{drop-cons}
use Rattle.std.proofs.lemmas.Bool.Decides.{nat_tests}
use Rattle.nr_units.specs.Expression.{IsAnswer, Longest, Nothing as NoPrefix, TooDeep as Deep}
use Rattle.nr_units.specs.Scan.{Scan, symbol_of, after_symbol, start, whole_value}
use Rattle.nr_units.specs.Scanner.{read_at, noted, Steps}
use Rattle.nr_units.specs.LongestPrefix.{is_one_too_many, read_step, read_symbol, read_on, read_of, nothing_read}
use Rattle.nr_units.specs.declared.symbols.Symbol.{Symbol}
use Rattle.nr_units.specs.declared.symbols.Symbol.TheVariants.{Digit, Point, Letter, Mark, Bar, Open, Close, Blank}
use Rattle.nr_units.specs.declared.scanner.Step.TheVariants.{Taken}
use Rattle.nr_units.specs.declared.expression.Ctx.{Ctx}
use Rattle.nr_units.specs.declared.expression.Read.{Read}
use Rattle.nr_units.proofs.Reading.{Along, begins, read_at-noted}
use Rattle.nr_units.proofs.Values.{IsInRange, expression_in_range}

pub record Reads (c : Ctx) (text : List ℕ) (i : ℕ) (s : Scan) (longest : Read) : Type 0 where
  pub along : Along c text i s longest
  pub computed : read_of c text ≡ read_on c s i longest (drop i text)

-- a step that is taken is none too many
is_one_too_many-taken : (depth : ℕ) (y : Symbol) → (y ≡ Open → depth < 64) → is_one_too_many depth y ≡ false
is_one_too_many-taken depth (Digit d) h = refl
is_one_too_many-taken depth Point h = refl
is_one_too_many-taken depth (Letter scale) h = refl
is_one_too_many-taken depth (Mark o) h = refl
is_one_too_many-taken depth Bar h = refl
is_one_too_many-taken depth Open h = let below = h refl in grind (arith, nat_tests)
is_one_too_many-taken depth Close h = refl
is_one_too_many-taken depth Blank h = refl

read_on-some : (c : Ctx) (s : Scan) (i b : ℕ) (longest : Read) (bs : List ℕ) (y : Symbol) (t : Option Scan) → symbol_of b ≡ Some y → after_symbol c s y ≡ t → read_on c s i longest (b ∷ bs) ≡ read_step (λ t l. read_on c t (i + 1) l bs) (read_at (whole_value c s) i longest) (is_one_too_many (length s.outer) y) i (noted (whole_value c s) y i longest) t
read_on-some c s i b longest bs y t h k =
    let on : Scan → Read → Read = λ t l. read_on c t (i + 1) l bs in
    ap (read_symbol on c s i longest) h
    ∙ ap (read_step on (read_at (whole_value c s) i longest) (is_one_too_many (length s.outer) y) i (noted (whole_value c s) y i longest)) k

-- ---- the loop's steps

pub computed_more : (c : Ctx) (text : List ℕ) (i : ℕ) (s t : Scan) (longest : Read) (y : Symbol) → i < length text → symbol_of (get_or text i 0) ≡ Some y → Steps c s y Taken t → read_of c text ≡ read_on c s i longest (drop i text) → read_of c text ≡ read_on c t (i + 1) (noted (whole_value c s) y i longest) (drop (i + 1) text)
computed_more c text i s t longest y inside is step known =
    let on : Scan → Read → Read = λ t l. read_on c t (i + 1) l (drop (suc i) text) in
    known
    ∙ ap (read_on c s i longest) (drop-cons text i 0 inside)
    ∙ read_on-some c s i (get_or text i 0) longest (drop (suc i) text) y (Some t) is step.0
    ∙ ap (λ deep. read_step on (read_at (whole_value c s) i longest) deep i (noted (whole_value c s) y i longest) (Some t)) (is_one_too_many-taken (length s.outer) y step.1)
    ∙ ap (λ n. read_on c t (i + 1) (noted (whole_value c s) y i longest) (drop n text)) (let e : suc i ≡ i + 1 = omega arith in e)

pub computed_stuck : (c : Ctx) (text : List ℕ) (i : ℕ) (s : Scan) (longest : Read) (y : Symbol) → i < length text → symbol_of (get_or text i 0) ≡ Some y → after_symbol c s y ≡ None → read_of c text ≡ read_on c s i longest (drop i text) → read_of c text ≡ read_at (whole_value c s) i longest
computed_stuck c text i s longest y inside is step known =
    known ∙ ap (read_on c s i longest) (drop-cons text i 0 inside) ∙ read_on-some c s i (get_or text i 0) longest (drop (suc i) text) y None is step

-- where no expression goes on, what is read is what it was before the last byte
pub stuck_read : (c : Ctx) (s t : Scan) (y : Symbol) (i : ℕ) (longest before read : Read) → read ≡ read_at (whole_value c t) i before → t ≡ s → before ≡ noted (whole_value c s) y i longest → read ≡ read_at (whole_value c s) i longest
stuck_read c s t y i longest before read is same noted_before =
    is
    ∙ ap (λ x. read_at (whole_value c x) i before) same
    ∙ ap (read_at (whole_value c s) i) noted_before
    ∙ read_at-noted (whole_value c s) y i longest

-- ---- the value is in range

pub if_in_range : (v : Option ℤ) → IsInRange v → IfSome v (λ n. unsigned_abs n ≤ 2147483647)
if_in_range None h = tt
if_in_range (Some n) h = h

pub answer_in_range : (c : Ctx) (text : List ℕ) (read : Read) → IsAnswer c text read → IfSome read.value (λ n. unsigned_abs n ≤ 2147483647)
answer_in_range c text read (Longest shallow e l) = if_in_range read.value (subst IsInRange (sym l.value) (expression_in_range c e))
answer_in_range c text read (NoPrefix shallow none value used) = if_in_range read.value (subst IsInRange (sym value) tt)
answer_in_range c text read (Deep here first value) = if_in_range read.value (subst IsInRange (sym value) tt)

-- ---- the first byte

pub reads_first : (c : Ctx) (text : List ℕ) → Reads c text 0 start nothing_read
unfolding read_of
reads_first c text = record { along = begins c text; computed = refl }

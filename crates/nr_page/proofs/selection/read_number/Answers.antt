use Rattle.std.proofs.lemmas.Grind.{common_steps}
use Rattle.std.proofs.Common.{◌≡◌, ℕ, ◌+◌, ◌<◌, ◌≤◌, length, get_or, take, drop, sym, ap, ◌∙◌, arith}
use Rattle.std.specs.Char.{digit_value}
use Rattle.std.specs.Str.Parse.{AllDigits, digits_value}
use Rattle.std.proofs.lemmas.Str.{digit_value_digit}
use Rattle.std.proofs.lemmas.Int.Digits.{digits_more, digits_value_more}
use Rattle.std.proofs.lemmas.List.{take-append-drop, take_rest}
use Rattle.nr_page.proofs.DecimalText.{one_cut, digit_value_outside, BeginsNoDigit-drop, digits_value_after-prefix}
use Rattle.nr_page.proofs.selection.read_number.Goals as goal
use Rattle.nr_page.proofs.selection.read_number.Goals.{else-loop-byte-test, then-loop-byte-test+then-not-is_ascii_digit}

pub loop-byte-preserved : goal.loop-byte-preserved
loop-byte-preserved c =
    let text = c.args.text.now in
    let i = c.loop-byte.byte-index in
    let within : i < length text = c.loop-byte-test.true in
    let digit : digit_value (get_or text i 0) + 48 ≡ get_or text i 0 = digit_value_digit (get_or text i 0) c.if-not-is_ascii_digit.ensures.cases in
    record {
      length_is = omega arith;
      digits = digits_more 10 text i within c.loop-byte.invariant.digits c.if-not-is_ascii_digit.ensures.bound;
      value_is = omega (arith, digits_value_more 10 text i within, digit, c.loop-byte.invariant.value_is);
      small = c.if-value-gt-LARGEST_NUMBER.false;
    }

pub returns-then-value-gt-LARGEST_NUMBER-clause-read : goal.returns-then-value-gt-LARGEST_NUMBER-clause-read
returns-then-value-gt-LARGEST_NUMBER-clause-read c n prefix after writes ends is =
    let text = c.args.text.now in
    let i = c.loop-byte.byte-index in
    let within : i < length text = c.loop-byte-test.true in
    let digit : digit_value (get_or text i 0) + 48 ≡ get_or text i 0 = digit_value_digit (get_or text i 0) c.if-not-is_ascii_digit.ensures.cases in
    let digits : AllDigits 10 (take (i + 1) text) = digits_more 10 text i within c.loop-byte.invariant.digits c.if-not-is_ascii_digit.ensures.bound in
    let more = digits_value_after-prefix 0 (take (i + 1) text) prefix (drop (i + 1) text) after digits writes.digits.1 ends (take-append-drop (i + 1) text ∙ is) in
    omega (arith, digits_value_more 10 text i within, digit, c.loop-byte.invariant.value_is, more, writes.value, writes.in_range)

pub returns-clause-read : goal.returns-clause-read
returns-clause-read c n prefix after writes ends is =
    let text = c.args.text.now in
    let i = c.loop-byte.byte-index in
    let stops : i < length text → 10 ≤ digit_value (get_or text i 0) =
    λ within. elim c.loop-byte-test.branch [
      | else-loop-byte-test w ↦ absurd (omega arith)
      | then-loop-byte-test+then-not-is_ascii_digit w ↦ digit_value_outside (get_or text i 0) w.if-not-is_ascii_digit.ensures.cases
    ] in
    let cut = one_cut (take i text) prefix (drop i text) after c.loop-byte.invariant.digits writes.digits.1 (BeginsNoDigit-drop text i stops) ends (take-append-drop i text ∙ is) in (
      c.loop-byte.invariant.value_is ∙ (ap (digits_value 10) cut.0 ∙ sym writes.value),
      take_rest text c.loop-byte.len ∙ (ap (λ (k : ℕ). drop k text) c.loop-byte.invariant.length_is ∙ cut.1),
    )

pub returns-then-len-eq0-clause-read : goal.returns-then-len-eq0-clause-read
returns-then-len-eq0-clause-read c = grind (arith, common_steps)

pub returns-clause-found : goal.returns-clause-found
returns-clause-found c = grind (arith, common_steps)

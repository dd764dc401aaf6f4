use Prim.Native.Char.{code}
use Rattle.std.proofs.Common.{◌≡◌, ℕ, ◌+◌, ◌-◌, ◌<◌, List, length, get_or, take, drop, true, sym, ◌∙◌, ap, subst, arith, length-drop}
use Rattle.std.specs.List.{prefix_len}
use Rattle.std.proofs.lemmas.List.{take_all}
use Rattle.preconv_converter.specs.Runs.{byte_before, goes_on_text, goes_on_after, run_after}
use Rattle.preconv_converter.proofs.TextRuns.{run_prefix, run_on, run_stops}
use Rattle.preconv_converter.proofs.runs.text_run.Goals as goal

pub loop-more-init : goal.loop-more-init
loop-more-init c =
    let bs = c.args.bytes.now in
    let P : ℕ → Type 0 = λ k. run_after (code ".") bs ≡ k + run_after (byte_before bs k) (drop k bs) in
    record { within = c.plain_run-run.ensures.within; run = subst P (sym c.plain_run-run.ensures.len) (run_prefix (code ".") bs) }

pub loop-more-preserved : goal.loop-more-preserved
loop-more-preserved c =
    let bs = c.args.bytes.now in
    let n = c.loop-more.run in
    let k = c.plain_run-more.result in
    let goes : (n < length bs) × (goes_on_after (byte_before bs n) (get_or bs n 0) ≡ true) = c.goes_on_at.ensures.goes c.loop-more-test.true in
    let rest : take (length bs - (n + 1)) (drop (n + 1) bs) ≡ drop (n + 1) bs =
    take_all (length bs - (n + 1)) (drop (n + 1) bs) (omega (arith, length-drop (n + 1) bs)) in
    let is : k ≡ prefix_len goes_on_text (drop (n + 1) bs) = c.plain_run-more.ensures.len ∙ ap (λ (xs : List ℕ). prefix_len goes_on_text xs) rest in
    let step : run_after (byte_before bs n) (drop n bs) ≡ 1 + k + run_after (byte_before bs (n + (1 + k))) (drop (n + (1 + k)) bs) =
    run_on (code ".") bs n k goes.0 goes.1 is in
    let cut : length (take (length bs - (n + 1)) (drop (n + 1) bs)) ≡ length bs - (n + 1) =
    ap (λ (xs : List ℕ). length xs) rest ∙ length-drop (n + 1) bs in
    record { within = omega (arith, cut, c.plain_run-more.ensures.within); run = omega (arith, c.loop-more.invariant.run, step) }

pub returns-clause-len : goal.returns-clause-len
returns-clause-len c =
    let bs = c.args.bytes.now in
    let n = c.loop-more.run in
    let last : run_after (byte_before bs n) (drop n bs) ≡ 0 = run_stops (code ".") bs n (c.goes_on_at.ensures.ends c.loop-more-test.false) in
    omega (arith, c.loop-more.invariant.run, last)

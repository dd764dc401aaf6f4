use Prim.Native.Char.{code}
use Rattle.std.proofs.Common.{arith, ◌≡◌, ℕ, ◌≤◌, ◌^◌, ◌<◌, ◌++◌, replicate, append_assoc, ap, ◌∙◌, length, min, ◌-◌, length-append, lit<}
use Rattle.std.specs.Fmt.{decimal}
use Rattle.std.proofs.lemmas.Fmt.{length-decimal-le}
use Rattle.std.proofs.lemmas.List.{length-replicate}
use Rattle.nr_units.proofs.Digits.{arabic}
use Rattle.nr_units.proofs.number_text.push_padded.Goals as goal

pub returns-clause-computed : goal.returns-clause-computed
returns-clause-computed c =
    let text : c.as_bytes-digits.result.now ≡ decimal c.args.n = cc in
    let k : c.saturating_sub.result ≡ min 9 c.args.places - length (decimal c.args.n) = omega (arith, ap length text, c.from.ensures) in
    simp append_assoc at (c.push_all.ensures ∙ ap (λ xs. xs ++ c.as_bytes-digits.result.now) c.push_times.ensures ∙ ap (λ ds. (c.args.text.now.items ++ replicate c.saturating_sub.result (code "0")) ++ ds) text)
    ∙ ap (λ m. c.args.text.now.items ++ (replicate m (code "0") ++ decimal c.args.n)) k

pub returns-clause-appends : goal.returns-clause-appends
returns-clause-appends c =
    let text : c.as_bytes-digits.result.now ≡ decimal c.args.n = cc in
    let k : c.saturating_sub.result ≡ min 9 c.args.places - length (decimal c.args.n) = omega (arith, ap length text, c.from.ensures) in
    (replicate c.saturating_sub.result (code "0") ++ decimal c.args.n, simp append_assoc at (c.push_all.ensures ∙ ap (λ xs. xs ++ c.as_bytes-digits.result.now) c.push_times.ensures ∙ ap (λ ds. (c.args.text.now.items ++ replicate c.saturating_sub.result (code "0")) ++ ds) text), arabic c.args.places c.args.n c.saturating_sub.result c.ranges.n.fits k)

pub returns-clause-short : goal.returns-clause-short
returns-clause-short c =
    let text : c.as_bytes-digits.result.now ≡ decimal c.args.n = cc in
    let below : 2 ^ 63 < 10 ^ 19 = lit< tt in
    let range = c.requires.range in
    let few : length (decimal c.args.n) ≤ 19 = length-decimal-le 19 c.args.n (lit< tt) (omega arith) c.ranges.n.fits in
    let digits = ap length text in
    let zeros = ap length c.push_times.ensures ∙ length-append c.args.text.now.items (replicate c.saturating_sub.result (code "0")) in
    let all = ap length c.push_all.ensures ∙ length-append c.push_times.new.text.items c.as_bytes-digits.result.now in
    omega (arith, c.from.ensures, length-replicate {A = ℕ} c.saturating_sub.result (code "0"))

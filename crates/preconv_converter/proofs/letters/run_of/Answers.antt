use Rattle.std.proofs.Common.{◌≡◌, ◌-◌, ◌<◌, List, length, drop, take, ◌∙◌, ap, subst, arith, length-drop, ℕ, false}
use Rattle.std.proofs.lemmas.List.{take_all}
use Rattle.preconv_characters.specs.Marks.{is_closer}
use Rattle.preconv_converter.specs.Letters.{GoOut, last_mark}
use Rattle.preconv_converter.proofs.LetterRuns.{GoOut-more, letter_goes, letter_long}
use Rattle.preconv_converter.proofs.letters.run_of.Goals as goal

pub loop-count-init : goal.loop-count-init
loop-count-init c =
    let bs = c.args.bytes.now in
    record { out = letter_goes bs c.requires; some = omega arith; within = letter_long bs c.requires; quick = omega arith }

pub loop-count-preserved : goal.loop-count-preserved
loop-count-preserved c =
    let bs = c.args.bytes.now in
    let n = c.loop-count.count in
    let m = c.next_len-more.result in
    let some : 0 < m = omega (arith, c.if-more-eq0.false) in
    let rest : take (length bs - n) (drop n bs) ≡ drop n bs = take_all (length bs - n) (drop n bs) (omega (arith, length-drop n bs)) in
    let P : List ℕ → Type 0 = λ xs. GoOut m xs 1 in
    let Q : List ℕ → Type 0 = λ xs. is_closer (last_mark m xs) ≡ false in
    let goes : P (drop n bs) = subst P rest (c.next_len-more.ensures.out some) in
    let quiet : Q (drop n bs) = subst Q rest (c.next_len-more.ensures.quiet some) in
    let cut : length (take (length bs - n) (drop n bs)) ≡ length bs - n = ap (λ (xs : List ℕ). length xs) rest ∙ length-drop n bs in
    let within = c.next_len-more.ensures.within in
    let before = c.loop-count.invariant.within in
    let quick = c.loop-count.invariant.quick in
    record {
      out = GoOut-more n m c.loop-count.steps bs some c.loop-count.invariant.out goes quiet;
      some = omega (arith, some);
      within = omega (arith, within, cut, before);
      quick = omega (arith, some, quick);
    }

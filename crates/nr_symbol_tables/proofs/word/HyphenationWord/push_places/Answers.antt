use Prim.Native.Char.{code}
use Rattle.std.proofs.Common.{[], ◌∷◌, ◌+◌, ◌++◌, length, take, get_or, ap, sym, ◌∙◌, subst, arith, length-append}
use Rattle.std.proofs.lemmas.Bool.{eq-eqb, ne_eqb}
use Rattle.std.proofs.lemmas.List.{append-nil}
use Rattle.nr_symbol_tables.specs.Word.{letters_of, points_from}
use Rattle.nr_symbol_tables.specs.Given.{IsLonger}
use Rattle.nr_symbol_tables.proofs.Words.{letters_minus, letters_other, letters_few, points_minus, points_other, points_fit, longer_more, longer_along}
use Rattle.nr_symbol_tables.proofs.word.HyphenationWord.push_places.Goals.{then-byte-eq45, else-byte-eq45}
use Rattle.nr_symbol_tables.proofs.word.HyphenationWord.push_places.Goals as goal

pub push-requires : goal.push-requires
push-requires c =
    let fit = points_fit c.args.given.now c.loop-byte.byte-index 0 c.loop-byte-test.true (eq-eqb _ (code "-") c.if-byte-eq45.true) in
    let len = c.loop-byte.invariant.longer.len in
    omega arith

pub overflow_add-place : goal.overflow_add-place
overflow_add-place c =
    let few = letters_few c.args.given.now c.loop-byte.byte-index in
    omega arith

pub loop-byte-preserved : goal.loop-byte-preserved
loop-byte-preserved c =
    let xs = c.args.given.now in
    let i = c.loop-byte.byte-index in
    let below = c.loop-byte-test.true in
    let before = c.loop-byte.invariant.place in
    elim c.if-byte-eq45.branch [
      | then-byte-eq45 w ↦
          let minus = eq-eqb (get_or xs i 0) (code "-") w.if-byte-eq45.true in
          let same = ap length (letters_minus xs i 0 below minus ∙ append-nil (letters_of (take i xs))) in
          record {
            place = w.place-is ∙ before ∙ sym same;
            longer = subst (λ new. IsLonger c.args.self.now new (points_from 0 (take (i + 1) xs))) (sym w.self-is)
                (longer_more c.args.self.now c.loop-byte.self w.push.new.self (points_from 0 (take i xs)) (c.loop-byte.place ∷ []) (points_from 0 (take (i + 1) xs)) c.loop-byte.invariant.longer w.push.ensures
                (points_minus xs i 0 below minus ∙ ap (λ n. points_from 0 (take i xs) ++ n ∷ []) (sym before)));
          }
      | else-byte-eq45 w ↦
          let other = ne_eqb (get_or xs i 0) (code "-") w.if-byte-eq45.false in
          let more = ap length (letters_other xs i 0 below other) ∙ length-append (letters_of (take i xs)) (get_or xs i 0 ∷ []) in
          record {
            place = let is = w.place-is in omega arith;
            longer = subst (λ new. IsLonger c.args.self.now new (points_from 0 (take (i + 1) xs))) (sym w.self-is)
                (longer_along c.args.self.now c.loop-byte.self (points_from 0 (take i xs)) (points_from 0 (take (i + 1) xs)) c.loop-byte.invariant.longer (points_other xs i 0 below other));
          }
    ]

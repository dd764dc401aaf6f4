use Prim.Native.Char.{code}
use Rattle.std.proofs.Common.{[], ◌∷◌, ◌+◌, take, get_or, sym, subst, arith}
use Rattle.std.proofs.lemmas.Bool.{eq-eqb, ne_eqb}
use Rattle.nr_symbol_tables.specs.Word.{letters_of}
use Rattle.nr_symbol_tables.specs.Given.{IsLonger}
use Rattle.nr_symbol_tables.proofs.Words.{letters_minus, letters_other, letters_few, longer_more, longer_along}
use Rattle.nr_symbol_tables.proofs.word.HyphenationWord.push_letters.Goals.{then-byte-ne45, else-byte-ne45}
use Rattle.nr_symbol_tables.proofs.word.HyphenationWord.push_letters.Goals as goal

pub push-requires : goal.push-requires
push-requires c =
    let few = letters_few c.args.given.now c.loop-byte.byte-index in
    let len = c.loop-byte.invariant.len in
    omega arith

pub loop-byte-preserved : goal.loop-byte-preserved
loop-byte-preserved c =
    let xs = c.args.given.now in
    let i = c.loop-byte.byte-index in
    let below = c.loop-byte-test.true in
    elim c.if-byte-ne45.branch [
      | then-byte-ne45 w ↦
          subst (λ new. IsLonger c.args.self.now new (letters_of (take (i + 1) xs))) (sym w.self-is)
          (longer_more c.args.self.now c.loop-byte.self w.push.new.self (letters_of (take i xs)) (get_or xs i 0 ∷ []) (letters_of (take (i + 1) xs)) c.loop-byte.invariant w.push.ensures (letters_other xs i 0 below (ne_eqb (get_or xs i 0) (code "-") w.if-byte-ne45.true)))
      | else-byte-ne45 w ↦
          subst (λ new. IsLonger c.args.self.now new (letters_of (take (i + 1) xs))) (sym w.self-is)
          (longer_along c.args.self.now c.loop-byte.self (letters_of (take i xs)) (letters_of (take (i + 1) xs)) c.loop-byte.invariant (letters_minus xs i 0 below (eq-eqb (get_or xs i 0) (code "-") w.if-byte-ne45.false)))
    ]

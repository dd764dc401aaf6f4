use Rattle.std.proofs.Common.{◌≡◌, ◌-◌, length, take, ap, sym, ◌∙◌, arith}
use Rattle.std.specs.List.{suffix_len}
use Rattle.std.proofs.lemmas.List.Sums.{suffix_len-take_no}
use Rattle.nr_vectors.specs.declared.cell.Cell.{Cell}
use Rattle.nr_vectors.specs.declared.cell.Look.TheVariants.{Plain}
use Rattle.nr_symbol_tables.specs.Word.{bytes_of, closes}
use Rattle.nr_symbol_tables.proofs.Words.{stem-bytes_of}
use Rattle.nr_symbol_tables.proofs.word.stem.Goals as goal
use Rattle.nr_symbol_tables.proofs.word.stem.Goals.{then-loop-len-test+else-closes, else-loop-len-test}

pub returns : goal.returns
returns c =
    let cells = c.args.cells.now in
    let afterwards = c.loop-len.invariant.afterwards in
    let within = c.loop-len.invariant.within in
    let is : c.loop-len.len ≡ length cells - suffix_len (λ (x : Cell). closes x.byte) cells =
    elim c.loop-len-test.branch [
      | then-loop-len-test+else-closes w ↦
          let none = suffix_len-take_no (λ (x : Cell). closes x.byte) cells c.loop-len.len (record { byte = 0; look = Plain }) w.loop-len-test.true within (sym w.closes.ensures ∙ w.if-closes.false) in
          omega arith
      | else-loop-len-test w ↦ let none = w.loop-len-test.false in omega arith
    ] in
    ap (λ n. bytes_of (take n cells)) is ∙ sym (stem-bytes_of cells)

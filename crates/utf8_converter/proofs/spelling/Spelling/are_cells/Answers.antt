use Rattle.std.proofs.Common.{ℕ, List, ◌∙◌, subst, sym, arith}
use Rattle.utf8_converter.specs.Shapes.{Shapes}
use Rattle.utf8_converter.proofs.Shaped.{keeps-way, shaped-chunk}
use Rattle.utf8_converter.proofs.spelling.Spelling.are_cells.Goals as goal

pub returns : goal.returns
returns c shaped =
    let P : List ℕ → Type 0 = λ xs. Shapes 32 xs in
    shaped-chunk c.args.self.now c.args.reader.now c.args.bytes.now c.requires.seen (λ k. (let fits = c.type_inv.bytes k in omega (arith, fits))) c.requires.serves c.if-not-self.false
    (keeps-way c.args.reader.now.way (sym c.keeps_backspaces.ensures ∙ c.if-not-keeps_backspaces.false)) (subst P c.copy_from_slice.ensures.after (c.are_shaped.ensures shaped))

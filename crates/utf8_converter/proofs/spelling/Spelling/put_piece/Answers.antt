use Rattle.std.proofs.Common.{ℕ, List, subst, ◌∙◌, arith}
use Rattle.utf8_converter.specs.Spelling.{AreLow}
use Rattle.utf8_converter.proofs.Pieces.{Puts-low}
use Rattle.utf8_converter.proofs.spelling.Spelling.put_piece.Goals as goal

pub returns-then-are_low-clause-put : goal.returns-then-are_low-clause-put
returns-then-are_low-clause-put c =
    let P : List ℕ → Type 0 = λ xs. AreLow 8 xs in
    let low = subst P (c.copy_from_slice.ensures.after ∙ c.requires.same) (c.are_low.ensures c.if-are_low.true) in
    let begins = c.requires.begins in
    let room = c.requires.room in
    Puts-low c.args.reader.now.table c.args.self.now.all c.args.self.now.whole c.args.bytes.now c.args.room.now c.copy_from_slice-then-are_low.new.self c.args.end _ 8
    c.requires.serves (λ k below. (let fits = c.type_inv.bytes k in omega (arith, fits))) c.requires.some low c.requires.eight (c.copy_from_slice-then-are_low.ensures.after ∙ c.copy_from_slice.ensures.after ∙ c.requires.same) (omega (arith, begins, room))

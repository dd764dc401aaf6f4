use Rattle.std.proofs.Common.{arith}
use Rattle.utf8_converter.proofs.HighBits.{are-low, no_bits}
use Rattle.utf8_converter.proofs.shapes.are_low.Goals as goal

pub returns : goal.returns
returns c none =
    are-low c.args.piece.now c.from_le_bytes.result (λ i. (let fits = c.fits-piece i in omega (arith, fits))) c.from_le_bytes.ensures
    (no_bits _ none)

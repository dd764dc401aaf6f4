use Rattle.std.proofs.Common.{arith}
use Rattle.nr_symbol_tables.proofs.Words.{length-parts}
use Rattle.nr_symbol_tables.proofs.word.HyphenationWord.of.Goals as goal

pub push_places-requires-clause-fits : goal.push_places-requires-clause-fits
push_places-requires-clause-fits c =
    let parts = length-parts 0 c.args.given.now in
    let len = c.push_letters.ensures.len in
    omega arith

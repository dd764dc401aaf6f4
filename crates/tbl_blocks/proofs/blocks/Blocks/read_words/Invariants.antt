use Rattle.std.proofs.Common.{◌≡◌, ◌+◌, drop}
use Rattle.tbl_blocks.specs.Words.{words_from, words_read}
use Rattle.tbl_blocks.proofs.blocks.Blocks.read_words.Given as goal

abbrev pub invariant-loop-at : goal.invariant-loop-at
invariant-loop-at l = words_from (l.place + l.at) (drop l.at l.text) l.self ≡ words_read l.text l.place l.fn.self

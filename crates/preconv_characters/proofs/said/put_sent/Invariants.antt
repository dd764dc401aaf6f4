use Rattle.std.proofs.Common.{◌≡◌, ◌+◌, ◌≤◌, ◌++◌, drop, length}
use Rattle.preconv_characters.specs.Saying.{all_sent}
use Rattle.preconv_characters.proofs.said.put_sent.Given as goal

abbrev pub invariant-loop-byte : goal.invariant-loop-byte
invariant-loop-byte l =
    (l.out.items ++ all_sent l.target (drop l.byte-index l.text) ≡ l.initial.out.items ++ all_sent l.target l.text)
    × (length l.out.items ≤ length l.initial.out.items + l.byte-index)
    × (l.out.capacity ≡ l.initial.out.capacity)

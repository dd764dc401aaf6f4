use Rattle.std.proofs.Common.{◌≡◌, ◌+◌, ◌≤◌, ◌++◌, drop, length}
use Rattle.preconv_characters.specs.Likeness.{before_nul}
use Rattle.preconv_characters.proofs.likeness.put_text.Given as goal

abbrev pub invariant-loop-byte : goal.invariant-loop-byte
invariant-loop-byte l =
    (l.out.items ++ before_nul (drop l.byte-index l.text) ≡ l.initial.out.items ++ before_nul l.text)
    × (length l.out.items ≤ length l.initial.out.items + l.byte-index)
    × (l.out.capacity ≡ l.initial.out.capacity)

use Rattle.std.proofs.Common.{◌≡◌, drop}
use Rattle.preconv_characters.specs.Likeness.{text_in}
use Rattle.preconv_characters.proofs.likeness.text_in.Given as goal

abbrev pub invariant-loop-entry : goal.invariant-loop-entry
invariant-loop-entry g l = text_in (drop l.entry-index l.table) l.code ≡ text_in l.table l.code

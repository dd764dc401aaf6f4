use Rattle.std.proofs.Common.{◌≡◌, ◌++◌, drop, take}
use Rattle.preconv_characters.specs.Likeness.{before_nul}
use Rattle.preconv_characters.proofs.glyphs.before_nul.Given as goal

abbrev pub invariant-loop-i : goal.invariant-loop-i
invariant-loop-i l = take l.i l.text ++ before_nul (drop l.i l.text) ≡ before_nul l.text

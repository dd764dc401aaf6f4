use Rattle.std.proofs.Common.{◌≡◌, ◌++◌, drop, take}
use Rattle.preconv_characters.specs.Glyphs.{before_blank}
use Rattle.preconv_characters.proofs.glyphs.before_blank.Given as goal

abbrev pub invariant-loop-i : goal.invariant-loop-i
invariant-loop-i l = take l.i l.text ++ before_blank (drop l.i l.text) ≡ before_blank l.text

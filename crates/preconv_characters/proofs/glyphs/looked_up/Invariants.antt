use Rattle.std.proofs.Common.{◌≡◌, drop}
use Rattle.preconv_characters.specs.Glyphs.{looked_up}
use Rattle.preconv_characters.proofs.glyphs.looked_up.Given as goal

abbrev pub invariant-loop-entry : goal.invariant-loop-entry
invariant-loop-entry g l = looked_up (drop l.entry-index l.table) l.first l.second ≡ looked_up l.table l.first l.second

use Rattle.std.proofs.Common.{◌≡◌, drop}
use Rattle.preconv_characters.specs.Glyphs.{named_in}
use Rattle.preconv_characters.proofs.glyphs.named_in.Given as goal

abbrev pub invariant-loop-entry : goal.invariant-loop-entry
invariant-loop-entry g l = named_in (drop l.entry-index l.table) l.name ≡ named_in l.table l.name

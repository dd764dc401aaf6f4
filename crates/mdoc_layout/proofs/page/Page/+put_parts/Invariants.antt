use Rattle.std.proofs.Common.{length}
use Rattle.mdoc_layout.proofs.page.Page.+put_parts.Given as goal

abbrev pub decreases-put_parts : goal.decreases-put_parts
decreases-put_parts l = length l.letters.now

use Rattle.std.proofs.Common.{length}
use Rattle.mdoc_layout.proofs.page.Page.+put_closing.Given as goal

abbrev pub decreases-put_closing : goal.decreases-put_closing
decreases-put_closing l = length l.closers.now

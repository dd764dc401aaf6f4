use Rattle.document_reader.proofs.Pipes.{own-cut, own-whole}
use Rattle.document_reader.proofs.own.read_own_page.Goals as goal

pub returns-clause-whole : goal.returns-clause-whole
returns-clause-whole g c q is kept short few =
    own-whole _ _ _ _ _ _ c.args.table.now c.args.stages q c.over.ensures.supply c.over-coder.ensures.wants c.requires.room c.over-coder.ensures.says c.over-coder.ensures.fits
    (c.read_page-text.ensures.whole q is kept short) kept few

pub returns-clause-cut : goal.returns-clause-cut
returns-clause-cut g c q n is after within short few =
    own-cut _ _ _ _ _ _ c.args.table.now c.args.stages _ c.over.ensures.supply c.over-coder.ensures.wants c.requires.room c.over-coder.ensures.says c.over-coder.ensures.fits
    (c.read_page-text.ensures.cut q n is after within short) few

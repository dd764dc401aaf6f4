use Rattle.utf8_own_sink.specs.Reading.{decoding, first}
use Rattle.nulbiko.proofs.StagedRun.{pulled-whole}
use Rattle.nulbiko.proofs.staged.shown_of.Goals as goal

pub returns : goal.returns
returns c short =
    pulled-whole c.args.text.now _ _ _ (decoding c.args.table.now (first c.args.escapes)) _ _ _ c.over.ensures.supply c.over-text.ensures.supply
    c.over-decoder.ensures.wants c.requires c.over-decoder.ensures.says c.over-decoder.ensures.fits short

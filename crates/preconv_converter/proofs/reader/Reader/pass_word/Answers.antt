use Rattle.std.proofs.Common.{[], ◌∷◌, sym, ◌∙◌, ap}
use Rattle.preconv_lines.specs.declared.half.Half.{Half}
use Rattle.preconv_converter.specs.Reading.{emitted, with_half}
use Rattle.preconv_converter.proofs.WordsBegun.{word_read}
use Rattle.preconv_converter.proofs.reader.Reader.pass_word.Goals as goal

pub returns-in-Words-clause-taken : goal.returns-in-Words-clause-taken
returns-in-Words-clause-taken c = λ _.
    let b = c.args.byte in
    let r = c.args.self.now in
    word_read b c.in-Words.words r (c.is_between.ensures.pending c.if-not-is_between.false) (c.is_between.ensures.clear c.if-not-is_between.false) c.in-Words.is
    (sym c.begins_word_with.ensures.value ∙ c.if-begins_word_with.true)
    ∙ ap (λ (h : Half). emitted (with_half h r) (b ∷ []) 3) (sym c.takes_word.ensures)

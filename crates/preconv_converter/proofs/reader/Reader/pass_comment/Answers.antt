use Rattle.std.proofs.Common.{take, not, sym, ◌∙◌, ap}
use Rattle.preconv_lines.specs.declared.half.Half.{Half}
use Rattle.preconv_converter.specs.Reading.{emitted, with_half}
use Rattle.preconv_lines.specs.Half.{is_plain}
use Rattle.preconv_converter.proofs.Plain.{and-first}
use Rattle.preconv_converter.proofs.CommentLines.{comment_begun}
use Rattle.preconv_converter.proofs.reader.Reader.pass_comment.Goals as goal

pub returns-in-Start-clause-taken : goal.returns-in-Start-clause-taken
returns-in-Start-clause-taken c = λ _.
    let bs = c.args.bytes.now in
    let r = c.args.self.now in
    comment_begun bs r (c.is_between.ensures.pending c.if-not-is_between.false) (and-first (is_plain r.half.escape) (not r.half.translating) (c.is_between.ensures.clear c.if-not-is_between.false)) c.in-Start.is
    (sym c.begins_comment.ensures.value ∙ c.if-begins_comment.true)
    ∙ ap (λ (h : Half). emitted (with_half h r) (take 3 bs) 4) (sym c.takes_comment.ensures)

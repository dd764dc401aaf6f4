use Rattle.std.proofs.Common.{arith}
use Rattle.preconv_converter.proofs.InComments.{comment_all}
use Rattle.preconv_converter.proofs.reader.Reader.pass_raw.Goals as goal

pub returns-then-comment-gt0-clause-plain : goal.returns-then-comment-gt0-clause-plain
returns-then-comment-gt0-clause-plain c =
    comment_all c.comment_len-comment.result c.args.bytes.now c.args.self.now c.comment_len-comment.ensures.len (omega arith)

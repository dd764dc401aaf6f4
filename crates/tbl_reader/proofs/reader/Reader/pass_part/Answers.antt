use Rattle.std.proofs.Common.{sym, ◌∙◌, arith}
use Rattle.tbl_reader.proofs.Passed.{part_passed}
use Rattle.tbl_reader.proofs.reader.Reader.pass_part.Goals as goal

pub returns-then-len-gt0-clause-passes : goal.returns-then-len-gt0-clause-passes
returns-then-len-gt0-clause-passes c =
    part_passed c.args.start c.args.bytes.now c.line_len-len.result c.args.self.now _ c.requires.mode (sym c.is_free.ensures ∙ c.if-not-is_free.false) (omega (arith, c.if-len-gt0.true)) c.line_len-len.ensures.within c.line_len-len.ensures.value c.is_midst.ensures

use Rattle.tbl_reader.proofs.Passed.{lines_passed}
use Rattle.tbl_reader.proofs.reader.Reader.pass_lines.Goals as goal

pub returns-then-lines-gt0-clause-passes : goal.returns-then-lines-gt0-clause-passes
returns-then-lines-gt0-clause-passes c =
    lines_passed c.args.bytes.now c.free_lines-lines.result c.args.self.now _ c.requires.mode c.free_lines-lines.ensures.free c.counts.ensures

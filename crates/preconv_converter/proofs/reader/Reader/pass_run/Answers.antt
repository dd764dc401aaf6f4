use Rattle.std.proofs.Common.{sym, subst, arith}
use Rattle.preconv_lines.specs.declared.half.Half.{Half}
use Rattle.preconv_converter.specs.Passing.{Passes}
use Rattle.preconv_converter.specs.Reading.{with_half}
use Rattle.preconv_converter.proofs.AtOnce.{run_all}
use Rattle.preconv_converter.proofs.reader.Reader.pass_run.Goals as goal

pub returns-then-run-gt0-clause-plain : goal.returns-then-run-gt0-clause-plain
returns-then-run-gt0-clause-plain c =
    let P : Half → Type 0 = λ h. Passes c.run_len-run.result c.args.bytes.now c.args.self.now (with_half h c.args.self.now) in
    subst P (sym c.takes_run.ensures)
    (run_all c.run_len-run.result c.args.bytes.now c.args.self.now c.requires c.run_len-run.ensures.len (omega arith))

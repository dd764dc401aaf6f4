use Rattle.std.proofs.Common.{◌-◌, length, drop, sym, ◌∙◌, ap, arith}
use Rattle.std.proofs.lemmas.List.{length-drop, take_all}
use Rattle.tbl_reader.specs.Passing.{line_len, may_command}
use Rattle.tbl_reader.proofs.Runs.{free_more}
use Rattle.tbl_reader.proofs.passing.free_lines.Goals as goal

pub loop-lines-preserved : goal.loop-lines-preserved
loop-lines-preserved c =
    let lines = c.loop-lines.lines in
    let bytes = c.args.bytes.now in
    let n = c.line_len-len.result in
    let cut = length-drop lines.len bytes in
    let whole = take_all (length bytes - lines.len) (drop lines.len bytes) (omega (arith, cut)) in
    let same = ap length whole in
    let within = c.line_len-len.ensures.within in
    let other = c.if-len-rest.false in
    record {
      free = free_more bytes lines.count lines.len n c.loop-lines.invariant.free (c.line_len-len.ensures.value ∙ ap line_len whole)
          (omega (arith, same, within, other)) (ap may_command (sym whole) ∙ sym c.may_command.ensures ∙ c.if-may_command.false);
      within = (let before = c.loop-lines.invariant.within in omega (arith, cut, same, within, other, before));
      few = (let before = c.loop-lines.invariant.few in omega (arith, before));
    }

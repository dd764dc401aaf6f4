use Rattle.fast_input.proofs.BodyLines.{is_line, is_line_ended}
use Rattle.fast_input.proofs.body_lines.line_bytes.Goals as goal

pub returns : goal.returns
returns c = is_line c.text_bytes-count.result c.args.bytes.now c.text_bytes-count.ensures.prefix c.text_bytes-count.ensures.plain

pub returns-then-bytes-count-eq10 : goal.returns-then-bytes-count-eq10
returns-then-bytes-count-eq10 c =
    is_line_ended c.text_bytes-count.result c.args.bytes.now c.text_bytes-count.ensures.prefix c.text_bytes-count.ensures.plain c.if-count-bytes.true c.if-bytes-count-eq10.true

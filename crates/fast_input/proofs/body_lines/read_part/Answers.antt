use Rattle.fast_input.proofs.BodyLines.{part_reads}
use Rattle.fast_input.proofs.body_lines.read_part.Goals as goal

pub returns-clause-reads : goal.returns-clause-reads
returns-clause-reads g c =
    let part = c.in-Some.part in
    let is = c.in-Some.ensures in
    let put = c.add_all in
    rw c.in_body-reader.ensures
    (part_reads c.args.reader.now c.args.bytes.now c.args.store.now put.new.store part.own is.body is.own part.more is.few is.some
    (λ one. (is.within one, (is.first one, is.second one))) (put.ensures.added c.if-not-add_all.false) (put.ensures.afforded c.if-not-add_all.false))

use Rattle.std.proofs.Common.{List, ℕ, drop, sym, subst}
use Rattle.utf8_own_sink.specs.Reading.{Moves, resting}
use Rattle.utf8_own_sink.proofs.runs.put_first.Goals as goal

pub returns-clause-moves : goal.returns-clause-moves
returns-clause-moves c way clear =
    let t = c.args.table.now in
    let bs = c.args.bytes.now in
    let n = c.ascii_len-len.result in
    subst (λ (q : List ℕ). Moves t (resting way) (resting way) c.args.out.now.items q bs (drop n bs)) (sym c.extend_prefix.ensures.items)
    (c.ascii_len-len.ensures.moves t way c.args.out.now.items clear)

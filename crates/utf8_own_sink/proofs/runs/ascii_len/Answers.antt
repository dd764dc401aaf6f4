use Rattle.std.proofs.Common.{◌≡◌, ℕ, ◌-◌, ◌<◌, ◌≤◌, get_or, length, true, arith}
use Rattle.utf8_own_sink.specs.Reading.{is_as_is}
use Rattle.utf8_own_sink.proofs.Moving.{ascii_run, as_is_other, Ends}
use Rattle.utf8_own_sink.proofs.Moving.Ends.{Never, Blank, Free}
use Rattle.utf8_own_sink.proofs.runs.ascii_len.Goals as goal
use Rattle.utf8_own_sink.proofs.runs.ascii_len.Goals.{then-len-eq0-via-then-len-eq0, then-len-eq0-via-else-len-eq0+then-bytes-len-le32}

pub returns-then-len-eq0-clause-moves : goal.returns-then-len-eq0-clause-moves
returns-then-len-eq0-clause-moves c t way p clear =
    let n = c.as_is_len-len.result in
    let bs = c.args.bytes.now in
    let ends : Ends n bs = elim c.then-len-eq0.branch [
      | then-len-eq0-via-then-len-eq0 w ↦ Never w.if-len-eq0.true
      | then-len-eq0-via-else-len-eq0+then-bytes-len-le32 w ↦ Blank w.if-bytes-len-le32.true
    ] in
    ascii_run t way p n bs clear c.as_is_len-len.ensures.as_is c.as_is_len-len.ensures.within ends

pub returns-then-bytes-len-ne8-clause-moves : goal.returns-then-bytes-len-ne8-clause-moves
returns-then-bytes-len-ne8-clause-moves c t way p clear =
    let n = c.as_is_len-len.result in
    ascii_run t way p n c.args.bytes.now clear c.as_is_len-len.ensures.as_is c.as_is_len-len.ensures.within
    (Free c.if-len-bytes.true c.if-bytes-len-ne8.true)

pub returns-clause-moves : goal.returns-clause-moves
returns-clause-moves c t way p clear =
    let n = c.as_is_len-len.result in
    let bs = c.args.bytes.now in
    let some : 0 < n = omega (arith, c.if-len-eq0.false) in
    let within = c.as_is_len-len.ensures.within in
    let is : is_as_is (get_or bs (n - 1) 0) ≡ true = c.as_is_len-len.ensures.as_is (n - 1) (omega (arith, some)) in
    ascii_run t way p (n - 1) bs clear (λ i below. c.as_is_len-len.ensures.as_is i (omega (arith, below))) (omega (arith, within))
    (Free (omega (arith, some, within)) (as_is_other (get_or bs (n - 1) 0) is))

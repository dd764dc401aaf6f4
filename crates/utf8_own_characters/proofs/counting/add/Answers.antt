use Rattle.std.proofs.Common.{◌≡◌, length, false, true, nat_lt, sym, ◌∙◌, arith}
use Rattle.utf8_own_characters.specs.Counting.{is_counted}
use Rattle.utf8_own_characters.proofs.Tests.{or_none, lt_so, lt_not}
use Rattle.utf8_own_characters.proofs.Counted.{is_new, within_new, within_full}
use Rattle.utf8_own_characters.proofs.counting.add.Goals as goal

pub returns-then-len-capacity-clause-items : goal.returns-then-len-capacity-clause-items
returns-then-len-capacity-clause-items c =
    let xs = c.args.counts.now.items in let room = c.args.counts.now.capacity in
    let full : nat_lt (length xs) room ≡ false = lt_not (length xs) room (omega arith) in
    sym (within_full room xs c.args.cluster.now (is_new 0 xs c.args.cluster.now c.requires).unknown full)

pub returns-then-len-capacity-clause-reported : goal.returns-then-len-capacity-clause-reported
returns-then-len-capacity-clause-reported c =
    let xs = c.args.counts.now.items in let room = c.args.counts.now.capacity in
    let full : nat_lt (length xs) room ≡ false = lt_not (length xs) room (omega arith) in
    sym (or_none (is_counted xs c.args.cluster.now) (nat_lt (length xs) room) (is_new 0 xs c.args.cluster.now c.requires).unknown full)

pub returns-clause-items : goal.returns-clause-items
returns-clause-items c =
    let xs = c.args.counts.now.items in let room = c.args.counts.now.capacity in
    let some : nat_lt (length xs) room ≡ true = lt_so (length xs) room (omega arith) in
    c.push.ensures.items ∙ sym (within_new room xs c.args.cluster.now some ∙ (is_new 0 xs c.args.cluster.now c.requires).last)

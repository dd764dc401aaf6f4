use Rattle.std.proofs.lemmas.Grind.{common_steps}
use Rattle.std.proofs.Common.{◌≡◌, true, sym, arith}
use Rattle.mdoc_command.specs.Lines.{is_unwatched}
use Rattle.mdoc_command.proofs.Unread.{all_unwatched}
use Rattle.mdoc_command.proofs.watching.Watch.hear_all.Goals as goal

pub returns-then-is_unwatched : goal.returns-then-is_unwatched
returns-then-is_unwatched c =
    let e : is_unwatched c.args.self.now.half ≡ true =
    let a = c.is_unwatched.ensures in let b = c.if-is_unwatched.ensures in cc in
    sym (all_unwatched c.args.bytes.now c.args.self.now e)

pub loop-byte-preserved : goal.loop-byte-preserved
loop-byte-preserved c = grind (arith, common_steps)

pub returns : goal.returns
returns c = grind (arith, common_steps)

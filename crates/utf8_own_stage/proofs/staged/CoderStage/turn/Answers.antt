use Rattle.std.proofs.Common.{ℕ, List, take}
use Rattle.utf8_own_stage.proofs.Parts.{coding-taken}
use Rattle.utf8_own_stage.proofs.staged.CoderStage.turn.Goals as goal

pub returns-clause-says : goal.returns-clause-says
returns-clause-says c =
    let t = c.args.self.now.table.now in
    let l = c.args.self.now.listener in
    let p = c.args.self.now.place in
    let bytes : List ℕ = take c.min-len.result c.args.bytes.now in
    coding-taken t l c.put_all.new.listener p c.put_all.new.place bytes c.args.out.now.items c.put_all.new.out.items
    c.put_all.ensures.listener c.put_all.ensures.place c.put_all.ensures.items

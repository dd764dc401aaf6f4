use Rattle.std.proofs.Common.{ℕ, List, ◌+◌, ◌++◌, take, refl, ◌∙◌, ap}
use Rattle.tbl_stage.proofs.Turns.{passing_so}
use Rattle.tbl_stage.proofs.setter.TableSetter.turn_passing.Goals as goal

pub returns-clause-turned : goal.returns-clause-turned
returns-clause-turned c =
    let s = c.args.self.now in
    passing_so s.most c.pass-count.result c.ready-len.result c.args.bytes.now c.extend.new.self.items s.tables.now c.pass-count.new.self s.taken (s.taken + c.pass-count.result) s.full s.full
    c.pass-count.ensures.passes c.pass-count.ensures.setting c.requires.live refl c.pass-count.ensures.within c.ready-len.ensures.most refl c.ready-len.ensures.few
    (c.extend.ensures.items ∙ ap (λ (l : List ℕ). l ++ take c.pass-count.result c.args.bytes.now) c.requires.empty)

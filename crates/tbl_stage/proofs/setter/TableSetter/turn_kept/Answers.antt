use Rattle.std.proofs.Common.{◌+◌, refl}
use Rattle.tbl_stage.proofs.Turns.{kept_so}
use Rattle.tbl_stage.proofs.setter.TableSetter.turn_kept.Goals as goal

pub returns-clause-turned : goal.returns-clause-turned
returns-clause-turned c =
    let s = c.args.self.now in
    kept_so s.most c.keep-count.result c.ready-len.result c.args.bytes.now s.tables.now c.keep-count.new.self s.taken (s.taken + c.keep-count.result) s.full s.full
    c.keep-count.ensures.keeps c.keep-count.ensures.setting c.requires.live refl c.keep-count.ensures.within refl c.ready-len.ensures.few

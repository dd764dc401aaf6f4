use Rattle.std.proofs.Common.{◌≡◌, List}
use Rattle.std.specs.Prelude.{IfOk}
use Rattle.utf8_own_characters.specs.declared.counting.Count.{Count}
use Rattle.nulbiko.proofs.OwnRun.{looked-as}
use Rattle.nulbiko.proofs.own.count_page.Goals as goal

pub returns-clause-items : goal.returns-clause-items
returns-clause-items c =
    looked-as (λ (xs : List Count). IfOk c.count_prefix.result (λ counts. counts.items ≡ xs)) _ _ _ _ _ _
    c.count_prefix.ensures.items c.stages_of-stages.ensures c.sets_tables-frames.ensures c.prefix_of.ensures

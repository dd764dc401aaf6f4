use Rattle.std.proofs.lemmas.Grind.{common_steps}
use Rattle.std.proofs.Common.{ap, sym, ◌∙◌, arith}
use Rattle.nr_store.specs.Holders.{beside_of}
use Rattle.nr_store.specs.Store.{Stored, shown}
use Rattle.nr_store.proofs.Reading.{newest_text, item_shown}
use Rattle.nr_store.proofs.store.Store.look.Goals as goal

pub returns-then-place-len : goal.returns-then-place-len
returns-then-place-len g c =
    let s = c.self.inside in
    let n = newest_text s.levels.levels c.in-Text.id c.in-Text.place c.in-Text.ensures in
    sym (ap (λ (v : Stored _). shown v.levels) c.self.view_is) ∙ item_shown s.pool s.names.entries s.drafts.items s.levels (beside_of s.gathering s.registers s.traps s.words) s.stored c.in-Text.id c.in-Text.place n c.get.result c.get.ensures

pub len-requires : goal.len-requires
len-requires g c = grind (arith, common_steps)

pub returns-else-place-len : goal.returns-else-place-len
returns-else-place-len g c = grind (arith, common_steps)

use Rattle.std.proofs.Common.{◌∙◌, ap, ap₂, ◌∷◌, take, drop, true, refl}
use Rattle.nr_vectors.specs.Items.{Items}
use Rattle.nr_levels.specs.Frame.{levels_of}
use Rattle.nr_levels.specs.declared.frame.Frame.{Frame}
use Rattle.nr_levels.specs.declared.frame.Reads.TheVariants as reads
use Rattle.nr_levels.proofs.Stacked.{newest_on, closed_is, below_stands, closed_marked, marked_stands, modes_below, modes_marked, mode_there}
use Rattle.nr_levels.proofs.levels.Levels.close.Goals as goal

pub truncate-requires : goal.truncate-requires
truncate-requires g c =
    let on = newest_on _ _ _ _ _ c.self.invariant.0.stacked c.at-frame.ensures in
    on.0.lower

pub truncate-requires-2 : goal.truncate-requires-2
truncate-requires-2 g c =
    let on = newest_on _ _ _ _ _ c.self.invariant.0.stacked c.at-frame.ensures in
    on.0.old.within

pub invariant_of-self : goal.invariant_of-self
invariant_of-self g c =
    rw (c.set_top.ensures, c.truncate.ensures.items, c.truncate.ensures.room, c.truncate-2.ensures.items, c.truncate-2.ensures.room)
    (marked_stands _ _ _ _ _ _ _ _ c.at-frame.ensures c.self.invariant.0, modes_marked _ _ _ _ _ c.at-frame.ensures c.self.invariant.1 _ refl c.if-frame.true)

pub returns-then-frame-clause-rest : goal.returns-then-frame-clause-rest
returns-then-frame-clause-rest g c =
    let s = c.self.inside in
    let f = c.at-frame.result.now in
    let marked : Frame = record { reads = reads.Mark; old = f.old; charge = 0; height = f.height; has_mode = true } in
    ap (λ (fs : Items Frame). levels_of fs.items s.modes.items c.truncate.new.self.items c.truncate-2.new.self.items f.old c.truncate.new.self.capacity fs.capacity) c.set_top.ensures
    ∙ ap₂ (λ bs n. levels_of (marked ∷ drop 1 s.frames.items) s.modes.items bs c.truncate-2.new.self.items f.old n s.frames.capacity) c.truncate.ensures.items c.truncate.ensures.room
    ∙ ap (λ ps. levels_of (marked ∷ drop 1 s.frames.items) s.modes.items (take f.height s.bytes.items) ps f.old s.bytes.capacity s.frames.capacity) c.truncate-2.ensures.items
    ∙ closed_marked _ _ _ _ _ _ _ _ c.at-frame.ensures c.self.invariant.0 _ _ c.self.view_is c.if-frame.true c.requires (mode_there _ _ _ _ _ c.at-frame.ensures c.self.invariant.1 c.if-frame.true)

pub invariant_of-self-2 : goal.invariant_of-self-2
invariant_of-self-2 g c =
    rw (c.pop.ensures, c.truncate.ensures.items, c.truncate.ensures.room, c.truncate-2.ensures.items, c.truncate-2.ensures.room)
    (below_stands _ _ _ _ _ _ _ _ c.at-frame.ensures c.self.invariant.0, modes_below _ _ _ _ _ c.at-frame.ensures c.self.invariant.1 c.if-frame.false)

pub returns-clause-rest : goal.returns-clause-rest
returns-clause-rest g c =
    rw (c.pop.ensures, c.truncate.ensures.items, c.truncate.ensures.room, c.truncate-2.ensures.items)
    (closed_is _ _ _ _ _ _ _ _ c.at-frame.ensures c.self.invariant.0 _ _ c.self.view_is c.if-frame.false)

use Rattle.std.proofs.lemmas.Grind.{common_steps}
use Rattle.std.proofs.Common.{false, refl, arith}
use Rattle.nr_levels.specs.Frame.{part}
use Rattle.nr_levels.specs.declared.frame.Reads.TheVariants as reads
use Rattle.nr_levels.proofs.Pushing.{more_frames, pushed_stands, modes_more, end_at}
use Rattle.nr_levels.proofs.levels.Levels.open_argument.Goals as goal

pub invariant_of-self : goal.invariant_of-self
invariant_of-self g c =
    let s = c.self.inside in
    let below = end_at _ (part s.places.items s.in_force) c.args.n c.self.invariant.0.now.below in
    let paid = c.requires.paid in
    rw (c.push.ensures, c.len-height.ensures.value, c.span_of-span.ensures) (
      pushed_stands s.frames.items s.bytes.items s.bytes.items s.places.items s.places.items s.in_force s.in_force s.bytes.capacity s.frames.capacity s.places.capacity (reads.Own _) c.args.charge false c.self.invariant.0 refl refl (omega arith)
          (omega arith) (omega arith) below tt c.self.invariant.0.top c.self.invariant.0.now (omega arith) (omega arith),
      modes_more (reads.Own _) false s.in_force c.args.charge _ s.frames.items s.modes.items s.modes.items s.modes.capacity s.frames.capacity tt (omega arith) c.self.invariant.1,
    )

pub push-requires : goal.push-requires
push-requires g c = more_frames _ _ _ _ _ _ _ _ c.self.view_is c.requires.room

pub returns : goal.returns
returns g c = grind (arith, common_steps)

use Rattle.std.proofs.Common.{length, map, refl, ap₂, sym, ◌∙◌, subst, arith}
use Rattle.nr_levels.specs.declared.frame.Span.{Span}
use Rattle.nr_levels.specs.declared.frame.Reads.TheVariants as reads
use Rattle.nr_levels.specs.Levels.{Text, deeper}
use Rattle.nr_levels.specs.Frame.{part, arguments_of, levels_of, EndBy}
use Rattle.nr_levels.proofs.Stacked.{part_none}
use Rattle.nr_levels.proofs.Pushing.{more_frames, more_modes, pushed_is, pushed_stands, modes_more}
use Rattle.nr_levels.proofs.levels.Levels.open_text.Goals as goal

pub keep-has_mode-requires : goal.keep-has_mode-requires
keep-has_mode-requires g c = more_modes _ _ _ _ c.self.invariant.1 (more_frames _ _ _ _ _ _ _ _ c.self.view_is c.requires.room)

pub push-requires : goal.push-requires
push-requires g c = more_frames _ _ _ _ _ _ _ _ c.self.view_is c.requires.room

pub invariant_of-self : goal.invariant_of-self
invariant_of-self g c =
    let s = c.self.inside in
    let ps = s.places.items in
    let none : Span = record { first = length ps; last = length ps } in
    let paid = c.requires.paid in
    rw (c.push.ensures, c.len-top.ensures.value, c.len-height.ensures.value, c.keep-has_mode.ensures.room) (
      pushed_stands s.frames.items s.bytes.items s.bytes.items ps ps s.in_force none s.bytes.capacity s.frames.capacity s.places.capacity (reads.Text c.args.id 0) c.args.charge c.keep-has_mode.result c.self.invariant.0 refl refl (omega arith)
          (omega arith) (omega arith) tt tt refl (record { within = omega arith; below = subst (EndBy (length s.bytes.items)) (sym (part_none ps none (omega arith))) tt }) (omega arith) (omega arith),
      modes_more (reads.Text c.args.id 0) c.keep-has_mode.result s.in_force c.args.charge _ s.frames.items s.modes.items c.keep-has_mode.new.modes.items s.modes.capacity s.frames.capacity tt c.keep-has_mode.ensures.count c.self.invariant.1,
    )

pub returns : goal.returns
returns g c =
    let s = c.self.inside in
    let xs = s.bytes.items in
    let ps = s.places.items in
    let none : Span = record { first = length ps; last = length ps } in
    rw (c.push.ensures, c.len-top.ensures.value)
    (pushed_is s.frames.items xs xs ps ps s.in_force none s.bytes.capacity s.frames.capacity s.places.capacity (reads.Text c.args.id 0) c.args.charge c.keep-has_mode.result c.self.invariant.0 refl refl (omega arith) c.keep-has_mode.new.modes.items
    ∙ ap₂ (λ o ms. deeper (Text c.args.id 0) (arguments_of xs ps none) c.args.charge o (levels_of s.frames.items ms xs ps s.in_force s.bytes.capacity s.frames.capacity)) c.keep-has_mode.ensures.mode c.keep-has_mode.ensures.rest
    ∙ ap₂ (λ (spans : _) v. deeper (Text c.args.id 0) (map (part xs) spans) c.args.charge c.args.resume v) (part_none ps none (omega arith)) c.self.view_is)

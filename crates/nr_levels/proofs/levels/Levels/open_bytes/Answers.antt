use Rattle.std.proofs.Common.{None, false, ◌≡◌, ◌++◌, ◌∷◌, ℕ, length, refl, ap, ap₂, ◌∙◌, length-append, arith}
use Rattle.nr_vectors.specs.Items.{Items}
use Rattle.nr_levels.specs.Levels.{Levels, Own, deeper}
use Rattle.nr_levels.specs.Frame.{levels_of}
use Rattle.nr_levels.specs.declared.frame.Frame.{Frame}
use Rattle.nr_levels.specs.declared.frame.Reads.TheVariants as reads
use Rattle.nr_levels.proofs.Stacked.{same_arguments}
use Rattle.nr_levels.proofs.Pushing.{items_are, has_room, pushed_is, more_frames, pushed_stands, modes_more, same_start, more_below, part_last}
use Rattle.nr_levels.proofs.levels.Levels.open_bytes.Goals as goal

pub extend-requires : goal.extend-requires
extend-requires g c =
    let s = c.self.inside in
    let room = has_room s.frames.items s.modes.items s.bytes.items s.places.items s.in_force s.bytes.capacity s.frames.capacity s.places.capacity c.args.self.now (length c.args.bytes.now) c.args.charge c.self.invariant.0 c.self.view_is c.requires.paid c.requires.bytes c.requires.room in
    room.bytes_fit

pub invariant_of-self : goal.invariant_of-self
invariant_of-self g c =
    let s = c.self.inside in
    let all = length-append s.bytes.items c.args.bytes.now in
    let paid = c.requires.paid in
    rw (c.push.ensures, c.len-last.ensures.value, c.extend.ensures.items, c.extend.ensures.room, c.len-first.ensures.value) (
      pushed_stands s.frames.items s.bytes.items (s.bytes.items ++ c.args.bytes.now) s.places.items s.places.items s.in_force s.in_force s.bytes.capacity s.frames.capacity s.places.capacity
          (reads.Own (record { first = length s.bytes.items; last = length (s.bytes.items ++ c.args.bytes.now) })) c.args.charge false c.self.invariant.0 (same_start s.bytes.items c.args.bytes.now) refl (omega arith)
          (omega arith) (omega arith) (omega arith) tt c.self.invariant.0.top (more_below s.places.items (length s.bytes.items) _ s.in_force (omega arith) c.self.invariant.0.now) (omega arith) (omega arith),
      modes_more (reads.Own _) false s.in_force c.args.charge _ s.frames.items s.modes.items s.modes.items s.modes.capacity s.frames.capacity tt (omega arith) c.self.invariant.1,
    )

pub returns : goal.returns
returns g c =
    let s = c.self.inside in
    let xs = s.bytes.items in
    let ys = xs ++ c.args.bytes.now in
    let bytes_are = items_are c.extend.new.self (record { items = ys; capacity = s.bytes.capacity }) c.extend.ensures.items c.extend.ensures.room in
    let same = same_arguments ys xs s.places.items s.places.items (length xs) (length s.places.items) s.in_force (same_start xs c.args.bytes.now) refl (let top = c.self.invariant.0.top in omega arith) c.self.invariant.0.now in
    let last : c.len-last.result ≡ length ys = c.len-last.ensures.value ∙ ap length c.extend.ensures.items in
    let frames_are = c.push.ensures
    ∙ ap₂ (λ n m. record { items = record { reads = reads.Own (record { first = n; last = m }); old = s.in_force; charge = c.args.charge; height = n; has_mode = false } ∷ s.frames.items; capacity = s.frames.capacity }) c.len-first.ensures.value last in
    ap₂ (λ (fs : Items Frame) (bs : Items ℕ). levels_of fs.items s.modes.items bs.items s.places.items s.in_force bs.capacity fs.capacity) frames_are bytes_are
    ∙ pushed_is s.frames.items xs ys s.places.items s.places.items s.in_force s.in_force s.bytes.capacity s.frames.capacity s.places.capacity
    (reads.Own (record { first = length xs; last = length ys })) c.args.charge false c.self.invariant.0 (same_start xs c.args.bytes.now) refl (omega arith) s.modes.items
    ∙ ap₂ (λ bs os. deeper (Own bs) os c.args.charge None (levels_of s.frames.items s.modes.items xs s.places.items s.in_force s.bytes.capacity s.frames.capacity))
    (part_last xs c.args.bytes.now (record { first = length xs; last = length ys }) refl refl) same
    ∙ ap (λ (v : Levels _). deeper (Own c.args.bytes.now) v.arguments c.args.charge None v) c.self.view_is

pub push-requires : goal.push-requires
push-requires g c = more_frames _ _ _ _ _ _ _ _ c.self.view_is c.requires.room

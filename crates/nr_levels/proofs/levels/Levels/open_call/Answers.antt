use Rattle.std.proofs.Common.{None, false, ◌≡◌, ◌++◌, ◌∷◌, ℕ, length, map, refl, ap, ap₂, sym, ◌∙◌, length-append, subst, arith}
use Rattle.nr_vectors.specs.Items.{Items}
use Rattle.nr_levels.specs.declared.frame.Span.{Span}
use Rattle.nr_levels.specs.Levels.{Text, deeper}
use Rattle.nr_levels.specs.Frame.{part, levels_of, spans_from, EndBy}
use Rattle.nr_levels.specs.declared.frame.Frame.{Frame}
use Rattle.nr_levels.specs.declared.frame.Reads.TheVariants as reads
use Rattle.nr_levels.proofs.Pushing.{items_are, has_room, pushed_is, more_frames, pushed_stands, modes_more, same_start, part_new, spans_end, length-spans_from, spans_cut}
use Rattle.nr_levels.proofs.levels.Levels.open_call.Goals as goal

pub extend-requires : goal.extend-requires
extend-requires g c =
    let s = c.self.inside in
    let room = has_room s.frames.items s.modes.items s.bytes.items s.places.items s.in_force s.bytes.capacity s.frames.capacity s.places.capacity c.args.self.now (length c.args.bytes.now) c.args.charge c.self.invariant.0 c.self.view_is c.requires.paid c.requires.bytes c.requires.room in
    room.bytes_fit

pub push_spans-requires-clause-room : goal.push_spans-requires-clause-room
push_spans-requires-clause-room g c =
    let s = c.self.inside in
    let room = has_room s.frames.items s.modes.items s.bytes.items s.places.items s.in_force s.bytes.capacity s.frames.capacity s.places.capacity c.args.self.now (length c.args.bytes.now) c.args.charge c.self.invariant.0 c.self.view_is c.requires.paid c.requires.bytes c.requires.room in
    let fit = room.places_fit in
    let nine = c.requires.nine in
    omega arith

pub push_spans-requires-clause-small : goal.push_spans-requires-clause-small
push_spans-requires-clause-small g c =
    let s = c.self.inside in
    let room = has_room s.frames.items s.modes.items s.bytes.items s.places.items s.in_force s.bytes.capacity s.frames.capacity s.places.capacity c.args.self.now (length c.args.bytes.now) c.args.charge c.self.invariant.0 c.self.view_is c.requires.paid c.requires.bytes c.requires.room in
    let fit = room.bytes_fit in
    let at = c.len-height.ensures.value in
    let all = c.requires.lens in
    let small = c.self.invariant.0.small in
    omega arith

pub invariant_of-self : goal.invariant_of-self
invariant_of-self g c =
    let s = c.self.inside in
    let ys = s.bytes.items ++ c.args.bytes.now in
    let spans = spans_from (length s.bytes.items) c.args.lens.now in
    let qs = s.places.items ++ spans in
    let all = length-append s.bytes.items c.args.bytes.now in
    let total = length-append s.places.items spans in
    let count = length-spans_from (length s.bytes.items) c.args.lens.now in
    let nine = c.requires.nine in
    let lens = c.requires.lens in
    let paid = c.requires.paid in
    let below = subst (EndBy (length ys)) (sym (part_new s.places.items spans (record { first = length s.places.items; last = length qs }) refl refl)) (spans_end (length s.bytes.items) c.args.lens.now (length ys) (omega arith)) in
    rw (c.push.ensures, c.len-last.ensures.value, c.push_spans.ensures, c.extend.ensures.items, c.extend.ensures.room, c.len-first.ensures.value, c.len-height.ensures.value) (
      pushed_stands s.frames.items s.bytes.items ys s.places.items qs s.in_force (record { first = length s.places.items; last = length qs }) s.bytes.capacity s.frames.capacity s.places.capacity
          (reads.Text c.args.id 0) c.args.charge false c.self.invariant.0 (same_start s.bytes.items c.args.bytes.now) (same_start s.places.items spans) (omega arith)
          (omega arith) (omega arith) tt tt refl (record { within = omega arith; below = below }) (omega arith) (omega arith),
      modes_more (reads.Text c.args.id 0) false s.in_force c.args.charge _ s.frames.items s.modes.items s.modes.items s.modes.capacity s.frames.capacity tt (omega arith) c.self.invariant.1,
    )

pub returns : goal.returns
returns g c =
    let s = c.self.inside in
    let xs = s.bytes.items in
    let ys = xs ++ c.args.bytes.now in
    let spans = spans_from (length xs) c.args.lens.now in
    let qs = s.places.items ++ spans in
    let now : Span = record { first = length s.places.items; last = length qs } in
    let total = length-append s.places.items spans in
    let lens = c.requires.lens in
    let bytes_are = items_are c.extend.new.self (record { items = ys; capacity = s.bytes.capacity }) c.extend.ensures.items c.extend.ensures.room in
    let places_are : c.push_spans.new.places ≡ record { items = qs; capacity = s.places.capacity } = c.push_spans.ensures ∙ ap (λ n. record { items = s.places.items ++ spans_from n c.args.lens.now; capacity = s.places.capacity }) c.len-height.ensures.value in
    let last : c.len-last.result ≡ length qs = c.len-last.ensures.value ∙ ap (λ (v : Items Span). length v.items) places_are in
    let now_is : record { first = c.len-first.result; last = c.len-last.result } ≡ now = ap₂ (λ n m. record { first = n; last = m }) c.len-first.ensures.value last in
    let frames_are = c.push.ensures
    ∙ ap (λ n. record { items = record { reads = reads.Text c.args.id 0; old = s.in_force; charge = c.args.charge; height = n; has_mode = false } ∷ s.frames.items; capacity = s.frames.capacity }) c.len-height.ensures.value in
    ap₂ (λ (fs : Items Frame) (bs : Items ℕ). levels_of fs.items s.modes.items bs.items c.push_spans.new.places.items (record { first = c.len-first.result; last = c.len-last.result }) bs.capacity fs.capacity) frames_are bytes_are
    ∙ ap₂ (λ (ps : Items Span) t. levels_of (record { reads = reads.Text c.args.id 0; old = s.in_force; charge = c.args.charge; height = length xs; has_mode = false } ∷ s.frames.items) s.modes.items ys ps.items t s.bytes.capacity s.frames.capacity) places_are now_is
    ∙ pushed_is s.frames.items xs ys s.places.items qs s.in_force now s.bytes.capacity s.frames.capacity s.places.capacity
    (reads.Text c.args.id 0) c.args.charge false c.self.invariant.0 (same_start xs c.args.bytes.now) (same_start s.places.items spans) (omega arith) s.modes.items
    ∙ ap (λ os. deeper (Text c.args.id 0) os c.args.charge None (levels_of s.frames.items s.modes.items xs s.places.items s.in_force s.bytes.capacity s.frames.capacity))
    (ap (map (part ys)) (part_new s.places.items spans now refl refl) ∙ spans_cut xs c.args.bytes.now (length xs) c.args.lens.now refl (omega arith))
    ∙ ap (deeper (Text c.args.id 0) _ c.args.charge None) c.self.view_is

pub push-requires : goal.push-requires
push-requires g c = more_frames _ _ _ _ _ _ _ _ c.self.view_is c.requires.room

use Rattle.std.proofs.Common.{◌≡◌, ◌*◌, ◌≤◌, length, take, arith, inl, inr, refl, subst, sym, ap, ◌∙◌}
use Rattle.std.proofs.lemmas.Bool.{cases_lt}
use Rattle.std.proofs.lemmas.List.{length-map, length-take}
use Rattle.std.proofs.lemmas.List.Elements.{All-take}
use Rattle.nr_store.specs.Store.{Stored, charge_of}
use Rattle.nr_store.specs.Windows.{rest_of, left_times}
use Rattle.nr_store.specs.declared.element.Element.TheVariants as elements
use Rattle.nr_reading.specs.declared.event.Event.TheVariants as events
use Rattle.nr_reading.specs.Many.InArgument.{ending_of, IsPlain}
use Rattle.nr_input.specs.Limits.{limits_of}
use Rattle.nr_input.specs.Moving.{situation}
use Rattle.fast_input.specs.Runs.{HasRead}
use Rattle.fast_input.specs.Target.{with_more}
use Rattle.fast_input.proofs.LimitsStay.{left_times-limits, with_more-limits}
use Rattle.fast_input.proofs.PuttingLevel.{ArePrefix, level_added, level_added_pays, level_added_left}
use Rattle.fast_input.proofs.StretchMoves.{reads_nothing}
use Rattle.fast_input.proofs.Targets.{limit-with_more, nothing_added}
use Rattle.fast_input.proofs.adding.add_level_prefix.Goals as goal

pub returns-clause-read : goal.returns-clause-read
returns-clause-read g c = λ k p supply holds.
    let t = c.args.target in
    let near = c.copy_level-near.result in
    let copied = c.copy_level-near.ensures in
    let bs = take near c.copy_level-near.new.chunk in
    let taken = c.add_plain-taken.result in
    let add = c.add_plain-taken.ensures in
    let v = c.args.store.now in
    let r = c.args.reader.now in
    let bytes = ap length copied.bytes in
    let long : length bs ≡ near = omega (arith, bytes, length-map bs elements.Byte, length-take near (rest_of v.levels), copied.prefix) in
    let prefix : ArePrefix bs (rest_of v.levels) = copied.bytes ∙ ap (λ n. take n (rest_of v.levels)) (sym long) in
    let within_limit : charge_of (with_more t (take taken bs) v) ≤ (with_more t (take taken bs) v).limit = subst (λ (w : Stored _). charge_of w ≤ w.limit) add.added add.afforded in
    let fits : charge_of (with_more t (take taken bs) v) ≤ v.limit = omega (arith, within_limit, limit-with_more t (take taken bs) v) in
    let ends = c.skip.ensures ∙ ap (λ (w : Stored _). left_times taken w) add.added in
    elim (cases_lt 0 taken) [
      | inl some ↦ subst (λ (w : Stored _). HasRead (2 * taken) (situation v k r) events.Nothing w r p supply) (sym ends) (level_added t taken v k r bs c.requires some add.prefix (All-take (IsPlain (ending_of r.half.reading.mode)) taken bs copied.plain) fits p supply holds prefix)
      | inr few ↦
          let none : taken ≡ 0 = omega (arith, few) in
          let zero_moves : 0 ≡ 2 * taken = omega (arith, none) in
          let same = c.skip.ensures ∙ ap (λ n. left_times n c.add_plain-taken.new.store) none ∙ nothing_added t taken bs v c.add_plain-taken.new.store none add.added in
          subst (λ n. HasRead n (situation v k r) events.Nothing c.skip.new.self r p supply) zero_moves (reads_nothing (situation v k r) c.skip.new.self r p supply (record { stored = same; reader = refl; coming = holds }))
    ]

pub returns-clause-pays : goal.returns-clause-pays
returns-clause-pays g c = λ p.
    let t = c.args.target in
    let bs = take c.copy_level-near.result c.copy_level-near.new.chunk in
    let taken = c.add_plain-taken.result in
    let few : taken ≤ length (rest_of c.args.store.now.levels) =
    omega (arith, c.add_plain-taken.ensures.prefix, length-take c.copy_level-near.result c.copy_level-near.new.chunk, c.copy_level-near.ensures.prefix) in
    level_added_pays t taken (take taken bs) c.args.store.now c.skip.new.self p c.args.reader.now few (c.skip.ensures ∙ ap (λ (w : Stored _). left_times taken w) c.add_plain-taken.ensures.added)

pub returns-clause-limits : goal.returns-clause-limits
returns-clause-limits g c =
    let t = c.args.target in
    let v = c.args.store.now in
    let r = c.args.reader.now in
    let bs = take c.copy_level-near.result c.copy_level-near.new.chunk in
    ap (λ (w : Stored _). limits_of w r) c.skip.ensures ∙ left_times-limits c.add_plain-taken.result c.add_plain-taken.new.store r
    ∙ (ap (λ (w : Stored _). limits_of w r) c.add_plain-taken.ensures.added ∙ with_more-limits t (take c.add_plain-taken.result bs) v r)

pub returns-clause-none : goal.returns-clause-none
returns-clause-none g c = λ none.
    let t = c.args.target in
    let bs = take c.copy_level-near.result c.copy_level-near.new.chunk in
    c.skip.ensures ∙ ap (λ n. left_times n c.add_plain-taken.new.store) none ∙ nothing_added t c.add_plain-taken.result bs c.args.store.now c.add_plain-taken.new.store none c.add_plain-taken.ensures.added

pub returns-clause-stops : goal.returns-clause-stops
returns-clause-stops g c = λ few b next.
    let near = c.copy_level-near.result in
    let copied = c.copy_level-near.ensures in
    let bs = take near c.copy_level-near.new.chunk in
    let taken = c.add_plain-taken.result in
    let add = c.add_plain-taken.ensures in
    let v = c.args.store.now in
    let r = c.args.reader.now in
    let bytes = ap length copied.bytes in
    let long : length bs ≡ near = omega (arith, bytes, length-map bs elements.Byte, length-take near (rest_of v.levels), copied.prefix) in
    let prefix : ArePrefix bs (rest_of v.levels) = copied.bytes ∙ ap (λ n. take n (rest_of v.levels)) (sym long) in
    let within : taken ≤ near = omega (arith, add.prefix, long) in
    level_added_left c.args.target taken near v c.add_plain-taken.new.store c.skip.new.self r bs c.requires long within prefix copied.longest add.longest add.added c.skip.ensures b few next

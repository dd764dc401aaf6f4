use Rattle.std.specs.Prelude.{map}
use Rattle.std.proofs.Common.{◌≡◌, Some, length, take, ap, ◌∙◌, subst, arith}
use Rattle.std.proofs.lemmas.List.{length-map, length-take-le}
use Rattle.nr_input.specs.Place.{element_item}
use Rattle.fast_input.specs.Stretches.{AreBytes}
use Rattle.fast_input.proofs.TextGathered.{all_bytes, string_may}
use Rattle.fast_input.proofs.interpolations.copy_string.Goals as goal

pub returns-clause-may : goal.returns-clause-may
returns-clause-may g c = λ n few.
    let text = c.in-Some.text.now in
    let chunk = c.copy_run.new.chunk in
    let bytes = take (length text) chunk in
    let yes = c.if-not-may_splice.false in
    let may = c.may_splice.ensures in
    let copied = c.copy_run.ensures in
    let prefix = copied.prefix in
    let holds = copied.holds in
    let all = c.if-copy_run-len.false in
    let same : c.copy_run.result ≡ length text = omega (arith, prefix, all, length-map text element_item) in
    let long : length bytes ≡ length text = length-take-le (length text) chunk (omega (arith, holds, all, c.copy_run.auto.chunk)) in
    let are = all_bytes bytes text (subst (λ k. AreBytes (take k chunk) (map element_item text)) same copied.bytes) long in
    let charge = may.charge yes in
    string_may n bytes c.args.store.now c.args.reader.now few (omega (arith, charge, long)) (may.depth yes) (may.burst yes) c.requires.pending_act
    (c.in-Some.ensures.text ∙ ap (λ es. Some es) are)

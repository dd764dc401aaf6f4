use Rattle.std.proofs.lemmas.Grind.{common_steps}
use Rattle.std.specs.Prelude.{slice_get}
use Rattle.std.specs.Option.{option_map}
use Rattle.std.proofs.Common.{◌≡◌, ◌<◌, length, map, take, get_or, Some, ap, sym, ◌∙◌, subst, arith}
use Rattle.std.proofs.lemmas.List.{length-map, take-map}
use Rattle.std.proofs.lemmas.Option.{slice_get-map, slice_get-get_or, slice_get_within}
use Rattle.nr_store.specs.declared.element.Element.TheVariants as elements
use Rattle.nr_store.specs.Windows.{rest_of}
use Rattle.nr_reading.specs.Many.InArgument.{ending_of, IsPlain}
use Rattle.fast_input.proofs.adding.copy_level.Goals as goal

pub returns-in-Bytes-clause-bytes : goal.returns-in-Bytes-clause-bytes
returns-in-Bytes-clause-bytes g c =
    let n = c.copy_plain_bytes.result in
    let rest = rw c.in-Bytes.is at c.rest.ensures in
    ap (map elements.Byte) c.copy_plain_bytes.ensures.bytes ∙ sym (take-map elements.Byte n c.in-Bytes.bytes.now) ∙ ap (take n) rest

pub returns-in-Text-clause-longest : goal.returns-in-Text-clause-longest
returns-in-Text-clause-longest g c = λ fewer byte is.
    let rest = rw c.in-Text.is at c.rest.ensures in
    let there = ap (λ xs. slice_get xs c.copy_plain.result) rest ∙ is in
    λ plain. c.copy_plain.ensures.longest fewer (slice_get_within _ _ _ there) byte there (subst (λ e. IsPlain e byte) (sym c.ending_of-ending.ensures) plain)

pub returns-in-Bytes-clause-longest : goal.returns-in-Bytes-clause-longest
returns-in-Bytes-clause-longest g c = λ fewer byte is.
    let n = c.copy_plain_bytes.result in
    let bs = c.in-Bytes.bytes.now in
    let rest = rw c.in-Bytes.is at c.rest.ensures in
    let inside = slice_get_within (rest_of c.args.store.now.levels) n (elements.Byte byte) is in
    let less : n < length bs = omega (arith, inside, ap length rest, length-map bs elements.Byte) in
    let own : Some (elements.Byte (get_or bs n 0)) ≡ Some (elements.Byte byte) = sym (slice_get-map elements.Byte bs n ∙ ap (option_map elements.Byte) (slice_get-get_or bs n 0 less)) ∙ ap (λ xs. slice_get xs n) rest ∙ is in
    let same : get_or bs n 0 ≡ byte = cc in
    λ plain. c.copy_plain_bytes.ensures.longest fewer less (subst (λ e. IsPlain e (get_or bs n 0)) (sym c.ending_of-ending.ensures) (subst (IsPlain (ending_of c.args.half.now.reading.mode)) (sym same) plain))

pub returns-in-Bytes-clause-prefix : goal.returns-in-Bytes-clause-prefix
returns-in-Bytes-clause-prefix g c = grind (arith, common_steps)

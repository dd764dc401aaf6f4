use Rattle.std.proofs.Common.{◌≡◌, ◌≤◌, List, ℕ, ◌++◌, take, ◌∙◌, ap, subst, arith}
use Rattle.std.proofs.lemmas.List.{length-take, take-take}
use Rattle.mdoc_converter.specs.AtHand.{Passes}
use Rattle.mdoc_converter.specs.Reading.{fed, state}
use Rattle.mdoc_converter.proofs.AtHand.{passes_at_hand}
use Rattle.mdoc_converter.proofs.SaidParts.{counted-passing, counted-taken, said-passing, said-taken}
use Rattle.mdoc_converter.proofs.staged.MdocConverterStage.turn.Goals as goal

pub returns-then-count-gt0-clause-says : goal.returns-then-count-gt0-clause-says
returns-then-count-gt0-clause-says c =
    let s = c.args.self.now in
    let bytes = c.args.bytes.now in
    let n = c.passing-count.result in
    let cut = length-take c.min.result bytes in
    let few = c.passing-count.ensures.few in
    let same : take n (take c.min.result bytes) ≡ take n bytes = take-take n c.min.result bytes (omega (arith, cut, few)) in
    said-passing (state s.reader s.blocks.items) (take n bytes) c.args.out.now.items c.extend.new.self.items
    (subst (λ (xs : List ℕ). Passes (state s.reader s.blocks.items) xs) same (passes_at_hand s.reader n (take c.min.result bytes) s.blocks.items c.passing-count.ensures.value))
    (c.extend.ensures.items ∙ ap (λ (xs : List ℕ). c.args.out.now.items ++ xs) same)

pub returns-then-count-gt0-clause-counts : goal.returns-then-count-gt0-clause-counts
returns-then-count-gt0-clause-counts c =
    let s = c.args.self.now in
    let bytes = c.args.bytes.now in
    let n = c.passing-count.result in
    let cut = length-take c.min.result bytes in
    let few = c.passing-count.ensures.few in
    let same : take n (take c.min.result bytes) ≡ take n bytes = take-take n c.min.result bytes (omega (arith, cut, few)) in
    counted-passing s.steps _ n (state s.reader s.blocks.items) bytes (omega (arith, cut, few))
    (subst (λ (xs : List ℕ). Passes (state s.reader s.blocks.items) xs) same (passes_at_hand s.reader n (take c.min.result bytes) s.blocks.items c.passing-count.ensures.value))
    c.saturating_add-self.ensures

pub returns-clause-says : goal.returns-clause-says
returns-clause-says c =
    let s = c.args.self.now in
    let bytes = c.args.bytes.now in
    let n = c.read_some-taken.result.count in
    let cut = length-take c.min.result bytes in
    let few = c.read_some-taken.ensures.within in
    let same : take n (take c.min.result bytes) ≡ take n bytes = take-take n c.min.result bytes (omega (arith, cut, few)) in
    said-taken (state s.reader s.blocks.items) _ (take n bytes) c.args.out.now.items c.read_some-taken.new.out.items
    (c.read_some-taken.ensures.state ∙ ap (λ (xs : List ℕ). (fed (state s.reader s.blocks.items) xs).state) same)
    (c.read_some-taken.ensures.items ∙ ap (λ (xs : List ℕ). c.args.out.now.items ++ (fed (state s.reader s.blocks.items) xs).bytes) same)

pub returns-clause-counts : goal.returns-clause-counts
returns-clause-counts c =
    let s = c.args.self.now in
    let bytes = c.args.bytes.now in
    let n = c.read_some-taken.result.count in
    let cut = length-take c.min.result bytes in
    let few = c.read_some-taken.ensures.within in
    let same : take n (take c.min.result bytes) ≡ take n bytes = take-take n c.min.result bytes (omega (arith, cut, few)) in
    counted-taken s.steps _ c.read_some-taken.result.steps (state s.reader s.blocks.items) _ (take n bytes)
    (c.read_some-taken.ensures.state ∙ ap (λ (xs : List ℕ). (fed (state s.reader s.blocks.items) xs).state) same)
    (c.read_some-taken.ensures.steps ∙ ap (λ (xs : List ℕ). (fed (state s.reader s.blocks.items) xs).steps) same)
    c.saturating_add-self-2.ensures

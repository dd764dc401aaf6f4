use Rattle.std.proofs.lemmas.Grind.{common_steps}
use Rattle.std.proofs.Common.{◌≡◌, ◌≤◌, Bool, true, false, not, Option, None, Some, is_none, is_some, length, take, drop, ap, sym, ◌∙◌, refl, arith}
use Rattle.nr_fill.specs.declared.line.WordState.{WordState}
use Rattle.nr_fill.specs.Line.{Lined}
use Rattle.nr_fill.proofs.Lines.{is_line_removed}
use Rattle.std.proofs.lemmas.List.{length-take-le}
use Rattle.nr_fill.specs.Cutting.{pieces_width}
use Rattle.std.proofs.lemmas.List.{take-take}
use Rattle.nr_fill.proofs.Lines.{is_nil_left, is_none_word, pieces_after}
use Rattle.nr_fill.proofs.line.Line.remove.Goals as goal

-- where the test says that there is some
none_of : (word : Option WordState) (result : Bool) → is_some word ≡ not result → result ≡ is_none word
none_of None true some = refl
none_of None false some = (let wrong : false ≡ true = some in cc)
none_of (Some w) true some = (let wrong : true ≡ false = some in cc)
none_of (Some w) false some = refl

pub invariant_of-self : goal.invariant_of-self
invariant_of-self c =
    let s = c.self.inside in
    let long = length-take-le s.pieces s.row.pieces c.self.invariant.pieces_within in
    let same = ap (λ (v : Lined). length v.collected.pieces) c.self.view_is in
    let within : c.args.n ≤ s.pieces = omega (arith, c.requires.within) in
    let part : c.args.plan.wide ≡ pieces_width (take c.args.n s.row.pieces) =
    c.requires.wide ∙ ap (λ (v : Lined). pieces_width (take c.args.n v.collected.pieces)) (sym c.self.view_is) ∙ ap pieces_width (take-take c.args.n s.pieces s.row.pieces within) in
    rw c.remove_prefix.ensures (is_line_removed c.args.n c.args.plan.wide c.self.invariant within part)

pub returns : goal.returns
returns c =
    let s = c.self.inside in
    let low = c.self.invariant.pieces_within in
    let long = length-take-le s.pieces s.row.pieces low in
    let same = ap (λ (v : Lined). length v.collected.pieces) c.self.view_is in
    let within : c.args.n ≤ s.pieces = omega (arith, c.requires.within) in
    let afterwards = pieces_after c.args.n s.pieces s.row.pieces within in
    let nil = is_nil_left c.args.n s.pieces s.row.pieces within low in
    let none = none_of s.word c.is_none.result c.is_none.ensures in
    let wordless = is_none_word s.word (drop s.pieces s.row.pieces) s.row.last in
    rw (c.remove_prefix.ensures, c.afterwards-self-inside.ensures, c.margins_after-self-inside.ensures, none, afterwards.0, afterwards.1, ← c.self.view_is, nil, wordless) refl

pub remove_prefix-requires-clause-cells : goal.remove_prefix-requires-clause-cells
remove_prefix-requires-clause-cells c = grind (arith, common_steps)

pub overflow_sub-self-2 : goal.overflow_sub-self-2
overflow_sub-self-2 c = grind (arith, common_steps)

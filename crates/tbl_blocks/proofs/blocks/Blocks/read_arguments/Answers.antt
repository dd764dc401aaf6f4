use Rattle.std.proofs.Common.{◌≡◌, ◌∙◌, ◌+◌, ◌-◌, Some, None, ap, arith, drop, length, sym, take}
use Rattle.std.proofs.lemmas.List.{length-drop, take_rest}
use Rattle.tbl_blocks.specs.Arguments.{argument}
use Rattle.tbl_blocks.specs.Words.{argument_read}
use Rattle.tbl_blocks.proofs.InTurn.{next_argument, no_argument}
use Rattle.tbl_blocks.proofs.blocks.Blocks.read_arguments.Goals as goal

pub returns-in_default : goal.returns-in_default
returns-in_default c =
    let text = c.args.text.now in
    let at = c.loop-count.at in
    let none : argument (drop at text) ≡ None = sym (ap argument (take_rest text at)) ∙ (sym c.find_argument.ensures.value ∙ c.in_default.is) in
    sym (no_argument _ c.loop-count.count (c.args.place + at) (drop at text) c.args.manner c.loop-count.self none) ∙ c.loop-count.invariant.value

pub loop-count-preserved : goal.loop-count-preserved
loop-count-preserved c =
    let text = c.args.text.now in
    let at = c.loop-count.at in
    let a = c.in-Some.argument in
    let found : argument (drop at text) ≡ Some a = sym (ap argument (take_rest text at)) ∙ (sym c.find_argument.ensures.value ∙ c.in-Some.is) in
    let now = c.read_argument.ensures ∙ ap (λ q. argument_read a q (c.args.place + at) c.loop-count.count c.args.manner c.loop-count.self) (take_rest text at) in
    let rest : length (take (length text - at) (drop at text)) ≡ length text - at = ap length (take_rest text at) ∙ length-drop at text in
    record {
      value = next_argument (length text) c.loop-count.count at c.args.place text c.args.manner c.loop-count.self c.read_argument.new.self _ a
          c.loop-count-test.true found now c.loop-count.invariant.value;
      within = omega (arith, rest, c.in-Some.ensures.within.2, c.loop-count.invariant.within);
    }

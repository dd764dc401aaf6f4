use Rattle.std.proofs.lemmas.Grind.{common_steps}
use Prim.Native.Char.{code}
use Rattle.std.proofs.Common.{◌≡◌, ◌+◌, ◌*◌, ◌<◌, ◌≤◌, refl, ap, ◌∙◌, subst, sym, arith}
use Rattle.fast_input.specs.AtHand.{after_last}
use Rattle.nr_input.specs.Place.{HoldsComing}
use Rattle.nr_formatter.specs.Many.EmptyLines.{gone_down, lines_below}
use Rattle.nr_formatter.proofs.EmptyLines.{lines_gone, room_below}
use Rattle.nr_machine.specs.Holding.{shape}
use Rattle.fast_machine.specs.Running.{Makes}
use Rattle.fast_machine.proofs.EmptyLines.{down_shape, lines_shape, makes_empty, makes_more}
use Rattle.fast_machine.proofs.empty_lines.put_empty_lines.Goals as goal

pub returns-then-count-eq0-clause-reads : goal.returns-then-count-eq0-clause-reads
returns-then-count-eq0-clause-reads g c =
    let f = c.args.engine.now.formatter in
    let n = c.newlines_next-count.result in
    let one : n + 1 ≡ 1 = omega (arith, c.if-count-eq0.true) in
    let some : 1 ≤ lines_below f = omega (arith, c.if-lines-eq0.false, c.lines_below-lines.ensures.value) in
    let is : c.go_down.new.self ≡ gone_down 1 f = c.go_down.ensures ∙ ap (λ k. gone_down k f) one in
    record {
      makes = rw is (makes_empty (shape c.args.engine.now) (g.R.Source.supply c.args.input.now) c.requires.empty (room_below 1 f (omega arith) some));
      failures = refl;
      unfailed = λ u. u;
    }

pub returns-clause-reads : goal.returns-clause-reads
returns-clause-reads g c =
    let f = c.args.engine.now.formatter in
    let n = c.newlines_next-count.result in
    let e = shape c.args.engine.now in
    let old = g.R.Source.supply c.args.input.now in
    let new = g.R.Source.supply c.take_window.new.source in
    let taken = c.take_window.ensures in
    let some : 0 < n = omega (arith, c.if-count-eq0.false) in
    let fits : 1 + n ≤ lines_below f = omega (arith, c.if-lines-eq0.false, c.lines_below-lines.ensures.value, c.newlines_next-count.ensures.most) in
    let counts : n + 1 ≡ 1 + n = omega arith in
    let is : c.go_down.new.self ≡ gone_down n (gone_down 1 f) = c.go_down.ensures ∙ (ap (λ k. gone_down k f) counts ∙ sym (lines_gone 1 n f)) in
    let moves : 3 + 4 * n ≡ 4 * n + 3 = omega arith in
    record {
      makes = rw (taken.reader, taken.place, is)
          (subst (λ k. Makes k e (lines_shape n (down_shape e)) old new) moves
          (makes_more n e old new c.requires.empty some (room_below (1 + n) f (omega arith) fits) (c.newlines_next-count.ensures.next.next some)
          (λ k h. subst (λ q. HoldsComing (after_last (code "\n") n k) q new) taken.place (taken.coming k h))));
      failures = taken.failures;
      unfailed = λ u. rw taken.place refl;
    }

pub go_down-requires : goal.go_down-requires
go_down-requires g c = grind (arith, common_steps)

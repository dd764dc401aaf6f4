use Rattle.std.proofs.Common.{◌≡◌, ◌++◌, ◌≤◌, ◌+◌, List, ℕ, arith, drop, length, refl, sym, ◌∙◌, subst}
use Rattle.utf8_converter.proofs.Passing.{counted-err}
use Rattle.document_stages.specs.Running.{Flushes}
use Rattle.utf8_own_sink.proofs.Passing.{Flushes-moved, Prefix-between, Reads-all, Takes-err, rest-whole, within-past}
use Rattle.document_stages.proofs.Steps.{drop_drop}
use Rattle.utf8_own_sink.specs.Reading.{Moves, fed}
use Rattle.utf8_own_sink.proofs.pending.PendingText.take_all.Goals as goal

pub loop-at-preserved : goal.loop-at-preserved
loop-at-preserved g c =
    let t = c.args.table.now in
    let bytes = c.args.bytes.now in
    let s = c.loop-at.self.reader in
    let u = c.read_some-at.new.self in
    let n = c.read_some-at.result in
    let at = c.loop-at.at in
    let moves = subst (λ (zs : List ℕ). Moves t s u c.make_room.new.out.items c.read_some-at.new.out.items zs (drop n zs)) (rest-whole at bytes) c.read_some-at.ensures.moves in
    let more = drop_drop at n bytes in
    let a = g.W.Sink.held c.args.output.now in
    let b = g.W.Sink.held c.make_room.new.output in
    let x = c.args.self.now.out.items ++ (fed t c.args.self.now.reader bytes).bytes in
    record {
      within = within-past at n bytes c.loop-at.invariant.within c.read_some-at.ensures.within;
      reader = subst (λ (zs : List ℕ). (fed t u zs).reader ≡ (fed t c.args.self.now.reader bytes).reader) more (moves.end ∙ c.loop-at.invariant.reader);
      out = subst (λ (zs : List ℕ). Flushes a b x (c.read_some-at.new.out.items ++ (fed t u zs).bytes)) more
          (Flushes-moved t a (g.W.Sink.held c.loop-at.output) b s u x c.loop-at.self.out.items c.make_room.new.out.items c.read_some-at.new.out.items (drop at bytes)
          (drop n (drop at bytes)) c.loop-at.invariant.out c.in_ok-make_room.ensures.ok moves);
      failures = c.in_ok-make_room.ensures.failures ∙ c.loop-at.invariant.failures;
    }

pub returns-in_err-make_room-clause-takes : goal.returns-in_err-make_room-clause-takes
returns-in_err-make_room-clause-takes g c =
    let t = c.args.table.now in
    let bytes = c.args.bytes.now in
    let a = g.W.Sink.held c.args.output.now in
    let d = g.W.Sink.held c.make_room.new.output in
    let r = c.args.self.now.reader in
    let p = c.args.self.now.out.items in
    let s = c.loop-at.self.reader in
    Takes-err t c.from_residual.result a d r s p c.make_room.new.out.items bytes c.from_residual.ensures.0
    (Prefix-between a (g.W.Sink.held c.loop-at.output) d (p ++ (fed t r bytes).bytes) c.loop-at.self.out.items (fed t s (drop c.loop-at.at bytes)).bytes c.loop-at.invariant.out c.in_err-make_room.ensures.err)

pub returns-in_err-make_room-clause-failures : goal.returns-in_err-make_room-clause-failures
returns-in_err-make_room-clause-failures g c =
    counted-err c.from_residual.result (g.W.Sink.failures c.args.output.now) (g.W.Sink.failures c.loop-at.output) (g.W.Sink.failures c.make_room.new.output) c.from_residual.ensures.0
    c.loop-at.invariant.failures c.in_err-make_room.ensures.failures

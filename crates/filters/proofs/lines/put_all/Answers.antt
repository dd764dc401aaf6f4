use Rattle.std.proofs.Common.{rules, ◌+◌, drop, sym, subst, ◌∙◌}
use Rattle.std.proofs.KnownBytes.{Appends-trans}
use Rattle.std.specs.Io.KnownBytes.{Appends}
use Rattle.nr_units.proofs.Prefixes.{AppendsPrefix-append, AppendsPrefix-after}
use Rattle.nr_units.specs.Sink.{AppendsPrefix}
use Rattle.filters.specs.Lines.{joined}
use Rattle.filters.proofs.Joining.{joined-at, joined-more}
use Rattle.filters.proofs.lines.put_all.Goals as goal

pub returns-in_err-put-clause-err : goal.returns-in_err-put-clause-err
returns-in_err-put-clause-err g c =
    let parts = c.args.parts.now in
    let at = c.loop-part.part-index in
    let prefix = AppendsPrefix-after _ _ _ _ _ c.loop-part.invariant.put c.in_err-put.ensures.err in
    let begun = AppendsPrefix-append _ _ _ (joined (drop (at + 1) parts)) prefix in
    let reported = subst (AppendsPrefix _ _) (sym (joined-at parts at _ c.loop-part-test.true)) begun in
    search rules

pub loop-part-preserved : goal.loop-part-preserved
loop-part-preserved g c = record {
  put = subst (Appends _ _) (sym (joined-more c.args.parts.now c.loop-part.part-index _ c.loop-part-test.true)) (Appends-trans _ _ _ _ _ c.loop-part.invariant.put c.in_ok-put.ensures.ok);
  failures = c.in_ok-put.ensures.failures ∙ c.loop-part.invariant.failures;
}

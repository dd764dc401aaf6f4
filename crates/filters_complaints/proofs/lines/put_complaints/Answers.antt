use Rattle.std.proofs.Common.{rules, ◌+◌, drop, sym, subst, ◌∙◌}
use Rattle.std.proofs.KnownBytes.{Appends-trans}
use Rattle.std.specs.Io.KnownBytes.{Appends}
use Rattle.std.specs.List.{flat_map}
use Rattle.nr_units.proofs.Prefixes.{AppendsPrefix-append, AppendsPrefix-after}
use Rattle.nr_units.specs.Sink.{AppendsPrefix}
use Rattle.filters_complaints.specs.Lines.{complaint_line}
use Rattle.filters_complaints.proofs.Written.{lines-at, lines-more}
use Rattle.filters_complaints.proofs.lines.put_complaints.Goals as goal

pub returns-in_err-put_complaint-clause-err : goal.returns-in_err-put_complaint-clause-err
returns-in_err-put_complaint-clause-err g c =
    let line = complaint_line g.C.Complains.at g.C.Complains.says c.args.program.now c.args.name.now in
    let all = c.args.complaints.now in
    let at = c.loop-complaint.complaint-index in
    let item = c.complaint-item in
    let prefix = AppendsPrefix-after _ _ _ _ _ c.loop-complaint.invariant.put c.in_err-put_complaint.ensures.err in
    let begun = AppendsPrefix-append _ _ _ (flat_map line (drop (at + 1) all)) prefix in
    let reported = subst (AppendsPrefix _ _) (sym (lines-at line all at item.result c.loop-complaint-test.true item.is)) begun in
    search rules

pub loop-complaint-preserved : goal.loop-complaint-preserved
loop-complaint-preserved g c =
    let line = complaint_line g.C.Complains.at g.C.Complains.says c.args.program.now c.args.name.now in
    let item = c.complaint-item in
    record {
      put = subst (Appends _ _) (sym (lines-more line c.args.complaints.now c.loop-complaint.complaint-index item.result c.loop-complaint-test.true item.is))
          (Appends-trans _ _ _ _ _ c.loop-complaint.invariant.put c.in_ok-put_complaint.ensures.ok);
      failures = c.in_ok-put_complaint.ensures.failures ∙ c.loop-complaint.invariant.failures;
    }

use Rattle.std.proofs.Common.{ap, ◌∙◌}
use Rattle.nr_formatter.specs.Limits.{limits_of}
use Rattle.nr_formatter.proofs.LimitsStay.{bp-limits, ch-limits, dt-limits, ne-limits, pn-limits, rm-limits, rn-limits, rr-limits, rt-limits, sp-limits}
use Rattle.nr_formatter.proofs.formatter.Formatter.act.Goals as goal

pub returns-in-Ad-clause-limits : goal.returns-in-Ad-clause-limits
returns-in-Ad-clause-limits c = ap limits_of c.ad.ensures

pub returns-in-Bp-clause-limits : goal.returns-in-Bp-clause-limits
returns-in-Bp-clause-limits c = ap limits_of c.bp.ensures ∙ bp-limits c.args.self.now

pub returns-in-C2-clause-limits : goal.returns-in-C2-clause-limits
returns-in-C2-clause-limits c = ap limits_of c.c2.ensures

pub returns-in-Cc-clause-limits : goal.returns-in-Cc-clause-limits
returns-in-Cc-clause-limits c = ap limits_of c.cc.ensures

pub returns-in-Ce-clause-limits : goal.returns-in-Ce-clause-limits
returns-in-Ce-clause-limits c = ap limits_of c.ce.ensures

pub returns-in-Ch-clause-limits : goal.returns-in-Ch-clause-limits
returns-in-Ch-clause-limits c = ap limits_of c.ch.ensures ∙ ch-limits c.args.self.now

pub returns-in-Cp-clause-limits : goal.returns-in-Cp-clause-limits
returns-in-Cp-clause-limits c = ap limits_of c.cp.ensures

pub returns-in-Dt-clause-limits : goal.returns-in-Dt-clause-limits
returns-in-Dt-clause-limits c = ap limits_of c.dt.ensures ∙ dt-limits c.args.self.now

pub returns-in-Em-clause-limits : goal.returns-in-Em-clause-limits
returns-in-Em-clause-limits c = ap limits_of c.em.ensures

pub returns-in-Ex-clause-limits : goal.returns-in-Ex-clause-limits
returns-in-Ex-clause-limits c = ap limits_of c.ex.ensures.is

pub returns-in-Fi-clause-limits : goal.returns-in-Fi-clause-limits
returns-in-Fi-clause-limits c = ap limits_of c.fi.ensures

pub returns-in-Ft-clause-limits : goal.returns-in-Ft-clause-limits
returns-in-Ft-clause-limits c = ap limits_of c.ft.ensures

pub returns-in-Hy-clause-limits : goal.returns-in-Hy-clause-limits
returns-in-Hy-clause-limits c = ap limits_of c.hy.ensures

pub returns-in-In-clause-limits : goal.returns-in-In-clause-limits
returns-in-In-clause-limits c = ap limits_of c.in_.ensures

pub returns-in-It-clause-limits : goal.returns-in-It-clause-limits
returns-in-It-clause-limits c = ap limits_of c.it.ensures

pub returns-in-Lc-clause-limits : goal.returns-in-Lc-clause-limits
returns-in-Lc-clause-limits c = ap limits_of c.lc.ensures

pub returns-in-Ll-clause-limits : goal.returns-in-Ll-clause-limits
returns-in-Ll-clause-limits c = ap limits_of c.ll.ensures

pub returns-in-Lt-clause-limits : goal.returns-in-Lt-clause-limits
returns-in-Lt-clause-limits c = ap limits_of c.lt.ensures

pub returns-in-Na-clause-limits : goal.returns-in-Na-clause-limits
returns-in-Na-clause-limits c = ap limits_of c.na.ensures

pub returns-in-Ne-clause-limits : goal.returns-in-Ne-clause-limits
returns-in-Ne-clause-limits c = ap limits_of c.ne.ensures ∙ ne-limits c.args.self.now

pub returns-in-Nf-clause-limits : goal.returns-in-Nf-clause-limits
returns-in-Nf-clause-limits c = ap limits_of c.nf.ensures

pub returns-in-Nh-clause-limits : goal.returns-in-Nh-clause-limits
returns-in-Nh-clause-limits c = ap limits_of c.nh.ensures

pub returns-in-Ns-clause-limits : goal.returns-in-Ns-clause-limits
returns-in-Ns-clause-limits c = ap limits_of c.ns.ensures

pub returns-in-Pc-clause-limits : goal.returns-in-Pc-clause-limits
returns-in-Pc-clause-limits c = ap limits_of c.pc.ensures

pub returns-in-Pl-clause-limits : goal.returns-in-Pl-clause-limits
returns-in-Pl-clause-limits c = ap limits_of c.pl.ensures

pub returns-in-Pn-clause-limits : goal.returns-in-Pn-clause-limits
returns-in-Pn-clause-limits c = ap limits_of c.pn.ensures ∙ pn-limits c.args.self.now

pub returns-in-Po-clause-limits : goal.returns-in-Po-clause-limits
returns-in-Po-clause-limits c = ap limits_of c.po.ensures

pub returns-in-Rm-clause-limits : goal.returns-in-Rm-clause-limits
returns-in-Rm-clause-limits c = ap limits_of c.rm.ensures ∙ rm-limits c.args.self.now

pub returns-in-Rn-clause-limits : goal.returns-in-Rn-clause-limits
returns-in-Rn-clause-limits c = ap limits_of c.rn.ensures ∙ rn-limits c.args.self.now

pub returns-in-Rr-clause-limits : goal.returns-in-Rr-clause-limits
returns-in-Rr-clause-limits c = ap limits_of c.rr.ensures ∙ rr-limits c.args.self.now

pub returns-in-Rs-clause-limits : goal.returns-in-Rs-clause-limits
returns-in-Rs-clause-limits c = ap limits_of c.rs.ensures

pub returns-in-Rt-clause-limits : goal.returns-in-Rt-clause-limits
returns-in-Rt-clause-limits c = ap limits_of c.rt.ensures ∙ rt-limits c.args.self.now

pub returns-in-Sp-clause-limits : goal.returns-in-Sp-clause-limits
returns-in-Sp-clause-limits c = ap limits_of c.sp.ensures ∙ sp-limits c.args.self.now

pub returns-in-Ta-clause-limits : goal.returns-in-Ta-clause-limits
returns-in-Ta-clause-limits c = ap limits_of c.ta.ensures

pub returns-in-Tc-clause-limits : goal.returns-in-Tc-clause-limits
returns-in-Tc-clause-limits c = ap limits_of c.tc.ensures

pub returns-in-Ti-clause-limits : goal.returns-in-Ti-clause-limits
returns-in-Ti-clause-limits c = ap limits_of c.ti.ensures

pub returns-in-Ul-clause-limits : goal.returns-in-Ul-clause-limits
returns-in-Ul-clause-limits c = ap limits_of c.ul.ensures

pub returns-in-Vs-clause-limits : goal.returns-in-Vs-clause-limits
returns-in-Vs-clause-limits c = ap limits_of c.vs.ensures

use Rattle.std.proofs.Common.{◌≡◌, ◌*◌, ◌≤◌, length, take, ap, ap₂, sym, ◌∙◌, arith, length-take}
use Rattle.nr_fill.specs.declared.setting.Extra.{Extra}
use Rattle.nr_fill.specs.Line.{Lined}
use Rattle.nr_fill.specs.Spreading.{gaps, shared}
use Rattle.nr_fill.specs.Setting.{is_spread, spreads}
use Rattle.nr_fill.proofs.TextWidth.{gaps-le, shared-within, text_within}
use Rattle.nr_fill.proofs.line.Line.plan.Goals as goal
use Rattle.nr_fill.proofs.line.Line.plan.Goals.{then-spread, else-spread}

pub overflow_add-result-4 : goal.overflow_add-result-4
overflow_add-result-4 c =
    let s = c.self.inside in
    let h = c.self.invariant in
    let count = ap (λ (v : Lined). length v.collected.pieces) c.self.view_is in
    let few = gaps-le (take c.args.n c.args.self.now.collected.pieces) in
    let f = c.prefix-hyphens.ensures in
    omega (arith, f.small, f.short, f.gaps, length-take c.args.n c.args.self.now.collected.pieces, length-take s.pieces s.row.pieces, h.within, h.is_small)

pub returns-clause-most : goal.returns-clause-most
returns-clause-most c =
    let ps = take c.args.n c.args.self.now.collected.pieces in
    let r = c.prefix-hyphens.result in
    let f = c.prefix-hyphens.ensures in
    let spread : c.if-spread.result.each * gaps ps ≤ r.left_over = elim c.if-spread.branch [
      | then-spread w ↦
          let turn = c.self.inside.turn in
          let x = shared turn r.left_over r.sums.gaps in
          let is : c.if-spread.result.each * gaps ps ≡ x.each * r.sums.gaps =
          ap (λ (y : Extra). y.each * gaps ps) (w.result-is ∙ w.share.ensures) ∙ ap (λ k. x.each * k) (sym f.gaps) in
          let within = shared-within turn r.left_over r.sums.gaps in
          omega arith
      | else-spread w ↦
          let is = ap (λ (x : Extra). x.each * gaps ps) (w.result-is ∙ w.none.ensures) in
          omega arith
    ] in
    let within = text_within c.if-spread.result ps r.left_over spread in
    omega (arith, f.wide, f.gaps)

pub returns-clause-most_small : goal.returns-clause-most_small
returns-clause-most_small c =
    let s = c.self.inside in
    let h = c.self.invariant in
    let count = ap (λ (v : Lined). length v.collected.pieces) c.self.view_is in
    let few = gaps-le (take c.args.n c.args.self.now.collected.pieces) in
    let f = c.prefix-hyphens.ensures in
    omega (arith, f.small, f.short, f.gaps, length-take c.args.n c.args.self.now.collected.pieces, length-take s.pieces s.row.pieces, h.within, h.is_small)

pub returns-clause-extra : goal.returns-clause-extra
returns-clause-extra c =
    let now = c.args.self.now.collected in
    let align = c.args.setting.align in
    let f = c.prefix-hyphens.ensures in
    let turn = ap (λ (v : Lined). v.collected.turn) c.self.view_is in
    let spread : c.spreads_gaps-spread.result ≡ spreads align now c.args.n = c.spreads_gaps-spread.ensures ∙ ap₂ (is_spread align) f.left_over f.gaps in
    elim c.if-spread.branch [
      | then-spread w ↦ rw (sym spread ∙ w.if-spread.true, ← turn, ← f.left_over, ← f.gaps) (w.result-is ∙ w.share.ensures)
      | else-spread w ↦ rw (sym spread ∙ w.if-spread.false) (w.result-is ∙ w.none.ensures)
    ]

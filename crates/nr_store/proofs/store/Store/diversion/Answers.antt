use Rattle.std.proofs.Common.{ap, sym, ◌∙◌, arith}
use Rattle.std.proofs.lemmas.List.{drop_all}
use Rattle.nr_store.specs.Store.{Stored, innermost}
use Rattle.nr_store.proofs.Diverting.{open_in, innermost_is, not_here, here}
use Rattle.nr_store.proofs.store.Store.diversion.Goals as goal

pub returns-then-is_some : goal.returns-then-is_some
returns-then-is_some g c =
    let s = c.self.inside in
    here s.drafts.items c.loop-n.n c.get-draft.result _ c.get-draft.ensures (sym c.is_some.ensures ∙ c.if-is_some.true) c.loop-n.invariant
    ∙ sym (innermost_is s.pool s.drafts.items) ∙ ap (λ (v : Stored _). innermost v.building) c.self.view_is

pub loop-n-preserved : goal.loop-n-preserved
loop-n-preserved g c =
    let s = c.self.inside in
    not_here s.drafts.items c.loop-n.n c.get-draft.result _ c.get-draft.ensures (sym c.is_some.ensures ∙ c.if-is_some.false) c.loop-n.invariant

pub returns : goal.returns
returns g c =
    let s = c.self.inside in
    let long = c.len-n-end.ensures.value in
    let test = c.loop-n-test.false in
    sym (ap open_in (drop_all c.loop-n.n s.drafts.items (omega arith))) ∙ c.loop-n.invariant ∙ sym (innermost_is s.pool s.drafts.items) ∙ ap (λ (v : Stored _). innermost v.building) c.self.view_is

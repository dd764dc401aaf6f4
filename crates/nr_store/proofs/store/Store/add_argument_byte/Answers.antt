use Rattle.std.proofs.Common.{◌≡◌, ◌==◌, [], ◌∷◌, true, length, ap, sym, ◌∙◌, arith}
use Rattle.std.proofs.lemmas.Grind.{common_steps}
use Rattle.nr_levels.specs.Laws.{with_bytes-full}
use Rattle.nr_store.specs.Holders.{beside_of}
use Rattle.nr_store.specs.Store.{Stored, gathering}
use Rattle.nr_store.proofs.Building.{is_within, nothing_afforded}
use Rattle.nr_store.proofs.store.Store.add_argument_byte.Goals as goal

pub returns-then-self-clause-answer : goal.returns-then-self-clause-answer
returns-then-self-clause-answer g c = grind (arith, common_steps)

pub invariant_of-self : goal.invariant_of-self
invariant_of-self g c = grind (arith, common_steps)

pub returns-then-is_full-clause-ok : goal.returns-then-is_full-clause-ok
returns-then-is_full-clause-ok g c =
    let now = c.args.self.now in
    let full : (length now.gathered.kept == 9) ≡ true = ap (λ (v : Stored _). length v.gathered.kept == 9) (sym c.self.view_is) ∙ sym c.is_full.ensures ∙ c.if-is_full.true in
    ap (λ x. record now { gathered = x }) (sym (with_bytes-full (c.args.byte ∷ []) now.gathered full))

pub returns-then-is_full-clause-answer : goal.returns-then-is_full-clause-answer
returns-then-is_full-clause-answer g c =
    let s = c.self.inside in
    let now = c.args.self.now in
    sym (nothing_afforded tt now (gathering c.args.byte now) s.charge s.stored (sym (returns-then-is_full-clause-ok g c))
    (is_within s.pool s.names s.drafts s.levels (beside_of s.gathering s.registers s.traps s.words) s.charge s.stored now c.self.invariant c.self.view_is))

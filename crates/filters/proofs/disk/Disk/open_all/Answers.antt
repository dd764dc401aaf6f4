use Rattle.std.proofs.Common.{◌≡◌, ℕ, ◌+◌, ◌<◌, List, [], ◌∷◌, ◌++◌, get_or, Bor, IsOk, vec_len, vec_capacity, ap, subst, ◌∙◌, arith}
use Rattle.filters.specs.Disk.{IsFirstRefused, MayCome, Opens, Refuses, opened_of}
use Rattle.filters.proofs.Opening.{MayCome-first, asked-more, first-refused, if_ok, opened-more}
use Rattle.filters.proofs.disk.Disk.open_all.Goals as goal

pub returns-in-Err-clause-unread : goal.returns-in-Err-clause-unread
returns-in-Err-clause-unread g c =
    let names = c.names_or_standard-names.result.now in
    let at = c.loop-name in
    let none : Bor (List ℕ) = record { ref_ptr = (0, 0); now = [] } in
    let name = (get_or names at.name-index none).now in
    let may_come = MayCome (g.I.Read.remaining c.args.self.now.standard) (g.P.Paths.may_open c.args.self.now.paths) in
    let refused = MayCome-first _ _ _ _ name Refuses (ap g.I.Read.remaining at.invariant.same) at.invariant.stays c.in-Err.ensures.opens.comes in
    subst (λ (ns : List (List ℕ)). IsFirstRefused may_come (g.P.Paths.asked c.args.self.now.paths) (g.P.Paths.asked c.open.new.self.paths) ns name) c.names_or_standard-names.ensures
    (first-refused may_come (opened_of g.P.File.Read.remaining g.I.Read.remaining) _ _ _ names at.name-index none at.opened.items c.loop-name-test.true
    at.invariant.opened at.invariant.asked refused c.in-Err.ensures.opens.asks)

pub loop-name-preserved : goal.loop-name-preserved
loop-name-preserved g c =
    let names = c.names_or_standard-names.result.now in
    let at = c.loop-name in
    let none : Bor (List ℕ) = record { ref_ptr = (0, 0); now = [] } in
    let name = (get_or names at.name-index none).now in
    let shown = opened_of g.P.File.Read.remaining g.I.Read.remaining in
    let may_come = MayCome (g.I.Read.remaining c.args.self.now.standard) (g.P.Paths.may_open c.args.self.now.paths) in
    let text = c.in-Ok-open.text in
    let room : vec_len at.opened < vec_capacity at.opened = omega (arith, at.invariant.count, at.invariant.room, c.loop-name-test.true) in
    let ok : IsOk c.push.result = c.push.ensures.succeeds room in
    let items : c.push.new.self.items ≡ at.opened.items ++ text ∷ [] = c.push.ensures.items ∙ if_ok c.push.result _ _ ok in
    let len : vec_len c.push.new.self ≡ vec_len at.opened + 1 = c.push.ensures.len ∙ if_ok c.push.result _ _ ok in
    let comes = MayCome-first _ _ _ _ name (Opens (shown text).left) (ap g.I.Read.remaining at.invariant.same) at.invariant.stays c.in-Ok-open.ensures.opens.comes in
    record {
      count = len ∙ ap (λ (k : ℕ). k + 1) at.invariant.count;
      room = omega (arith, c.push.ensures.capacity, at.invariant.room);
      opened = opened-more may_come shown names at.name-index none at.opened.items c.push.new.self.items text c.loop-name-test.true items at.invariant.opened
          (c.in-Ok-open.ensures.named, comes);
      asked = asked-more _ _ _ names at.name-index none c.loop-name-test.true at.invariant.asked c.in-Ok-open.ensures.opens.asks;
      stays = λ other opening may. at.invariant.stays other opening (c.in-Ok-open.ensures.stays other opening may);
      same = c.in-Ok-open.ensures.same ∙ at.invariant.same;
    }

use Rattle.std.proofs.Common.{ℕ, List, ◌-◌, ◌≤◌, ◌++◌, ◌∙◌, length, drop, sym, ap, append-nil, arith}
use Rattle.std.proofs.lemmas.List.{drop_all, length-drop, length-take}
use Rattle.utf8_own_characters.specs.Listening.{after}
use Rattle.utf8_own_characters.proofs.Letters.{more_after}
use Rattle.utf8_own_stage.specs.Coding.{said_of, place_after_all}
use Rattle.utf8_own_stage.proofs.Letters.{more_placed, more_said}
use Rattle.utf8_own_stage.proofs.coding.put_all.Goals as goal

pub loop-count-preserved : goal.loop-count-preserved
loop-count-preserved c =
    let t = c.args.table.now in
    let bs = c.args.bytes.now in
    let n = c.loop-count.count in
    let k = length bs - n in
    let j = c.put_first-more.result in
    let l = c.loop-count.listener in
    let p = c.loop-count.place in
    let m = c.put_first-more.new.listener in
    let q = c.put_first-more.new.place in
    let before = c.loop-count.invariant in
    let cut = length-take k (drop n bs) in
    let rest = length-drop n bs in
    let prefix = c.put_first-more.ensures.within in
    let inside = before.within in
    let within : j ≤ k = omega (arith, cut, rest, prefix) in
    let heard = c.put_first-more.ensures.listener in
    let placed = c.put_first-more.ensures.place in
    record {
      within = omega (arith, within, inside);
      room = c.put_first-more.ensures.room ∙ before.room;
      few = (let said = c.put_first-more.ensures.few in let some = c.put_first-more.ensures.some in let few = before.few in omega (arith, said, some, few));
      listener = more_after l m bs n k j within heard ∙ before.listener;
      place = more_placed l m p q bs n k j within heard placed ∙ before.place;
      items = more_said t l m p q bs n k j c.loop-count.out.items c.put_first-more.new.out.items within heard placed c.put_first-more.ensures.items ∙ before.items;
    }

pub returns-clause-items : goal.returns-clause-items
returns-clause-items c =
    let l = c.loop-count.listener in
    let none = drop_all c.loop-count.count c.args.bytes.now c.loop-count-test.false in
    sym (append-nil c.loop-count.out.items)
    ∙ ap (λ (zs : List ℕ). c.loop-count.out.items ++ said_of c.args.table.now l c.loop-count.place zs) (sym none)
    ∙ c.loop-count.invariant.items

pub returns-clause-listener : goal.returns-clause-listener
returns-clause-listener c =
    ap (after c.loop-count.listener) (sym (drop_all c.loop-count.count c.args.bytes.now c.loop-count-test.false))
    ∙ c.loop-count.invariant.listener

pub returns-clause-place : goal.returns-clause-place
returns-clause-place c =
    ap (place_after_all c.loop-count.listener c.loop-count.place) (sym (drop_all c.loop-count.count c.args.bytes.now c.loop-count-test.false))
    ∙ c.loop-count.invariant.place

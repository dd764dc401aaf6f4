use Rattle.std.proofs.Common.{ℕ, List, ◌+◌, ◌-◌, ◌≤◌, ◌∙◌, length, drop, take, sym, ap, arith}
use Rattle.std.proofs.lemmas.List.{drop_all, length-drop, length-take}
use Rattle.utf8_own_characters.specs.declared.counting.Count.{Count}
use Rattle.utf8_own_characters.specs.Listening.{after, done_in}
use Rattle.utf8_own_characters.specs.Looking.{seen}
use Rattle.utf8_own_characters.proofs.Letters.{more_after, more_seen}
use Rattle.utf8_own_characters.proofs.looking.look_at.Goals as goal

pub loop-count-preserved : goal.loop-count-preserved
loop-count-preserved c =
    let bs = c.args.bytes.now in
    let n = c.loop-count.count in
    let k = length bs - n in
    let looked = c.look_at_first-looked in
    let j = looked.result.count in
    let l = c.loop-count.listener in
    let m = looked.new.listener in
    let before = c.loop-count.invariant in
    let cut = length-take k (drop n bs) in
    let rest = length-drop n bs in
    let prefix = looked.ensures.within in
    let inside = before.within in
    let within : j ≤ k = omega (arith, cut, rest, prefix) in
    let room = c.args.counts.now.capacity in
    record {
      within = omega (arith, within, inside);
      room = looked.ensures.room ∙ before.room;
      once = looked.ensures.once;
      listener = more_after l m bs n k j within looked.ensures.listener ∙ before.listener;
      items =
          more_seen room l m bs n k j c.loop-count.counts.items looked.new.counts.items within looked.ensures.listener
          (looked.ensures.items ∙ ap (λ (r : ℕ). seen r c.loop-count.counts.items (done_in l (take j (take k (drop n bs))))) before.room)
          ∙ before.items;
    }

pub returns-clause-items : goal.returns-clause-items
returns-clause-items c =
    ap (λ (zs : List ℕ). seen c.args.counts.now.capacity c.loop-count.counts.items (done_in c.loop-count.listener zs))
    (sym (drop_all c.loop-count.count c.args.bytes.now c.loop-count-test.false))
    ∙ c.loop-count.invariant.items

pub returns-clause-listener : goal.returns-clause-listener
returns-clause-listener c =
    ap (after c.loop-count.listener) (sym (drop_all c.loop-count.count c.args.bytes.now c.loop-count-test.false))
    ∙ c.loop-count.invariant.listener

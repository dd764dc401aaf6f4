use Rattle.std.proofs.Common.{ℕ, Some, true, ◌∙◌, sym, ap, arith}
use Rattle.utf8_own_characters.specs.Counting.{counted_within}
use Rattle.utf8_own_characters.specs.Decoding.{none}
use Rattle.utf8_own_characters.specs.declared.cluster.Cluster.{Cluster}
use Rattle.utf8_own_characters.specs.declared.decoding.Part.{Part}
use Rattle.utf8_own_characters.specs.declared.listening.Listener.{Listener}
use Rattle.utf8_own_characters.proofs.Runs.{begins_rest, few_more, first_counted, more_counted, more_held, placed_after}
use Rattle.utf8_own_characters.proofs.looking.look_at_letters.Goals as goal

pub loop-next-init : goal.loop-next-init
loop-next-init c =
    let begins = c.requires.begins in
    record {
      some = omega arith;
      within = begins.long;
      room = c.note-fits.ensures.room;
      once = c.note-fits.ensures.once;
      placed = begins.placed;
      listener = placed_after c.args.listener.now c.args.bytes.now c.args.letter begins;
      items =
          first_counted c.args.counts.now.capacity c.args.listener.now c.args.bytes.now c.args.letter c.args.counts.now.items c.note-fits.new.counts.items begins
          c.note-fits.ensures.items;
    }

pub loop-next-preserved : goal.loop-next-preserved
loop-next-preserved c =
    let bs = c.args.bytes.now in
    let n = c.loop-next.count in
    let d = c.in-Some.next in
    let l = c.args.listener.now in
    let before = c.loop-next.invariant in
    let begins = begins_rest bs n d c.in-Some.ensures in
    let room = c.args.counts.now.capacity in
    let ys = c.loop-next.counts.items in
    let clusters = c.single.ensures in
    record {
      some = omega arith;
      within = few_more bs n d before.within begins;
      room = c.count_cluster-fits.ensures.room ∙ before.room;
      once = c.count_cluster-fits.ensures.once;
      placed = begins.placed;
      listener = more_held l bs n c.loop-next.last d begins before.listener;
      items =
          more_counted room l bs n c.loop-next.last d c.args.counts.now.items ys c.count_cluster-fits.new.counts.items begins before.listener before.placed before.items
          (c.count_cluster-fits.ensures.items ∙ ap (λ (r : ℕ). counted_within r ys c.single.result) before.room ∙ ap (counted_within room ys) clusters);
    }

pub returns-clause-listener : goal.returns-clause-listener
returns-clause-listener c =
    ap {B = Listener} (λ (p : Part). record { part = p; held = Some c.single-2.result; is_plain = true }) c.none.ensures
    ∙ ap {B = Listener} (λ (x : Cluster). record { part = none; held = Some x; is_plain = true }) c.single-2.ensures
    ∙ sym c.loop-next.invariant.listener

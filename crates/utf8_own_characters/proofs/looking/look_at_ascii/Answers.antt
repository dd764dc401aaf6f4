use Rattle.std.proofs.Common.{ℕ, Bool, ◌∙◌, sym, ap, get_or, arith}
use Rattle.utf8_own_characters.specs.declared.listening.Listener.{Listener}
use Rattle.utf8_own_characters.specs.Listening.{plain_after}
use Rattle.utf8_own_characters.specs.Looking.{after_byte}
use Rattle.utf8_own_characters.proofs.Ascii.{first_heard, first_seen, more_heard, more_seen}
use Rattle.utf8_own_characters.proofs.looking.look_at_ascii.Goals as goal

pub loop-count-init : goal.loop-count-init
loop-count-init c =
    let bs = c.args.bytes.now in
    let l = c.args.listener.now in
    let some = c.requires.some in
    record {
      some = omega arith;
      within = omega (arith, some);
      ascii = c.requires.ascii;
      listener = first_heard l bs some c.requires.ascii;
      items = first_seen c.args.counts.now.capacity l bs c.args.counts.now.items c.note-fits.new.counts.items some c.requires.ascii c.note-fits.ensures.items;
    }

pub loop-count-preserved : goal.loop-count-preserved
loop-count-preserved c =
    let bs = c.args.bytes.now in
    let n = c.loop-count.count in
    let l = c.args.listener.now in
    let last = c.loop-count.last in
    let p = c.loop-count.is_plain in
    let before = c.loop-count.invariant in
    let inside = c.loop-count-test.true in
    let low = c.if-bytes-count-lt128.true in
    record {
      some = omega arith;
      within = omega (arith, inside);
      ascii = low;
      listener =
          more_heard l bs n last p inside low before.listener
          ∙ ap (λ (k : ℕ). after_byte (get_or bs n 0) (plain_after k p)) (sym c.from.ensures)
          ∙ ap (after_byte (get_or bs n 0)) (sym c.plain_after-is_plain.ensures);
      items = more_seen c.args.counts.now.capacity l bs n last p c.args.counts.now.items c.note-fits.new.counts.items inside low before.ascii before.listener before.items;
    }

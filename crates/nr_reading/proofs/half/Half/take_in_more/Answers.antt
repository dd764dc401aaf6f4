use Rattle.std.proofs.Common.{◌≡◌, ◌+◌, ◌-◌, ◌≤◌, length, refl, sym, ◌∙◌, arith}
use Rattle.std.proofs.lemmas.Bool.{false≢true}
use Rattle.std.proofs.lemmas.Option.{slice_get_past}
use Rattle.nr_reading.specs.declared.event.Event.TheVariants as events
use Rattle.nr_reading.proofs.Stretches.{leads_after, leads_taken_in}
use Rattle.nr_reading.proofs.half.Half.take_in_more.Goals as goal
use Rattle.nr_reading.proofs.half.Half.take_in_more.Goals.{in-Nothing, in_default-matches, in-Look, in_default-matches-2}

pub loop-taken-preserved : goal.loop-taken-preserved
loop-taken-preserved g c =
    let fs = g.I.Items.next_items c.args.items.now in
    let i = c.loop-taken.invariant in
    let at = c.loop-taken.taken + c.from.result in
    let silent : c.take_in_byte-seen.result.event ≡ events.Nothing = elim c.match-matches.branch [ in-Nothing b ↦ b.in-Nothing.is | in_default-matches b ↦ absurd (false≢true (sym b.matches-is ∙ c.if-not-matches.false)) ] in
    let taken_in = leads_taken_in fs c.args.from c.args.made c.loop-taken.taken c.loop-taken.moves c.from.result c.in-Some.byte c.args.self.now c.loop-taken.self c.take_in_whole.new.self c.take_in_byte-seen.new.self c.take_in_byte-seen.result
    i.leads (c.in_default-take_in_whole.ensures.left refl) (omega arith) i.pending_act c.in-Some.ensures.value c.take_in_byte-seen.ensures.takes_in c.from.ensures silent in
    record {
      leads =
          leads_after fs c.args.from c.args.made at (c.loop-taken.moves + 1) c.pass_comment-end.result (c.loop-taken.moves + 1 + (c.pass_comment-end.result - at)) c.args.self.now c.take_in_byte-seen.new.self c.take_in_byte-seen.new.self
          taken_in (c.pass_comment-end.ensures.leads (c.loop-taken.moves + 1));
      pending_act = elim c.match-matches-2.branch [ in-Look b ↦ b.in-Look.is | in_default-matches-2 b ↦ absurd (false≢true (sym b.matches-is ∙ c.if-not-matches-2.false)) ];
      few = omega arith;
    }

pub returns-after-loop-taken : goal.returns-after-loop-taken
returns-after-loop-taken g c =
    let fs = g.I.Items.next_items c.args.items.now in
    let i = c.loop-taken.invariant in
    record {
      taken_in = i.leads.taken_in;
      few = i.few;
      longest =
          λ silent pending_act less byte some.
          let past : length fs ≤ c.loop-taken.taken = omega (arith, less) in
          let none = slice_get_past fs c.loop-taken.taken past in
          let wrong = sym none ∙ some in
          absurd cc;
    }

use Rattle.std.proofs.Common.{◌+◌, sym, ◌∙◌, arith}
use Rattle.std.proofs.lemmas.Bool.{false≢true}
use Rattle.std.proofs.lemmas.Option.{IfSome_then}
use Rattle.nr_reading.proofs.Stretches.{nothing_taken_in, looking_next, recount}
use Rattle.nr_reading.proofs.half.Half.take_in_name.Goals.{in-Start, in_default}
use Rattle.nr_reading.proofs.half.Half.take_in_name.Goals as goal

pub take_in_name_at-requires-clause-mode : goal.take_in_name_at-requires-clause-mode
take_in_name_at-requires-clause-mode g c = elim c.match-matches.branch [ in-Start w ↦ w.in-Start.is | in_default w ↦ absurd (false≢true (sym w.matches-is ∙ c.if-not-matches.false)) ]

pub take_in_name_at-requires-clause-next : goal.take_in_name_at-requires-clause-next
take_in_name_at-requires-clause-next g c = looking_next c.args.self.now c.requires.pending_act (sym c.reads_plainly.ensures ∙ c.if-not-reads_plainly.false)

pub returns-clause-taken_in : goal.returns-clause-taken_in
returns-clause-taken_in g c =
    let fs = g.I.Items.next_items c.args.items.now in
    let h = c.args.self.now in
    IfSome_then c.take_in_name_at.result c.take_in_name_at.ensures.taken_in
    (λ name leads. (recount fs 0 0 (0 + name.taken) name.taken (0 + name.moves) name.moves h c.take_in_name_at.new.self (leads 0) (omega arith) (omega arith)).taken_in h (nothing_taken_in fs h))

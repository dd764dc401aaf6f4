use Rattle.std.proofs.Common.{ap, ◌∙◌}
use Rattle.nr_reading.specs.declared.next_item.NextItem.TheVariants as next_items
use Rattle.nr_reading.specs.declared.half.Seen.{Seen}
use Rattle.nr_reading.specs.Half.{taken_in}
use Rattle.nr_reading.proofs.Paying.{pays_for}
use Rattle.nr_reading.proofs.half.Half.take_in_byte.Goals as goal

pub returns-then-not-reads_plainly-clause-takes_in : goal.returns-then-not-reads_plainly-clause-takes_in
returns-then-not-reads_plainly-clause-takes_in c = ap (λ (s : Seen). taken_in c.take_in.new.self s) c.anew.ensures ∙ c.take_in.ensures.takes_in

pub returns-then-not-reads_plainly-clause-pays : goal.returns-then-not-reads_plainly-clause-pays
returns-then-not-reads_plainly-clause-pays c = pays_for (next_items.Byte c.args.byte) c.args.self.now _ _ (returns-then-not-reads_plainly-clause-takes_in c)

pub returns-then-is_direct-clause-pays : goal.returns-then-is_direct-clause-pays
returns-then-is_direct-clause-pays c = pays_for (next_items.Byte c.args.byte) c.args.self.now _ _ c.take_in_unescaped.ensures

pub returns-clause-pays : goal.returns-clause-pays
returns-clause-pays c = pays_for (next_items.Byte c.args.byte) c.args.self.now _ _ c.copy_byte.ensures

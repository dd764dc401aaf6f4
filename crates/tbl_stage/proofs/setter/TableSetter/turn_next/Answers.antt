use Rattle.std.proofs.Common.{◌<◌, refl, arith}
use Rattle.tbl_stage.proofs.Complaints.{kept_in, kept_more}
use Rattle.tbl_stage.proofs.Turns.{stands_after}
use Rattle.tbl_stage.proofs.setter.TableSetter.turn_next.Goals as goal

pub set_next-self-requires-clause-kept : goal.set_next-self-requires-clause-kept
set_next-self-requires-clause-kept c = kept_in c.args.self.now.complaints c.args.self.now.missed c.args.self.now.kept

pub invariant_of-self-then-len-self-clause-kept : goal.invariant_of-self-then-len-self-clause-kept
invariant_of-self-then-len-self-clause-kept c = kept_more c.args.self.now.complaints c.set_next-self.new.complaints c.args.self.now.missed c.set_next-self.result _ c.args.self.now.kept c.set_next-self.ensures.keeps

pub invariant_of-self-2-clause-kept : goal.invariant_of-self-2-clause-kept
invariant_of-self-2-clause-kept c = kept_more c.args.self.now.complaints c.set_next-self.new.complaints c.args.self.now.missed c.set_next-self.result _ c.args.self.now.kept c.set_next-self.ensures.keeps

pub invariant_of-self-2-clause-stands : goal.invariant_of-self-2-clause-stands
invariant_of-self-2-clause-stands c = λ live.
    (let s = c.args.self.now in
    let before = s.stands c.requires.live in
    let few : s.taken < 1099511627776 = (let a = before.few in let b = c.if-self-eq-TOO_MANY.false in omega (arith, a, b)) in
    stands_after c.args.next s.tables.now.page c.set_next-self.new.self.page s.taken _ c.is_none-self.result c.set_next-self.ensures.goes_on before refl few c.is_none-self.ensures live)

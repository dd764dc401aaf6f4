use Rattle.std.proofs.Common.{length, sym, arith}
use Rattle.std.proofs.lemmas.Bool.{cond-true, lt-ltb}
use Rattle.std.proofs.lemmas.Grind.{common_steps}
use Rattle.nr_store.specs.Holders.{beside_of}
use Rattle.nr_store.specs.Store.{worded}
use Rattle.nr_store.proofs.Building.{is_within, nothing_afforded}
use Rattle.nr_store.proofs.Besides.{beside_paid}
use Rattle.nr_store.proofs.Hyphenating.{words_length}
use Rattle.nr_store.proofs.store.Store.add_word.Goals as goal

pub push-requires : goal.push-requires
push-requires g c =
    let s = c.self.inside in
    let paid = beside_paid s.pool s.names s.drafts s.levels (beside_of s.gathering s.registers s.traps s.words) s.charge s.stored c.self.invariant in
    let long = words_length s.words.items in
    let below = c.self.invariant.within in
    let room = c.self.invariant.beside_suffices.words in
    omega arith

pub returns-then-room-weight-clause-answer : goal.returns-then-room-weight-clause-answer
returns-then-room-weight-clause-answer g c = grind (arith, common_steps)

pub returns-then-word-gt-LONGEST-clause-ok : goal.returns-then-word-gt-LONGEST-clause-ok
returns-then-word-gt-LONGEST-clause-ok g c = sym (cond-true _ _ _ (lt-ltb 64 (length c.args.word.now) c.if-word-gt-LONGEST.true))

pub returns-then-word-gt-LONGEST-clause-answer : goal.returns-then-word-gt-LONGEST-clause-answer
returns-then-word-gt-LONGEST-clause-answer g c =
    let s = c.self.inside in
    let now = c.args.self.now in
    sym (nothing_afforded tt now (worded c.args.word.now now) s.charge s.stored (sym (returns-then-word-gt-LONGEST-clause-ok g c))
    (is_within s.pool s.names s.drafts s.levels (beside_of s.gathering s.registers s.traps s.words) s.charge s.stored now c.self.invariant c.self.view_is))

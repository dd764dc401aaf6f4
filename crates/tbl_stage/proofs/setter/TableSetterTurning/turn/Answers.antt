use Rattle.std.proofs.Common.{ℕ, ◌<◌, ◌≤◌, List, ◌++◌, length, take, rules, sym, ◌∙◌, ap, arith}
use Rattle.tbl_stage.specs.Staged.{held_in, said}
use Rattle.tbl_stage.proofs.Parts.{turned_full}
use Rattle.tbl_stage.proofs.Turns.{fits_at, last_turned, one_byte, said_at}
use Rattle.tbl_stage.proofs.setter.TableSetterTurning.turn.Goals as goal

pub returns-then-self-clause-says : goal.returns-then-self-clause-says
returns-then-self-clause-says c = λ ends rest.
    (let s = c.args.self.now in
    let h = held_in s.tables.now s.taken s.full in
    (turned_full s.most h (take (length c.args.bytes.now) c.args.bytes.now) c.if-self.true).says ends rest
    ∙ ap (λ (l : List ℕ). l ++ said s.most h ends rest) (sym c.requires.empty))

pub returns-then-self-clause-fits : goal.returns-then-self-clause-fits
returns-then-self-clause-fits c = λ rest.
    (let s = c.args.self.now in
    let h = held_in s.tables.now s.taken s.full in
    (turned_full s.most h (take (length c.args.bytes.now) c.args.bytes.now) c.if-self.true).fits rest)

pub returns-clause-says : goal.returns-clause-says
returns-clause-says c =
    let some : 0 < length c.args.bytes.now = search rules in
    let none : c.turn_passing-count.result ≤ 0 = omega arith in
    let none' : c.turn_kept-count.result ≤ 0 = omega arith in
    said_at _ _ _ _ _ _
    (last_turned _ _ _ _ _ _ c.args.bytes.now _ _ _ _ _ _ _ c.turn_passing-count.ensures.turned none (c.turn_passing-count.ensures.none (omega arith)) c.turn_kept-count.ensures.turned none'
    c.turn_next.ensures.stepped (one_byte c.args.bytes.now some) c.turn_passing-count.ensures.most c.turn_kept-count.ensures.most)
    (c.turn_next.ensures.most ∙ c.turn_kept-count.ensures.most ∙ c.turn_passing-count.ensures.most)

pub returns-clause-fits : goal.returns-clause-fits
returns-clause-fits c =
    let some : 0 < length c.args.bytes.now = search rules in
    let none : c.turn_passing-count.result ≤ 0 = omega arith in
    let none' : c.turn_kept-count.result ≤ 0 = omega arith in
    fits_at _ _ _ _ _ _
    (last_turned _ _ _ _ _ _ c.args.bytes.now _ _ _ _ _ _ _ c.turn_passing-count.ensures.turned none (c.turn_passing-count.ensures.none (omega arith)) c.turn_kept-count.ensures.turned none'
    c.turn_next.ensures.stepped (one_byte c.args.bytes.now some) c.turn_passing-count.ensures.most c.turn_kept-count.ensures.most)
    (c.turn_next.ensures.most ∙ c.turn_kept-count.ensures.most ∙ c.turn_passing-count.ensures.most)

use Rattle.std.proofs.Common.{◌≡◌, ◌+◌, ◌-◌, ◌++◌, ℕ, List, false, ◌∙◌, sym, ap, append_assoc, arith}
use Rattle.mdoc_converter.specs.Reading.{State, Emitted, state, once, heard_in}
use Rattle.mdoc_converter.proofs.Hearing.{heard_left}
use Rattle.mdoc_converter.proofs.reader.Reader.+hear_in.Goals as goal

pub returns-clause-state : goal.returns-clause-state
returns-clause-state t c =
    let s = state c.args.self.now c.args.blocks.now.items in
    let left : (once c.args.byte s).takes ≡ false = sym c.hear_once.ensures.takes ∙ c.if-hear_once.false in
    let heard = heard_left c.args.most c.args.byte s (omega arith) left in
    c.hear_in.ensures.state
    ∙ ap (λ (x : State). (heard_in (c.args.most - 1) c.args.byte x).state) c.hear_once.ensures.state
    ∙ ap (λ (x : Emitted). x.state) (sym heard)

pub returns-clause-items : goal.returns-clause-items
returns-clause-items t c =
    let s = state c.args.self.now c.args.blocks.now.items in
    let o = once c.args.byte s in
    let left : o.takes ≡ false = sym c.hear_once.ensures.takes ∙ c.if-hear_once.false in
    let heard = heard_left c.args.most c.args.byte s (omega arith) left in
    let rest = (heard_in (c.args.most - 1) c.args.byte o.state).bytes in
    c.hear_in.ensures.items
    ∙ ap (λ (x : State). c.hear_once.new.out.items ++ (heard_in (c.args.most - 1) c.args.byte x).bytes) c.hear_once.ensures.state
    ∙ ap (λ (xs : List ℕ). xs ++ rest) c.hear_once.ensures.items
    ∙ append_assoc c.args.out.now.items o.bytes rest
    ∙ ap (λ (x : Emitted). c.args.out.now.items ++ x.bytes) (sym heard)

pub returns-clause-steps : goal.returns-clause-steps
returns-clause-steps t c =
    let s = state c.args.self.now c.args.blocks.now.items in
    let left : (once c.args.byte s).takes ≡ false = sym c.hear_once.ensures.takes ∙ c.if-hear_once.false in
    let heard = heard_left c.args.most c.args.byte s (omega arith) left in
    ap (λ (n : ℕ). 1 + n) c.hear_in.ensures.steps
    ∙ ap (λ (x : State). 1 + (heard_in (c.args.most - 1) c.args.byte x).steps) c.hear_once.ensures.state
    ∙ ap (λ (x : Emitted). x.steps) (sym heard)

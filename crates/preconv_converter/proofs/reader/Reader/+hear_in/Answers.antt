use Rattle.std.proofs.Common.{◌+◌, ◌++◌, ◌-◌, List, ℕ, ◌∙◌, sym, ap, append_assoc, append-nil, arith}
use Rattle.preconv_converter.specs.declared.reader.Reader.{Reader}
use Rattle.preconv_converter.specs.Reading.{Emitted, heard_in, with_half}
use Rattle.preconv_characters.specs.Saying.{bytes_of}
use Rattle.preconv_converter.proofs.Hearing.{heard_taken, heard_left}
use Rattle.preconv_converter.proofs.reader.Reader.+hear_in.Goals as goal

pub returns-then-seen-clause-items : goal.returns-then-seen-clause-items
returns-then-seen-clause-items t c =
    let r = c.args.self.now in
    let said = bytes_of r.table c.offer-seen.result.said in
    let heard = heard_taken c.args.most c.args.coming r c.offer-seen.new.self c.offer-seen.result c.offer-seen.ensures (omega arith) c.if-seen.true in
    c.say.ensures.items
    ∙ ap (λ (xs : List ℕ). c.args.out.now.items ++ xs) (sym (append-nil said))
    ∙ ap (λ (x : Emitted). c.args.out.now.items ++ x.bytes) (sym heard)

pub returns-then-seen-clause-steps : goal.returns-then-seen-clause-steps
returns-then-seen-clause-steps t c =
    ap (λ (x : Emitted). x.steps)
    (sym (heard_taken c.args.most c.args.coming c.args.self.now c.offer-seen.new.self c.offer-seen.result c.offer-seen.ensures (omega arith) c.if-seen.true))

pub returns-then-hears_as_is-clause-reader : goal.returns-then-hears_as_is-clause-reader
returns-then-hears_as_is-clause-reader t c =
    let heard = heard_left c.args.most c.args.coming c.args.self.now c.offer-seen.new.self c.offer-seen.result c.offer-seen.ensures (omega arith) c.if-seen.false in
    c.hears_as_is.ensures.reader c.if-hears_as_is.true ∙ ap (λ (x : Emitted). x.reader) (sym heard)

pub returns-then-hears_as_is-clause-items : goal.returns-then-hears_as_is-clause-items
returns-then-hears_as_is-clause-items t c =
    let r = c.args.self.now in
    let said = bytes_of r.table c.offer-seen.result.said in
    let heard = heard_left c.args.most c.args.coming r c.offer-seen.new.self c.offer-seen.result c.offer-seen.ensures (omega arith) c.if-seen.false in
    let rest = (heard_in (c.args.most - 1) c.args.coming (with_half c.offer-seen.new.self r)).bytes in
    c.hears_as_is.ensures.items c.if-hears_as_is.true
    ∙ ap (λ (xs : List ℕ). xs ++ rest) c.say.ensures.items
    ∙ append_assoc c.args.out.now.items said rest
    ∙ ap (λ (x : Emitted). c.args.out.now.items ++ x.bytes) (sym heard)

pub returns-then-hears_as_is-clause-steps : goal.returns-then-hears_as_is-clause-steps
returns-then-hears_as_is-clause-steps t c =
    ap (λ (n : ℕ). 1 + n) (sym (c.hears_as_is.ensures.steps c.if-hears_as_is.true))
    ∙ ap (λ (x : Emitted). x.steps)
    (sym (heard_left c.args.most c.args.coming c.args.self.now c.offer-seen.new.self c.offer-seen.result c.offer-seen.ensures (omega arith) c.if-seen.false))

pub returns-clause-reader : goal.returns-clause-reader
returns-clause-reader t c =
    let heard = heard_left c.args.most c.args.coming c.args.self.now c.offer-seen.new.self c.offer-seen.result c.offer-seen.ensures (omega arith) c.if-seen.false in
    c.hear_in.ensures.reader
    ∙ ap (λ (s : Reader). (heard_in (c.args.most - 1) c.args.coming s).reader) (c.hears_as_is.ensures.left c.if-hears_as_is.false)
    ∙ ap (λ (x : Emitted). x.reader) (sym heard)

pub returns-clause-items : goal.returns-clause-items
returns-clause-items t c =
    let r = c.args.self.now in
    let said = bytes_of r.table c.offer-seen.result.said in
    let heard = heard_left c.args.most c.args.coming r c.offer-seen.new.self c.offer-seen.result c.offer-seen.ensures (omega arith) c.if-seen.false in
    let rest = (heard_in (c.args.most - 1) c.args.coming (with_half c.offer-seen.new.self r)).bytes in
    c.hear_in.ensures.items
    ∙ ap (λ (s : Reader). c.hears_as_is.new.out.items ++ (heard_in (c.args.most - 1) c.args.coming s).bytes) (c.hears_as_is.ensures.left c.if-hears_as_is.false)
    ∙ ap (λ (xs : List ℕ). xs ++ rest) (c.hears_as_is.ensures.none c.if-hears_as_is.false ∙ c.say.ensures.items)
    ∙ append_assoc c.args.out.now.items said rest
    ∙ ap (λ (x : Emitted). c.args.out.now.items ++ x.bytes) (sym heard)

pub returns-clause-steps : goal.returns-clause-steps
returns-clause-steps t c =
    ap (λ (n : ℕ). 1 + n) (c.hear_in.ensures.steps ∙ ap (λ (s : Reader). (heard_in (c.args.most - 1) c.args.coming s).steps) (c.hears_as_is.ensures.left c.if-hears_as_is.false))
    ∙ ap (λ (x : Emitted). x.steps)
    (sym (heard_left c.args.most c.args.coming c.args.self.now c.offer-seen.new.self c.offer-seen.result c.offer-seen.ensures (omega arith) c.if-seen.false))

pub returns-then-seen-clause-reader : goal.returns-then-seen-clause-reader
returns-then-seen-clause-reader t c =
    ap (λ (x : Emitted). x.reader)
    (sym (heard_taken c.args.most c.args.coming c.args.self.now c.offer-seen.new.self c.offer-seen.result c.offer-seen.ensures (omega arith) c.if-seen.true))

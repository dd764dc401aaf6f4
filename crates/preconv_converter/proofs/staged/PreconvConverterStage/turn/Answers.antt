use Rattle.std.proofs.Common.{rules, ◌≡◌, ◌<◌, length, arith}
use Rattle.std.proofs.lemmas.List.{length-take}
use Rattle.preconv_converter.proofs.SaidParts.{counted-taken, said-taken, taken-first}
use Rattle.preconv_converter.proofs.Taking.{Takes-cut}
use Rattle.preconv_converter.proofs.staged.PreconvConverterStage.turn.Goals as goal

pub returns-then-taken-gt0-clause-says : goal.returns-then-taken-gt0-clause-says
returns-then-taken-gt0-clause-says c =
    let bytes = c.args.bytes.now in
    let cut = length-take c.min-len.result bytes in
    let within = c.take-taken.ensures.within in
    said-taken c.take-taken.result.count bytes c.args.self.now.reader c.take-taken.new.self c.args.out.now.items c.take-taken.new.out.items c.take-taken.result.steps
    (Takes-cut c.take-taken.result.count c.min-len.result bytes _ _ _ _ _ (omega (arith, cut, within)) c.take-taken.ensures.taken)

pub returns-then-taken-gt0-clause-counts : goal.returns-then-taken-gt0-clause-counts
returns-then-taken-gt0-clause-counts c =
    let bytes = c.args.bytes.now in
    let cut = length-take c.min-len.result bytes in
    let within = c.take-taken.ensures.within in
    counted-taken c.args.self.now.steps _ c.take-taken.result.count bytes c.args.self.now.reader c.take-taken.new.self c.args.out.now.items c.take-taken.new.out.items
    c.take-taken.result.steps
    (Takes-cut c.take-taken.result.count c.min-len.result bytes _ _ _ _ _ (omega (arith, cut, within)) c.take-taken.ensures.taken) c.saturating_add-self.ensures

pub returns-clause-says : goal.returns-clause-says
returns-clause-says c =
    let bytes = c.args.bytes.now in
    let none : c.take-taken.result.count ≡ 0 = (let h = c.if-taken-gt0.false in omega (arith, h)) in
    let some : 0 < length bytes = search rules in
    said-taken 1 bytes c.args.self.now.reader c.read-steps.new.self c.args.out.now.items c.read-steps.new.out.items c.read-steps.result
    (taken-first bytes _ c.take-taken.new.self _ _ c.take-taken.new.out.items _ c.min-len.result c.take-taken.result.count c.take-taken.result.steps _ none
    c.take-taken.ensures.taken some c.read-steps.ensures.reader c.read-steps.ensures.items c.read-steps.ensures.steps)

pub returns-clause-counts : goal.returns-clause-counts
returns-clause-counts c =
    let bytes = c.args.bytes.now in
    let none : c.take-taken.result.count ≡ 0 = (let h = c.if-taken-gt0.false in omega (arith, h)) in
    let some : 0 < length bytes = search rules in
    counted-taken c.args.self.now.steps _ 1 bytes c.args.self.now.reader c.read-steps.new.self c.args.out.now.items c.read-steps.new.out.items c.read-steps.result
    (taken-first bytes _ c.take-taken.new.self _ _ c.take-taken.new.out.items _ c.min-len.result c.take-taken.result.count c.take-taken.result.steps _ none
    c.take-taken.ensures.taken some c.read-steps.ensures.reader c.read-steps.ensures.items c.read-steps.ensures.steps) c.saturating_add-self-2.ensures

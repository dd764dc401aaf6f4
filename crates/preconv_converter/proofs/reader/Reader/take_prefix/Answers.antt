use Rattle.std.proofs.lemmas.Grind.{common_steps}
use Rattle.std.proofs.Common.{◌≡◌, ◌+◌, ◌∙◌, subst, arith}
use Rattle.preconv_converter.specs.declared.reader.Reader.{Reader}
use Rattle.preconv_converter.specs.Reading.{Takes}
use Rattle.preconv_converter.proofs.Taking.{Takes-run, Takes-fed, none-passed}
use Rattle.preconv_converter.proofs.reader.Reader.take_prefix.Goals as goal

pub returns-then-run-gt0-clause-taken : goal.returns-then-run-gt0-clause-taken
returns-then-run-gt0-clause-taken c =
    Takes-run c.pass-run.result c.args.bytes.now c.args.self.now c.pass-run.new.self c.args.out.now.items c.extend_prefix-then-run-gt0.new.self.items
    c.pass-run.ensures.plain c.extend_prefix-then-run-gt0.ensures.items

pub returns-then-control-gt0-clause-taken : goal.returns-then-control-gt0-clause-taken
returns-then-control-gt0-clause-taken c =
    let n = c.pass_control-control.result in
    let same : c.pass-run.new.self ≡ c.args.self.now =
    none-passed c.pass-run.result c.args.bytes.now c.args.self.now c.pass-run.new.self c.pass-run.ensures.plain (omega arith) in
    let P : Reader → Type 0 = λ r. Takes n c.args.bytes.now r c.pass_control-control.new.self c.args.out.now.items c.extend_prefix-then-control-gt0.new.self.items (n + 1) in
    subst P same
    (Takes-fed n c.args.bytes.now c.pass-run.new.self c.pass_control-control.new.self c.args.out.now.items c.extend_prefix-then-control-gt0.new.self.items (n + 1)
    (c.pass_control-control.ensures.taken (omega arith)) c.extend_prefix-then-control-gt0.ensures.items)

pub returns-clause-taken : goal.returns-clause-taken
returns-clause-taken c =
    let same : c.pass-run.new.self ≡ c.args.self.now =
    none-passed c.pass-run.result c.args.bytes.now c.args.self.now c.pass-run.new.self c.pass-run.ensures.plain (omega arith) in
    let still : c.pass_control-control.new.self ≡ c.args.self.now = c.pass_control-control.ensures.none (omega arith) ∙ same in
    let P : Reader → Type 0 = λ r. Takes c.take_first.result.count c.args.bytes.now r c.take_first.new.self c.args.out.now.items c.take_first.new.out.items c.take_first.result.steps in
    subst P still c.take_first.ensures.taken

pub returns-then-run-gt0-clause-few : goal.returns-then-run-gt0-clause-few
returns-then-run-gt0-clause-few c = grind (arith, common_steps)

pub returns-then-control-gt0-clause-few : goal.returns-then-control-gt0-clause-few
returns-then-control-gt0-clause-few c = grind (arith, common_steps)

pub returns-then-letters-gt0-clause-taken : goal.returns-then-letters-gt0-clause-taken
returns-then-letters-gt0-clause-taken c =
    let n = c.pass_letters-letters.result in
    Takes-fed n.count c.args.bytes.now c.args.self.now c.pass_letters-letters.new.self c.args.out.now.items c.extend_prefix.new.self.items n.steps
    c.pass_letters-letters.ensures.taken c.extend_prefix.ensures.items

pub returns-then-bytes-ge128-clause-taken : goal.returns-then-bytes-ge128-clause-taken
returns-then-bytes-ge128-clause-taken c =
    let t = c.take_beyond.result in
    let same : c.pass_letters-letters.new.self ≡ c.args.self.now = c.pass_letters-letters.ensures.none (omega arith) in
    let P : Reader → Type 0 = λ r. Takes t.count c.args.bytes.now r c.take_beyond.new.self c.args.out.now.items c.take_beyond.new.out.items t.steps in
    subst P same c.take_beyond.ensures.taken

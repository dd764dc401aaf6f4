use Rattle.std.proofs.lemmas.Grind.{common_steps}
use Rattle.std.proofs.Common.{◌≡◌, ◌+◌, ◌++◌, ◌∙◌, sym, ap, subst, arith}
use Rattle.preconv_converter.specs.declared.reader.Reader.{Reader}
use Rattle.preconv_converter.specs.Reading.{Emitted, Takes}
use Rattle.preconv_converter.proofs.Taking.{Takes-byte, Takes-fed, Takes-name}
use Rattle.preconv_converter.proofs.reader.Reader.take_first.Goals as goal

pub returns-then-pass_word-clause-taken : goal.returns-then-pass_word-clause-taken
returns-then-pass_word-clause-taken c =
    let word = c.pass_word.ensures.taken c.if-pass_word.true in
    Takes-byte c.args.bytes.now c.args.self.now c.pass_word.new.self c.args.out.now.items c.push.new.self.items 3
    c.requires.some (sym (ap (λ (t : Emitted). t.reader) word)) (c.push.ensures.items ∙ ap (λ (t : Emitted). c.args.out.now.items ++ t.bytes) (sym word))
    (sym (ap (λ (t : Emitted). t.steps) word))

pub returns-then-pass_comment-clause-taken : goal.returns-then-pass_comment-clause-taken
returns-then-pass_comment-clause-taken c =
    let same : c.pass_word.new.self ≡ c.args.self.now = c.pass_word.ensures.left c.if-pass_word.false in
    let P : Reader → Type 0 = λ r. Takes 3 c.args.bytes.now r c.pass_comment.new.self c.args.out.now.items c.extend_prefix.new.self.items 4 in
    subst P same
    (Takes-fed 3 c.args.bytes.now c.pass_word.new.self c.pass_comment.new.self c.args.out.now.items c.extend_prefix.new.self.items 4
    (c.pass_comment.ensures.taken c.if-pass_comment.true) c.extend_prefix.ensures.items)

pub returns-then-len-gt0-clause-taken : goal.returns-then-len-gt0-clause-taken
returns-then-len-gt0-clause-taken c =
    let n = c.pass_name-len.result in
    let same : c.pass_comment.new.self ≡ c.args.self.now = c.pass_comment.ensures.left c.if-pass_comment.false ∙ c.pass_word.ensures.left c.if-pass_word.false in
    let P : Reader → Type 0 = λ r. Takes (n + 1) c.args.bytes.now r c.pass_name-len.new.self c.args.out.now.items c.push-then-len-gt0.new.self.items (n + 1) in
    subst P same
    (Takes-name n c.args.bytes.now c.pass_comment.new.self c.pass_name-len.new.self c.args.out.now.items c.push-then-len-gt0.new.self.items
    (c.pass_name-len.ensures.named (omega arith)) c.push-then-len-gt0.ensures.items)

pub returns-clause-taken : goal.returns-clause-taken
returns-clause-taken c =
    let same : c.pass_comment.new.self ≡ c.args.self.now = c.pass_comment.ensures.left c.if-pass_comment.false ∙ c.pass_word.ensures.left c.if-pass_word.false in
    let still : c.pass_name-len.new.self ≡ c.args.self.now = c.pass_name-len.ensures.none (omega arith) ∙ same in
    let P : Reader → Type 0 = λ r. Takes c.take_one.result.count c.args.bytes.now r c.take_one.new.self c.args.out.now.items c.take_one.new.out.items c.take_one.result.steps in
    subst P still c.take_one.ensures.taken

pub returns-then-pass_word-clause-few : goal.returns-then-pass_word-clause-few
returns-then-pass_word-clause-few c = grind (arith, common_steps)

pub returns-then-pass_comment-clause-few : goal.returns-then-pass_comment-clause-few
returns-then-pass_comment-clause-few c = grind (arith, common_steps)

pub returns-then-len-gt0-clause-few : goal.returns-then-len-gt0-clause-few
returns-then-len-gt0-clause-few c = grind (arith, common_steps)

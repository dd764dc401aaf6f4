use Rattle.std.proofs.Common.{sym, ◌∙◌}
use Rattle.preconv_converter.proofs.LetterRuns.{byte_goes, letter_goes}
use Rattle.preconv_converter.proofs.letters.next_len.Goals as goal

pub returns-then-begins_letter-clause-out : goal.returns-then-begins_letter-clause-out
returns-then-begins_letter-clause-out c = λ some. letter_goes c.args.bytes.now (sym c.begins_letter.ensures ∙ c.if-begins_letter.true)

pub returns-then-goes_on_text-clause-out : goal.returns-then-goes_on_text-clause-out
returns-then-goes_on_text-clause-out c = λ some. byte_goes c.args.bytes.now c.requires (sym c.goes_on_text.ensures ∙ c.if-goes_on_text.true)

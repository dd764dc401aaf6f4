use Rattle.std.proofs.Common.{refl}
use Rattle.preconv_converter.specs.Reading.{first_reader}
use Rattle.preconv_converter.proofs.Characters.{fed-characters}
use Rattle.preconv_converter.proofs.Counting.{ran-of, said-shown}
use Rattle.preconv_converter.proofs.Steps.{steps_said-quick}
use Rattle.preconv_converter.proofs.Unread.{comments-unread, ignored-unread}
use Rattle.preconv_converter.proofs.running.convert.Goals as goal

pub returns-clause-ran : goal.returns-clause-ran
returns-clause-ran g c =
    ran-of c.args.table _ _ _ _ _ _ _ _ _ c.run-outcome.result c.new-text.ensures.says c.new-text.ensures.counts c.new-text.ensures.wants c.steps.ensures c.run-outcome.ensures.ran

pub returns-clause-whole : goal.returns-clause-whole
returns-clause-whole g c = λ bytes. refl

pub returns-clause-quick : goal.returns-clause-quick
returns-clause-quick g c = λ ends bytes. steps_said-quick c.args.table ends bytes

pub returns-clause-shown : goal.returns-clause-shown
returns-clause-shown g c = λ ends bytes. said-shown c.args.table ends bytes

pub returns-clause-comments : goal.returns-clause-comments
returns-clause-comments g c = comments-unread

pub returns-clause-ignored : goal.returns-clause-ignored
returns-clause-ignored g c = ignored-unread

pub returns-clause-characters : goal.returns-clause-characters
returns-clause-characters g c = λ cs is. fed-characters cs (first_reader c.args.table) is refl

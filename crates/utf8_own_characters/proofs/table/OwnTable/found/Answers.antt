use Rattle.std.proofs.Common.{refl}
use Rattle.std.proofs.lemmas.Option.{slice_get_within}
use Rattle.utf8_own_characters.proofs.Coding.{code_if_narrow, code_if_wide}
use Rattle.utf8_own_characters.proofs.table.OwnTable.found.Goals as goal

pub returns-then-narrow_stands : goal.returns-then-narrow_stands
returns-then-narrow_stands c = code_if_narrow _ c.args.cluster c.guess-place.result c.requires.good c.requires.beyond (c.if-narrow_stands.ensures refl)

pub pair-requires-clause-there : goal.pair-requires-clause-there
pair-requires-clause-there c = slice_get_within _ _ _ (c.if-wide_stands.ensures refl)

pub returns-then-wide_stands : goal.returns-then-wide_stands
returns-then-wide_stands c = code_if_wide _ c.args.cluster _ c.pair.result c.requires.good c.requires.beyond (c.if-wide_stands.ensures refl) c.pair.ensures

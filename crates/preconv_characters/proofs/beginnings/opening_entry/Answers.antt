use Rattle.std.proofs.Common.{ℕ, List, sym, ◌∙◌, ap, length}
use Rattle.preconv_characters.specs.declared.beginnings.Opens.{Opens}
use Rattle.preconv_characters.specs.Beginnings.{entry, opening_entry}
use Rattle.preconv_characters.proofs.OpeningTable.{entry_in_group, empty_entry}
use Rattle.preconv_characters.proofs.Tests.{is_one}
use Rattle.preconv_characters.proofs.beginnings.opening_entry.Goals as goal

pub returns-then-is_empty : goal.returns-then-is_empty
unfolding opening_entry
returns-then-is_empty c = empty_entry c.args.name.now (is_one (length c.args.name.now) 0 (sym c.is_empty.ensures ∙ c.if-is_empty.true))

pub returns : goal.returns
unfolding opening_entry
returns c =
    c.entry.ensures
    ∙ ap (λ (table : List (ℕ × ℕ × Opens)). entry table c.args.name.now) c.group.ensures.value
    ∙ sym (entry_in_group c.args.name.now c.group.ensures.all)

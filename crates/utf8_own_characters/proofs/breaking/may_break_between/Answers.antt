use Rattle.std.proofs.Common.{◌≡◌, ℕ, Bool, true, false, ◌&&◌, ◌||◌, rules, sym}
use Rattle.ucd_breaks.specs.LineBreak.{line_break}
use Rattle.utf8_own_characters.specs.Breaking as specs
use Rattle.utf8_own_characters.proofs.Tests.{and_not}
use Rattle.utf8_own_characters.proofs.breaking.may_break_between.Goals as goal

none_begins : (before after : ℕ) → specs.may_begin (line_break after) ≡ false → false ≡ specs.may_break before after
none_begins before after h =
    let beside : Bool = specs.is_east_asian before || specs.is_east_asian after in
    sym (and_not (beside && specs.may_end (line_break before)) (specs.may_begin (line_break after)) h)

pub returns-then-not-may_begin : goal.returns-then-not-may_begin
returns-then-not-may_begin c = none_begins c.args.before c.args.after (search rules)

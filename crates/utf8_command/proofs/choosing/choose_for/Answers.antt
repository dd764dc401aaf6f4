use Rattle.std.proofs.Common.{ℕ, List, ◌++◌, inl, subst, codes}
use Rattle.filters.proofs.Opening.{Asks-none}
use Rattle.utf8_command.specs.Choosing.{IsLine}
use Rattle.utf8_command.proofs.Choices.{chosen, no-memory, unchosen}
use Rattle.utf8_command.proofs.choosing.choose_for.Goals as goal

pub returns-in_default : goal.returns-in_default
returns-in_default g c = unchosen _ _ _ _ _ _ c.args.name.now _ (inl (Asks-none _))

pub returns-in_default-room_for : goal.returns-in_default-room_for
returns-in_default-room_for g c = unchosen _ _ _ _ _ _ c.args.name.now _ (inl (Asks-none _))

pub returns-in-Err : goal.returns-in-Err
returns-in-Err g c = unchosen _ _ _ _ _ _ c.args.name.now c.in-Err.ending c.in-Err.ensures.reads

pub returns-in-Ok-choice : goal.returns-in-Ok-choice
returns-in-Ok-choice g c =
    let choice = c.in-Ok-choice in
    let line = choice.before.now ++ choice.file.now ++ codes "\n" in
    let is = subst (λ (prefix : List ℕ). IsLine c.args.name.now prefix line) c.as_slice.ensures.value choice.ensures in
    chosen _ _ _ _ _ _ _ _ c.args.name.now c.first_of.new.prefix.items line c.put_choice.result.0 c.in-Ok-first_of.ensures.reads is c.put_choice.ensures

pub returns : goal.returns
returns g c = no-memory _ _ _ _ _ _ c.args.name.now c.first_of.new.prefix.items c.in-Ok-first_of.ensures.reads

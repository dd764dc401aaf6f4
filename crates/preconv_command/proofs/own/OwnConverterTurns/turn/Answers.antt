use Rattle.std.proofs.Common.{◌≡◌, ℕ, List, Bool, Option, ap, subst, ◌∙◌}
use Rattle.std.specs.Borrow.{Bor}
use Rattle.nr_units.specs.Source.{Supply, reader_supply}
use Rattle.document_stages.specs.Running.{Ran}
use Rattle.document_stages.specs.declared.running.RunEnd.{RunEnd}
use Rattle.preconv_coding.specs.UnderCoding.{text_supply}
use Rattle.preconv_converter.specs.Reading.{first_reader}
use Rattle.preconv_converter.specs.Staged.{said}
use Rattle.preconv_characters.specs.declared.target.Target.TheVariants.{Utf8}
use Rattle.utf8_own_characters.specs.Table.{Characters}
use Rattle.utf8_own_stage.specs.Coding.{coded_text}
use Rattle.filters.specs.Turning.{Turned}
use Rattle.filters.specs.declared.endings.Ending.{Ending}
use Rattle.preconv_command.specs.Converting.{Ended, own}
use Rattle.preconv_command.specs.Through.{through}
use Rattle.preconv_command.proofs.Turns.{complained_failures, complained_of, failures, turned}
use Rattle.preconv_command.proofs.own.OwnConverterTurns.turn.Goals as goal

-- what both stages say of a text
abbrev both : Characters → Bool → List ℕ → List ℕ
both table = through (said (first_reader Utf8)) (coded_text table)

both_are : (table : Characters) (first second : Bool → List ℕ → List ℕ) → first ≡ said (first_reader Utf8) → second ≡ coded_text table
    → through first second ≡ both table
both_are table first second one two =
    ap (λ (f : Bool → List ℕ → List ℕ). through f second) one ∙ ap (λ (f : Bool → List ℕ → List ℕ). through (said (first_reader Utf8)) f) two

own_turned : (table : Characters) (name : Bor (List ℕ)) (left : Option (List ℕ)) (one two : Bool → List ℕ → List ℕ) (counts : Bool → List ℕ → ℕ) (wants : ℕ)
    (first last : Option Supply) (held between new : Option (List ℕ)) (count : ℕ) (outcome : RunEnd) (ending : Ending) → one ≡ said (first_reader Utf8)
    → two ≡ coded_text table → first ≡ text_supply (reader_supply left) → Ran (through one two) counts wants first last held between count outcome
    → Ended outcome name between new ending → Turned (own table) (record { name = name.now; left = left }) held new ending
own_turned table name left one two counts wants first last held between new count outcome ending says_one says_two supply ran =
    turned (both table) counts wants name left first last held between new count outcome ending supply
    (subst (λ (f : Bool → List ℕ → List ℕ). Ran f counts wants first last held between count outcome) (both_are table one two says_one says_two) ran)

pub returns-in-Some-clause-turned : goal.returns-in-Some-clause-turned
returns-in-Some-clause-turned g c =
    let table = c.args.self.now.table.now in
    rw c.complained.ensures (complained_of (both table) c.args.name.now _ _ _ c.ended-ending.result
    (own_turned table c.args.name _ _ _ _ _ _ _ _ _ _ _ c.run-outcome.result _ c.new.ensures.says c.over-2.ensures.says
    (c.over-source.ensures.supply ∙ ap text_supply c.over.ensures.supply) c.run-outcome.ensures.ran c.ended-ending.ensures.ended))

pub returns-clause-turned : goal.returns-clause-turned
returns-clause-turned g c =
    own_turned c.args.self.now.table.now c.args.name _ _ _ _ _ _ _ _ _ _ _ c.run-outcome.result _ c.new.ensures.says c.over-2.ensures.says
    (c.over-source.ensures.supply ∙ ap text_supply c.over.ensures.supply) c.run-outcome.ensures.ran c.ended-ending.ensures.ended

pub returns-in-Some-clause-failures : goal.returns-in-Some-clause-failures
returns-in-Some-clause-failures g c =
    rw c.complained.ensures (complained_failures c.ended-ending.result _ _
    (failures c.run-outcome.result c.args.name _ _ c.ended-ending.result _ _ _ c.ended-ending.ensures.ended c.run-outcome.ensures.write_faults
    c.ended-ending.ensures.failures c.ended-ending.ensures.same))

pub returns-clause-failures : goal.returns-clause-failures
returns-clause-failures g c =
    failures c.run-outcome.result c.args.name _ _ c.ended-ending.result _ _ _ c.ended-ending.ensures.ended c.run-outcome.ensures.write_faults
    c.ended-ending.ensures.failures c.ended-ending.ensures.same
